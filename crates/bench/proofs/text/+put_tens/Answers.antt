-- `bench::text::put_tens` meets its contract: the digits before the last are put by the call of itself, which has one digit less.
-- Assumes nothing.
use mathlib.Core.Path.{refl}
use Prim.Native.Nat.{◌-◌, ◌/◌}
use native.Mathlib.Omega.{arith}
use borrow.Author.Tests.{lt-ltb, le-ltb}
use lib.ListN.{length-append}
use Rattle.octets.proofs.Stores.{then}
use Rattle.bench.proofs.Digits.{tens_none, tens_more, tens_length}
use Rattle.bench.proofs.text.+put_tens.Goals as goal

pub returns-then-k-eq0 : goal.returns-then-k-eq0
returns-then-k-eq0 t c = rw (c.if-k-eq0.true, tens_none) (omega arith, record { is = refl })

pub returns-then-n-lt10 : goal.returns-then-n-lt10
returns-then-n-lt10 t c = rw (tens_more _ _ c.if-k-eq0.false, lt-ltb _ _ c.if-n-lt10.true) (refl, c.put_octet.ensures)

pub put_octet-requires-2 : goal.put_octet-requires-2
put_octet-requires-2 t c = omega (arith, tens_length (c.args.k - 1) (c.args.n / 10), c.put_tens-next.ensures.0)

pub overflow_add-result-2 : goal.overflow_add-result-2
overflow_add-result-2 t c = omega (arith, tens_length (c.args.k - 1) (c.args.n / 10), c.put_tens-next.ensures.0)

pub returns : goal.returns
returns t c =
    let e = c.put_tens-next.ensures.0 in
    rw (tens_more c.args.k c.args.n c.if-k-eq0.false, le-ltb _ _ c.if-n-lt10.false)
    (simp length-append (omega arith), then c.put_tens-next.ensures.1 c.put_octet-2.ensures (omega arith))
