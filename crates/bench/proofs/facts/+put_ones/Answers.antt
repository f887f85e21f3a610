-- `bench::facts::put_ones` meets its contract: one octet, and the rest by the call of itself, which has one octet less.
-- Assumes nothing.
use mathlib.Core.Path.{refl}
use native.Mathlib.Omega.{arith}
use Rattle.octets.proofs.Stores.{then}
use Rattle.bench.proofs.Counting.{ones_more, ones_none}
use Rattle.bench.proofs.facts.+put_ones.Goals as goal

pub returns-then-n-eq0 : goal.returns-then-n-eq0
returns-then-n-eq0 t c = rw (c.if-n-eq0.true, ones_none) (omega arith, record { is = refl })

pub returns : goal.returns
returns t c =
    let e = c.put_ones.ensures.0 in
    (omega arith, rw (ones_more c.args.k c.args.n c.args.v c.if-n-eq0.false, ← c.one.ensures.0) (then c.put_octet.ensures c.put_ones.ensures.1 refl))
