-- `bench::block::put_numbers` meets its contract: the numbers behind the first are put by the call of itself, which has one less.
-- Assumes nothing.
use native.Mathlib.Omega.{arith}
use mathlib.Core.Path.{refl}
use lib.ListN.{length-append}
use Rattle.octets.proofs.Stores.{then}
use Rattle.bench.proofs.Blocks.{number_length, numbers_none, numbers_more}
use Rattle.bench.proofs.block.+put_numbers.Goals as goal

pub returns-then-count-eq0 : goal.returns-then-count-eq0
returns-then-count-eq0 t c = rw (c.if-count-eq0.true, numbers_none) (omega arith, record { is = refl })

pub put_numbers-requires : goal.put_numbers-requires
put_numbers-requires t c =
    let e = c.put_number-next.ensures.0 in
    let g = number_length c.look.result in
    (omega arith, (omega arith, omega arith))

pub returns : goal.returns
returns t c =
    let e1 = c.put_number-next.ensures.0 in
    let e2 = c.put_numbers.ensures.0 in
    rw (numbers_more c.args.b c.args.first c.args.count c.if-count-eq0.false, ← c.look.ensures)
    (simp length-append (omega arith), then c.put_number-next.ensures.1 c.put_numbers.ensures.1 (omega arith))
