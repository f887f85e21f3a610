-- `bench::capture::number_at` meets its contract: four octets, added up in one order or the other.
-- Assumes nothing.
use Rattle.bench.specs.Capture.{big_field, number_in}
use Rattle.octets.proofs.Le.{le_split}
use native.Mathlib.Omega.{arith}
use Rattle.bench.proofs.capture.number_at.Goals as goal

pub returns-then-big : goal.returns-then-big
unfolding number_in big_field
returns-then-big c = rw c.if-big.true (omega (arith, c.octet-d.ensures, c.octet-c.ensures, c.octet-b.ensures, c.octet-a.ensures))

pub returns-else-big : goal.returns-else-big
unfolding number_in
returns-else-big c =
    let a = c.args in
    rw c.if-big.false (omega (arith, le_split 1 1 a.at a.xs.now, le_split 2 1 a.at a.xs.now, le_split 3 1 a.at a.xs.now, c.octet-d.ensures, c.octet-c.ensures, c.octet-b.ensures, c.octet-a.ensures))
