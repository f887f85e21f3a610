-- `octets::row::six` meets its contract: a field of six octets is four and then two.
-- Assumes nothing.
use Rattle.octets.proofs.Le.{le_split}
use native.Mathlib.Omega.{arith}
use Rattle.octets.proofs.row.six.Goals as goal

pub returns : goal.returns
returns c = omega (arith, le_split 4 2 c.args.at c.args.s.now, c.word.ensures, c.half.ensures)
