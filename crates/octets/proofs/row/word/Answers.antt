-- `octets::row::word` meets its contract: a field of four octets is two and then two.
-- Assumes nothing.
use Rattle.octets.proofs.Le.{le_split}
use native.Mathlib.Omega.{arith}
use Rattle.octets.proofs.row.word.Goals as goal

pub returns : goal.returns
returns c = omega (arith, le_split 2 2 c.args.at c.args.s.now, c.half.ensures, c.half-2.ensures)
