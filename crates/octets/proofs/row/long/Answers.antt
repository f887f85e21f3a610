-- `octets::row::long` meets its contract: a field of eight octets is four and then four.
-- Assumes nothing.
use Rattle.octets.proofs.Le.{le_split}
use native.Mathlib.Omega.{arith}
use Rattle.octets.proofs.row.long.Goals as goal

pub returns : goal.returns
returns c = omega (arith, le_split 4 4 c.args.at c.args.s.now, c.word.ensures, c.word-2.ensures)
