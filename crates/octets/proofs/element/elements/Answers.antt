-- `octets::element::elements` meets its contract: no octets where the frame ends before octet 30.
-- Assumes nothing.
use Rattle.std.proofs.Common.{arith, length-drop, sym}
use Rattle.std.proofs.lemmas.List.{drop_all, take_all}
use Rattle.octets.proofs.element.elements.Goals as goal

pub returns-then-frame-lt30 : goal.returns-then-frame-lt30
returns-then-frame-lt30 c = sym (drop_all 30 c.args.frame.now (omega arith))

pub returns-else-frame-lt30 : goal.returns-else-frame-lt30
returns-else-frame-lt30 c = take_all _ _ (simp length-drop (omega arith))
