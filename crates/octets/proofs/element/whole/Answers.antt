-- `octets::element::whole` meets its contract: where no whole element stands first the frame has ended, or not, and else the walk goes on.
-- Assumes nothing.
use Rattle.octets.proofs.Walk.{ends_cut, ends_next}
use Rattle.octets.specs.Element.{ends}
use Rattle.std.proofs.Common.{◌≡◌, ◌∙◌, sym}
use Rattle.octets.proofs.element.whole.Goals as goal

pub loop-behind-preserved : goal.loop-behind-preserved
loop-behind-preserved c =
    let e = c.in-Some in
    let here : ends c.loop-behind.rest.now 0 ≡ ends e.behind.now 0 = rw (e.ensures, ends_next) in
    sym here ∙ c.loop-behind.invariant

pub returns : goal.returns
returns c = c.is_empty.ensures ∙ sym (ends_cut _ c.in_default.ensures) ∙ c.loop-behind.invariant
