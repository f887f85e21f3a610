-- `octets::element::first_comeback` meets its contract: the walk ends where no whole element stands first, and else goes on behind that element.
-- Assumes nothing.
use Rattle.octets.proofs.Walk.{walk_cut, walk_next}
use Rattle.octets.specs.Element.{walk}
use Rattle.std.proofs.Common.{Some, ◌≡◌, ◌∙◌, sym}
use Rattle.octets.proofs.element.first_comeback.Goals as goal

pub returns-then-is_comeback : goal.returns-then-is_comeback
returns-then-is_comeback c =
    let e = c.in-Some in
    let here : walk c.loop-id.rest.now 0 ≡ Some c.u32_at.result = rw (e.ensures, walk_next, ← c.is_comeback.ensures, c.if-is_comeback.true, ← c.u32_at.ensures) in
    sym here ∙ c.loop-id.invariant

pub loop-id-preserved : goal.loop-id-preserved
loop-id-preserved c =
    let e = c.in-Some in
    let here : walk c.loop-id.rest.now 0 ≡ walk e.behind.now 0 = rw (e.ensures, walk_next, ← c.is_comeback.ensures, c.if-is_comeback.false) in
    sym here ∙ c.loop-id.invariant

pub returns : goal.returns
returns c = sym (walk_cut _ c.in_default.ensures) ∙ c.loop-id.invariant
