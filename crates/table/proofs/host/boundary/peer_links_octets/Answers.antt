-- `table::host::boundary::peer_links_octets` meets its contract: settings read, the call over octets, its answer written.
-- Assumes nothing.
use Rattle.table.specs.declared.rules.event.Event.TheVariants as event
use Rattle.table.proofs.Octets.BoundaryLaws.{crosses, no_answer}
use Rattle.table.proofs.host.boundary.peer_links_octets.Goals as goal

pub returns-then-answer-lt24 : goal.returns-then-answer-lt24
returns-then-answer-lt24 c =
    let a = c.args in
    no_answer a.table.now a.settings.now event.Links a.named.now a.out.now a.answer.now c.if-answer-lt24.true

pub returns : goal.returns
returns c =
    let a = c.args in
    let told = c.told in
    let done = c.link-a in
    let given = c.settings_in in
    rw (told.ensures.0, told.ensures.1) (crosses a.table.now a.settings.now event.Links a.named.now a.out.now a.answer.now c.if-answer-lt24.false done.result _ _ (rw given.ensures at done.ensures))
