-- `table::host::reasons::peer_why_pass_octets` meets its contract: settings read, the reason over octets, its value written.
-- Assumes nothing.
use mathlib.Core.List.{[]}
use Rattle.table.specs.declared.rules.event.Event.TheVariants as event
use Rattle.table.proofs.Octets.WhyLaws.{crosses_why}
use Rattle.table.proofs.host.reasons.peer_why_pass_octets.Goals as goal

pub returns : goal.returns
returns c =
    let a = c.args in
    let told = c.explained in
    let w = c.why-w in
    let given = c.settings_in in
    rw (told.ensures.0, told.ensures.1) (crosses_why a.table.now a.settings.now (event.Clock a.step) [] a.room a.value.now w.result (rw given.ensures at w.ensures))
