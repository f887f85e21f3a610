-- `table::host::play::changed` meets its contract: by what its callees ensure.
-- Assumes nothing.
use Rattle.table.proofs.Octets.RuledLaws.{change_unnamed, plays_change}
use Rattle.table.specs.Rows.{records_of}
use mathlib.Core.Path.{◌∙◌}
use Rattle.table.proofs.host.play.changed.Goals as goal

pub returns : goal.returns
returns c = λ i q h z r.
    let a = c.args in
    let t = records_of a.table.now in
    let d = c.change-c.result in
    let m = c.change-c.ensures q h in
    let p = plays_change a.table.now a.s a.e a.octets.now a.out.now r z d m in
    (c.made.ensures.0 ∙ p.0, c.made.ensures.2 i (λ y. change_unnamed a.s t a.e a.octets.now d m (rw c.names_links.ensures at y)) ∙ p.1, c.made.ensures.1 ∙ p.2)
