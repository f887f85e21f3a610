-- `table::host::survey::links_well` meets its contract: where no record has links nothing is asked of any.
-- Assumes nothing.
use Rattle.table.proofs.Walks.LinkLists.{apart_unlinked, fit_unlinked}
use Rattle.table.specs.Places.{addresses_of}
use Rattle.table.specs.Rows.{records_of}
use mathlib.Core.Bool.{not, true}
use mathlib.Core.Path.{◌≡◌, ◌∙◌, sym}
use Rattle.table.proofs.host.survey.links_well.Goals as goal

pub returns-then-not-linked : goal.returns-then-not-linked
returns-then-not-linked c =
    let none = sym c.requires.1 ∙ c.if-not-linked.true in
    let bare : not c.args.linked ≡ true = rw c.if-not-linked.true in
    bare ∙ sym (rw (fit_unlinked c.args.s (records_of c.args.table.now) none, apart_unlinked (records_of c.args.table.now) (addresses_of (records_of c.args.table.now)) none))
