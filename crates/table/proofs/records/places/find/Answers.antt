-- `table::records::places::find` meets its contract: the first place that has the address.
-- Assumes nothing.
use Rattle.std.proofs.Common.{◌≡◌, ◌∙◌, rules, tests, eqb}
use Rattle.std.specs.List.{position}
use Rattle.std.proofs.lemmas.Iterator.{YieldsList-from_slice}
use Rattle.std.proofs.lemmas.Iterator.Search.{position_from_yields_List}
use Rattle.table.proofs.Passes.Listed.{found_at}
use Rattle.table.proofs.records.places.find.Goals as goal

pub returns : goal.returns
returns c =
    position_from_yields_List (λ b. eqb b c.args.address) _ _ c.position.result c.position.ensures.ran (YieldsList-from_slice c.args.addresses.now cc) (λ x b q k. search (rules, tests)) ∙ found_at (λ b. eqb b c.args.address) c.args.addresses.now
