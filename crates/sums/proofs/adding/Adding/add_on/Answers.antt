-- `sums::adding::Adding::add_on` meets its contract: `fold` goes octet by octet from the left, as both definitions do.
-- Assumes nothing.
use mathlib.Core.Path.{◌∙◌}
use Rattle.std.proofs.Common.{rules}
use Rattle.std.proofs.lemmas.Iterator.{YieldsList-from_slice}
use Rattle.std.proofs.lemmas.Iterator.Consumers.{fold_from_yields_List}
use Rattle.sums.specs.Adding.{adding_with}
use Rattle.sums.proofs.Reading.{adding_fold}
use Rattle.sums.proofs.adding.Adding.add_on.Goals as goal

pub returns : goal.returns
returns c =
    fold_from_yields_List _ adding_with _ _ c.fold.ensures.ran (YieldsList-from_slice c.args.xs.now (cc)) (λ a x b q k. search rules)
    ∙ adding_fold c.args.self c.args.xs.now
