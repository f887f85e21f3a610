-- `table::records::fit::well_formed` meets its contract: what one pass found is all that the test asks.
-- Assumes nothing.
use Rattle.table.proofs.Passes.Views.{well_of}
use Rattle.table.proofs.records.fit.well_formed.Goals as goal

pub returns : goal.returns
returns c = well_of c.args.s c.args.t c.survey-v.result c.survey-v.ensures _ c.well.ensures
