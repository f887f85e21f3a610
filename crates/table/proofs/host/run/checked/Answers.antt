-- `table::host::run::checked` meets its contract: by its test and what the survey ensures.
-- Assumes nothing.
use Rattle.table.proofs.Octets.KnownLaws.{known_checked, known_none}
use Rattle.table.proofs.host.run.checked.Goals as goal

pub returns-then-table-ne1536 : goal.returns-then-table-ne1536
returns-then-table-ne1536 c = known_none _ _ c.if-table-ne1536.true

pub returns : goal.returns
returns c = known_checked _ _ c.if-table-ne1536.false _ _ c.survey-v.ensures.0 (λ h. (c.survey-v.ensures.1 h).1)
