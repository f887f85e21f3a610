-- `bench::ways::dropped_by` meets its contract: by the kind of event and the verdict.
-- Assumes nothing.
use Rattle.bench.proofs.Counting.{dropped_frame}
use Rattle.table.specs.Why.{reason_number}
use Rattle.table.specs.declared.rules.why.Why.{Why}
use mathlib.Core.Path.{ap, sym, ◌∙◌}
use Rattle.octets.proofs.Branch.{tests}
use Rattle.bench.proofs.ways.dropped_by.Goals as goal

pub returns-then-verdict-ne-DISCARD : goal.returns-then-verdict-ne-DISCARD
returns-then-verdict-ne-DISCARD c = λ f h. search (tests, c.in-Frame.is, c.if-verdict-ne-DISCARD.true)

pub returns-else-verdict-ne-DISCARD : goal.returns-else-verdict-ne-DISCARD
returns-else-verdict-ne-DISCARD c = λ f h. c.reason_number.ensures ∙ (ap (λ (w : Why). reason_number w.reason) (c.why_on-w.ensures f h) ∙ sym (dropped_frame _ _ c.in-Frame.is c.if-verdict-ne-DISCARD.false))
