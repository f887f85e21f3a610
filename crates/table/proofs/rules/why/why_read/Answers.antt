-- `table::rules::why::why_read` meets its contract: each reading by its own rule.
-- Assumes nothing.
use Rattle.table.proofs.rules.why.why_read.Goals as goal

pub returns-in-Refused : goal.returns-in-Refused
returns-in-Refused g c = λ e. rw c.in-Refused.is c.frame_why.ensures

pub returns-in-Discarded : goal.returns-in-Discarded
returns-in-Discarded g c = λ e. rw c.in-Discarded.is c.plain.ensures

pub returns-in-Admitted : goal.returns-in-Admitted
returns-in-Admitted g c = λ e. rw c.in-Admitted.is c.plain-in-Admitted.ensures

pub returns-in-From : goal.returns-in-From
returns-in-From g c = λ e. rw (c.in-From.is, ← c.seek-at.ensures e, ← c.peer_at.ensures, ← c.class_by.ensures) c.why_from.ensures
