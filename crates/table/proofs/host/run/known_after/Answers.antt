-- `table::host::run::known_after` meets its contract: no event but one that names links changes any, and each keeps settings and table well formed.
-- Assumes nothing.
use Rattle.table.proofs.Octets.KnownLaws.{known_named, known_same}
use Rattle.table.proofs.host.run.known_after.Goals as goal

pub returns-in-Frame : goal.returns-in-Frame
returns-in-Frame c = λ s xs fs l o f k h. rw h (known_same xs s _ fs l o f _ _ k (rw c.in-Frame.is))

pub returns-in-Ask : goal.returns-in-Ask
returns-in-Ask c = λ s xs fs l o f k h. rw h (known_same xs s _ fs l o f _ _ k (rw c.in-Ask.is))

pub returns-in-Links : goal.returns-in-Links
returns-in-Links c = λ s xs fs l o f k h. rw h (known_named xs s _ fs l o f _ _ _ k (rw h at c.linked_now.ensures))

pub returns-in-Clock : goal.returns-in-Clock
returns-in-Clock c = λ s xs fs l o f k h. rw h (known_same xs s _ fs l o f _ _ k (rw c.in-Clock.is))
