-- `table::rules::play::change` meets its contract: each arm by its case.
-- Assumes nothing.
use mathlib.Core.Path.{◌∙◌, ap}
use Rattle.table.specs.Ruled.{asking}
use Rattle.table.proofs.rules.play.change.Goals as goal

pub returns-in-Frame : goal.returns-in-Frame
returns-in-Frame g c = λ q h. rw c.in-Frame.is (c.heard_at.ensures q ∙ rw (c.read.ensures, c.associates.ensures))

pub returns-in-Ask : goal.returns-in-Ask
returns-in-Ask g c = λ q h. rw c.in-Ask.is (c.asked_in.ensures q (h (ap asking c.in-Ask.is)))

pub returns-in-Links : goal.returns-in-Links
returns-in-Links g c = λ q h. rw c.in-Links.is (c.named_at.ensures q)

pub returns-in-Clock : goal.returns-in-Clock
returns-in-Clock g c = λ q h. rw c.in-Clock.is (c.refused.ensures _)
