-- `table::records::pass::pass` meets its contract: each answer by the tests that led to it and what its callees ensure.
-- Assumes nothing.
use Rattle.table.proofs.Octets.RuledLaws.{ruled_in_step, ruled_is_step}
use Rattle.table.proofs.Theorems.RuledRecords.{rules_tick}
use Rattle.table.specs.Pass.{passed_in, passed_of}
use Rattle.table.specs.Refusals.{first_of}
use Rattle.table.specs.declared.rules.event.Event.TheVariants as event
use borrow.Author.Tests.{le-ltb, lt-ltb}
use lib.ListN.{length}
use mathlib.Core.List.{[]}
use mathlib.Core.Path.{◌∙◌, refl, sym}
use Rattle.table.proofs.records.pass.pass.Goals as goal

pub returns-then-out-lt256 : goal.returns-then-out-lt256
unfolding passed_of passed_in first_of
returns-then-out-lt256 c = rw (lt-ltb _ _ c.if-out-lt256.true, ← c.refusal.ensures) (refl, refl)

pub returns-then-not-well_formed : goal.returns-then-not-well_formed
unfolding passed_of passed_in first_of
returns-then-not-well_formed c = rw (le-ltb _ _ c.if-out-lt256.false, ← c.well_formed-2.ensures, c.if-not-well_formed.true, ← c.refusal-then-not-well_formed.ensures) (refl, refl)

pub returns : goal.returns
returns c =
    let a = c.args in
    let w = sym c.well_formed-2.ensures ∙ c.if-not-well_formed.false in
    let p = rules_tick a.s a.t (event.Clock a.d) [] a.out.now c.if-out-lt256.false refl in
    (c.ticked.ensures.0 ∙ p.0 ∙ ruled_is_step a.s a.t w (event.Clock a.d) [] (length a.out.now), c.ticked.ensures.1 ∙ p.1 ∙ ruled_in_step a.s a.t w (event.Clock a.d) [] a.out.now)
