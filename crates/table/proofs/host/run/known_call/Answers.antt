-- `table::host::run::known_call` meets its contract: refused where all is not well formed, else played.
-- Assumes nothing.
use Rattle.table.proofs.Octets.KnownLaws.{call_ill, known_sure}
use Rattle.table.proofs.Octets.RowLaws.{table_long}
use Rattle.table.proofs.Octets.RuledLaws.{plays_gives}
use borrow.Author.Tests.{not-false, not-true}
use mathlib.Core.Path.{◌∙◌, sym}
use Rattle.table.proofs.host.run.known_call.Goals as goal

pub returns-then-not-k : goal.returns-then-not-k
returns-then-not-k c = λ k r.
    let a = c.args in
    rw c.refusal.ensures (call_ill a.table.now a.s a.e a.octets.now a.out.now (λ j. (c.type_inv.table j).fits) (sym k.told ∙ not-true _ c.if-not-k.true) r)

pub returns : goal.returns
returns c = λ k r.
    let a = c.args in
    let w = not-false _ c.if-not-k.false in
    let u = known_sure a.s a.table.now k w in
    plays_gives a.table.now a.s a.e a.octets.now a.out.now u.0 u.1 _ _ _ (c.play.ensures u.0 (k.links w) (c.others_for-o.ensures (table_long a.table.now u.0)))
