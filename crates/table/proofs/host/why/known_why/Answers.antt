-- `table::host::why::known_why` meets its contract: refused where all is not well formed, else by the rules.
-- Assumes nothing.
use Rattle.std.proofs.lemmas.Bool.{not-false, not-true}
use mathlib.Core.Path.{◌∙◌, sym}
use Rattle.table.proofs.Octets.RowLaws.{table_long}
use Rattle.table.proofs.Octets.KnownLaws.{known_sure}
use Rattle.table.proofs.Octets.WhyLaws.{known_ill, known_well}
use Rattle.table.proofs.host.why.known_why.Goals as goal

pub returns-then-not-k : goal.returns-then-not-k
returns-then-not-k c = λ n k r.
    let a = c.args in
    c.plain.ensures ∙ known_ill a.table.now a.s a.e a.frame.now n r (sym k.told ∙ not-true _ c.if-not-k.true)

pub returns-then-table-ne1536 : goal.returns-then-table-ne1536
returns-then-table-ne1536 c = λ n k r.
    let a = c.args in
    absurd (c.if-table-ne1536.true (table_long a.table.now (known_sure a.s a.table.now k (not-false _ c.if-not-k.false)).0))

pub returns : goal.returns
returns c = λ n k r.
    let a = c.args in
    let w = not-false _ c.if-not-k.false in
    let u = known_sure a.s a.table.now k w in
    c.why_at.ensures (k.links w) (c.others_for-o.ensures c.if-table-ne1536.false) ∙ known_well a.table.now a.s a.e a.frame.now n r u.0 u.1
