-- `table::rules::pass::put_report` meets its contract: the report, where there is one.
-- Assumes nothing.
use Prim.Native.Nat.{◌+◌, ◌≤◌}
use Rattle.octets.specs.Field.{octets}
use Rattle.octets.specs.Report.{report_bytes, report_written}
use Rattle.table.specs.Pass.{report_for}
use borrow.Author.Tests.{eq-eqb, le-leb, ne_eqb}
use lib.ListN.{length}
use mathlib.Core.Path.{◌∙◌, refl}
use native.Mathlib.Omega.{arith}
use Rattle.table.proofs.rules.pass.put_report.Goals as goal

pub returns-then-kind-eq0 : goal.returns-then-kind-eq0
unfolding report_for
returns-then-kind-eq0 c = rw (eq-eqb _ _ c.if-kind-eq0.true) (omega arith, refl)

pub returns : goal.returns
unfolding report_for report_written report_bytes octets
returns c =
    let a = c.args in
    let room : a.n + 8 ≤ length a.out.now = c.requires in
    rw (ne_eqb _ _ c.if-kind-eq0.false) (refl, c.write_report.ensures ∙ rw (le-leb _ _ room))
