-- `octets::report::write_report` meets its contract: the report, where it fits.
-- Assumes nothing.
use Prim.Native.Nat.{◌+◌, ◌<◌, ◌≤◌}
use Rattle.octets.specs.Report.{report_written}
use borrow.Author.Tests.{le-leb, lt-leb}
use lib.ListN.{length}
use native.Mathlib.Omega.{arith}
use Rattle.octets.proofs.report.write_report.Goals as goal

pub returns-then-out-lt8 : goal.returns-then-out-lt8
unfolding report_written
returns-then-out-lt8 c =
    let a = c.args in
    let l : length a.out.now < a.at + 8 = omega arith in
    rw (lt-leb _ _ l)

pub returns-then-out-at : goal.returns-then-out-at
unfolding report_written
returns-then-out-at c =
    let a = c.args in
    let l : length a.out.now < a.at + 8 = omega arith in
    rw (lt-leb _ _ l)

pub returns : goal.returns
unfolding report_written
returns c =
    let a = c.args in
    let l : a.at + 8 ≤ length a.out.now = omega arith in
    rw (le-leb _ _ l) c.put_report.ensures.is
