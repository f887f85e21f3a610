-- `octets::report::put_report` meets its contract: two octets and an address behind them.
-- Assumes nothing.
use Rattle.octets.proofs.Stores.{then}
use Rattle.octets.specs.Report.{report_bytes}
use native.Mathlib.Omega.{arith}
use Rattle.octets.proofs.report.put_report.Goals as goal

pub returns : goal.returns
unfolding report_bytes
returns c =
    let p3 = c.put_address in
    let p2 = c.put_octet-2 in
    let p1 = c.put_octet in
    then (then p1.ensures p2.ensures (omega arith)) p3.ensures (omega arith)
