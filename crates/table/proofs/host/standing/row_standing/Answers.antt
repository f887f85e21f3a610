-- `table::host::standing::row_standing` meets its contract: each answer by the first test that fails, or by the exchange; the query by its own test.
-- Assumes nothing.
use Rattle.peer.specs.Fit.{record_fits}
use Rattle.peer.specs.Record.{linked_of}
use Rattle.table.proofs.Passes.Loops.{and_false}
use Rattle.table.proofs.Octets.Standings.{by_exchange, no_standing, query_unfit}
use Rattle.table.specs.Rows.{record_of, row_numbered}
use borrow.Author.Tests.{eq-eqb, le-leb, lt-leb, ne_eqb}
use mathlib.Core.Path.{◌∙◌, sym}
use native.Mathlib.Omega.{arith}
use Rattle.table.proofs.host.standing.row_standing.Goals as goal

pub returns-then-r-lt-STATE_1 : goal.returns-then-r-lt-STATE_1
unfolding record_fits record_of linked_of
returns-then-r-lt-STATE_1 c = no_standing _ c.alone.ensures _ _ (rw (lt-leb _ _ c.if-r-lt-STATE_1.true) (and_false (row_numbered c.args.r)))

pub returns-then-highest-r : goal.returns-then-highest-r
unfolding record_fits record_of linked_of
returns-then-highest-r c = no_standing _ c.alone-then-highest-r.ensures _ _ (rw (le-leb _ _ c.if-r-lt-STATE_1.false, ← c.highest.ensures, lt-leb _ _ c.if-highest-r.true) (and_false (row_numbered c.args.r)))

pub returns-then-r-s : goal.returns-then-r-s
unfolding record_fits record_of linked_of
returns-then-r-s c = no_standing _ c.alone-then-r-s.ensures _ _ (rw (le-leb _ _ c.if-r-lt-STATE_1.false, ← c.highest.ensures, le-leb _ _ c.if-highest-r.false, eq-eqb _ _ c.if-r-s.true) (and_false (row_numbered c.args.r)))

pub returns-then-not-valid : goal.returns-then-not-valid
unfolding record_fits record_of linked_of
returns-then-not-valid c = no_standing _ c.alone-then-not-valid.ensures _ _ (rw (le-leb _ _ c.if-r-lt-STATE_1.false, ← c.highest.ensures, le-leb _ _ c.if-highest-r.false, ne_eqb _ _ c.if-r-s.false, ← c.valid.ensures, c.if-not-valid.true) (and_false (row_numbered c.args.r)))

pub returns-then-not-query_standing : goal.returns-then-not-query_standing
returns-then-not-query_standing c = no_standing _ c.alone-then-not-query_standing.ensures _ _ (query_unfit c.args.s c.args.r (sym c.query_standing.ensures ∙ c.if-not-query_standing.true))

pub returns-then-not-hold_fits : goal.returns-then-not-hold_fits
unfolding record_fits record_of linked_of
returns-then-not-hold_fits c = no_standing _ c.alone-then-not-hold_fits.ensures _ _ (rw (le-leb _ _ c.if-r-lt-STATE_1.false, ← c.highest.ensures, le-leb _ _ c.if-highest-r.false, ne_eqb _ _ c.if-r-s.false, ← c.valid.ensures, c.if-not-valid.false, ← c.hold_fits.ensures, c.if-not-hold_fits.true) (and_false (row_numbered c.args.r)))

pub returns : goal.returns
returns c =
    by_exchange c.args.s c.args.r _ (le-leb _ _ c.if-r-lt-STATE_1.false) (rw (← c.highest.ensures) (le-leb _ _ c.if-highest-r.false)) (ne_eqb _ _ c.if-r-s.false) (sym c.valid.ensures ∙ c.if-not-valid.false) (sym c.hold_fits.ensures ∙ c.if-not-hold_fits.false) (omega (arith, c.well_formed)) (sym c.query_standing.ensures ∙ c.if-not-query_standing.false) c.exchange_standing.ensures
