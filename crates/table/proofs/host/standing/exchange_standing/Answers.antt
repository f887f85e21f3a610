-- `table::host::standing::exchange_standing` meets its contract: the numbers that fit, and which of them are (re)associations.
-- Assumes nothing.
use Rattle.peer.specs.Record.{exchange_of}
use Rattle.table.proofs.Octets.Standings.{alone_standing, fits_by, joins, no_standing}
use Rattle.table.proofs.Passes.Loops.{and_false, and_true}
use borrow.Author.Tests.{eq-eqb, le-leb, le-ltb, lt-leb, ne_eqb, not-true}
use lib.Dec.{eqb, leb}
use mathlib.Core.Bool.{◌&&◌, not}
use mathlib.Core.Path.{◌∙◌, sym}
use native.Mathlib.Omega.{arith}
use Rattle.table.proofs.host.standing.exchange_standing.Goals as goal

pub returns-then-e-eq0 : goal.returns-then-e-eq0
unfolding exchange_of
returns-then-e-eq0 c = alone_standing _ _ c.alone.ensures _ _ (fits_by c.args.role c.args.e c.args.state c.args.left (omega arith) ∙ rw (eq-eqb _ _ c.if-e-eq0.true)) (λ t. rw c.if-e-eq0.true)

pub returns-then-not-timing : goal.returns-then-not-timing
returns-then-not-timing c = no_standing _ c.alone-then-not-timing.ensures _ _ (fits_by c.args.role c.args.e c.args.state c.args.left (omega arith) ∙ rw (ne_eqb _ _ c.if-e-eq0.false, ← c.timing.ensures, c.if-not-timing.true))

pub returns-then-e-eq1 : goal.returns-then-e-eq1
unfolding exchange_of
returns-then-e-eq1 c = alone_standing _ _ c.alone-then-e-eq1.ensures _ _ (fits_by c.args.role c.args.e c.args.state c.args.left (omega arith) ∙ rw (ne_eqb _ _ c.if-e-eq0.false, ← c.timing.ensures, c.if-not-timing.false, eq-eqb _ _ c.if-e-eq1.true)) (λ t. rw c.if-e-eq1.true)

pub returns-then-e-eq7 : goal.returns-then-e-eq7
unfolding exchange_of
returns-then-e-eq7 c = alone_standing _ _ c.alone-then-e-eq7.ensures _ _ (fits_by c.args.role c.args.e c.args.state c.args.left (omega arith) ∙ rw (ne_eqb _ _ c.if-e-eq0.false, ← c.timing.ensures, c.if-not-timing.false, ne_eqb _ _ c.if-e-eq1.false, eq-eqb _ _ c.if-e-eq7.true)) (λ t. rw c.if-e-eq7.true)

pub returns-then-not-associates : goal.returns-then-not-associates
returns-then-not-associates c = no_standing _ c.alone-then-not-associates.ensures _ _ (fits_by c.args.role c.args.e c.args.state c.args.left (omega arith) ∙ rw (ne_eqb _ _ c.if-e-eq0.false, ← c.timing.ensures, c.if-not-timing.false, ne_eqb _ _ c.if-e-eq1.false, ne_eqb _ _ c.if-e-eq7.false, ← c.associates.ensures, c.if-not-associates.true) (and_false (leb c.args.e 9 && not (eqb c.args.e 4))))

pub returns-then-state-lt-STATE_2 : goal.returns-then-state-lt-STATE_2
returns-then-state-lt-STATE_2 c = no_standing _ c.alone-then-state-lt-STATE_2.ensures _ _ (fits_by c.args.role c.args.e c.args.state c.args.left (omega arith) ∙ rw (ne_eqb _ _ c.if-e-eq0.false, ← c.timing.ensures, c.if-not-timing.false, ne_eqb _ _ c.if-e-eq1.false, ne_eqb _ _ c.if-e-eq7.false, ← c.associates.ensures, c.if-not-associates.false, lt-leb _ _ c.if-state-lt-STATE_2.true) (and_false (leb c.args.e 9 && not (eqb c.args.e 4))))

pub returns-then-e-gt9 : goal.returns-then-e-gt9
returns-then-e-gt9 c = no_standing _ c.alone-then-e-gt9.ensures _ _ (fits_by c.args.role c.args.e c.args.state c.args.left (omega arith) ∙ rw (ne_eqb _ _ c.if-e-eq0.false, ← c.timing.ensures, c.if-not-timing.false, ne_eqb _ _ c.if-e-eq1.false, ne_eqb _ _ c.if-e-eq7.false, ← c.associates.ensures, c.if-not-associates.false, lt-leb _ _ c.if-e-gt9.true))

pub returns : goal.returns
returns c = (sym (fits_by c.args.role c.args.e c.args.state c.args.left (omega arith) ∙ rw (ne_eqb _ _ c.if-e-eq0.false, ← c.timing.ensures, c.if-not-timing.false, ne_eqb _ _ c.if-e-eq1.false, ne_eqb _ _ c.if-e-eq7.false, ← c.associates.ensures, c.if-not-associates.false, le-leb _ _ c.if-state-lt-STATE_2.false, le-leb _ _ c.if-e-gt9.false) (and_true (not (eqb c.args.e 4)))), λ t. sym (joins c.args.e c.if-e-gt9.false ∙ rw (le-ltb c.args.e 2 (omega (arith, c.if-e-eq0.false, c.if-e-eq1.false)), not-true (eqb c.args.e 4) t, ne_eqb _ _ c.if-e-eq7.false)))
