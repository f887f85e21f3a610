-- `table::host::standing::plain` meets its contract: the row fits, or the promise says nothing.
-- Assumes nothing.
use Prim.Native.Nat.{ℕ}
use Rattle.peer.specs.Fit.{hold_fits}
use Rattle.peer.specs.Settings.{role_asks}
use Rattle.table.proofs.Octets.Standings.{plain_stands}
use borrow.Author.Tests.{eqb-true, le-leb, ne_eqb}
use mathlib.Core.Bool.{Bool, true, false, ◌||◌}
use mathlib.Core.Path.{◌∙◌, ◌≡◌, refl, sym}
use native.Mathlib.Omega.{arith}
use Rattle.table.proofs.host.standing.plain.Goals as goal

fits-none : (role hold : ℕ) → hold ≡ 0 → hold_fits role hold ≡ true
unfolding hold_fits
fits-none role hold e = rw e (either (role_asks role))
  where
    either : (b : Bool) → (b || true) ≡ true
    either true = refl
    either false = refl

pub returns : goal.returns
returns c =
    λ t. plain_stands c.args.s c.args.r (le-leb _ _ c.if-r-lt-STATE_1.false) (rw (← c.highest.ensures) (le-leb _ _ c.if-highest-r.false)) (ne_eqb _ _ c.if-r-s.false) (sym c.valid.ensures ∙ c.if-not-valid.false) (fits-none c.args.s.role c.args.r.hold (eqb-true _ _ t)) (omega (arith, c.well_formed)) c.if-r-ne0.false c.if-r-ne0-2.false c.if-r-ne0-3.false c.if-r-ne0-4.false
