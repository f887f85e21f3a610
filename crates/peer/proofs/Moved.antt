-- What the moves do to a state: each keeps it within 1 and the highest, and all but one leave it below 3 where it was.
-- Assumes nothing.
use Rattle.std.proofs.Common.{◌≡◌, ℕ, ◌<◌, ◌≤◌, Bool, true, false, eqb, leb, refl, arith, eqb-true, leb-false}
use borrow.Author.Tests.{lt-leb}
use Rattle.octets.proofs.Branch.{by_bool}
use Rattle.peer.specs.Fit.{highest_state}
use Rattle.peer.specs.Moves.{moved_of}
use Rattle.peer.specs.Settings.{role_associates}
use Rattle.peer.specs.declared.moves.Move.TheVariants as move
use Rattle.peer.specs.declared.moves.Move.{Move}
use Rattle.peer.proofs.Fits.{clash, wrong}
use Rattle.peer.proofs.Roles.{high_four, high_on, high_two}

pub moved_low : (rsna state : ℕ) (m : Move) → 1 ≤ state → 1 ≤ moved_of rsna state m
moved_low rsna state move.Keep h = h
moved_low rsna state move.Authenticate h = by_bool (eqb state 1) (λ e. rw e (omega arith)) (λ e. rw e h)
moved_low rsna state move.Deauthenticate h = omega arith
moved_low rsna state move.Drop h = omega arith
moved_low rsna state move.Lower h = by_bool (eqb state 4) (λ e. rw e (omega arith)) (λ e. rw e h)
moved_low rsna state move.Join h = by_bool (eqb rsna 1) (λ e. rw e (omega arith)) (λ e. rw e (omega arith))
moved_low rsna state move.Secure h = by_bool (eqb state 3) (λ e. rw e (omega arith)) (λ e. rw e h)

-- a move that does not raise a state to 3 or 4
abbrev pub calm : Move → Bool
calm move.Keep = true
calm move.Authenticate = true
calm move.Deauthenticate = true
calm move.Drop = true
calm move.Lower = true
calm move.Join = false
calm move.Secure = true

-- none leads above the highest state, where one that raises to 3 or 4 is made only where the role takes part in associations
pub moved_high :
    (role rsna state : ℕ) (m : Move) → (calm m ≡ false → role_associates role ≡ true) → state ≤ highest_state role
    → moved_of rsna state m ≤ highest_state role
moved_high role rsna state move.Keep u h = h
moved_high role rsna state move.Authenticate u h = by_bool (eqb state 1) (λ e. rw e (high_two role)) (λ e. rw e h)
moved_high role rsna state move.Deauthenticate u h = let two = high_two role in omega arith
moved_high role rsna state move.Drop u h = high_two role
moved_high role rsna state move.Lower u h = by_bool (eqb state 4) (λ e. rw e (let z = eqb-true state 4 e in omega arith)) (λ e. rw e h)
moved_high role rsna state move.Join u h =
    let four = high_four role (u refl) in by_bool (eqb rsna 1) (λ e. rw e (omega arith)) (λ e. rw e (omega arith))
moved_high role rsna state move.Secure u h = by_bool (eqb state 3)
    (λ e. rw e (let z = eqb-true state 3 e in let four = high_on role (omega arith) in omega arith))
    (λ e. rw e h)

pub calm_moved : (rsna state : ℕ) (m : Move) → calm m ≡ true → leb 3 (moved_of rsna state m) ≡ true → leb 3 state ≡ true
calm_moved rsna state move.Keep c h = h
calm_moved rsna state move.Authenticate c h = by_bool (eqb state 1) (λ e. wrong (rw e at h)) (λ e. rw e at h)
calm_moved rsna state move.Deauthenticate c h = wrong h
calm_moved rsna state move.Drop c h = wrong h
calm_moved rsna state move.Lower c h = by_bool (eqb state 4) (λ e. rw (eqb-true state 4 e)) (λ e. rw e at h)
calm_moved rsna state move.Join c h = wrong c
calm_moved rsna state move.Secure c h =
    by_bool (eqb state 3) (λ e. rw (eqb-true state 3 e)) (λ e. rw e at h)

pub calm_low : (rsna state : ℕ) (m : Move) → calm m ≡ true → state < 3 → moved_of rsna state m < 3
calm_low rsna state m c l = by_bool (leb 3 (moved_of rsna state m))
    (λ h. clash (calm_moved rsna state m c h) (lt-leb 3 state l))
    (λ h. leb-false 3 (moved_of rsna state m) h)
