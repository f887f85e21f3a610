-- What goes by the role, taken apart once: what follows of what a role may do, the highest state that there is, and for each rule that goes by the
-- role that what holds of each of its answers holds of the rule.
-- Assumes nothing.
use Rattle.std.proofs.Common.{◌≡◌, ℕ, ◌≤◌, Bool, true, false, not, ◌&&◌, ◌||◌, eqb, ltb, leb, refl, arith, eqb-true, leb-true, Option, None}
use borrow.Author.Tests.{eqb-false, not-false, not-true}
use Rattle.octets.proofs.Branch.{and_left, and_right, by_bool, pick_both, pick_by}
use Rattle.octets.specs.Pick.{pick}
use Rattle.octets.specs.declared.class.FrameClass.{FrameClass}
use Rattle.octets.specs.declared.frame.Frame.{Frame}
use Rattle.octets.specs.declared.heard.Heard.{Heard}
use Rattle.octets.specs.declared.heard.Kind.TheVariants.{Authentication}
use Rattle.octets.specs.declared.heard.Kind.{Kind}
use Rattle.peer.specs.Association.{request_heard}
use Rattle.peer.specs.Authentication.{answered_move, authentication_answered, authentication_asked, authentication_heard, requested_of}
use Rattle.peer.specs.Challenge.{challenged_of, is_challenged, passed_of}
use Rattle.peer.specs.Codes.{status_algorithm, status_refused}
use Rattle.peer.specs.Filter.{barred_by, barred_of, filtered_of, request_barred}
use Rattle.peer.specs.Fit.{highest_state}
use Rattle.peer.specs.Moves.{ds_left, ds_none, ds_of}
use Rattle.peer.specs.Record.{is_sent}
use Rattle.peer.specs.Reply.{authentication_to, response_to}
use Rattle.peer.specs.Settings.{ad_hoc, ap, role_answers, role_asks, role_associates, settings_fit, station}
use Rattle.peer.specs.Turn.{admit, confirm_of, ended_of, replied_of, still_of, told_of, turn_of}
use Rattle.peer.specs.declared.record.Record.{Record}
use Rattle.peer.specs.declared.settings.Settings.{Settings}
use Rattle.peer.specs.declared.turn.Turn.{Turn}
use Rattle.peer.proofs.Fits.{or_left}

module _ (role : ℕ) where
  -- an AP answers, and takes part in associations
  pub ap_answers : eqb role ap ≡ true → role_answers role ≡ true
  unfolding role_answers
  ap_answers e = rw (eqb-true role ap e)

  pub ap_associates : eqb role ap ≡ true → role_associates role ≡ true
  unfolding role_associates
  ap_associates e = rw (eqb-true role ap e)

  -- a station asks, and takes part in associations
  pub station_asks : eqb role station ≡ true → role_asks role ≡ true
  unfolding role_asks
  station_asks e = rw (eqb-true role station e)

  pub station_associates : eqb role station ≡ true → role_associates role ≡ true
  unfolding role_associates
  station_associates e = rw (eqb-true role station e)

  -- the highest state is 4 where the role takes part in associations, and 2 where it does not
  pub high_four : role_associates role ≡ true → highest_state role ≡ 4
  unfolding highest_state
  high_four a = rw a

  pub high_low : role_associates role ≡ false → highest_state role ≡ 2
  unfolding highest_state
  high_low n = rw n

  pub high_two : 2 ≤ highest_state role
  unfolding highest_state
  high_two = pick_both (λ (n : ℕ). 2 ≤ n) (role_associates role) (omega arith) (omega arith)

  pub high_on : 3 ≤ highest_state role → highest_state role ≡ 4
  high_on h = by_bool (role_associates role) high_four (λ n. let z = high_low n in absurd (omega arith))

  -- the distribution system hears nothing where a state stays on its side of 3
  pub ds_beside : (before after : ℕ) → ltb after 3 ≡ ltb before 3 → ds_of role before after ≡ ds_none
  unfolding ds_of
  ds_beside before after same = rw same (pick_both (λ (n : ℕ). n ≡ ds_none) (eqb role ap) (beside (ltb before 3)) refl)
    where
      beside : (b : Bool) → pick b (pick b ds_none 1) (pick b ds_left ds_none) ≡ ds_none
      beside true = refl
      beside false = refl

-- the roles that there are
module _ (s : Settings) (fit : settings_fit s ≡ true) where
  pub role_low : s.role ≡ 0 → ⊥
  unfolding settings_fit
  role_low = eqb-false s.role 0 (not-true (eqb s.role 0) (and_left (not (eqb s.role 0)) _ fit))

  pub role_high : s.role ≤ 3
  unfolding settings_fit
  role_high = leb-true s.role 3 (and_left (leb s.role 3) _ (and_right (not (eqb s.role 0)) _ fit))

  -- who asks and takes part in associations is a station, and answers nobody
  pub no_answers : role_asks s.role ≡ true → role_associates s.role ≡ true → role_answers s.role ≡ false
  unfolding role_asks role_associates role_answers
  no_answers asks joins =
      let two : s.role ≡ station =
      omega (arith, role_low, role_high, eqb-false s.role ap (not-true _ asks), eqb-false s.role ad_hoc (not-true _ joins)) in
      rw two

-- the rules for a frame
module _ (s : Settings) (p : Record) where
  pub authentication_by :
      (P : Turn → Type 0) (algorithm transaction status : ℕ)
      → (role_answers s.role ≡ true → eqb algorithm 0 ≡ true → P (requested_of s p Authentication 0))
      → (eqb algorithm 0 ≡ false → P (replied_of s p admit (authentication_to s p.address algorithm 2 status_algorithm)))
      → (is_sent Authentication p.exchange ≡ true
      → P (turn_of s p (ended_of s p (answered_move status) p.hold) admit (told_of (confirm_of Authentication) status) None))
      → P (still_of s p admit) → P (authentication_heard s p algorithm transaction status)
  unfolding authentication_heard authentication_asked authentication_answered
  authentication_by P algorithm transaction status asked other answered none =
      pick_by P (eqb transaction 1 && role_answers s.role)
      (λ r. pick_by P (eqb algorithm 0) (asked (and_right (eqb transaction 1) _ r)) other)
      (λ r. pick_by P (eqb algorithm 0 && (eqb transaction 2 && is_sent Authentication p.exchange))
      (λ e. answered (and_right (eqb transaction 2) _ (and_right (eqb algorithm 0) _ e)))
      (λ e. none))

  pub request_by :
      (P : Turn → Type 0) (k : Kind) (current : ℕ) → (eqb s.role ap ≡ true → is_challenged s p ≡ true → P (challenged_of s p k))
      → (eqb s.role ap ≡ true → P (requested_of s (passed_of p) k current)) → P (still_of s p admit) → P (request_heard s p k current)
  unfolding request_heard
  request_by P k current met passes none =
      pick_by P (eqb s.role ap) (λ r. pick_by P (is_challenged s p) (met r) (λ c. passes r)) (λ r. none)

  -- a frame that is kept out
  pub barred_by_lem :
      (P : Option Frame → Type 0) (k : FrameClass) (group : Bool) (h : Heard) → P None → (role_associates s.role ≡ true → P (barred_by s p k h))
      → P (barred_of s p k group h)
  unfolding barred_of
  barred_by_lem P k group h silent other =
      pick_by P (group || not (role_associates s.role)) (λ e. silent) (λ e. other (not-false _ (or_left group _ e).1))

  pub request_barred_by :
      (P : Option Frame → Type 0) (k : FrameClass) (kind : Kind) → (eqb s.role ap ≡ true → P (response_to s p.address kind status_refused 0))
      → (eqb s.role ap ≡ false → P (filtered_of s p k)) → P (request_barred s p k kind)
  unfolding request_barred
  request_barred_by P k kind refused other = pick_by P (eqb s.role ap) refused other
