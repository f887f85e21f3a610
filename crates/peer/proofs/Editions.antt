-- 02, K2, "Two rules for a rejected association", at one peer: where a rejection of ours leads in each edition. That the edition is asked for
-- nothing else is in EditionsAlike.
--     first-edition, second-edition, second-protected  the state after a rejection (primitives 7 and 8 with a status other than success)
--     one_of_three                                     settings that fit follow one of these
--     second-joined, second-silent, first-left         who is associated stays so in edition 2, and no word is sent; edition 1 tells "left"
--     heard-rejection                                  a station that hears a rejection goes to State 2
-- Assumes nothing.
use Rattle.std.specs.Prelude.{Option, None}
use Rattle.std.proofs.Common.{◌≡◌, ℕ, ◌≤◌, Bool, true, false, not, ◌&&◌, eqb, ltb, leb, refl, arith, le-ltb, ne_eqb, eqb-true, leb-true}
use borrow.Author.Tests.{eqb-false, not-true}
use Rattle.octets.proofs.Branch.{by_bool, pick_both, pick_by}
use Rattle.octets.specs.Address.{valid_of}
use Rattle.octets.specs.Links.{no_links, unlinked}
use Rattle.octets.specs.Pick.{pick}
use Rattle.octets.specs.declared.heard.Kind.TheVariants.{Association, Reassociation}
use Rattle.octets.specs.declared.heard.Kind.{Kind}
use Rattle.peer.specs.Ask.{ask_of, declined_move, declined_of, respond_of}
use Rattle.peer.specs.Association.{rejected_of, response_heard}
use Rattle.peer.specs.Fit.{asked_fits, highest_state, hold_fits, links_fit, query_allowed, record_fits, stands}
use Rattle.peer.specs.Moves.{ds_left, ds_none, ds_of, moved_of}
use Rattle.peer.specs.Record.{changed_of, is_joined, is_sent}
use Rattle.peer.specs.Refuse.{code_allowed, mismatch_of, one, role_allowed}
use Rattle.peer.specs.Settings.{ap, network_fits, query_times_fit, role_answers, role_asks, role_associates, settings_fit, time_fits}
use Rattle.peer.specs.Turn.{ended_of, turn_of}
use Rattle.peer.specs.declared.moves.Move.TheVariants as move
use Rattle.peer.specs.declared.moves.Move.{Move}
use Rattle.peer.specs.declared.query.Query.TheVariants as query
use Rattle.peer.specs.declared.exchange.Exchange.TheVariants.{Asked, Sent}
use Rattle.peer.specs.declared.record.Record.{Record}
use Rattle.peer.specs.declared.refuse.Others.{Others}
use Rattle.peer.specs.declared.settings.Settings.{Settings}
use Rattle.peer.proofs.Fits.{both}
use Rattle.peer.proofs.Roles.{ds_beside}

-- "when an AP answers anything but success": primitives 7 and 8 with a status other than 0
abbrev pub rejects : ℕ → ℕ → Bool
rejects q code = one q 7 8 && not (eqb code 0)

-- "an edition (1 or 2) and a protection flag": settings that fit follow one of the three rules below, and no other
pub one_of_three : (s : Settings) → settings_fit s ≡ true → (1 ≤ s.edition) × (s.edition ≤ 2) × (s.protection ≤ 1)
unfolding settings_fit
one_of_three s h =
    let a = both (leb s.role 3) _ (both (not (eqb s.role 0)) _ h).1 in
    let b = both (time_fits s.authentication) _ (both (leb s.rsna 1) _ a.1).1 in
    let c = both (leb s.protection 1) _ (both (time_fits s.association) _ b.1).1 in
    let d = both (not (eqb s.edition 0)) _ c.1 in
    let ne = eqb-false s.edition 0 (not-true (eqb s.edition 0) d.0) in
    (omega arith, leb-true s.edition 2 (both (leb s.edition 2) _ d.1).0, leb-true s.protection 1 c.0)

abbrev pub kind_asked : ℕ → Kind
kind_asked q = pick (eqb q 7) Association Reassociation

-- either primitive, with such a status, does what `declined_of` says
pub declines :
    (s : Settings) (aid : ℕ) (p : Record) (o : Others) (q code : ℕ) → rejects q code ≡ true → ask_of s aid p o q code ≡ declined_of s p (kind_asked q) code
unfolding ask_of respond_of
declines s aid p o q code r =
    let b = both (one q 7 8) _ r in
    let c = not-true (eqb code 0) b.1 in
    by_bool (eqb q 7) (λ e. rw (eqb-true q 7 e, c)) (λ e. rw (eqb-true q 8 (rw e at b.0), c))

module _ (s : Settings) (aid : ℕ) (p : Record) (o : Others) (q code : ℕ) (r : rejects q code ≡ true) where
  -- the state after a rejection, by the move that the settings choose
  moves : (m : Move) → declined_move s ≡ m → (ask_of s aid p o q code).peer.state ≡ moved_of s.rsna p.state m
  unfolding declined_of turn_of ended_of changed_of
  moves m e = rw (declines s aid p o q code r, e)

  -- "Document 001 sends the peer to State 2", whatever the flag
  pub first_edition : s.edition ≡ 1 → (ask_of s aid p o q code).peer.state ≡ 2
  unfolding declined_move
  first_edition e = moves move.Drop (rw e)

  -- "Document 004 leaves the state as it is where management frame protection is in use": no rejection of ours lowers a state
  pub second_protected : s.edition ≡ 2 → s.protection ≡ 1 → (ask_of s aid p o q code).peer.state ≡ p.state
  unfolding declined_move
  second_protected e f = moves move.Keep (rw (e, f))

  -- "and otherwise moves State 4 to 3 only"
  pub second_edition : s.edition ≡ 2 → s.protection ≡ 0 → (ask_of s aid p o q code).peer.state ≡ pick (eqb p.state 4) 3 p.state
  unfolding declined_move
  second_edition e f = moves move.Lower (rw (e, f))

  -- In edition 2, with protection or without, what does not tell State 3 from 4 does not tell before from after.
  second_side : {A : Type 0} (f : ℕ → A) → f 3 ≡ f 4 → s.edition ≡ 2 → f (moved_of s.rsna p.state (declined_move s)) ≡ f p.state
  unfolding declined_move
  second_side f same e =
      rw e
      (pick_both (λ m. f (moved_of s.rsna p.state m) ≡ f p.state) (eqb s.protection 1) refl
      (pick_by (λ (n : ℕ). f n ≡ f p.state) (eqb p.state 4) (λ g. rw (eqb-true p.state 4 g) same) (λ g. refl)))

  -- So who is in State 3 or 4 stays there: none is lowered below 3.
  pub second_joined : s.edition ≡ 2 → is_joined (ask_of s aid p o q code).peer ≡ is_joined p
  unfolding is_joined
  second_joined e = rw (moves (declined_move s) refl) (second_side (leb 3) refl e)

  -- And the distribution system hears nothing.
  pub second_silent : s.edition ≡ 2 → (ask_of s aid p o q code).ds ≡ ds_none
  unfolding declined_of turn_of ended_of changed_of
  second_silent e =
      rw (declines s aid p o q code r) (ds_beside s.role p.state _ (second_side (λ n. ltb n 3) refl e))

  -- In edition 1 it is told "left" of who was associated.
  pub first_left : s.edition ≡ 1 → s.role ≡ ap → 3 ≤ p.state → (ask_of s aid p o q code).ds ≡ ds_left
  unfolding declined_of declined_move turn_of ended_of changed_of ds_of
  first_left e a three = rw (declines s aid p o q code r, e, a, le-ltb p.state 3 three)

-- ---- what both editions share

-- A station that hears a rejection goes to State 2, whatever its edition.
pub heard_rejection :
    (s : Settings) (p : Record) (k : Kind) (status aid : ℕ) (c : Option ℕ) → is_sent k p.exchange ≡ true → (status ≡ 0 → ⊥)
    → (response_heard s p k status aid c).peer.state ≡ 2
unfolding response_heard rejected_of turn_of ended_of changed_of
heard_rejection s p k status aid c sent other = rw (sent, ne_eqb status 0 other)

-- ---- The hypotheses are met: at an access point a peer in State 4, or 3, has asked for reassociation, and primitive 8 rejects it with status 1.

abbrev site : ℕ → ℕ → Settings
site edition protection =
    record { own = 2; network = 0; authentication = 100; association = 100; role = 1; rsna = 0; edition = edition; protection = protection; retry = 201; maximum = 1000 }

abbrev asking : ℕ → Record
asking state = record { address = 4; state = state; exchange = Asked Reassociation; left = 0; hold = 0; query = query.None; identifier = 0; links = unlinked }

abbrev nobody : Others
nobody = record { associated = 0; busy = false }

-- nothing refuses it, in any edition
taken : Settings → Record → Bool
taken s p = settings_fit s && (record_fits s p && (code_allowed 8 1 && (role_allowed 8 s.role && not (mismatch_of p nobody 8))))

all_taken :
    (taken (site 1 1) (asking 4) && (taken (site 2 0) (asking 4) && (taken (site 2 0) (asking 3) && taken (site 2 1) (asking 4)))) ≡ true
unfolding taken settings_fit query_times_fit time_fits network_fits valid_of record_fits highest_state query_allowed hold_fits asked_fits stands role_answers role_asks role_associates code_allowed role_allowed mismatch_of links_fit no_links
all_taken = refl

four_to_two : (ask_of (site 1 1) 1 (asking 4) nobody 8 1).peer.state ≡ 2
four_to_two = first_edition (site 1 1) 1 (asking 4) nobody 8 1 refl refl

four_left : (ask_of (site 1 1) 1 (asking 4) nobody 8 1).ds ≡ ds_left
four_left = first_left (site 1 1) 1 (asking 4) nobody 8 1 refl refl refl (omega arith)

four_to_three : (ask_of (site 2 0) 1 (asking 4) nobody 8 1).peer.state ≡ 3
four_to_three = second_edition (site 2 0) 1 (asking 4) nobody 8 1 refl refl refl

three_kept : (ask_of (site 2 0) 1 (asking 3) nobody 8 1).peer.state ≡ 3
three_kept = second_edition (site 2 0) 1 (asking 3) nobody 8 1 refl refl refl

four_kept : (ask_of (site 2 1) 1 (asking 4) nobody 8 1).peer.state ≡ 4
four_kept = second_protected (site 2 1) 1 (asking 4) nobody 8 1 refl refl refl

four_silent : (ask_of (site 2 0) 1 (asking 4) nobody 8 1).ds ≡ ds_none
four_silent = second_silent (site 2 0) 1 (asking 4) nobody 8 1 refl refl

-- .. and a station in State 4 that has asked for association again hears status 1.
heard_two :
    (response_heard (record { own = 2; network = 0; authentication = 100; association = 100; role = 2; rsna = 0; edition = 2; protection = 1; retry = 201; maximum = 1000 })
    (record { address = 4; state = 4; exchange = Sent Association; left = 9; hold = 0; query = query.None; identifier = 0; links = unlinked }) Association 1 0 None).peer.state
    ≡ 2
heard_two = heard_rejection _ _ Association 1 0 None refl (λ (z : 1 ≡ 0). omega arith)
