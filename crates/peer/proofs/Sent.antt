-- A frame that is sent to a peer reads back: its subtype goes with its body, its fields fit their octets, its addresses are the peer's, own and
-- the AP's or the ad hoc network's (`sent`).
-- Assumes nothing.
use Rattle.std.proofs.Common.{◌≡◌, ℕ, ◌^◌, ◌<◌, ◌≤◌, true, not, ◌&&◌, eqb, leb, subst, arith, eqb-true, leb-true}
use borrow.Author.Tests.{eqb-false}
use Rattle.octets.proofs.Branch.{and_left, and_right, by_bool, pick_both, pick_by}
use Rattle.octets.proofs.RoundTrip.{framed, reads_back}
use Rattle.octets.specs.Address.{valid_of}
use Rattle.octets.specs.Frame.{bytes_of, capability_of}
use Rattle.octets.specs.Pick.{pick}
use Rattle.octets.specs.Read.{BodyFits, FrameFits, Reads, Says}
use Rattle.octets.specs.declared.frame.Body.{Body}
use Rattle.octets.specs.declared.heard.Heard.{Heard}
use Rattle.peer.specs.Reply.{network_address, send_of}
use Rattle.peer.specs.Said.{Speaks, third_address}
use Rattle.peer.specs.Settings.{ad_hoc, ap, network_fits, query_times_fit, role_associates, settings_fit, station, time_fits}
use Rattle.peer.specs.declared.settings.Settings.{Settings}
use Rattle.peer.proofs.Roles.{role_high, role_low}

-- a valid address has six octets
pub valid_below : (a : ℕ) → valid_of a ≡ true → a < 2 ^ 48
unfolding valid_of
valid_below a h = let l = leb-true a 281474976710655 (and_left (leb a 281474976710655) _ (and_right (not (eqb a 0)) _ h)) in omega arith

pub capability_below : (rsna : ℕ) → capability_of rsna < 2 ^ 16
unfolding capability_of
capability_below rsna = pick_both (λ (c : ℕ). c < 2 ^ 16) (eqb rsna 1) (omega arith) (omega arith)

module _ (s : Settings) (fit : settings_fit s ≡ true) where
  rsna_high : s.rsna ≤ 1
  unfolding settings_fit
  rsna_high = leb-true s.rsna 1 (and_left (leb s.rsna 1) _ (and_right (leb s.role 3) _ (and_right (not (eqb s.role 0)) _ fit)))

  addresses_valid : (network_fits s && valid_of s.own) ≡ true
  unfolding settings_fit
  addresses_valid =
      and_right (query_times_fit s) _
      (and_right (leb s.edition 2) _
      (and_right (not (eqb s.edition 0)) _
      (and_right (leb s.protection 1) _
      (and_right (time_fits s.association) _
      (and_right (time_fits s.authentication) _
      (and_right (leb s.rsna 1) _
      (and_right (leb s.role 3) _
      (and_right (not (eqb s.role 0)) _ fit))))))))

  own_valid : valid_of s.own ≡ true
  own_valid = and_right (network_fits s) _ addresses_valid

  network_valid : eqb s.role ad_hoc ≡ true → valid_of s.network ≡ true
  unfolding network_fits role_associates
  network_valid e = rw e at (and_left (network_fits s) _ addresses_valid)

  third : (peer : ℕ) → network_address s peer ≡ third_address s peer
  unfolding network_address
  third peer = by_bool (eqb s.role ap)
      (λ e. rw (eqb-true s.role ap e))
      (λ e. by_bool (eqb s.role ad_hoc)
      (λ d. rw (eqb-true s.role ad_hoc d))
      (λ d.
      let two : s.role ≡ station =
      omega (arith, role_low s fit, role_high s fit, eqb-false s.role ap e, eqb-false s.role ad_hoc d) in
      rw two))

  capable : capability_of s.rsna ≡ pick (eqb s.rsna 0) 0x0001 0x0011
  unfolding capability_of
  capable = by_bool (eqb s.rsna 1)
      (λ e. rw (eqb-true s.rsna 1 e))
      (λ e.
      let b = eqb-false s.rsna 1 e in
      let h = rsna_high in
      let none : s.rsna ≡ 0 = omega arith in
      rw none)

  module _ (peer : ℕ) (valid : valid_of peer ≡ true) where
    third_below : network_address s peer < 2 ^ 48
    unfolding network_address
    third_below =
        pick_both (λ (a : ℕ). a < 2 ^ 48) (eqb s.role ap) (valid_below s.own own_valid)
        (pick_by (λ (a : ℕ). a < 2 ^ 48) (eqb s.role ad_hoc) (λ e. valid_below s.network (network_valid e)) (λ e. valid_below peer valid))

    pub sent : {subtype : ℕ} {b : Body} {w : Heard} → Says (capability_of s.rsna) subtype b w → subtype < 16 → BodyFits b → Speaks s peer w (send_of s peer subtype b)
    unfolding send_of
    sent {subtype} {b} {w} r low h =
        let fits : FrameFits (framed subtype peer s.own (network_address s peer) b) = record { subtype = low; address1 = valid_below peer valid; address2 = valid_below s.own own_valid; address3 = third_below; body = h } in
        let f = framed subtype peer s.own (network_address s peer) b in (
          fits,
          subst (λ (a : ℕ). Reads peer s.own a (pick (eqb s.rsna 0) 0x0001 0x0011) w (bytes_of f)) (third peer)
              (subst (λ (c : ℕ). Reads peer s.own (network_address s peer) c w (bytes_of f)) capable
              (reads_back peer s.own (network_address s peer) (capability_of s.rsna) r fits)),
        )
