-- 02, K11, "Devices with several links", at one peer: "Replies go to the frame's Address 2, frames asked by a primitive to the first link (none: the
-- device)."
--     towards-does, directed-twice               what is said goes to any address of the device: Address 1 alone is another,
--     towards-speaks                             and it reads back as before
--     linked-stand, spoken-alone, spoken-valid   the address that a primitive's frame goes to: the peer's away from an AP, and valid
-- Assumes nothing.
use Rattle.std.proofs.Common.{◌≡◌, ℕ, ◌^◌, ◌<◌, true, false, not, eqb, [], ◌∷◌, refl, subst, arith, eqb-true, Option, None, Some}
use Rattle.octets.proofs.Branch.{by_bool}
use Rattle.octets.proofs.Le.{le_octets}
use Rattle.octets.proofs.RoundTrip.{framed}
use Rattle.octets.specs.Address.{valid_of}
use Rattle.octets.specs.Class.{class_of, is_public_action}
use Rattle.octets.specs.Element.{walk}
use Rattle.octets.specs.Field.{octets}
use Rattle.octets.specs.Frame.{body_of, bytes_of, head_of}
use Rattle.octets.specs.Heard.{authentication_of, heard_of, query_of, response_of}
use Rattle.octets.specs.Links.{no_links}
use Rattle.octets.specs.Pick.{pick}
use Rattle.octets.specs.Read.{Reads, Unheard}
use Rattle.octets.specs.Shape.{is_bare, least_management, least_of, shape_of}
use Rattle.octets.specs.declared.frame.Frame.{Frame}
use Rattle.octets.specs.declared.heard.Heard.TheVariants as heard
use Rattle.octets.specs.declared.heard.Heard.{Heard}
use Rattle.octets.specs.declared.heard.Kind.TheVariants.{Authentication}
use Rattle.peer.specs.Ask.{answer_of, ask_of}
use Rattle.peer.specs.Fit.{asked_fits, highest_state, hold_fits, links_fit, links_stand, query_allowed, record_fits, slot_fits, stands}
use Rattle.peer.specs.Record.{spoken_at}
use Rattle.peer.specs.Reply.{authentication_to, directed_of, network_address, send_of}
use Rattle.peer.specs.Said.{ReadsTo, Speaks, third_address}
use Rattle.peer.specs.Settings.{ap, network_fits, query_times_fit, role_answers, role_asks, role_associates, settings_fit, time_fits}
use Rattle.peer.specs.Turn.{towards_of, turn_of}
use Rattle.peer.specs.declared.exchange.Exchange.TheVariants.{Asked}
use Rattle.peer.specs.declared.record.Record.{Record}
use Rattle.peer.specs.declared.refuse.Others.{Others}
use Rattle.peer.specs.declared.settings.Settings.{Settings}
use Rattle.peer.specs.declared.turn.Turn.{Turn}
use Rattle.peer.proofs.AskSaid.{ask_said}
use Rattle.peer.proofs.Fits.{both, clash, Fits, fits_of}
use Rattle.peer.proofs.Links.{device, ours, two}
use Rattle.peer.proofs.Sent.{valid_below}

-- u does what t does, whatever is said
pub record Does (t u : Turn) : Type 0 where
  pub peer : u.peer ≡ t.peer
  pub told : u.told ≡ t.told
  pub verdict : u.verdict ≡ t.verdict
  pub ds : u.ds ≡ t.ds
  pub sole : u.sole ≡ t.sole

pub towards_does : (a : ℕ) (t : Turn) → Does t (towards_of a t)
unfolding towards_of
towards_does a t = record { peer = refl; told = refl; verdict = refl; ds = refl; sole = refl }

-- Address 1 alone is another
pub directed_twice : (a b : ℕ) (r : Option Frame) → directed_of b (directed_of a r) ≡ directed_of b r
directed_twice a b None = refl
directed_twice a b (Some f) = refl

module _ (s : Settings) (a b : ℕ) where
  abbrev to : Frame → Frame
  to f = framed f.subtype b f.address2 f.address3 f.body

  -- the octets of Address 1 are read for Address 1 alone
  unheard_same : (w : Heard) (c : ℕ) (f : Frame) → Unheard w c (bytes_of f) → Unheard w c (bytes_of (to f))
  unfolding octets head_of bytes_of
  unheard_same heard.Other c f u = tt
  unheard_same (heard.Authentication algorithm transaction status) c f u = tt
  unheard_same (heard.Deauthentication reason) c f u = tt
  unheard_same (heard.Disassociation reason) c f u = tt
  unheard_same (heard.Request kind current) c f u = u
  unheard_same (heard.Response kind status aid comeback) c f u = u
  unheard_same (heard.QueryRequest identifier) c f u = tt
  unheard_same (heard.QueryResponse identifier) c f u = tt

  readdressed :
      (w : Heard) (f : Frame) (third c : ℕ) → b < 2 ^ 48 → Reads a s.own third c w (bytes_of f)
      → Reads b s.own third c w (bytes_of (to f))
  unfolding octets head_of bytes_of shape_of class_of is_public_action least_of least_management is_bare heard_of authentication_of response_of query_of walk
  readdressed w f third c low r =
      record {
        whole = r.whole;
        least = r.least;
        second = r.second;
        duration = r.duration;
        address1 = le_octets 6 b low;
        address2 = r.address2;
        address3 = r.address3;
        sequence = r.sequence;
        says = r.says;
        unheard = unheard_same w c f r.unheard;
      }

  -- Address 3 goes by the peer only where it has one address
  third_same : (eqb s.role ap ≡ false → b ≡ a) → third_address s a ≡ third_address s b
  third_same one = by_bool (eqb s.role ap) (λ e. rw (eqb-true s.role ap e)) (λ e. rw (one e))

  pub towards_speaks : (w : Heard) (r : Option Frame) → (eqb s.role ap ≡ false → b ≡ a) → b < 2 ^ 48 → Speaks s a w r → Speaks s b w (directed_of b r)
  towards_speaks w None one low h = tt
  towards_speaks w (Some f) one low h = (
    record { subtype = h.0.subtype; address1 = low; address2 = h.0.address2; address3 = h.0.address3; body = h.0.body },
    subst (λ (third : ℕ). Reads b s.own third (pick (eqb s.rsna 0) 0x0001 0x0011) w (bytes_of (to f)))
        (third_same one) (readdressed w f (third_address s a) (pick (eqb s.rsna 0) 0x0001 0x0011) low h.1),
  )

module _ (s : Settings) (p : Record) (f : Fits s p) where
  -- links are an AP's, and stand
  pub linked_stand : no_links p.links ≡ false → (eqb s.role ap ≡ true) × (links_stand s.own p.address p.links ≡ true)
  unfolding links_fit
  linked_stand some = both (eqb s.role ap) _ (rw some at f.linked)

  pub spoken_alone : eqb s.role ap ≡ false → spoken_at p ≡ p.address
  unfolding spoken_at no_links
  spoken_alone n = by_bool (no_links p.links)
      (λ e. rw (both (eqb p.links.one 0) _ e).0)
      (λ e. clash (linked_stand e).0 n)

  pub spoken_valid : valid_of (spoken_at p) ≡ true
  unfolding spoken_at no_links links_stand slot_fits
  spoken_valid = by_bool (eqb p.links.one 0)
      (λ e. rw e f.valid)
      (λ e. rw e (let l = both (slot_fits s.own p.address p.links.one) _ (linked_stand (rw e)).1 in
      (both (not (eqb p.links.one s.own)) _ (both (not (eqb p.address 0)) _ (rw e at l.0)).1).1))

-- ---- The hypotheses are met: the device 4, whose links are 6 and 8, asked for authentication. Primitive 2 answers, with status 0, to 6; the octets of
-- Address 1, Address 2 and Address 3 are 6, 2 and 2.

abbrev asked : Record
asked = device (Asked Authentication) two

asked_fits_lem : Fits (ours ap) asked
unfolding record_fits highest_state role_answers role_asks role_associates valid_of hold_fits asked_fits stands query_allowed links_fit links_stand slot_fits no_links
asked_fits_lem = fits_of (ours ap) asked refl

abbrev nobody : Others
nobody = record { associated = 0; busy = false }

answered :
    ReadsTo (ours ap) 6 (heard.Authentication 0 2 0)
    (0xb0 ∷ 0 ∷ 0 ∷ 0 ∷ 6 ∷ 0 ∷ 0 ∷ 0 ∷ 0 ∷ 0 ∷ 2 ∷ 0 ∷ 0 ∷ 0 ∷ 0 ∷ 0 ∷ 2 ∷ 0 ∷ 0 ∷ 0 ∷ 0 ∷ 0 ∷ 0 ∷ 0 ∷ 0 ∷ 0 ∷ 2 ∷ 0 ∷ 0 ∷ 0 ∷ [])
unfolding ask_of answer_of turn_of authentication_to send_of network_address spoken_at bytes_of head_of body_of octets settings_fit query_times_fit time_fits network_fits role_associates valid_of
answered =
    (towards_speaks (ours ap) 4 (spoken_at asked) (heard.Authentication 0 2 0) (ask_of (ours ap) 1 asked nobody 2 0).reply
    (spoken_alone (ours ap) asked asked_fits_lem) (valid_below (spoken_at asked) (spoken_valid (ours ap) asked asked_fits_lem))
    (ask_said (ours ap) refl asked refl (omega arith) 1 (omega arith) nobody (omega arith) 2 0 (omega arith))
    ).1
