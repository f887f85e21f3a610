-- Step 8 as specs/Reasons.antt words it: a rule names the frame exactly if there is something to do for what is heard at the sender's record.
-- Assumes nothing.
use Prim.Native.Nat.{ℕ, ◌%◌}
use mathlib.Core.Path.{◌≡◌, refl, ap as apply, sym, ◌∙◌}
use mathlib.Core.Bool.{Bool, true, false, not, ◌&&◌, ◌||◌}
use mathlib.Core.List.{List}
use lib.Dec.{eqb, leb, ltb}
use lib.ListN.{length}
use borrow.Author.Tests.{eqb-true, le-leb, lt-leb, ltb-false, ltb-true}
use Rattle.octets.proofs.Branch.{by_bool}
use Rattle.octets.specs.Address.{group_of}
use Rattle.octets.specs.Field.{field, subtype_of, type_of}
use Rattle.octets.specs.Heard.{authentication_of, heard_of, query_of, response_of}
use Rattle.octets.specs.Pick.{pick}
use Rattle.octets.specs.declared.heard.Heard.TheVariants as heard
use Rattle.octets.specs.declared.heard.Heard.{Heard}
use Rattle.octets.specs.declared.heard.Kind.TheVariants.{Authentication, Association, Reassociation}
use Rattle.octets.specs.declared.heard.Kind.{Kind}
use Rattle.peer.proofs.Fits.{wrong}
use Rattle.peer.specs.Hear.{is_query}
use Rattle.peer.specs.Idle.{acts_of, authentication_acts, idle_of, query_response_acts, response_acts}
use Rattle.peer.specs.Query.{is_running}
use Rattle.peer.specs.Record.{fresh_of, is_sent}
use Rattle.peer.specs.Settings.{ap, role_answers}
use Rattle.peer.specs.declared.record.Record.{Record}
use Rattle.peer.specs.declared.settings.Settings.{Settings}
use Rattle.table.specs.Places.{addresses_of, seek_of, some_of}
use Rattle.table.specs.Reasons.{bad_aid, deeds, sender_told, unnamed}
use Rattle.table.specs.Seat.{peer_of}
use Rattle.table.proofs.Theorems.WhyFrames.{sender_told_lem}

-- ---- tests put together

trim : (b g : Bool) → (b || false) ≡ (b && not (g && false))
trim true true = refl
trim true false = refl
trim false g = refl

and_none : (b : Bool) → (b && false) ≡ false
and_none true = refl
and_none false = refl

or_all : (b : Bool) → (b || false) ≡ (b && true)
or_all true = refl
or_all false = refl

-- transaction 1, 2; algorithm 0; the role answers; an authentication was sent
asked_bool : (one two none answers sent g : Bool) → (one ≡ true → two ≡ false)
    → ((one && answers) || ((none && (two && sent)) || false)) ≡ (pick one answers (two && (none && sent)) && not (g && false))
asked_bool true true none answers sent g h = wrong (sym (h refl))
asked_bool true false true answers sent g h = trim answers g
asked_bool true false false answers sent g h = trim answers g
asked_bool false true true answers sent g h = trim sent g
asked_bool false true false answers sent g h = refl
asked_bool false false true answers sent g h = refl
asked_bool false false false answers sent g h = refl

leb_not : (m n : ℕ) → leb m n ≡ not (ltb n m)
leb_not m n = by_bool (ltb n m)
    (λ e. rw (e, lt-leb m n (ltb-true n m e)))
    (λ e. rw (e, le-leb m n (ltb-false n m e)))

de_morgan : (a b : Bool) → not (a && not b) ≡ (not a || b)
de_morgan true true = refl
de_morgan true false = refl
de_morgan false b = refl

module _ (s : Settings) (t : List Record) (xs : List ℕ) (z : eqb (field 6 10 xs) 0 ≡ false) where
  abbrev peer : Record
  peer = peer_of t (seek_of t (addresses_of t) (field 6 10 xs)) (field 6 10 xs)

  abbrev group : Bool
  group = group_of (field 6 4 xs)

  -- what the sender's record passes, where a fresh one does not
  told : (f : Record → Bool) → f (fresh_of (field 6 10 xs)) ≡ false → sender_told t xs false f ≡ f peer
  told f e = apply (λ b. sender_told t xs b f) (sym e) ∙ sender_told_lem f t xs z

  sent : (k : Kind) → sender_told t xs false (λ p. is_sent k p.exchange) ≡ is_sent k peer.exchange
  unfolding fresh_of
  sent Authentication = told (λ p. is_sent Authentication p.exchange) refl
  sent Association = told (λ p. is_sent Association p.exchange) refl
  sent Reassociation = told (λ p. is_sent Reassociation p.exchange) refl

  -- a frame of a query: short of 28 octets; category 8; action 0, 1
  abbrev asks : Bool → Bool → Bool → Bool → Heard
  asks short eight none one =
      pick short heard.Other
      (pick eight
      (pick none (heard.QueryRequest (field 2 26 xs)) (pick one (heard.QueryResponse (field 2 26 xs)) heard.Other))
      heard.Other)

  query_bool : (g short eight none one : Bool) → (none ≡ true → one ≡ false)
      → (((not g && (not short && (eight && none))) && eqb peer.state 4) || (((not g && (not short && (eight && one))) && query_response_acts peer (field 2 26 xs)) || false))
      ≡ (acts_of s peer (asks short eight none one) && not (g && is_query (asks short eight none one)))
  query_bool true true eight none one h = refl
  query_bool true false false none one h = refl
  query_bool true false true true one h = sym (and_none (eqb peer.state 4))
  query_bool true false true false true h = sym (and_none (query_response_acts peer (field 2 26 xs)))
  query_bool true false true false false h = refl
  query_bool false true eight none one h = refl
  query_bool false false false none one h = refl
  query_bool false false true true true h = wrong (sym (h refl))
  query_bool false false true true false h = or_all (eqb peer.state 4)
  query_bool false false true false true h = or_all (query_response_acts peer (field 2 26 xs))
  query_bool false false true false false h = refl

  answers_same : (k : Kind) → ((sender_told t xs false (λ p. is_sent k p.exchange) && not (bad_aid xs)) || false) ≡ (response_acts peer k (field 2 26 xs) (field 2 28 xs % 16384) && not (group && false))
  unfolding response_acts
  answers_same k = rw (sent k) (trim (is_sent k peer.exchange && not (bad_aid xs)) group)

  named_same : some_of (λ b. b) (deeds s t xs) ≡ (acts_of s peer (heard_of xs) && not (group && is_query (heard_of xs)))
  unfolding some_of heard_of authentication_of response_of authentication_acts query_of query_response_acts fresh_of
  named_same = by_bool (eqb (type_of (field 1 0 xs)) 0)
      (λ m.
      by_bool (eqb (subtype_of (field 1 0 xs)) 0) (λ e. rw (m, eqb-true (subtype_of (field 1 0 xs)) 0 e) (trim (eqb s.role ap) group)) (λ e0.
      by_bool (eqb (subtype_of (field 1 0 xs)) 1) (λ e. rw (m, eqb-true (subtype_of (field 1 0 xs)) 1 e) (answers_same Association)) (λ e1.
      by_bool (eqb (subtype_of (field 1 0 xs)) 2) (λ e. rw (m, eqb-true (subtype_of (field 1 0 xs)) 2 e) (trim (eqb s.role ap) group)) (λ e2.
      by_bool (eqb (subtype_of (field 1 0 xs)) 3) (λ e. rw (m, eqb-true (subtype_of (field 1 0 xs)) 3 e) (answers_same Reassociation)) (λ e3.
      by_bool (eqb (subtype_of (field 1 0 xs)) 10) (λ e. rw (m, eqb-true (subtype_of (field 1 0 xs)) 10 e, told (λ p. leb 3 p.state) refl) (trim (leb 3 peer.state) group)) (λ e10.
      by_bool (eqb (subtype_of (field 1 0 xs)) 11)
      (λ e. rw (m, eqb-true (subtype_of (field 1 0 xs)) 11 e, sent Authentication)
      (asked_bool (eqb (field 2 26 xs) 1) (eqb (field 2 26 xs) 2) (eqb (field 2 24 xs) 0) (role_answers s.role) (is_sent Authentication peer.exchange) group
      (λ o. rw (eqb-true (field 2 26 xs) 1 o)))) (λ e11.
      by_bool (eqb (subtype_of (field 1 0 xs)) 12) (λ e. rw (m, eqb-true (subtype_of (field 1 0 xs)) 12 e, told (λ p. leb 2 p.state) refl) (trim (leb 2 peer.state) group)) (λ e12.
      by_bool (eqb (subtype_of (field 1 0 xs)) 13)
      (λ e. rw (m, eqb-true (subtype_of (field 1 0 xs)) 13 e, told (λ p. eqb p.state 4) refl, told (λ p. eqb p.state 4 && (is_running p.query && eqb (field 2 26 xs) p.identifier)) refl, leb_not 28 (length xs))
      (query_bool group (ltb (length xs) 28) (eqb (field 1 24 xs) 8) (eqb (field 1 25 xs) 0) (eqb (field 1 25 xs) 1) (λ o. rw (eqb-true (field 1 25 xs) 0 o)))) (λ e13.
      rw (m, e0, e1, e2, e3, e10, e11, e12, e13))))))))))
      (λ m. rw m)

  pub idle_same : unnamed s t xs ≡ idle_of s peer group (heard_of xs)
  unfolding idle_of
  idle_same = apply not named_same ∙ de_morgan (acts_of s peer (heard_of xs)) (group && is_query (heard_of xs))
