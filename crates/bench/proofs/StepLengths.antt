-- An event leaves as many records as there were, and as many octets in the scratch.
-- Assumes nothing.
use Prim.Native.Nat.{ℕ}
use mathlib.Core.Path.{◌≡◌, refl, ◌∙◌}
use mathlib.Core.Bool.{Bool, not}
use mathlib.Core.List.{List, map}
use lib.Dec.{eqb, ltb}
use lib.ListN.{length, length-map, length-set}
use Rattle.octets.proofs.Branch.{pick_both}
use Rattle.octets.specs.Frame.{longest}
use Rattle.octets.specs.Pick.{pick}
use Rattle.octets.specs.Sort.{class_by}
use Rattle.peer.specs.Ask.{ask_of}
use Rattle.peer.specs.Association.{parted_of}
use Rattle.peer.specs.Authentication.{full_of}
use Rattle.peer.specs.Hear.{hear_of}
use Rattle.peer.specs.Record.{spoken_at}
use Rattle.peer.specs.Settings.{role_associates}
use Rattle.peer.specs.Turn.{linking_of, towards_of}
use Rattle.peer.specs.declared.record.Record.{Record}
use Rattle.peer.specs.declared.settings.Settings.{Settings}
use Rattle.peer.specs.declared.turn.Turn.{Turn}
use Rattle.table.proofs.Theorems.WrittenCount.{written_count}
use Rattle.table.specs.Answer.{refused_of, settled_of, stepped_of}
use Rattle.table.specs.Ask.{asked_at, asked_of}
use Rattle.table.specs.Fit.{well_formed}
use Rattle.table.specs.Link.{device_in, linked_at, linked_of, links_in}
use Rattle.table.specs.Others.{others_of}
use Rattle.table.specs.Pass.{after_of, clocked_of, pass_refusals, passed_of}
use Rattle.table.specs.Places.{addresses_of, find_of, seek_of}
use Rattle.table.specs.Read.{read_of}
use Rattle.table.specs.Receive.{heard_at, heard_from, received_of}
use Rattle.table.specs.Refusals.{first_of, unless}
use Rattle.table.specs.Seat.{aid_of, newcomer_of, peer_of, seated_of, starts_of, stored_in, stranger_of, turn_in}
use Rattle.table.specs.Step.{step_of, step_in}
use Rattle.table.specs.declared.rules.answer.Met.{Met}
use Rattle.table.specs.declared.rules.answer.Stepped.{Stepped}
use Rattle.table.specs.declared.rules.event.Event.{Event}
use Rattle.table.specs.declared.rules.event.Event.TheVariants as event
use Rattle.table.specs.declared.rules.read.Reading.{Reading}
use Rattle.table.specs.declared.rules.read.Reading.TheVariants.{Refused, Discarded, Admitted, From}
use Rattle.std.specs.Prelude.{Option, Some, None}
use Rattle.bench.specs.Play.{zeros}

module _ (t : List Record) where
  abbrev Same : Met → Type 0
  Same m = length m.table ≡ length t

  stored_same : (sole : Bool) (i : ℕ) (p : Record) → length (stored_in t sole i p) ≡ length t
  stored_same sole i p =
      length-set (pick sole (map parted_of t) t) i p ∙ pick_both (λ (u : List Record). length u ≡ length t) sole (length-map t parted_of) refl

  refused_same : (n : ℕ) → Same (refused_of t n)
  unfolding refused_of settled_of
  refused_same n = refl

  seated_same : (i : ℕ) (turn : Turn) → Same (seated_of t i turn)
  unfolding seated_of
  seated_same i turn = stored_same turn.sole i turn.peer

  stranger_same : (turn : Turn) → Same (stranger_of t turn)
  unfolding stranger_of
  stranger_same turn = refl

  newcomer_same : (free : Option ℕ) (turn full : Turn) → Same (newcomer_of t free turn full)
  unfolding newcomer_of
  newcomer_same None turn full = pick_both Same (starts_of turn) (stranger_same full) (stranger_same turn)
  newcomer_same (Some i) turn full = pick_both Same (starts_of turn) (seated_same i turn) (stranger_same turn)

  turn_same : (at free : Option ℕ) (turn full : Turn) → Same (turn_in t at free turn full)
  turn_same None free turn full = newcomer_same free turn full
  turn_same (Some i) free turn full = seated_same i turn

  unless_same : (n : ℕ) (m : Met) → Same m → Same (unless n t m)
  unfolding unless
  unless_same n m h = pick_both Same (eqb n 0) h (refused_same n)

  module _ (s : Settings) where
    heard_same : (r : Reading) → Same (heard_at s t (addresses_of t) r)
    unfolding heard_from settled_of
    heard_same (Refused n) = refused_same n
    heard_same Discarded = refl
    heard_same Admitted = refl
    heard_same (From peer group k h) =
        let at = seek_of t (addresses_of t) peer in
        let p = peer_of t at peer in
        turn_same at (find_of (addresses_of t) 0) (towards_of peer (hear_of s p (class_by k) group h)) (towards_of peer (full_of s p))

    received_same : (xs : List ℕ) (n : ℕ) → Same (received_of s t xs n)
    unfolding received_of
    received_same xs n =
        pick_both Same (ltb n longest) (refused_same 1)
        (pick_both Same (not (well_formed s t)) (refused_same 2) (heard_same (read_of s.own (role_associates s.role) xs)))

    asked_same : (q a c n : ℕ) → Same (asked_of s t q a c n)
    unfolding asked_of asked_at
    asked_same q a c n =
        let at = find_of (addresses_of t) a in
        let p = peer_of t at a in
        let turn = towards_of (spoken_at p) (ask_of s (aid_of at) p (others_of s t) q c) in
        unless_same _ _ (unless_same _ _ (turn_same at (find_of (addresses_of t) 0) turn turn))

    linked_same : (xs : List ℕ) (n : ℕ) → Same (linked_of s t xs n)
    unfolding linked_of linked_at
    linked_same xs n =
        let at = find_of (addresses_of t) (device_in xs) in
        let turn = linking_of s (peer_of t at (device_in xs)) (links_in xs) in
        unless_same _ _ (unless_same _ _ (turn_same at (find_of (addresses_of t) 0) turn turn))

    passed_same : (d n : ℕ) → length (passed_of s t d n).table ≡ length t
    unfolding passed_of clocked_of
    passed_same d n =
        pick_both (λ (r : Stepped). length r.table ≡ length t) (eqb (first_of (pass_refusals s t d n)) 0) (length-map t (after_of s d)) refl

    pub step_same : (e : Event) (xs : List ℕ) (n : ℕ) → length (step_of s t e xs n).table ≡ length t
    unfolding stepped_of
    step_same event.Frame xs n = received_same xs n
    step_same (event.Ask q a c) xs n = asked_same q a c n
    step_same event.Links xs n = linked_same xs n
    step_same (event.Clock d) xs n = passed_same d n

pub scratch_same : (s : Settings) (t : List Record) → length t ≡ 32 → (e : Event) (xs : List ℕ) → length (step_in s t e xs zeros) ≡ 256
scratch_same s t h e xs = (written_count s t e xs zeros h).same
