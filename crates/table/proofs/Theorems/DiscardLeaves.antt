-- 01, A received frame: a frame that is discarded changes no record, and neither does a CTS or an ACK.
-- Assumes nothing.
use Prim.Native.Nat.{ℕ}
use mathlib.Core.Path.{◌≡◌, refl}
use mathlib.Core.Bool.{Bool, true, false, not}
use mathlib.Core.List.{List}
use lib.Dec.{ltb}
use lib.ListN.{get_or}
use lib.Seq.{set-get_or}
use Rattle.octets.specs.Links.{no_links}
use Rattle.octets.specs.Pick.{pick}
use Rattle.octets.specs.Frame.{longest}
use Rattle.octets.proofs.Branch.{pick_both}
use Rattle.octets.specs.Sort.{class_by}
use Rattle.octets.specs.declared.class.FrameClass.{FrameClass}
use Rattle.octets.specs.declared.heard.Heard.{Heard}
use Rattle.peer.specs.Record.{fresh_of, free_of}
use Rattle.peer.specs.Authentication.{full_of}
use Rattle.peer.specs.Hear.{hear_of}
use Rattle.peer.proofs.Fits.{clash}
use Rattle.peer.proofs.LawsOfUse.{discard_turn}
use Rattle.peer.specs.Turn.{towards_of}
use Rattle.peer.specs.Settings.{role_associates}
use Rattle.peer.specs.declared.settings.Settings.{Settings}
use Rattle.peer.specs.declared.record.Record.{Record}
use Rattle.peer.specs.declared.turn.Turn.{Turn}
use Rattle.table.specs.Places.{on_found, find_of, addresses_of, seek_of}
use Rattle.table.specs.Fit.{well_formed}
use Rattle.table.specs.Answer.{settled_of, refused_of}
use Rattle.table.specs.Seat.{peer_of, seated_of, stranger_of, starts_of, newcomer_of, turn_in}
use Rattle.table.specs.Read.{read_of}
use Rattle.table.specs.Receive.{heard_from, heard_at, received_of}
use Rattle.std.specs.Prelude.{Option, Some, None}
use Rattle.table.specs.declared.rules.read.Reading.{Reading}
use Rattle.table.specs.declared.rules.read.Reading.TheVariants.{Refused, Discarded, Admitted, From}
use Rattle.table.specs.declared.rules.answer.Met.{Met}

Leaves : List Record → Met → Type 0
Leaves t m = m.answer.verdict ≡ 2 → m.table ≡ t

module _ (s : Settings) (t : List Record) (k : FrameClass) (g : Bool) (h : Heard) where
  abbrev turn : ℕ → Record → Turn
  turn a p = towards_of a (hear_of s p k g h)

  seated_leaves : (a i : ℕ) → Leaves t (seated_of t i (turn a (get_or t i free_of)))
  unfolding Leaves seated_of towards_of
  seated_leaves a i v =
      let d = discard_turn s (get_or t i free_of) k g h v in
      rw (d.1, d.0) (set-get_or t i free_of)

  newcomer_leaves : (free : Option ℕ) (a : ℕ) → Leaves t (newcomer_of t free (turn a (fresh_of a)) (towards_of a (full_of s (fresh_of a))))
  unfolding Leaves newcomer_of stranger_of starts_of seated_of fresh_of towards_of no_links
  newcomer_leaves free a = either (starts_of (turn a (fresh_of a))) refl free
    where
      quiet : (hear_of s (fresh_of a) k g h).verdict ≡ 2 → starts_of (turn a (fresh_of a)) ≡ false
      quiet v = rw (discard_turn s (fresh_of a) k g h v).0

      either : (b : Bool) → starts_of (turn a (fresh_of a)) ≡ b → (f : Option ℕ) → Leaves t (pick b (on_found f (stranger_of t (towards_of a (full_of s (fresh_of a)))) (λ i. seated_of t i (turn a (fresh_of a)))) (stranger_of t (turn a (fresh_of a))))
      either true e None v = refl
      either true e (Some i) v = clash e (quiet v)
      either false e f v = refl

  from_leaves : (a : ℕ) → Leaves t (heard_from s t (addresses_of t) a g k h)
  unfolding heard_from
  from_leaves a = found (seek_of t (addresses_of t) a)
    where
      found : (at : Option ℕ) → Leaves t (turn_in t at (find_of (addresses_of t) 0) (turn a (peer_of t at a)) (towards_of a (full_of s (peer_of t at a))))
      found None = newcomer_leaves (find_of (addresses_of t) 0) a
      found (Some i) = seated_leaves a i

read_leaves : (s : Settings) (t : List Record) (r : Reading) → Leaves t (heard_at s t (addresses_of t) r)
unfolding Leaves refused_of settled_of
read_leaves s t (Refused n) v = refl
read_leaves s t Discarded v = refl
read_leaves s t Admitted v = refl
read_leaves s t (From a g k h) v = from_leaves s t (class_by k) g h a v

-- "discard": whatever the frame, the table and the buffer, where the verdict is discard the table is the one that came in.
pub discard_leaves : (s : Settings) (t : List Record) (xs : List ℕ) (n : ℕ) → (received_of s t xs n).answer.verdict ≡ 2 → (received_of s t xs n).table ≡ t
unfolding Leaves received_of refused_of settled_of
discard_leaves s t xs n =
    pick_both (Leaves t) (ltb n longest) (λ v. refl)
    (pick_both (Leaves t) (not (well_formed s t)) (λ v. refl) (read_leaves s t (read_of s.own (role_associates s.role) xs)))

-- "CTS and ACK: admit, done, no peer": a frame without Address 2 leaves the table.
pub bare_leaves : (s : Settings) (t : List Record) (xs : List ℕ) (n : ℕ) → read_of s.own (role_associates s.role) xs ≡ Admitted → (received_of s t xs n).table ≡ t
unfolding received_of refused_of settled_of
bare_leaves s t xs n e = tables (ltb n longest) (not (well_formed s t))
  where
    tables : (b d : Bool) → (pick b (refused_of t 1) (pick d (refused_of t 2) (heard_at s t (addresses_of t) (read_of s.own (role_associates s.role) xs)))).table ≡ t
    tables true d = refl
    tables false true = refl
    tables false false = rw e
