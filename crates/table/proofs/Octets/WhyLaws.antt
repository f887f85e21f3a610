-- What the calls that say why promise over octets, case by case: each refusal before a rule is looked at, and a table that is well formed.
-- Assumes nothing.
use mathlib.Core.Path.{◌≡◌, refl}
use mathlib.Core.Bool.{true, false, ◌&&◌}
use mathlib.Core.List.{List}
use Prim.Native.Nat.{ℕ, ◌<◌, ◌≤◌}
use borrow.Author.Tests.{le-ltb, lt-ltb}
use Rattle.octets.proofs.Branch.{by_bool, pick_both}
use Rattle.octets.specs.Answer.{value_written}
use Rattle.peer.specs.declared.settings.Settings.{Settings}
use Rattle.table.specs.Boundary.{settings_in}
use Rattle.table.specs.Fit.{well_formed}
use Rattle.table.specs.Lent.{room_of}
use Rattle.table.specs.Places.{addresses_of}
use Rattle.table.specs.Rows.{is_table, records_of}
use Rattle.table.specs.Why.{host_why, plain, reason_number, why_at, why_crossed, why_crossed_of, why_of}
use Rattle.table.specs.declared.rules.event.Event.{Event}
use Rattle.table.specs.declared.rules.why.Reason.TheVariants.{Refusal}
use Rattle.table.specs.declared.rules.why.Why.{Why}

module _ (xs : List ℕ) (s : Settings) (e : Event) (fs : List ℕ) (n : ℕ) where
  pub short_buffer : n < room_of e → plain (Refusal 1) ≡ host_why xs s e fs n
  unfolding host_why why_of
  short_buffer r = rw (lt-ltb n (room_of e) r) (pick_both (λ (w : Why). plain (Refusal 1) ≡ w) (is_table xs) refl refl)

  module _ (r : room_of e ≤ n) where
    -- what is no table, and one that is not well formed
    pub known_ill : (is_table xs && well_formed s (records_of xs)) ≡ false → plain (Refusal 2) ≡ host_why xs s e fs n
    unfolding host_why why_of
    known_ill w = by_bool (is_table xs) (λ i. rw (i, le-ltb n (room_of e) r, rw i at w)) (λ i. rw (i, le-ltb n (room_of e) r))

    pub known_well : is_table xs ≡ true → well_formed s (records_of xs) ≡ true → why_at s (records_of xs) (addresses_of (records_of xs)) e fs ≡ host_why xs s e fs n
    unfolding host_why why_of
    known_well i w = rw (i, w, le-ltb n (room_of e) r)

-- The reason's number given back, and its value written.
pub crosses_why : (xs ss : List ℕ) (e : Event) (fs : List ℕ) (n : ℕ) (k : List ℕ) (w : Why) → w ≡ host_why xs (settings_in ss) e fs n → why_crossed (reason_number w.reason) (value_written k w.value) ≡ why_crossed_of xs ss e fs n k
unfolding why_crossed_of
crosses_why xs ss e fs n k w h = rw h
