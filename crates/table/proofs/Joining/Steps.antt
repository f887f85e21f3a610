-- One event of a run, for K9: the device d is in State 2 or above after it exactly if the event is an accepted authentication of d, or it was before
-- and the event is no deauthentication; and in State 3 or above exactly if it is an accepted association, or it was before and it is no teardown.
-- Assumes nothing.
use Prim.Native.Nat.{ℕ}
use mathlib.Core.Path.{◌≡◌}
use mathlib.Core.Bool.{Bool, true, false, not, ◌&&◌, ◌||◌}
use mathlib.Core.List.{List}
use lib.Dec.{eqb}
use Rattle.octets.proofs.Branch.{and_right, by_bool}
use Rattle.peer.specs.declared.record.Record.{Record}
use Rattle.peer.specs.declared.settings.Settings.{Settings}
use Rattle.table.specs.History.{Moment, given}
use Rattle.table.specs.Joined.{counts, is_association, is_authentication, is_deauthentication, is_disassociation, is_move, is_rejection, is_teardown, is_timeout, deauthenticates, disassociates, does, times_out_in, moves_from, accepted_by, acknowledges, granted_by, grants, rejected_by, rejects, says_deauthentication, says_disassociation, exchange_with}
use Rattle.table.proofs.Joining.Lines.{gone, kept}
use Rattle.table.proofs.Joining.Records.{Moves, over}

pub record Steps (s : Settings) (d : ℕ) (m : Moment) : Type 0 where
  pub two : over 2 (given s m).table d ≡ (is_authentication s d m || (over 2 m.table d && not (is_deauthentication s d m)))
  pub three : over 3 (given s m).table d ≡ (is_association s d m || (over 3 m.table d && not (is_teardown s d m)))
  -- and an association is accepted of one that was in State 2 or above
  pub stands : is_association s d m ≡ true → over 2 m.table d ≡ true

-- the same, with what the event would be if it counts, which b says
pub record Law (b : Bool) (t u : List Record) (d : ℕ) (G X J Y : Bool) : Type 0 where
  pub two : over 2 u d ≡ ((b && G) || (over 2 t d && not (b && X)))
  pub three : over 3 u d ≡ ((b && J) || (over 3 t d && not (b && Y)))

-- a teardown, of an event that counts
abbrev pub torn_by : Settings → ℕ → Moment → Bool
torn_by s d m =
    does d says_deauthentication deauthenticates m m.event
    || (does d says_disassociation disassociates m m.event
    || (does d (rejected_by (exchange_with m.table d)) (rejects s (exchange_with m.table d)) m m.event
    || (times_out_in d m m.event
    || moves_from d m m.event)))

torn : (s : Settings) (d : ℕ) (m : Moment) → is_teardown s d m ≡ (counts s m && torn_by s d m)
unfolding is_teardown is_deauthentication is_disassociation is_rejection is_timeout is_move
torn s d m = by_bool (counts s m) (λ e. rw e) (λ e. rw e)

pub steps_of :
    (s : Settings) (d : ℕ) (m : Moment)
    → Law (counts s m) m.table (given s m).table d
    (does d (granted_by (exchange_with m.table d)) (grants (exchange_with m.table d)) m m.event)
    (does d says_deauthentication deauthenticates m m.event)
    (does d (accepted_by (exchange_with m.table d)) (acknowledges (exchange_with m.table d)) m m.event)
    (torn_by s d m)
    → (does d (accepted_by (exchange_with m.table d)) (acknowledges (exchange_with m.table d)) m m.event ≡ true → over 2 m.table d ≡ true)
    → Steps s d m
unfolding is_authentication is_deauthentication is_association
steps_of s d m k up =
    record { two = k.two; three = rw (torn s d m) k.three; stands = λ e. up (and_right (counts s m) _ e) }

-- nothing changes, and it does not count
pub law_still : {b : Bool} {t u : List Record} (d : ℕ) (G X J Y : Bool) → b ≡ false → u ≡ t → Law b t u d G X J Y
law_still {b} {t} {u} d G X J Y e same = rw (e, same) (record { two = kept (over 2 t d); three = kept (over 3 t d) })

-- nothing changes, and it is nothing of the kind
pub law_none : {b : Bool} {t : List Record} (d : ℕ) (G X J Y : Bool) → G ≡ false → X ≡ false → J ≡ false → Y ≡ false → Law b t t d G X J Y
law_none {b} {t} d G X J Y g x j y = record { two = rw (g, x, ← gone b) (kept (over 2 t d)); three = rw (j, y, ← gone b) (kept (over 3 t d)) }

-- from the turn of the device D: what it says counts where the turn does
pub law_moves :
    {b : Bool} {t u : List Record} (D d : ℕ) (g x j y : Bool) (G X J Y sole : Bool) → Moves t u D d (b && g) (b && x) (b && j) (b && y) sole
    → (eqb D d ≡ true → (G ≡ g) × (X ≡ x) × (J ≡ j) × (Y ≡ y)) → (eqb D d ≡ false → (G ≡ false) × (X ≡ false) × (J ≡ false) × ((b && Y) ≡ sole))
    → Law b t u d G X J Y
law_moves {b} {t} {u} D d g x j y G X J Y sole k same other = by_bool (eqb D d)
    (λ e. let q = same e in record { two = rw (q.0, q.1) (rw e at k.two); three = rw (q.2, q.3) (rw e at k.three) })
    (λ e. let q = other e in record { two = rw (q.0, q.1, ← gone b) (rw e at k.two); three = rw (q.2, ← gone b, q.3) (rw e at k.three) })
