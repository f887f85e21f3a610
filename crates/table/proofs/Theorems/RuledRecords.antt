-- An event by the rules alone (specs/Ruled.antt) over records: what a call that plays so owes at each of its returns. Over records lent it is
-- the step where settings and table are well formed: `ruled_lent_is_step`.
-- Assumes nothing.
use Prim.Native.Nat.{ℕ, ◌<◌, ◌≤◌}
use mathlib.Core.Path.{◌≡◌, refl}
use mathlib.Core.Bool.{true, false}
use mathlib.Core.List.{List}
use lib.ListN.{length}
use borrow.Author.Tests.{le-ltb, lt-ltb}
use Rattle.peer.specs.declared.record.Record.{Record}
use Rattle.peer.specs.declared.settings.Settings.{Settings}
use Rattle.table.specs.Answer.{refusal_answer, said_in, stepped_of}
use Rattle.table.specs.Fit.{well_formed}
use Rattle.table.specs.Lent.{lent_answer, lent_in, lent_table, room_of}
use Rattle.table.specs.Ruled.{change_of, ruled_in, ruled_lent_answer, ruled_lent_in, ruled_lent_table, ruled_of, ticked_in, ticked_of, ticking, tu_of}
use Rattle.table.specs.declared.rules.answer.Stepped.{Stepped}
use Rattle.table.specs.declared.rules.event.Event.{Event}
use Rattle.table.proofs.Octets.RuledLaws.{roomy_change, roomy_reports, roomy_said, roomy_tick, ruled_in_step, ruled_is_step}

module _ (s : Settings) (t : List Record) (e : Event) (fs l : List ℕ) where
  -- table and answer, and a buffer, that are those of the rules
  abbrev pub Rules : Stepped → List ℕ → Type 0
  Rules r k = (r ≡ ruled_of s t e fs (length l)) × (k ≡ ruled_in s t e fs l)

  pub rules_short : length l < room_of e → Rules (record { table = t; answer = refusal_answer 1 }) l
  unfolding ruled_of ruled_in
  rules_short r = rw (lt-ltb (length l) (room_of e) r) (refl, refl)

  module _ (r : room_of e ≤ length l) where
    pub rules_change : ticking e ≡ false → Rules (stepped_of (change_of s t e fs) (length l)) (said_in (change_of s t e fs).reply l)
    unfolding ruled_of ruled_in
    rules_change z = rw (le-ltb (length l) (room_of e) r, roomy_change s t e fs (length l) z, roomy_said s t e fs l z) (refl, refl)

    pub rules_tick : ticking e ≡ true → Rules (ticked_of s t (tu_of e)) (ticked_in s t (tu_of e) l)
    unfolding ruled_of ruled_in
    rules_tick z = rw (le-ltb (length l) (room_of e) r, roomy_tick s t e fs (length l) z, roomy_reports s t e fs l z) (refl, refl)

-- ---- the law

pub ruled_lent_is_step : (s : Settings) (t : List Record) → well_formed s t ≡ true → (e : Event) (xs l : List ℕ)
    → (ruled_lent_answer t s e xs l ≡ lent_answer t s e xs l) × (ruled_lent_table t s e xs l ≡ lent_table t s e xs l) × (ruled_lent_in t s e xs l ≡ lent_in t s e xs l)
ruled_lent_is_step s t w e xs l = rw (ruled_is_step s t w e xs (length l), ruled_in_step s t w e xs l) (refl, refl, refl)
