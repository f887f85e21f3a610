-- Demand 3 for a host's octets: its calls are the steps over records, and the order between peers does not matter to those.
-- Assumes nothing.
use Prim.Native.Nat.{ℕ, zero, suc, ◌≤◌}
use mathlib.Core.Path.{◌≡◌, refl, ap, sym, ◌∙◌}
use mathlib.Core.Bool.{true}
use mathlib.Core.List.{List, [], ◌∷◌}
use mathlib.Core.Option.{Option, none, some}
use lib.ListN.{length, get_elem?}
use borrow.Author.Tests.{le-ltb}
use Rattle.peer.specs.Settings.{role_answers}
use Rattle.peer.specs.declared.record.Record.{Record}
use Rattle.peer.specs.declared.settings.Settings.{Settings}
use Rattle.table.specs.Boundary.{answer_in, settings_in}
use Rattle.table.specs.Calls.{Call, Told, stepped, call_of, OrderFreeOctets}
use Rattle.table.specs.Order.{Gets, Handed, end, answers, happens}
use Rattle.table.specs.Places.{all_tails, all_of}
use Rattle.table.specs.Rows.{octets_of, records_of}
use Rattle.table.proofs.Octets.CallsInRow.{Keeps, Row, each_octet, in_row}
use Rattle.table.proofs.Octets.RowLaws.{length_records, octets_of_records}
use Rattle.table.proofs.Order.DemandThree.{demand_3}
use Rattle.table.proofs.Theorems.StepKeeps.{step_keeps_answering}

answering_well : (s : Settings) → role_answers s.role ≡ true → (xs : List ℕ) (c : Call) → Keeps s xs c
answering_well s role xs c w = step_keeps_answering s role (records_of xs) w (length_records 32 0 xs) c.event c.frame (length c.out)

all_true : {E : Type 0} (l : List E) → all_of (λ (e : E). true) l ≡ true
unfolding all_tails
all_true [] = refl
all_true (e ∷ l) = all_true l

-- A call with room for its answer is its event's step, with the answer written into that room.
module _ (ss : List ℕ) (room : Handed → List ℕ) (roomy : (e : Handed) → 24 ≤ length (room e)) where
  abbrev s : Settings
  s = settings_in ss

  told_of : Handed → Gets → Told
  told_of e g = record { result = g.answer.refusal; answer = answer_in g.answer (room e); bytes = g.bytes }

  abbrev step : List Record → Handed → List Record × Told
  step t e = stepped ss t (call_of room e)

  step_is : (t : List Record) (e : Handed) → step t e ≡ ((happens s t e).0, told_of e (happens s t e).1)
  unfolding happens stepped told_of
  step_is t e = rw (le-ltb (length (room e)) 24 (roomy e))

  end_is : (l : List Handed) (t : List Record) → end step t l ≡ end (happens s) t l
  end_is [] t = refl
  end_is (e ∷ l) t = rw (step_is t e) (end_is l (happens s t e).0)

  both_of : Option Handed → Option Gets → Option Told
  both_of (some e) (some g) = some (told_of e g)
  both_of (some e) none = none
  both_of none g = none

  gets_is : (l : List Handed) (t : List Record) (k : ℕ) → get_elem? (answers step t l) k ≡ both_of (get_elem? l k) (get_elem? (answers (happens s) t l) k)
  unfolding both_of
  gets_is [] t k = refl
  gets_is (e ∷ l) t zero = rw (step_is t e)
  gets_is (e ∷ l) t (suc k) = rw (step_is t e) (gets_is l (happens s t e).0 k)

-- Demand 3 for a host's octets: "the end table is the same place for place, and every event gets the same answer and the same bytes".
pub demand_3_octets : (ss : List ℕ) → OrderFreeOctets ss
demand_3_octets ss xs room l₁ l₂ to from role o h w roomy named moved =
    let s = settings_in ss in
    let row : (l : List Handed) → Row ss (call_of room) xs l = λ l. in_row ss (call_of room) (λ e. true) (λ ys e t. answering_well s role ys (call_of room e)) l xs h (octets_of_records xs (each_octet xs o) h) (all_true l) in
    let same = demand_3 s (records_of xs) l₁ l₂ to from role (w, length_records 32 0 xs) named moved in
    record {
      table = (row l₂).octets ∙ ap octets_of (end_is ss room roomy l₂ (records_of xs) ∙ same.table ∙ sym (end_is ss room roomy l₁ (records_of xs))) ∙ sym (row l₁).octets;
      answer = λ k r. rw ((row l₂).gets, (row l₁).gets, gets_is ss room roomy l₂ (records_of xs) (to k), gets_is ss room roomy l₁ (records_of xs) k, moved.same_event k r, same.answer k r);
    }
