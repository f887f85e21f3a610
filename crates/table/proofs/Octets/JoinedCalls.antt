-- 02, K9 for a host's octets: its calls are the steps over records, and class 3 passes after joining alone in those.
-- Assumes nothing.
use Prim.Native.Nat.{ℕ}
use native.Mathlib.Omega.{arith}
use mathlib.Core.Path.{◌≡◌, refl, ap, subst, sym, ◌∙◌}
use mathlib.Core.Bool.{true, false}
use mathlib.Core.List.{List, [], ◌∷◌, map}
use lib.Dec.{ltb}
use lib.ListN.{length}
use borrow.Author.Tests.{ltb-false}
use Rattle.octets.proofs.AnswerTrip.{answer_back}
use Rattle.octets.proofs.Branch.{by_bool}
use Rattle.octets.specs.Links.{links_at}
use Rattle.octets.specs.Row.{row_at}
use Rattle.peer.proofs.Fits.{both}
use Rattle.peer.specs.Query.{query_of}
use Rattle.peer.specs.Record.{exchange_of}
use Rattle.peer.specs.Turn.{admit}
use Rattle.peer.specs.declared.record.Record.{Record}
use Rattle.peer.specs.declared.settings.Settings.{Settings}
use Rattle.table.specs.Answer.{refused_of, settled_of, stepped_of}
use Rattle.table.specs.Ask.{asked_of}
use Rattle.table.specs.Boundary.{crossed_of, settings_in}
use Rattle.table.specs.Calls.{Call, called, framed, stepped}
use Rattle.table.specs.Host.{host_answer}
use Rattle.table.specs.History.{Happening, empty_table, left_by, run_from}
use Rattle.table.specs.Joined.{Joined, of_octets, sender_in}
use Rattle.table.specs.JoinedOctets.{ClassThreeOctets, after_calls, empty_octets, happening_of, verdict_in}
use Rattle.table.specs.Link.{linked_of}
use Rattle.table.specs.Order.{end}
use Rattle.table.specs.Pass.{passed_of}
use Rattle.table.specs.Places.{all_of, all_tails}
use Rattle.table.specs.Receive.{received_of}
use Rattle.table.specs.Refusals.{first_of, unless}
use Rattle.table.specs.Rows.{is_table, numbered_at, query_numbered, record_of, records_at, records_of, row_numbered}
use Rattle.table.specs.Step.{step_of}
use Rattle.table.specs.declared.rules.event.Event.{Event}
use Rattle.table.specs.declared.rules.event.Event.TheVariants as event
use Rattle.table.proofs.Joining.ClassThree.{class_3_after_joining}
use Rattle.table.proofs.Octets.CallsInRow.{calls_in_a_row}

-- without a buffer nothing happens
nothing_happens : (s : Settings) (t : List Record) (e : Event) (xs : List ℕ) → (step_of s t e xs 0).table ≡ t
unfolding stepped_of received_of asked_of linked_of passed_of unless first_of refused_of settled_of
nothing_happens s t event.Frame xs = refl
nothing_happens s t (event.Ask q a c) xs = refl
nothing_happens s t event.Links xs = refl
nothing_happens s t (event.Clock d) xs = refl

-- calls in a row leave the records that their history leaves
left_by_lem : (ss : List ℕ) (l : List Call) (t : List Record) → end (stepped ss) t l ≡ left_by (settings_in ss) t (map happening_of l)
unfolding stepped
left_by_lem ss [] t = refl
left_by_lem ss (c ∷ l) t = by_bool (ltb (length c.room) 24)
    (λ e. rw (e, nothing_happens (settings_in ss) t c.event c.frame) (left_by_lem ss l t))
    (λ e. rw e (left_by_lem ss l (step_of (settings_in ss) t c.event c.frame (length c.out)).table))

all_octets_lem : (l : List Call) → all_of framed l ≡ true → all_of of_octets (map happening_of l) ≡ true
unfolding all_tails
all_octets_lem [] h = refl
all_octets_lem (c ∷ l) h = let k = both (framed c) _ h in rw k.0 (all_octets_lem l k.1)

empty_table_lem : (is_table empty_octets ≡ true) × (records_of empty_octets ≡ empty_table)
unfolding is_table numbered_at row_numbered query_numbered row_at records_at record_of exchange_of query_of links_at
empty_table_lem = (refl, refl)

-- a call with room for its answer is a step of the table's records: its result is the refusal, and its answer's octets have the verdict
pub call_given :
    (ss xs : List ℕ) (c : Call) → is_table xs ≡ true → c.event ≡ event.Frame → ltb (length c.room) 24 ≡ false
    → ((called ss xs c).1.result ≡ (step_of (settings_in ss) (records_of xs) event.Frame c.frame (length c.out)).answer.refusal)
    × (verdict_in (called ss xs c).1 ≡ (step_of (settings_in ss) (records_of xs) event.Frame c.frame (length c.out)).answer.verdict)
unfolding called crossed_of host_answer
call_given ss xs c h frame k =
    let a = (step_of (settings_in ss) (records_of xs) event.Frame c.frame (length c.out)).answer in (
      rw (k, h, frame),
      rw (k, h, frame) (answer_back a.current a.code a.written a.refusal a.verdict a.notice a.ds a.state c.room (ltb-false _ _ k)).verdict,
    )

-- so it is with the last call, which had room, as it is not refused
last_call :
    (ss xs : List ℕ) (c : Call) → is_table xs ≡ true → c.event ≡ event.Frame → (called ss xs c).1.result ≡ 0
    → ((step_of (settings_in ss) (records_of xs) event.Frame c.frame (length c.out)).answer.refusal ≡ 0)
    × (verdict_in (called ss xs c).1 ≡ (step_of (settings_in ss) (records_of xs) event.Frame c.frame (length c.out)).answer.verdict)
unfolding called crossed_of
last_call ss xs c h frame z = by_bool (ltb (length c.room) 24)
    (λ k. let one : ◌≡◌ {A = ℕ} 1 0 = rw k at z in absurd (omega arith))
    (λ k. let g = call_given ss xs c h frame k in (sym g.0 ∙ z, g.1))

-- the octets left by calls in a row are a table, and its records are those that the history leaves
pub calls_leave :
    (ss : List ℕ) (l : List Call) → all_of framed l ≡ true
    → (is_table (after_calls ss l) ≡ true) × (records_of (after_calls ss l) ≡ left_by (settings_in ss) empty_table (map happening_of l))
calls_leave ss l f =
    let row = calls_in_a_row ss empty_octets l empty_table_lem.0 refl f in
    (row.table, row.records ∙ ap (λ (t : List Record). end (stepped ss) t l) empty_table_lem.1 ∙ left_by_lem ss l empty_table)

-- K9 for a host's octets.
pub class_3_octets : (ss : List ℕ) → ClassThreeOctets ss
class_3_octets ss l f role c frame three z =
    let s = settings_in ss in
    let history = map happening_of l in
    let left = calls_leave ss l f in
    let last = last_call ss (after_calls ss l) c left.0 frame z in
    let law = subst (Law s history) (sym left.1) (class_3_after_joining s history (all_octets_lem l f) role c.frame (length c.out) three) last.0 in
    (λ a. law.0 (sym last.1 ∙ a), λ j. last.1 ∙ law.1 j)
  where
    Law : Settings → List Happening → List Record → Type 0
    Law s history t =
        (step_of s t event.Frame c.frame (length c.out)).answer.refusal ≡ 0
        → ((step_of s t event.Frame c.frame (length c.out)).answer.verdict ≡ admit → Joined s (sender_in t c.frame) (run_from s empty_table history))
        × (Joined s (sender_in t c.frame) (run_from s empty_table history) → (step_of s t event.Frame c.frame (length c.out)).answer.verdict ≡ admit)
