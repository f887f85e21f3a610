-- 02, K6, "One long step or two short": "Battery modules report a whole sleep as one clock step." What clock steps leave, what they report together, and
-- that a sleep may be told in one step or in several. proofs/Theorems/Sorted.antt proves `sorts`, proofs/Theorems/Sleep.antt `one_or_two`,
-- `one_or_many`, `same_sum` and `sleep_taken`, proofs/Octets/SleepOctets.antt the same over a host's octets, proofs/Theorems/MarkedComeback.antt
-- `comeback_told`.
-- Assumes nothing.
use Rattle.std.specs.Prelude.{ℕ, zero, suc, ◌+◌, ◌/◌, ◌≡◌, Bool, true, false, ◌&&◌, eqb, leb, drop, get_or, length, take}
use mathlib.Core.List.{List, [], ◌∷◌, ◌++◌, Perm, flatten, map}
use Rattle.octets.specs.Field.{all_octets}
use Rattle.octets.specs.Pick.{pick}
use Rattle.peer.specs.Query.{query_retried}
use Rattle.peer.specs.Settings.{time_fits}
use Rattle.peer.specs.declared.record.Record.{Record}
use Rattle.peer.specs.declared.settings.Settings.{Settings}
use Rattle.table.specs.Boundary.{settings_in}
use Rattle.table.specs.Calls.{Call, Told, called, written_in}
use Rattle.table.specs.Case.{line_comes_out, table_of}
use Rattle.table.specs.Fit.{well_formed}
use Rattle.table.specs.Marked.{as_station, asks, associate_sent, peer_in, refused, them}
use Rattle.table.specs.Order.{Gets, Whole, answers, end}
use Rattle.table.specs.Places.{all_of, all_tails, some_of}
use Rattle.table.specs.Rows.{is_table, records_of}
use Rattle.table.specs.Step.{step_in, step_of}
use Rattle.peer.specs.declared.exchange.Exchange.TheVariants as exchange
use Rattle.table.specs.declared.rules.event.Event.TheVariants as event

-- ---- Reports, sorted by place

-- 01: "8 bytes: place, kind .., address". The first n reports in a buffer, each as its octets; the place of one.
unfoldable pub reports_in : ℕ → List ℕ → List (List ℕ)
reports_in zero l = []
reports_in (suc n) l = take 8 l ∷ reports_in n (drop 8 l)

abbrev pub place_in : List ℕ → ℕ
place_in r = get_or r 0 0

-- "once sorted by place": each is put before the first whose place is not lower, so that reports of one place stay in their order.
unfoldable pub insert_of : List ℕ → List (List ℕ) → List (List ℕ)
insert_of r [] = r ∷ []
insert_of r (q ∷ qs) = pick (leb (place_in r) (place_in q)) (r ∷ q ∷ qs) (q ∷ insert_of r qs)

unfoldable pub sorted_of : List (List ℕ) → List (List ℕ)
sorted_of [] = []
sorted_of (r ∷ rs) = insert_of r (sorted_of rs)

-- The reports of one place, in their order.
unfoldable pub of_place : ℕ → List (List ℕ) → List (List ℕ)
of_place i [] = []
of_place i (r ∷ rs) = pick (eqb (place_in r) i) (r ∷ of_place i rs) (of_place i rs)

-- What it is to sort rs: the same reports, in rising place, and those of one place in the order that they had.
pub record Sorts (rs sorted : List (List ℕ)) : Type 0 where
  pub same : Perm sorted rs
  pub rising : all_tails (λ r later. all_of (λ q. leb (place_in r) (place_in q)) later) sorted ≡ true
  pub stable : (i : ℕ) → of_place i sorted ≡ of_place i rs

-- ---- A sleep in several steps

-- A clock step of so many TU, and the buffer that is lent to it.
pub record Lapse : Type 0 where
  pub tu : ℕ
  pub out : List ℕ

-- "1 to 65,535 TU"; "256 bytes lent to each", or more
unfoldable pub lapse_fits : Lapse → Bool
lapse_fits l = time_fits l.tu && leb 256 (length l.out)

-- The step that the code is proved equal to: the table that it leaves, its answer and its buffer.
abbrev pub lapsed : Settings → List Record → Lapse → List Record × Gets
lapsed s t l = (
  (step_of s t (event.Clock l.tu) [] (length l.out)).table,
  record {
    answer = (step_of s t (event.Clock l.tu) [] (length l.out)).answer;
    bytes = step_in s t (event.Clock l.tu) [] l.out;
  },
)

-- Its reports: so many as the number written says, from the buffer's front on.
abbrev pub reports_got : Gets → List (List ℕ)
reports_got g = reports_in (g.answer.written / 8) g.bytes

-- TU in all.
unfoldable pub sum_of : {E : Type 0} → (E → ℕ) → List E → ℕ
sum_of tu [] = 0
sum_of tu (e ∷ es) = tu e + sum_of tu es

-- Several steps, of any rules: what each reports, one after the other. R is a record of the table or an octet of it, E a step, A what it gets.
module _ {R E A : Type 0} (step : List R → E → List R × A) (reports : A → List (List ℕ)) where
  unfoldable pub together : List R → List E → List (List ℕ)
  together t es = flatten (map reports (answers step t es))

  -- "leave the same table as one of d + e .. and that the reports are together the same, once sorted by place": the table in any case, the reports
  -- where no retry is reached.
  pub record AsOne (retried : Bool) (t : List R) (es : List E) (one : E) : Type 0 where
    pub table : end step t es ≡ (step t one).0
    pub reported : retried ≡ false → sorted_of (together t es) ≡ reports (step t one).1

  pub record AsTwo (retried : Bool) (t : List R) (first second one : E) : Type 0 where
    pub table : (step (step t first).0 second).0 ≡ (step t one).0
    pub reported : retried ≡ false → sorted_of (reports (step t first).1 ++ reports (step (step t first).0 second).1) ≡ reports (step t one).1

  -- "Take it also over lists of steps": two lists.
  pub record Alike (retried : Bool) (t : List R) (es₁ es₂ : List E) : Type 0 where
    pub table : end step t es₁ ≡ end step t es₂
    pub reported : retried ≡ false → sorted_of (together t es₁) ≡ sorted_of (together t es₂)

-- "Where queries of K5 run the law is stated only for sums that reach no retry": whether so many TU reach one, of any query in the table.
unfoldable pub retried_of : Settings → ℕ → List Record → Bool
retried_of s n t = some_of (λ p. query_retried s n p.query) t

-- ---- The statements, over records: every role, every settings, every well-formed table

abbrev pub OneOrTwo : Settings → Type 0
OneOrTwo s =
    (t : List Record) (first second one : Lapse) → Whole s t
    → lapse_fits first ≡ true → lapse_fits second ≡ true → lapse_fits one ≡ true → one.tu ≡ first.tu + second.tu
    → AsTwo (lapsed s) reports_got (retried_of s one.tu t) t first second one

-- (One step takes time, so ls has a step.)
abbrev pub OneOrMany : Settings → Type 0
OneOrMany s =
    (t : List Record) (ls : List Lapse) (one : Lapse) → Whole s t
    → all_of lapse_fits ls ≡ true → lapse_fits one ≡ true → one.tu ≡ sum_of (λ l. l.tu) ls
    → AsOne (lapsed s) reports_got (retried_of s one.tu t) t ls one

-- (Sums over 65,535, which one step can't tell, are not left out.)
abbrev pub SameSum : Settings → Type 0
SameSum s =
    (t : List Record) (ls₁ ls₂ : List Lapse) → Whole s t
    → all_of lapse_fits ls₁ ≡ true → all_of lapse_fits ls₂ ≡ true → sum_of (λ l. l.tu) ls₁ ≡ sum_of (λ l. l.tu) ls₂
    → Alike (lapsed s) reports_got (retried_of s (sum_of (λ l. l.tu) ls₁) t) t ls₁ ls₂

-- None of the steps is refused.
abbrev pub SleepTaken : Settings → Type 0
SleepTaken s =
    (t : List Record) (ls : List Lapse) → Whole s t → all_of lapse_fits ls ≡ true
    → all_of (λ g. eqb g.answer.refusal 0) (answers (lapsed s) t ls) ≡ true

-- ---- The same over a host's octets

-- A clock step as a call: what `peer_pass_octets` promises.
pub record Passing : Type 0 where
  pub lapse : Lapse
  pub room : List ℕ

abbrev pub pass_call : Passing → Call
pass_call c = record { event = event.Clock c.lapse.tu; frame = []; out = c.lapse.out; room = c.room }

unfoldable pub passing_fits : Passing → Bool
passing_fits c = lapse_fits c.lapse && leb 24 (length c.room)

abbrev pub passed_by : List ℕ → List ℕ → Passing → List ℕ × Told
passed_by ss xs c = called ss xs (pass_call c)

-- The number written, as the answer's octets tell it.
abbrev pub reports_told : Told → List (List ℕ)
reports_told g = reports_in (written_in g / 8) g.bytes

-- Octets that are a table, and well formed.
abbrev pub Lent : List ℕ → List ℕ → Type 0
Lent ss xs = (all_octets xs ≡ true) × (is_table xs ≡ true) × (well_formed (settings_in ss) (records_of xs) ≡ true)

abbrev pub OneOrManyOctets : List ℕ → Type 0
OneOrManyOctets ss =
    (xs : List ℕ) (cs : List Passing) (one : Passing) → Lent ss xs
    → all_of passing_fits cs ≡ true → passing_fits one ≡ true → one.lapse.tu ≡ sum_of (λ c. c.lapse.tu) cs
    → AsOne (passed_by ss) reports_told (retried_of (settings_in ss) one.lapse.tu (records_of xs)) xs cs one

abbrev pub SameSumOctets : List ℕ → Type 0
SameSumOctets ss =
    (xs : List ℕ) (cs₁ cs₂ : List Passing) → Lent ss xs
    → all_of passing_fits cs₁ ≡ true → all_of passing_fits cs₂ ≡ true → sum_of (λ c. c.lapse.tu) cs₁ ≡ sum_of (λ c. c.lapse.tu) cs₂
    → Alike (passed_by ss) reports_told (retried_of (settings_in ss) (sum_of (λ c. c.lapse.tu) cs₁) (records_of xs)) xs cs₁ cs₂

abbrev pub SleepTakenOctets : List ℕ → Type 0
SleepTakenOctets ss =
    (xs : List ℕ) (cs : List Passing) → Lent ss xs → all_of passing_fits cs ≡ true
    → all_of (λ g. eqb g.result 0) (answers (passed_by ss) xs cs) ≡ true

-- ---- The marked comeback, however its time is told

-- The table after a station was turned away with status 17 and no element: 1,954 TU to wait.
abbrev pub held : List Record
held = table_of (peer_in 2 exchange.None 0 1954 ∷ [])

-- "after 1,953 TU primitive 4 is refused 8, after one more it sends": in one step, in 1,953 and one more, or in any others; asked in between, and not.
pub record ComebackTold : Type 0 where
  pub early :
      (ls : List Lapse) → all_of lapse_fits ls ≡ true → sum_of (λ l. l.tu) ls ≡ 1953
      → line_comes_out as_station (end (lapsed as_station) held ls) (asks 4 0 (refused 8) []) ≡ true
  pub one_more :
      (ls more : List Lapse) → all_of lapse_fits ls ≡ true → sum_of (λ l. l.tu) ls ≡ 1953 → all_of lapse_fits more ≡ true → sum_of (λ l. l.tu) more ≡ 1
      → line_comes_out as_station (end (lapsed as_station) (step_of as_station (end (lapsed as_station) held ls) (event.Ask 4 them 0) [] 256).table more) associate_sent ≡ true
  pub after :
      (ls : List Lapse) → all_of lapse_fits ls ≡ true → sum_of (λ l. l.tu) ls ≡ 1954
      → line_comes_out as_station (end (lapsed as_station) held ls) associate_sent ≡ true
