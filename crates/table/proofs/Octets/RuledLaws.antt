-- An event by the rules alone (specs/Ruled.antt) is the step where settings and table are well formed: `ruled_is_step`. What a call that plays
-- so owes at each of its returns.
-- Assumes nothing.
use Prim.Native.Nat.{ℕ, ◌<◌, ◌≤◌}
use mathlib.Core.Path.{◌≡◌, refl, sym, ap, ◌∙◌}
use mathlib.Core.Bool.{true, false, ◌||◌}
use mathlib.Core.List.{List}
use lib.Dec.{eqb, ltb}
use lib.ListN.{length}
use borrow.Author.Tests.{le-ltb, lt-ltb}
use Rattle.octets.proofs.Branch.{by_bool}
use Rattle.octets.proofs.RowTrip.{Octets}
use Rattle.octets.specs.Frame.{longest}
use Rattle.peer.proofs.Fits.{clash}
use Rattle.peer.specs.Settings.{role_associates}
use Rattle.peer.specs.declared.record.Record.{Record}
use Rattle.peer.specs.declared.settings.Settings.{Settings}
use Rattle.table.specs.Answer.{count_answer, refusal_answer, refused_of, said_in, said_length, settled_of, stepped_of}
use Rattle.table.specs.Ask.{asked_of}
use Rattle.table.specs.Fit.{well_formed}
use Rattle.table.specs.Host.{host_answer, host_in, host_table}
use Rattle.table.specs.Lent.{room_of}
use Rattle.table.specs.Link.{linked_of}
use Rattle.table.specs.Pass.{passed_in, passed_of}
use Rattle.table.specs.Read.{read_of}
use Rattle.table.specs.Receive.{received_of}
use Rattle.table.specs.Refusals.{first_of, unless}
use Rattle.table.specs.Rows.{is_table, links_over, octets_of, records_of}
use Rattle.table.specs.Ruled.{change_of, naming, new_at, roomy_in, roomy_of, ruled_in, ruled_of, ticked_in, ticked_of, ticking, tu_of}
use Rattle.table.specs.Seat.{met_of}
use Rattle.table.specs.Step.{step_in, step_of}
use Rattle.table.specs.declared.rules.answer.Answer.{Answer}
use Rattle.table.specs.declared.rules.answer.Met.{Met}
use Rattle.table.specs.declared.rules.seat.Change.{Change}
use Rattle.table.specs.declared.rules.event.Event.{Event}
use Rattle.table.specs.declared.rules.event.Event.TheVariants as event
use Rattle.table.proofs.Octets.HostLaws.{Gives}
use Rattle.table.proofs.Octets.RowLaws.{octets_of_records}
use Rattle.table.proofs.Theorems.LinksStay.{asked_unnamed, heard_unnamed}

-- ---- the law

module _ (s : Settings) (t : List Record) (w : well_formed s t ≡ true) where
  pub ruled_is_step : (e : Event) (xs : List ℕ) (n : ℕ) → ruled_of s t e xs n ≡ step_of s t e xs n
  unfolding ruled_of ticked_of received_of asked_of linked_of passed_of unless first_of refused_of settled_of stepped_of
  ruled_is_step event.Frame xs n = by_bool (ltb n longest) (λ k. rw k) (λ k. rw (k, w))
  ruled_is_step (event.Ask q a c) xs n = by_bool (ltb n longest) (λ k. rw k) (λ k. rw (k, w))
  ruled_is_step event.Links xs n = by_bool (ltb n longest) (λ k. rw k) (λ k. rw (k, w))
  ruled_is_step (event.Clock d) xs n = by_bool (ltb n 256) (λ k. rw k) (λ k. by_bool (eqb d 0) (λ z. rw (k, w, z)) (λ z. rw (k, w, z)))

  pub ruled_in_step : (e : Event) (xs l : List ℕ) → ruled_in s t e xs l ≡ step_in s t e xs l
  unfolding ruled_in ticked_in received_of asked_of linked_of passed_in unless first_of refused_of settled_of
  ruled_in_step event.Frame xs l = by_bool (ltb (length l) longest) (λ k. rw k) (λ k. rw (k, w))
  ruled_in_step (event.Ask q a c) xs l = by_bool (ltb (length l) longest) (λ k. rw k) (λ k. rw (k, w))
  ruled_in_step event.Links xs l = by_bool (ltb (length l) longest) (λ k. rw k) (λ k. rw (k, w))
  ruled_in_step (event.Clock d) xs l = by_bool (ltb (length l) 256) (λ k. rw k) (λ k. by_bool (eqb d 0) (λ z. rw (k, w, z)) (λ z. rw (k, w, z)))

-- ---- an event that is no clock step makes a change

module _ (s : Settings) (t : List Record) where
  pub roomy_change : (e : Event) (fs : List ℕ) (n : ℕ) → ticking e ≡ false → roomy_of s t e fs n ≡ stepped_of (change_of s t e fs) n
  roomy_change event.Frame fs n z = refl
  roomy_change (event.Ask q a c) fs n z = refl
  roomy_change event.Links fs n z = refl
  roomy_change (event.Clock d) fs n z = clash refl z

  pub roomy_said : (e : Event) (fs l : List ℕ) → ticking e ≡ false → roomy_in s t e fs l ≡ said_in (change_of s t e fs).reply l
  roomy_said event.Frame fs l z = refl
  roomy_said (event.Ask q a c) fs l z = refl
  roomy_said event.Links fs l z = refl
  roomy_said (event.Clock d) fs l z = clash refl z

  pub roomy_tick : (e : Event) (fs : List ℕ) (n : ℕ) → ticking e ≡ true → roomy_of s t e fs n ≡ ticked_of s t (tu_of e)
  roomy_tick event.Frame fs n z = clash z refl
  roomy_tick (event.Ask q a c) fs n z = clash z refl
  roomy_tick event.Links fs n z = clash z refl
  roomy_tick (event.Clock d) fs n z = refl

  pub roomy_reports : (e : Event) (fs l : List ℕ) → ticking e ≡ true → roomy_in s t e fs l ≡ ticked_in s t (tu_of e) l
  roomy_reports event.Frame fs l z = clash z refl
  roomy_reports (event.Ask q a c) fs l z = clash z refl
  roomy_reports event.Links fs l z = clash z refl
  roomy_reports (event.Clock d) fs l z = refl

  -- one that names no links changes none but at a free place
  pub change_unnamed : (e : Event) (fs : List ℕ) (c : Change) → met_of t c ≡ change_of s t e fs → (naming e || new_at t c.place) ≡ false → links_over (met_of t c).table ≡ links_over t
  unfolding refused_of settled_of
  change_unnamed event.Frame fs c m z = ap (λ (x : Met). links_over x.table) m ∙ heard_unnamed s t (read_of s.own (role_associates s.role) fs) c m z
  change_unnamed (event.Ask q a d) fs c m z = ap (λ (x : Met). links_over x.table) m ∙ asked_unnamed s t q a d c m z
  change_unnamed event.Links fs c m z = clash refl z
  change_unnamed (event.Clock d) fs c m z = ap (λ (x : Met). links_over x.table) m

pub tick_room : (e : Event) → ticking e ≡ true → room_of e ≡ 256
tick_room event.Frame z = clash z refl
tick_room (event.Ask q a c) z = clash z refl
tick_room event.Links z = clash z refl
tick_room (event.Clock d) z = refl

-- ---- each return

module _ (xs : List ℕ) (s : Settings) (e : Event) (fs l : List ℕ) where
  abbrev t : List Record
  t = records_of xs

  -- an answer, octets and a buffer that are those of the rules
  abbrev pub Plays : Answer → List ℕ → List ℕ → Type 0
  Plays a ys k = (a ≡ (ruled_of s t e fs (length l)).answer) × (ys ≡ octets_of (ruled_of s t e fs (length l)).table) × (k ≡ ruled_in s t e fs l)

  pub plays_short : Octets xs → is_table xs ≡ true → length l < room_of e → Plays (refusal_answer 1) xs l
  unfolding ruled_of ruled_in
  plays_short o i r = rw (lt-ltb (length l) (room_of e) r) (refl, sym (octets_of_records xs o i), refl)

  module _ (r : room_of e ≤ length l) where
    pub plays_change : ticking e ≡ false → (c : Change) → met_of t c ≡ change_of s t e fs
        → Plays (count_answer c.answer (said_length c.reply (length l))) (octets_of (met_of t c).table) (said_in c.reply l)
    unfolding ruled_of ruled_in stepped_of met_of
    plays_change z c m = rw (le-ltb (length l) (room_of e) r, roomy_change s t e fs (length l) z, roomy_said s t e fs l z, ← m) (refl, refl, refl)

    pub plays_tick : ticking e ≡ true → (d : ℕ) → d ≡ tu_of e → Plays (ticked_of s t d).answer (octets_of (ticked_of s t d).table) (ticked_in s t d l)
    unfolding ruled_of ruled_in
    plays_tick z d h = rw (le-ltb (length l) (room_of e) r, roomy_tick s t e fs (length l) z, roomy_reports s t e fs l z, h) (refl, refl, refl)

  -- played so, the single call is made where settings and table are well formed
  pub plays_gives : is_table xs ≡ true → well_formed s t ≡ true → (a : Answer) (ys k : List ℕ) → Plays a ys k → Gives xs s e fs l a ys k
  unfolding host_answer host_table host_in
  plays_gives i w a ys k p =
      let same = ruled_is_step s t w e fs (length l) in
      rw i (rw same at p.0, rw same at p.1, rw (ruled_in_step s t w e fs l) at p.2)
