-- What `bench changes` does not show: a place that it does not show has the record that it had, and one that it shows has another. The tool that tells
-- scenarios in words holds the table so. That the lines of a place say which record it has is not claimed here.
-- Assumes nothing.
use Prim.Native.Nat.{ℕ, suc, ◌+◌}
use mathlib.Core.Path.{◌≡◌, refl, sym, ap, ◌∙◌}
use mathlib.Core.Bool.{true, false}
use mathlib.Core.List.{List, [], ◌∷◌, ◌++◌}
use borrow.Author.Tests.{eqb-true}
use lib.Dec.{eqb}
use lib.ListN.{length}
use native.Mathlib.Omega.{arith}
use Rattle.octets.proofs.Branch.{by_bool}
use Rattle.octets.specs.declared.links.Links.{Links}
use Rattle.peer.proofs.Fits.{both}
use Rattle.peer.specs.Query.{query_left, query_number}
use Rattle.peer.specs.Record.{exchange_number, is_free}
use Rattle.peer.specs.declared.record.Record.{Record}
use Rattle.peer.specs.declared.settings.Settings.{Settings}
use Rattle.table.proofs.Octets.RowLaws.{record_back}
use Rattle.table.proofs.Theorems.RefusedKeeps.{refused_keeps}
use Rattle.table.specs.Rows.{record_of, row_of}
use Rattle.table.specs.Step.{step_of}
use Rattle.table.specs.declared.rules.event.Event.{Event}
use Rattle.bench.specs.Changes.{changed_lines, moved_lines, same_links, same_query, same_record, same_times}
use Rattle.bench.specs.Output.{Line}
use Rattle.bench.specs.Play.{zeros}
use Rattle.bench.specs.Trace.{place_lines}
use Rattle.bench.proofs.ChangedRows.{moved_none}
use Rattle.bench.proofs.StepLengths.{step_same}

links_same : (a b : Links) → same_links a b ≡ true → a ≡ b
unfolding same_links
links_same a b h =
    let one = both (eqb a.one b.one) _ h in
    let two = both (eqb a.two b.two) _ one.1 in
    let three = both (eqb a.three b.three) _ two.1 in
    let r : ◌≡◌ {A = Links} (record { one = a.one; two = a.two; three = a.three; four = a.four }) b =
    rw (eqb-true a.one b.one one.0, eqb-true a.two b.two two.0, eqb-true a.three b.three three.0, eqb-true a.four b.four three.1) in
    r

-- Two records that are alike in all that is shown are one: their rows are.
same_is_one : (p q : Record) → same_record p q ≡ true → p ≡ q
unfolding same_record same_times same_query row_of
same_is_one p q h =
    let address = both (eqb p.address q.address) _ h in
    let state = both (eqb p.state q.state) _ address.1 in
    let times = both (same_times p q) _ state.1 in
    let rest = both (same_query p q) _ times.1 in
    let exchange = both (eqb (exchange_number p.exchange) (exchange_number q.exchange)) _ times.0 in
    let left = both (eqb p.left q.left) _ exchange.1 in
    let identifier = both (eqb p.identifier q.identifier) _ rest.0 in
    let query = both (eqb (query_number p.query) (query_number q.query)) _ identifier.1 in
    let rows : row_of p ≡ row_of q =
    rw (
      eqb-true p.address q.address address.0,
      eqb-true p.state q.state state.0,
      eqb-true (exchange_number p.exchange) (exchange_number q.exchange) exchange.0,
      eqb-true p.left q.left left.0,
      eqb-true p.hold q.hold left.1,
      eqb-true p.identifier q.identifier identifier.0,
      eqb-true (query_number p.query) (query_number q.query) query.0,
      eqb-true (query_left p.query) (query_left q.query) query.1,
      links_same p.links q.links rest.1,
    ) in
    sym (record_back p) ∙ (ap record_of rows ∙ record_back q)

some : {v : Line} {vs : List Line} → v ∷ vs ≡ [] → ⊥
some {v} {vs} e = let z : suc (length vs) ≡ 0 = ap length e in omega arith

none_of_both : (vs ws : List Line) → vs ++ ws ≡ [] → (vs ≡ []) × (ws ≡ [])
none_of_both [] ws e = (refl, e)
none_of_both (v ∷ vs) ws e = absurd (some e)

-- What is shown of a place that is another is never nothing.
some_line : (i : ℕ) (p q : Record) → same_record p q ≡ false → moved_lines i p q ≡ [] → ⊥
unfolding moved_lines place_lines
some_line i p q h e = by_bool (is_free q) (λ f. some (rw (h, f) at e)) (λ f. some (rw (h, f) at e))

-- A place shows nothing exactly if its record stayed.
pub unshown_same : (i : ℕ) (p q : Record) → moved_lines i p q ≡ [] → q ≡ p
unshown_same i p q e = by_bool (same_record p q) (λ h. sym (same_is_one p q h)) (λ h. absurd (some_line i p q h e))

pub same_unshown : (i : ℕ) (p q : Record) → q ≡ p → moved_lines i p q ≡ []
same_unshown i p q e = moved_none i p q (sym e)

-- So a table of which no place is shown stayed as it was.
pub none_shown : (i : ℕ) (t u : List Record) → length t ≡ length u → changed_lines i t u ≡ [] → u ≡ t
unfolding changed_lines
none_shown i [] [] n e = refl
none_shown i [] (q ∷ u) n e = absurd (omega arith)
none_shown i (p ∷ t) [] n e = absurd (omega arith)
none_shown i (p ∷ t) (q ∷ u) n e =
    let b = none_of_both (moved_lines i p q) (changed_lines (i + 1) t u) e in
    rw (unshown_same i p q b.0, none_shown (i + 1) t u (omega arith) b.1)

none_changed : (i : ℕ) (t : List Record) → changed_lines i t t ≡ []
unfolding changed_lines
none_changed i [] = refl
none_changed i (p ∷ t) = rw (moved_none i p p refl) (none_changed (i + 1) t)

-- An event that shows no place left the table as it was; and one that is refused is such an event.
pub step_unshown : (s : Settings) (t : List Record) (e : Event) (xs : List ℕ) → changed_lines 0 t (step_of s t e xs 256).table ≡ [] → (step_of s t e xs 256).table ≡ t
step_unshown s t e xs h = none_shown 0 t (step_of s t e xs 256).table (sym (step_same t s e xs 256)) h

pub refused_unshown : (s : Settings) (t : List Record) (e : Event) (xs : List ℕ) → ((step_of s t e xs 256).answer.refusal ≡ 0 → ⊥) → changed_lines 0 t (step_of s t e xs 256).table ≡ []
refused_unshown s t e xs h = let k = (refused_keeps s t e xs zeros h).table in rw k (none_changed 0 t)
