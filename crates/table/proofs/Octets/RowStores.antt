-- What it is to store a record in the octets of a table: at one place (`stored_in_lem`), and at one place after the other, from the first to the
-- last, whatever is stored (`Rewritten`).
-- Assumes nothing.
use mathlib.Core.Path.{◌≡◌, refl, ap, sym, ◌∙◌}
use mathlib.Core.List.{List, [], ◌∷◌, ◌++◌, map, map-append, append_assoc, append-nil}
use Prim.Native.Nat.{ℕ, zero, suc, ◌+◌, ◌*◌, ◌≤◌, ◌<◌}
use native.Mathlib.Numerals.{add-one}
use native.Mathlib.Omega.{arith}
use borrow.Author.Tests.{le-leb, ltb-true, ltb-false}
use lib.Dec.{ltb}
use mathlib.Core.Bool.{Bool, false, true}
use Rattle.octets.specs.Pick.{pick}
use Rattle.octets.proofs.Branch.{by_bool}
use Rattle.octets.specs.Field.{octets}
use Rattle.octets.proofs.RowTrip.{Octets, blank_row, links_back, octets_back}
use Rattle.octets.proofs.RowHead.{head_row, length_row}
use lib.ListN.{length, get_or, take, drop, set, length-append, length-drop, length-map, drop_of_length-le, take-append-drop}
use lib.Seq.{sets-eq, drop-cons, drop-drop, get_or-set_same, take_all, take-suc, length-take-le, take_at, drop_at, take-nil, drop-nil, take-append-add, drop-append-add, set_split, set_out}
use Rattle.octets.specs.Links.{link_octets, links_at, unlinked}
use Rattle.octets.specs.Row.{blank_at, head_in, head_octets, query_octets, row_at, row_in, row_octets}
use Rattle.peer.specs.Query.{query_of}
use Rattle.peer.specs.Record.{exchange_of, free_of}
use Rattle.peer.specs.declared.record.Record.{Record}
use Rattle.table.specs.Rows.{record_of, row_of, records_of, octets_of, is_table, links_over, query_numbered, row_numbered}
use Rattle.table.proofs.Passes.Lists.{get_map}
use Rattle.table.proofs.Octets.RowLaws.{length_records, at_place, octets_of_records, row_of_record}

take_past : {A : Type 0} (a b : List A) (n : ℕ) → length a ≡ 48 → take (48 + n) (a ++ b) ≡ a ++ take n b
take_past a b n e = rw (← e) (take-append-add a b n)

drop_past : {A : Type 0} (a b : List A) (n : ℕ) → length a ≡ 48 → drop (48 + n) (a ++ b) ≡ drop n b
drop_past a b n e = rw (← e) (drop-append-add a b n)

octets_append : (t u : List Record) → octets_of (t ++ u) ≡ octets_of t ++ octets_of u
unfolding octets_of
octets_append [] u = refl
octets_append (p ∷ t) u = rw (octets_append t u, append_assoc)

pub length_octets_of : (t : List Record) → length (octets_of t) ≡ 48 * length t
unfolding octets_of
length_octets_of [] = refl
length_octets_of (p ∷ t) = rw (length-append, length_row (row_of p), length_octets_of t) (omega arith)

pub octets_take : (i : ℕ) (t : List Record) → octets_of (take i t) ≡ take (48 * i) (octets_of t)
unfolding octets_of
octets_take zero t = refl
octets_take (suc i) [] = rw take-nil
octets_take (suc i) (p ∷ t) =
    let m : 48 * suc i ≡ 48 + 48 * i = omega arith in
    rw (octets_take i t, m) (sym (take_past (row_octets (row_of p)) (octets_of t) (48 * i) (length_row (row_of p))))

pub octets_drop : (i : ℕ) (t : List Record) → octets_of (drop i t) ≡ drop (48 * i) (octets_of t)
unfolding octets_of
octets_drop zero t = refl
octets_drop (suc i) [] = rw drop-nil
octets_drop (suc i) (p ∷ t) =
    let m : 48 * suc i ≡ 48 + 48 * i = omega arith in
    rw m (octets_drop i t ∙ sym (drop_past (row_octets (row_of p)) (octets_of t) (48 * i) (length_row (row_of p))))

-- A record stored in a table's octets is stored in the table.
pub stored_in_lem : (t : List Record) (i : ℕ) (p : Record) → i < length t → row_in (48 * i) (row_of p) (octets_of t) ≡ octets_of (set t i p)
unfolding row_in octets_of
stored_in_lem t i p h =
    let room : 48 * i + 48 ≤ length (octets_of t) = rw (length_octets_of t) (omega arith) in
    let m : 48 * suc i ≡ 48 * i + 48 = omega arith in
    rw (le-leb (48 * i + 48) (length (octets_of t)) room, sets-eq (row_octets (row_of p)) (octets_of t) (48 * i) (rw (length_row (row_of p)) room), length_row (row_of p))
    (sym (ap octets_of (set_split t i p h) ∙ octets_append (take i t) (p ∷ drop (suc i) t) ∙ rw (octets_take i t, octets_drop (suc i) t, m, append_assoc)))

-- The same where there may be no such place.
stored_maybe : (t : List Record) → length t ≡ 32 → (i : ℕ) (p : Record) → pick (ltb i 32) (row_in (48 * i) (row_of p) (octets_of t)) (octets_of t) ≡ octets_of (set t i p)
stored_maybe t l i p = by_bool (ltb i 32)
    (λ e. rw e (stored_in_lem t i p (rw l (ltb-true i 32 e))))
    (λ e. rw (e, set_out t i p (rw l (ltb-false i 32 e))))

-- And of the head, where that place's links stay.
links_there : (t : List Record) (i : ℕ) → i < length t → take 24 (drop (48 * i + 24) (octets_of t)) ≡ link_octets (get_or t i free_of).links
unfolding octets_of row_of row_octets head_octets query_octets link_octets octets
links_there t i h =
    ap (take 24) (sym (drop-drop 24 (48 * i) (octets_of t)) ∙ ap (drop 24) (sym (octets_drop i t) ∙ ap octets_of (drop-cons t i free_of h)))

head_maybe : (t : List Record) → length t ≡ 32 → (i : ℕ) (p : Record) → links_over (set t i p) ≡ links_over t → pick (ltb i 32) (head_in (48 * i) (row_of p) (octets_of t)) (octets_of t) ≡ octets_of (set t i p)
unfolding row_of
head_maybe t l i p same = by_bool (ltb i 32)
    (λ e.
    let h : i < length t = rw l (ltb-true i 32 e) in
    let after : get_or (links_over (set t i p)) i unlinked ≡ p.links = get_map (λ (q : Record). q.links) (set t i p) i free_of ∙ ap (λ (q : Record). q.links) (get_or-set_same t i p free_of h) in
    let mine : (get_or t i free_of).links ≡ p.links = sym (get_map (λ (q : Record). q.links) t i free_of) ∙ ap (λ ls. get_or ls i unlinked) (sym same) ∙ after in
    rw e (head_row (48 * i) (row_of p) (octets_of t) (links_there t i h ∙ ap link_octets mine) ∙ stored_in_lem t i p h))
    (λ e. rw (e, set_out t i p (rw l (ltb-false i 32 e))))

pub put_maybe :
    (t : List Record) → length t ≡ 32 → (i : ℕ) (p : Record) (linking : Bool) → (linking ≡ false → links_over (set t i p) ≡ links_over t)
    → pick linking (pick (ltb i 32) (row_in (48 * i) (row_of p) (octets_of t)) (octets_of t)) (pick (ltb i 32) (head_in (48 * i) (row_of p) (octets_of t)) (octets_of t)) ≡ octets_of (set t i p)
put_maybe t l i p linking same = by_bool linking (λ e. rw e (stored_maybe t l i p)) (λ e. rw e (head_maybe t l i p (same e)))

pub put_table :
    (xs : List ℕ) → Octets xs → is_table xs ≡ true → (i : ℕ) (p : Record) (linking : Bool) → (linking ≡ false → links_over (set (records_of xs) i p) ≡ links_over (records_of xs))
    → pick linking (pick (ltb i 32) (row_in (48 * i) (row_of p) xs) xs) (pick (ltb i 32) (head_in (48 * i) (row_of p) xs) xs) ≡ octets_of (set (records_of xs) i p)
put_table xs h e i p linking same =
    ap (λ z. pick linking (pick (ltb i 32) (row_in (48 * i) (row_of p) z) z) (pick (ltb i 32) (head_in (48 * i) (row_of p) z) z)) (sym (octets_of_records xs h e)) ∙ put_maybe (records_of xs) (length_records 32 0 xs) i p linking same

-- A row is what stands from its place on, its links last.
links_front : (k : ℕ) (xs : List ℕ) → links_at (k + 24) xs ≡ links_at 24 (drop k xs)
unfolding links_at
links_front k xs =
    let b : k + 24 + 6 ≡ k + 30 = omega arith in
    let c : k + 24 + 12 ≡ k + 36 = omega arith in
    let d : k + 24 + 18 ≡ k + 42 = omega arith in
    rw (b, c, d, drop-drop 24 k xs, drop-drop 30 k xs, drop-drop 36 k xs, drop-drop 42 k xs)

row_front : (k : ℕ) (xs : List ℕ) → k + 48 ≤ length xs → row_at k xs ≡ row_at 0 (drop k xs)
unfolding row_at
row_front k xs h = rw (le-leb (k + 48) (length xs) h, le-leb (0 + 48) (length (drop k xs)) (simp length-drop (omega arith)), drop-drop 8 k xs, drop-drop 12 k xs, drop-drop 14 k xs, drop-drop 15 k xs, drop-drop 16 k xs, drop-drop 18 k xs, drop-drop 20 k xs, links_front k xs)

-- f: what becomes of each record; xs₀: the octets before. Where i places are passed, the octets are xs.
module _ (f : Record → Record) (xs₀ : List ℕ) where
  -- the rows stored so far
  abbrev done : ℕ → List ℕ
  done i = octets_of (map f (take i (records_of xs₀)))

  abbrev pub Rewritten : ℕ → List ℕ → Type 0
  Rewritten i xs = xs ≡ done i ++ drop (48 * i) xs₀

  done_length : (i : ℕ) → i ≤ 32 → length (done i) ≡ 48 * i
  done_length i l =
      rw (length_octets_of, length-map, length-take-le i (records_of xs₀) (rw (length_records 32 0 xs₀) l))

  pub rewritten_length : length xs₀ ≡ 1536 → (i : ℕ) (xs : List ℕ) → i ≤ 32 → Rewritten i xs → length xs ≡ length xs₀
  rewritten_length n i xs l w = rw (w, length-append, done_length i l, length-drop, n) (omega arith)

  module _ (n : length xs₀ ≡ 1536) (i : ℕ) (xs : List ℕ) (l : i < 32) (w : Rewritten i xs) where
    low : i ≤ 32
    low = omega arith

    rest : drop (48 * i) xs ≡ drop (48 * i) xs₀
    rest = rw w (drop_at (done i) (drop (48 * i) xs₀) (48 * i) (done_length i low))

    same_length : length xs ≡ 1536
    same_length = rewritten_length n i xs low w ∙ n

    row_unread : row_at (48 * i) xs ≡ row_at (48 * i) xs₀
    row_unread = row_front (48 * i) xs (rw same_length (omega arith)) ∙ ap (row_at 0) rest ∙ sym (row_front (48 * i) xs₀ (rw n (omega arith)))

    pub record_unread : get_or (records_of xs) i free_of ≡ get_or (records_of xs₀) i free_of
    record_unread = sym (at_place i xs l) ∙ ap record_of row_unread ∙ at_place i xs₀ l

    pub rewritten_more : (p : Record) → p ≡ f (get_or (records_of xs₀) i free_of) → Rewritten (i + 1) (row_in (48 * i) (row_of p) xs)
    unfolding row_in octets_of
    rewritten_more p e =
        let room : 48 * i + 48 ≤ length xs = rw same_length (omega arith) in
        let m : 48 * (i + 1) ≡ 48 * i + 48 = omega arith in
        let before : take (48 * i) xs ≡ done i = ap (take (48 * i)) w ∙ take_at (done i) (drop (48 * i) xs₀) (48 * i) (done_length i low) in
        let behind : drop (48 * i + 48) xs ≡ drop (48 * i + 48) xs₀ = sym (drop-drop 48 (48 * i) xs) ∙ ap (drop 48) rest ∙ drop-drop 48 (48 * i) xs₀ in
        let inside : i < length (records_of xs₀) = rw (length_records 32 0 xs₀) l in
        let more : done (i + 1) ≡ done i ++ row_octets (row_of p) = rw (add-one, take-suc (records_of xs₀) i free_of inside, map-append, octets_append, append-nil, e) in
        rw (le-leb (48 * i + 48) (length xs) room, sets-eq (row_octets (row_of p)) xs (48 * i) (rw (length_row (row_of p)) room), length_row (row_of p), before, behind, more, m)

    links_unread : links_at (48 * i + 24) xs₀ ≡ (get_or (records_of xs₀) i free_of).links
    unfolding row_at record_of
    links_unread = rw (le-leb (48 * i + 48) (length xs₀) (rw n (omega arith))) at (ap (λ (q : Record). q.links) (at_place i xs₀ l))

    -- The head is enough where no record's links change.
    pub rewritten_head : Octets xs₀ → ((q : Record) → (f q).links ≡ q.links) → (p : Record) → p ≡ f (get_or (records_of xs₀) i free_of) → Rewritten (i + 1) (head_in (48 * i) (row_of p) xs)
    unfolding row_of
    rewritten_head h keeps p e =
        let same : links_at (48 * i + 24) xs₀ ≡ p.links = links_unread ∙ sym (ap (λ (q : Record). q.links) e ∙ keeps (get_or (records_of xs₀) i free_of)) in
        let behind : drop (48 * i + 24) xs ≡ drop (48 * i + 24) xs₀ = sym (drop-drop 24 (48 * i) xs) ∙ ap (drop 24) rest ∙ drop-drop 24 (48 * i) xs₀ in
        let there : take 24 (drop (48 * i + 24) xs) ≡ link_octets p.links = ap (take 24) behind ∙ sym (links_back xs₀ h (48 * i + 24) (rw n (omega arith))) ∙ ap link_octets same in
        head_row (48 * i) (row_of p) xs there ∙ rewritten_more p e

    -- A row that stays as it is needs no store ..
    pub rewritten_same : Octets xs₀ → row_numbered (row_at (48 * i) xs) ≡ true → f (record_of (row_at (48 * i) xs)) ≡ record_of (row_at (48 * i) xs) → Rewritten (i + 1) xs
    unfolding octets_of
    rewritten_same h b e =
        let row = row_at (48 * i) xs in
        let there : get_or (records_of xs₀) i free_of ≡ record_of row = sym (at_place i xs₀ l) ∙ ap record_of (sym row_unread) in
        let kept : row_of (f (get_or (records_of xs₀) i free_of)) ≡ row = ap (λ q. row_of (f q)) there ∙ ap row_of e ∙ row_of_record row b in
        let mine : take 48 (drop (48 * i) xs₀) ≡ row_octets row = sym (octets_back xs₀ h (48 * i) (rw n (omega arith))) ∙ ap row_octets (sym row_unread) in
        let inside : i < length (records_of xs₀) = rw (length_records 32 0 xs₀) l in
        let more : done (i + 1) ≡ done i ++ row_octets row = rw (add-one, take-suc (records_of xs₀) i free_of inside, map-append, octets_append, append-nil, kept) in
        let m : 48 * (i + 1) ≡ 48 * i + 48 = omega arith in
        let split : drop (48 * i) xs₀ ≡ row_octets row ++ drop (48 * i + 48) xs₀ = sym (take-append-drop 48 (drop (48 * i) xs₀)) ∙ rw (mine, drop-drop 48 (48 * i) xs₀) in
        w ∙ rw (split, more, m) (sym (append_assoc (done i) (row_octets row) (drop (48 * i + 48) xs₀)))

    -- .. as a free place that stays free.
    pub rewritten_free : Octets xs₀ → blank_at (48 * i) xs ≡ true → f free_of ≡ free_of → Rewritten (i + 1) xs
    unfolding record_of exchange_of query_of row_numbered query_numbered
    rewritten_free h b e = rewritten_same h (rw (blank_row (48 * i) xs b)) (rw (blank_row (48 * i) xs b) e)

  pub rewritten_none : Rewritten 0 xs₀
  unfolding octets_of
  rewritten_none = refl

  pub rewritten_all : length xs₀ ≡ 1536 → (i : ℕ) (xs : List ℕ) → i ≤ 32 → 32 ≤ i → Rewritten i xs → xs ≡ octets_of (map f (records_of xs₀))
  rewritten_all n i xs l g w =
      let e : i ≡ 32 = omega arith in
      w ∙ rw (e, take_all 32 (records_of xs₀) (rw (length_records 32 0 xs₀) (omega arith)), drop_of_length-le xs₀ {i = 1536} (omega arith), append-nil)
