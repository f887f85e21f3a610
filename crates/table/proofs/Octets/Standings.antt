-- A record by its numbers: which numbers of an exchange fit which role, state and time left, and which are (re)associations; which numbers of a
-- query stand for one.
-- Assumes nothing.
use mathlib.Core.Path.{◌≡◌, refl, sym, ◌∙◌}
use mathlib.Core.Bool.{Bool, true, false, not, ◌&&◌, ◌||◌}
use Prim.Native.Nat.{ℕ, zero, suc, ◌≤◌, ◌<◌}
use native.Mathlib.Omega.{arith}
use lib.Dec.{eqb, leb, ltb}
use borrow.Author.Tests.{le-leb, lt-leb, ne_eqb, eqb-true, leb-true}
use Rattle.octets.specs.Address.{valid_of}
use Rattle.octets.specs.Links.{no_links, unlinked}
use Rattle.octets.specs.Row.{no_row}
use Rattle.octets.specs.declared.row.Row.{Row}
use Rattle.octets.proofs.Branch.{by_bool}
use Rattle.octets.proofs.LinkTrip.{unlinked_of}
use Rattle.octets.specs.Pick.{pick}
use Rattle.peer.proofs.Fits.{both, clash, fits_of, wrong}
use Rattle.peer.specs.Fit.{asked_fits, awaiting_fits, exchange_fits, highest_state, hold_fits, links_fit, query_allowed, query_fits, record_fits, sent_fits, stands}
use Rattle.peer.proofs.QueryFits.{number_back}
use Rattle.peer.specs.Query.{query_left, query_number, query_of}
use Rattle.peer.specs.Record.{associates, exchange_of, is_free, linked_of, under_way}
use Rattle.peer.specs.Settings.{role_answers, role_asks, role_associates, time_fits}
use Rattle.peer.specs.declared.settings.Settings.{Settings}
use Rattle.table.proofs.Passes.Loops.{and_false, and_true}
use Rattle.table.specs.Rows.{query_numbered, record_of, row_numbered}
use Rattle.table.specs.declared.host.standing.Standing.{Standing}

-- Each number from 0 to 9, and all above.
pub by_number : (P : ℕ → Type 0) → P 0 → P 1 → P 2 → P 3 → P 4 → P 5 → P 6 → P 7 → P 8 → P 9 → ((n : ℕ) → 9 < n → P n) → (n : ℕ) → P n
by_number P a b c d e f g h i j k zero = a
by_number P a b c d e f g h i j k (suc zero) = b
by_number P a b c d e f g h i j k (suc (suc zero)) = c
by_number P a b c d e f g h i j k (suc (suc (suc zero))) = d
by_number P a b c d e f g h i j k (suc (suc (suc (suc zero)))) = e
by_number P a b c d e f g h i j k (suc (suc (suc (suc (suc zero))))) = f
by_number P a b c d e f g h i j k (suc (suc (suc (suc (suc (suc zero)))))) = g
by_number P a b c d e f g h i j k (suc (suc (suc (suc (suc (suc (suc zero))))))) = h
by_number P a b c d e f g h i j k (suc (suc (suc (suc (suc (suc (suc (suc zero)))))))) = i
by_number P a b c d e f g h i j k (suc (suc (suc (suc (suc (suc (suc (suc (suc zero))))))))) = j
by_number P a b c d e f g h i j k (suc (suc (suc (suc (suc (suc (suc (suc (suc (suc n)))))))))) =
    k (suc (suc (suc (suc (suc (suc (suc (suc (suc (suc n)))))))))) (omega arith)

-- Whether an exchange is for a role, and has a time exactly if it was sent: from number 7 on.
abbrev pub timed_at : ℕ → ℕ → ℕ → Bool
timed_at role e left = pick (ltb e 7) (role_answers role && eqb left 0) (role_asks role && not (eqb left 0))

-- None has no time left. Any other is for its role; it is 1 or 7, or 2, 3, 5, 6, 8 or 9 from State 2 on, where there are associations.
pub fits_by : (role e state left : ℕ) → left ≤ 65535
    → (leb e 9 && exchange_fits (exchange_of e) role state left)
    ≡ pick (eqb e 0) (eqb left 0) (timed_at role e left && (eqb e 1 || (eqb e 7 || ((leb e 9 && not (eqb e 4)) && (role_associates role && leb 2 state)))))
unfolding exchange_of asked_fits awaiting_fits sent_fits stands time_fits
fits_by role e state left l =
    by_number (λ e. (leb e 9 && exchange_fits (exchange_of e) role state left) ≡ pick (eqb e 0) (eqb left 0) (timed_at role e left && (eqb e 1 || (eqb e 7 || ((leb e 9 && not (eqb e 4)) && (role_associates role && leb 2 state))))))
    refl (asked true) (asked joins) (asked joins) (sym (and_false (role_answers role && eqb left 0))) (asked joins) (asked joins)
    (sent true) (sent joins) (sent joins)
    (λ n m. rw (lt-leb n 9 m, ne_eqb n 0 (omega arith), ne_eqb n 1 (omega arith), ne_eqb n 7 (omega arith)) (sym (and_false (timed_at role n left)))) e
  where
    joins : Bool
    joins = role_associates role && leb 2 state

    group : (a b c : Bool) → (a && (b && c)) ≡ ((a && b) && c)
    group true b c = refl
    group false b c = refl

    asked : (c : Bool) → (role_answers role && (eqb left 0 && c)) ≡ ((role_answers role && eqb left 0) && c)
    asked c = group (role_answers role) (eqb left 0) c

    sent : (c : Bool) → (role_asks role && ((not (eqb left 0) && leb left 65535) && c)) ≡ ((role_asks role && not (eqb left 0)) && c)
    sent c = rw (le-leb left 65535 l, and_true (not (eqb left 0))) (group (role_asks role) (not (eqb left 0)) c)

-- Which numbers are (re)associations.
pub joins : (e : ℕ) → e ≤ 9 → leb 2 (under_way (exchange_of e)) ≡ not (ltb e 2 || (eqb e 4 || eqb e 7))
unfolding exchange_of
joins =
    by_number (λ e. e ≤ 9 → leb 2 (under_way (exchange_of e)) ≡ not (ltb e 2 || (eqb e 4 || eqb e 7)))
    (λ h. refl) (λ h. refl) (λ h. refl) (λ h. refl) (λ h. refl) (λ h. refl) (λ h. refl) (λ h. refl) (λ h. refl) (λ h. refl)
    (λ n m h. absurd (omega arith))

-- Which is none.
pub idle : (e : ℕ) → e ≤ 9 → eqb (under_way (exchange_of e)) 0 ≡ eqb e 0
unfolding exchange_of
idle =
    by_number (λ e. e ≤ 9 → eqb (under_way (exchange_of e)) 0 ≡ eqb e 0)
    (λ h. refl) (λ h. refl) (λ h. refl) (λ h. refl) (λ h. refl) (λ h. refl) (λ h. refl) (λ h. refl) (λ h. refl) (λ h. refl)
    (λ n m h. absurd (omega arith))

-- Each number of a query, and all above.
pub by_query : (P : ℕ → Type 0) → P 0 → P 1 → P 2 → P 3 → ((n : ℕ) → 3 < n → P n) → (n : ℕ) → P n
by_query P a b c d k zero = a
by_query P a b c d k (suc zero) = b
by_query P a b c d k (suc (suc zero)) = c
by_query P a b c d k (suc (suc (suc zero))) = d
by_query P a b c d k (suc (suc (suc (suc n)))) = k (suc (suc (suc (suc n)))) (omega arith)

or_none : (b : Bool) → (b || false) ≡ true → b ≡ true
or_none true h = refl
or_none false h = h

-- Numbers that stand for a query are its own.
pub numbers_kept : (n left : ℕ) → query_numbered n left ≡ true → (query_number (query_of n left) ≡ n) × (query_left (query_of n left) ≡ left)
unfolding query_numbered
numbers_kept n left h =
    let a = both (leb n 3) _ h in
    number_back n left (leb-true n 3 a.0) (λ e1 e2. eqb-true left 0 (or_none (eqb left 0) (rw (e1, e2) at a.1)))

none_left : (n left : ℕ) → n ≡ 0 → query_left (query_of n left) ≡ 0
unfolding query_of
none_left n left e = rw e

-- A row of a free place is all zero.
pub free_row : (r : Row) → row_numbered r ≡ true → is_free (record_of r) ≡ true → r ≡ no_row
unfolding is_free record_of row_numbered
free_row r n h =
    let q = both (query_numbered r.query r.remaining) _ n in
    let back = numbers_kept r.query r.remaining q.0 in
    let a = both (eqb r.address 0) _ h in
    let b = both (eqb r.state 0) _ a.1 in
    let c = both (eqb r.left 0) _ b.1 in
    let d = both (eqb r.hold 0) _ c.1 in
    let f = both (eqb r.identifier 0) _ d.1 in
    let g = both (eqb (query_number (query_of r.query r.remaining)) 0) _ f.1 in
    let none : r.query ≡ 0 = sym back.0 ∙ eqb-true _ 0 g.0 in
    let over : r.remaining ≡ 0 = sym back.1 ∙ none_left r.query r.remaining none in
    let l = both (no_links r.links) _ g.1 in
    let bare = unlinked_of r.links l.0 in
    let e : eqb r.exchange 0 ≡ true = sym (idle r.exchange (leb-true r.exchange 9 q.1)) ∙ l.1 in
    λ i. record {
      address = eqb-true r.address 0 a.0 i;
      hold = eqb-true r.hold 0 d.0 i;
      left = eqb-true r.left 0 c.0 i;
      state = eqb-true r.state 0 b.0 i;
      exchange = eqb-true r.exchange 0 e i;
      identifier = eqb-true r.identifier 0 f.0 i;
      remaining = over i;
      query = none i;
      links = bare i;
    }

-- Without a (re)association; what does not fit has none.
pub alone_standing : (x : Standing) (f : Bool) → x ≡ record { fit = f; associating = false } → (b z : Bool) → b ≡ f → (f ≡ true → z ≡ false)
    → (x.fit ≡ b) × (x.fit ≡ true → x.associating ≡ z)
alone_standing x f q b z e n = (rw (q, e), λ t. rw (q, n (rw q at t)))

pub no_standing : (x : Standing) → x ≡ record { fit = false; associating = false } → (b z : Bool) → b ≡ false → (x.fit ≡ b) × (x.fit ≡ true → x.associating ≡ z)
no_standing x q b z e = alone_standing x false q b z e wrong

-- A query that does not stand, where it does not: by its numbers, or by role, state and time.
pub query_unfit : (s : Settings) (r : Row) → (query_numbered r.query r.remaining && query_fits s r.state (query_of r.query r.remaining)) ≡ false → (row_numbered r && record_fits s (linked_of (record_of r) unlinked)) ≡ false
unfolding row_numbered record_of linked_of
query_unfit s r h = by_bool (row_numbered r && record_fits s (linked_of (record_of r) unlinked))
    (λ t.
    let a = both (row_numbered r) _ t in
    clash (rw (both (query_numbered r.query r.remaining) _ a.0).0 (fits_of s (linked_of (record_of r) unlinked) a.1).queries) h)
    (λ f. f)

query_allowed_lem : (s : Settings) (r : Row) → r.identifier ≤ 65535 → query_fits s r.state (query_of r.query r.remaining) ≡ true → query_allowed s (record_of r) ≡ true
unfolding query_allowed record_of
query_allowed_lem s r id h = rw (le-leb r.identifier 65535 id) h

-- A record that fits but for its exchange has its exchange's standing.
pub by_exchange : (s : Settings) (r : Row) (x : Standing) → leb 1 r.state ≡ true → leb r.state (highest_state s.role) ≡ true → eqb r.address s.own ≡ false → valid_of r.address ≡ true
    → hold_fits s.role r.hold ≡ true → r.identifier ≤ 65535
    → (query_numbered r.query r.remaining && query_fits s r.state (query_of r.query r.remaining)) ≡ true
    → (x.fit ≡ (leb r.exchange 9 && exchange_fits (exchange_of r.exchange) s.role r.state r.left)) × (x.fit ≡ true → x.associating ≡ leb 2 (under_way (exchange_of r.exchange)))
    → (x.fit ≡ (row_numbered r && record_fits s (linked_of (record_of r) unlinked))) × (x.fit ≡ true → x.associating ≡ associates (record_of r))
unfolding record_fits links_fit no_links linked_of record_of query_allowed associates row_numbered
by_exchange s r x low high own ok hold id query h =
    let q = both (query_numbered r.query r.remaining) _ query in
    (rw (q.0, query_allowed_lem s r id q.1, low, high, own, ok, hold, and_true (exchange_fits (exchange_of r.exchange) s.role r.state r.left)) h.0, h.1)

-- A row that has neither an exchange nor a query, and fits otherwise.
pub plain_stands : (s : Settings) (r : Row) → leb 1 r.state ≡ true → leb r.state (highest_state s.role) ≡ true → eqb r.address s.own ≡ false → valid_of r.address ≡ true
    → hold_fits s.role r.hold ≡ true → r.identifier ≤ 65535 → r.exchange ≡ 0 → r.left ≡ 0 → r.query ≡ 0 → r.remaining ≡ 0
    → ((row_numbered r && record_fits s (linked_of (record_of r) unlinked)) ≡ true) × (associates (record_of r) ≡ false)
unfolding query_numbered query_of exchange_of
plain_stands s r low high own ok hold id e l q m =
    let h = by_exchange s r (record { fit = true; associating = false }) low high own ok hold id (rw (q, m) refl) (rw (e, l) (refl, λ t. refl)) in
    (sym h.0, sym (h.1 refl))
