-- The eleven primitives: what holds of each and of every other number holds of all. Refusals 3 and 5, worded by the table of primitives
-- (specs/Exactly.antt), are the rule's.
-- Assumes nothing.
use Prim.Native.Nat.{ℕ}
use mathlib.Core.Path.{◌≡◌, refl, sym}
use mathlib.Core.Bool.{Bool, true, false, not, ◌&&◌, ◌||◌, or-false}
use mathlib.Core.List.{List}
use lib.Dec.{eqb, leb}
use borrow.Author.Tests.{eqb-true}
use Rattle.octets.proofs.Branch.{by_bool}
use Rattle.octets.specs.Address.{valid_of}
use Rattle.peer.proofs.Fits.{wrong}
use Rattle.peer.specs.Refuse.{code_allowed, role_allowed}
use Rattle.peer.specs.Settings.{ap, role_answers, role_asks, role_associates, station}
use Rattle.peer.specs.declared.record.Record.{Record}
use Rattle.peer.specs.declared.settings.Settings.{Settings}
use Rattle.table.specs.Ask.{may_ask}
use Rattle.table.specs.Exactly.{row, taken, plays, not_to_be_asked}
use Rattle.table.specs.Places.{find_link_of, is_found, some_of}
use Rattle.table.proofs.Passes.LinkLaws.{link_some}
use Rattle.table.proofs.Theorems.WordedRecords.{valid_named}

-- ---- eleven numbers

-- a number that is none of the eleven
pub record Other (q : ℕ) : Type 0 where
  pub is1 : eqb q 1 ≡ false
  pub is2 : eqb q 2 ≡ false
  pub is3 : eqb q 3 ≡ false
  pub is4 : eqb q 4 ≡ false
  pub is5 : eqb q 5 ≡ false
  pub is6 : eqb q 6 ≡ false
  pub is7 : eqb q 7 ≡ false
  pub is8 : eqb q 8 ≡ false
  pub is9 : eqb q 9 ≡ false
  pub is10 : eqb q 10 ≡ false
  pub is11 : eqb q 11 ≡ false

module _ (P : ℕ → Type 0) where
  or_else : (k : ℕ) → P k → (q : ℕ) → (eqb q k ≡ false → P q) → P q
  or_else k p q next = by_bool (eqb q k) (λ e. rw (eqb-true q k e) p) next

  pub by_number : P 1 → P 2 → P 3 → P 4 → P 5 → P 6 → P 7 → P 8 → P 9 → P 10 → P 11 → ((q : ℕ) → Other q → P q) → (q : ℕ) → P q
  by_number p1 p2 p3 p4 p5 p6 p7 p8 p9 p10 p11 other q =
      or_else 1 p1 q (λ e1. or_else 2 p2 q (λ e2. or_else 3 p3 q (λ e3. or_else 4 p4 q (λ e4. or_else 5 p5 q (λ e5.
      or_else 6 p6 q (λ e6. or_else 7 p7 q (λ e7. or_else 8 p8 q (λ e8. or_else 9 p9 q (λ e9. or_else 10 p10 q (λ e10.
      or_else 11 p11 q (λ e11.
      other q (record { is1 = e1; is2 = e2; is3 = e3; is4 = e4; is5 = e5; is6 = e6; is7 = e7; is8 = e8; is9 = e9; is10 = e10; is11 = e11 }))))))))))))

-- ---- 3 and 5: the table of primitives

abbrev CodesSame : ℕ → ℕ → Type 0
CodesSame c q = (not (row q (λ r. true)) || row q (λ r. not (taken r.codes c))) ≡ not (code_allowed q c)

codes_same : (c q : ℕ) → CodesSame c q
unfolding some_of code_allowed
codes_same c =
    by_number (CodesSame c) zero_code refl other_code zero_code zero_code other_code refl refl zero_code
    (by_bool (leb c 1) (λ e. rw e) (λ e. rw e)) zero_code
    (λ q o. simp (o.is1, o.is2, o.is3, o.is4, o.is5, o.is6, o.is7, o.is8, o.is9, o.is10, o.is11))
  where
    zero_code : (not (eqb c 0) || false) ≡ not (eqb c 0)
    zero_code = or-false (not (eqb c 0))

    other_code : (not (not (eqb c 0)) || false) ≡ not (not (eqb c 0))
    other_code = or-false (not (not (eqb c 0)))

abbrev RolesSame : ℕ → ℕ → Type 0
RolesSame role q = row q (λ r. not (plays r.who role)) ≡ not (role_allowed q role)

pub roles_same : (role q : ℕ) → RolesSame role q
unfolding some_of role_allowed
roles_same role =
    by_number (RolesSame role) (one (role_asks role)) (one (role_answers role)) refl (one (eqb role station)) (one (eqb role station)) (one (role_associates role))
    (one (eqb role ap)) (one (eqb role ap)) (one (role_associates role)) (one (eqb role ap)) (one (eqb role ap))
    (λ q o. simp (o.is1, o.is2, o.is3, o.is4, o.is5, o.is6, o.is7, o.is8, o.is9, o.is10, o.is11))
  where
    -- a row's own test, and no other row's
    one : (b : Bool) → (not b || false) ≡ not b
    one b = or-false (not b)

-- where its address is no link's
pub may_same : (s : Settings) (t : List Record) (q a c : ℕ) → not_to_be_asked s t q a c ≡ (not (may_ask s q a c) || is_found (find_link_of t a))
unfolding may_ask
may_same s t q a c =
    by_bool (valid_of a)
    (λ v. rw (v, link_some t a (valid_named a v)) (regroup (not (row q (λ r. true))) (eqb a s.own) (row q (λ r. not (taken r.codes c))) (code_allowed q c) (is_found (find_link_of t a)) (codes_same c q)))
    (λ v. rw v (invalid (is_found (find_link_of t a)) (not (row q (λ r. true))) (eqb a s.own) (code_allowed q c)))
  where
    regroup : (u o w k h : Bool) → (u || w) ≡ not k → (u || (o || (w || h))) ≡ (not (k && (not o && true)) || h)
    regroup true o w true h e = wrong (sym e)
    regroup true o w false h e = refl
    regroup false true w true h e = refl
    regroup false false w true h e = rw e
    regroup false o w false h e = by_bool o (λ d. rw d) (λ d. rw (d, e))

    invalid : (h u o k : Bool) → (u || true) ≡ (not (k && (not o && false)) || h)
    invalid h u o true = by_bool u (λ d. by_bool o (λ e. rw (d, e)) (λ e. rw (d, e))) (λ d. by_bool o (λ e. rw (d, e)) (λ e. rw (d, e)))
    invalid h u o false = by_bool u (λ d. rw d) (λ d. rw d)
