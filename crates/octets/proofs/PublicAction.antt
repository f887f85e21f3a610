-- 02, K1: a frame's class is that of its type and subtype (`other_class`), but for an unprotected Action frame of 25 octets or more whose
-- category is 4 (`public_class`).
-- Assumes nothing.
use Prim.Native.Nat.{ℕ, ◌≤◌}
use mathlib.Core.Path.{◌≡◌, refl}
use mathlib.Core.Bool.{true}
use mathlib.Core.List.{List, [], ◌∷◌, ◌++◌}
use lib.Dec.{leb, eqb}
use lib.ListN.{length}
use borrow.Author.Tests.{eq-eqb, eqb-true, le-leb, leb-true}
use Rattle.octets.proofs.Branch.{and_left, and_right, by_bool}
use Rattle.octets.specs.Class.{class_number, class_of, is_public_action, named}
use Rattle.octets.specs.Field.{field, protected_of, subtype_of, type_of, version_of}
use Rattle.octets.specs.declared.class.FrameClass.TheVariants.{One, Three}

pub record Public (xs : List ℕ) : Type 0 where
  pub management : type_of (field 1 0 xs) ≡ 0
  pub action : subtype_of (field 1 0 xs) ≡ 13
  pub unprotected : protected_of (field 1 1 xs) ≡ 0
  pub long : 25 ≤ length xs
  pub category : field 1 24 xs ≡ 4

module _ (xs : List ℕ) where
  pub public_class : version_of (field 1 0 xs) ≡ 0 → Public xs → class_of xs ≡ One
  unfolding class_of is_public_action
  public_class v p =
      rw (
        eq-eqb (version_of (field 1 0 xs)) 0 v,
        eq-eqb (type_of (field 1 0 xs)) 0 p.management,
        eq-eqb (subtype_of (field 1 0 xs)) 13 p.action,
        eq-eqb (protected_of (field 1 1 xs)) 0 p.unprotected,
        le-leb 25 (length xs) p.long,
        eq-eqb (field 1 24 xs) 4 p.category,
      )

  public_of : is_public_action xs ≡ true → Public xs
  unfolding is_public_action
  public_of h =
      let s = and_right (eqb (type_of (field 1 0 xs)) 0) _ h in
      let u = and_right (eqb (subtype_of (field 1 0 xs)) 13) _ s in
      let l = and_right (eqb (protected_of (field 1 1 xs)) 0) _ u in
      record {
        management = eqb-true (type_of (field 1 0 xs)) 0 (and_left (eqb (type_of (field 1 0 xs)) 0) _ h);
        action = eqb-true (subtype_of (field 1 0 xs)) 13 (and_left (eqb (subtype_of (field 1 0 xs)) 13) _ s);
        unprotected = eqb-true (protected_of (field 1 1 xs)) 0 (and_left (eqb (protected_of (field 1 1 xs)) 0) _ u);
        long = leb-true 25 (length xs) (and_left (leb 25 (length xs)) _ l);
        category = eqb-true (field 1 24 xs) 4 (and_right (leb 25 (length xs)) _ l);
      }

  pub other_class : version_of (field 1 0 xs) ≡ 0 → (Public xs → ⊥) → class_of xs ≡ named (class_number (type_of (field 1 0 xs)) (subtype_of (field 1 0 xs)))
  unfolding class_of
  other_class v n = by_bool (is_public_action xs)
      (λ e. absurd (n (public_of e)))
      (λ e. rw (eq-eqb (version_of (field 1 0 xs)) 0 v, e))

-- Either side: 25 octets of category 4, and 24.
header : List ℕ
header = 0xd0 ∷ 0 ∷ 0 ∷ 0 ∷ 2 ∷ 0 ∷ 0 ∷ 0 ∷ 0 ∷ 1 ∷ 2 ∷ 0 ∷ 0 ∷ 0 ∷ 0 ∷ 10 ∷ 2 ∷ 0 ∷ 0 ∷ 0 ∷ 0 ∷ 1 ∷ 0 ∷ 0 ∷ []

asked_before_joining : class_of (header ++ (4 ∷ [])) ≡ One
unfolding class_of is_public_action header
asked_before_joining = refl

without_category : class_of header ≡ Three
unfolding class_of is_public_action header
without_category = refl
