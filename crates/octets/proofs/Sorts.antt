-- 02, K3: however the class of a frame is known, it is the frame's class (`sort_class`).
-- Assumes nothing.
use Prim.Native.Nat.{ℕ}
use mathlib.Core.Path.{◌≡◌, refl}
use mathlib.Core.Bool.{Bool, true, false, not, ◌&&◌, ◌||◌}
use mathlib.Core.List.{List, [], ◌∷◌}
use lib.Dec.{eqb}
use native.Mathlib.Omega.{arith}
use Rattle.octets.proofs.Branch.{and_left, and_right, by_bool}
use Rattle.octets.specs.Class.{class_in, class_of, is_direct, is_public_action, listed_class}
use Rattle.octets.specs.Field.{field, protected_of, subtype_of, type_of, version_of}
use Rattle.octets.specs.Sort.{class_by, is_listed, sort_of}
use Rattle.octets.specs.declared.class.FrameClass.TheVariants.{One, Three}
use Rattle.octets.specs.declared.sort.Sort.TheVariants.{Classed, Listed}

not_all : (t s p r : Bool) → (not t || (not s || not p)) ≡ true → (t && (s && (p && r))) ≡ false
not_all true true true r e = let z : ◌≡◌ {A = ℕ} 0 1 = cc in absurd (omega arith)
not_all true true false r e = refl
not_all true false p r e = refl
not_all false s p r e = refl

module _ (infrastructure : Bool) (xs : List ℕ) where
  decided : is_listed infrastructure (field 1 0 xs) (field 1 1 xs) ≡ true → listed_class (field 1 0 xs) ≡ class_in infrastructure xs
  unfolding is_listed class_in class_of listed_class is_public_action
  decided e =
      let rest = and_right infrastructure _ e in
      rw (
        and_left infrastructure _ e,
        and_left (eqb (version_of (field 1 0 xs)) 0) _ rest,
        not_all (eqb (type_of (field 1 0 xs)) 0) (eqb (subtype_of (field 1 0 xs)) 13) (eqb (protected_of (field 1 1 xs)) 0) _ (and_right (eqb (version_of (field 1 0 xs)) 0) _ rest),
      )

  pub sort_class : class_by (sort_of infrastructure xs) ≡ class_in infrastructure xs
  unfolding sort_of
  sort_class =
      by_bool (is_listed infrastructure (field 1 0 xs) (field 1 1 xs))
      (λ e. rw e (decided e))
      (λ e. rw e)

-- Either way: data, by Frame Control alone; a Public Action, by its category; the same data where there are no access points.
data_frame_lem : List ℕ
data_frame_lem = 0x08 ∷ 1 ∷ []

public_frame : List ℕ
public_frame = 0xd0 ∷ 0 ∷ 0 ∷ 0 ∷ 2 ∷ 0 ∷ 0 ∷ 0 ∷ 0 ∷ 1 ∷ 2 ∷ 0 ∷ 0 ∷ 0 ∷ 0 ∷ 10 ∷ 2 ∷ 0 ∷ 0 ∷ 0 ∷ 0 ∷ 1 ∷ 0 ∷ 0 ∷ 4 ∷ []

by_control : sort_of true data_frame_lem ≡ Listed 0x08
unfolding sort_of is_listed data_frame_lem
by_control = refl

by_category : sort_of true public_frame ≡ Classed One
unfolding sort_of is_listed class_in class_of is_public_action public_frame
by_category = refl

by_network : sort_of false data_frame_lem ≡ Classed Three
unfolding sort_of is_listed class_in class_of is_direct is_public_action data_frame_lem
by_network = refl
