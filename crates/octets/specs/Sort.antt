-- How the class of a frame is known.
-- Assumes nothing.
use Rattle.std.specs.Prelude.{ℕ, Bool, ◌&&◌, ◌||◌, not, List, eqb}
use Rattle.octets.specs.Pick.{pick}
use Rattle.octets.specs.Field.{field, version_of, type_of, subtype_of, protected_of}
use Rattle.octets.specs.Class.{class_in, listed_class}
use Rattle.octets.specs.declared.class.FrameClass.{FrameClass}
use Rattle.octets.specs.declared.sort.Sort.{Sort}
use Rattle.octets.specs.declared.sort.Sort.TheVariants.{Listed, Classed}

-- 02, K3: "Where Frame Control alone decides the class". It does where there are access points (02, K10: else To DS and From DS count), for
-- version 0, of every frame but an unprotected Action frame, whose category counts too (02, K1: bit 14 of Frame Control 0, type 0, subtype 13).
unfoldable pub is_listed : Bool → ℕ → ℕ → Bool
is_listed infrastructure first second =
    infrastructure
    && (eqb (version_of first) 0
    && (not (eqb (type_of first) 0) || (not (eqb (subtype_of first) 13) || not (eqb (protected_of second) 0))))

unfoldable pub sort_of : Bool → List ℕ → Sort
sort_of infrastructure xs =
    pick (is_listed infrastructure (field 1 0 xs) (field 1 1 xs)) (Listed (field 1 0 xs)) (Classed (class_in infrastructure xs))

-- The class of a frame that is known so.
abbrev pub class_by : Sort → FrameClass
class_by (Listed first) = listed_class first
class_by (Classed k) = k
