-- 01, A received frame: "Classes, one fixed list by type and subtype".
-- Assumes nothing.
use Rattle.std.specs.Prelude.{ℕ, zero, suc, Bool, true, false, ◌&&◌, ◌||◌, List, ltb, leb, eqb, length}
use Rattle.octets.specs.Pick.{pick}
use Rattle.octets.specs.Field.{field, version_of, type_of, subtype_of, protected_of, ds_bits}
use Rattle.octets.specs.declared.class.FrameClass.{FrameClass}
use Rattle.octets.specs.declared.class.FrameClass.TheVariants.{None, One, Two, Three}

-- Management 0-3 and 10 class 2; 4, 5, 8, 9, 11, 12 class 1; 13, 14 class 3; 6, 7, 15 none.
abbrev pub management : ℕ → ℕ
management s =
    pick (ltb s 4) 2
    (pick (ltb s 6) 1
    (pick (ltb s 8) 0
    (pick (eqb s 10) 2
    (pick (ltb s 13) 1
    (pick (ltb s 15) 3 0)))))

-- Control 8, 9, 10 class 3; 11-15 class 1; 0-7 none.
abbrev pub control : ℕ → ℕ
control s = pick (ltb s 8) 0 (pick (ltb s 11) 3 1)

-- Data class 3, but 13 none.
abbrev pub data_class : ℕ → ℕ
data_class s = pick (eqb s 13) 0 3

-- The number of the class, 0 for none, by type and subtype. Type 3 none.
abbrev pub class_number : ℕ → ℕ → ℕ
class_number t s = pick (eqb t 0) (management s) (pick (eqb t 1) (control s) (pick (eqb t 2) (data_class s) 0))

-- The number of each class: 1, 2, 3, and 0 for none.
abbrev pub number_of : FrameClass → ℕ
number_of None = 0
number_of One = 1
number_of Two = 2
number_of Three = 3

-- The class that a number names: the way back (`Numbers.antt`).
abbrev pub named : ℕ → FrameClass
named zero = None
named (suc zero) = One
named (suc (suc zero)) = Two
named (suc (suc (suc n))) = Three

-- The class in the list, by the type and subtype in Frame Control's first octet.
unfoldable pub listed_class : ℕ → FrameClass
listed_class first = named (class_number (type_of first) (subtype_of first))

abbrev pub classless : FrameClass → Bool
classless None = true
classless One = false
classless Two = false
classless Three = false

-- 02, K1: "An unprotected frame (bit 14 of Frame Control 0) of type 0, subtype 13, at least 25 octets long and with octet 24 equal to 4 is
-- class 1. A 24-octet Action frame stays class 3, and so does subtype 14."
unfoldable pub is_public_action : List ℕ → Bool
is_public_action xs =
    eqb (type_of (field 1 0 xs)) 0
    && (eqb (subtype_of (field 1 0 xs)) 13
    && (eqb (protected_of (field 1 1 xs)) 0
    && (leb 25 (length xs)
    && eqb (field 1 24 xs) 4)))

-- The class of a frame, from its octets. 01, A received frame, 2: version not 0, or no class.
unfoldable pub class_of : List ℕ → FrameClass
class_of xs =
    pick (eqb (version_of (field 1 0 xs)) 0)
    (pick (is_public_action xs) One
    (named (class_number (type_of (field 1 0 xs)) (subtype_of (field 1 0 xs)))))
    None

-- 02, K10: "By document 001, data with To DS and From DS both 0, block ack, block ack request and all Action frames are class 1 there" (13 and 14).
unfoldable pub is_direct : List ℕ → Bool
is_direct xs =
    pick (eqb (type_of (field 1 0 xs)) 0)
    (eqb (subtype_of (field 1 0 xs)) 13 || eqb (subtype_of (field 1 0 xs)) 14)
    (pick (eqb (type_of (field 1 0 xs)) 1)
    (eqb (subtype_of (field 1 0 xs)) 8 || eqb (subtype_of (field 1 0 xs)) 9)
    (eqb (ds_bits (field 1 1 xs)) 0))

-- The class in an ad hoc network, by that of the list. Each of those frames is class 3 in the list, or none: data of subtype 13 stays without.
abbrev pub direct_class : List ℕ → FrameClass → FrameClass
direct_class xs None = None
direct_class xs One = One
direct_class xs Two = Two
direct_class xs Three = pick (is_direct xs) One Three

-- The class of a frame where there are access points, and where there are none.
unfoldable pub class_in : Bool → List ℕ → FrameClass
class_in infrastructure xs = pick infrastructure (class_of xs) (direct_class xs (class_of xs))
