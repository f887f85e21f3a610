-- 01, A received frame, 1 to 3: lengths, in the order in which they are looked at.
-- Assumes nothing.
use Rattle.std.specs.Prelude.{ℕ, Bool, ◌&&◌, ◌||◌, List, length, ltb, eqb}
use Rattle.octets.specs.Pick.{pick}
use Rattle.octets.specs.Field.{field, type_of, subtype_of}
use Rattle.octets.specs.Class.{class_of, classless}
use Rattle.octets.specs.declared.shape.Shape.{Shape}
use Rattle.octets.specs.declared.shape.Shape.TheVariants.{Misfit, Classless, Bare, Full}

-- authentication 30, association request 28, reassociation request 34, either response 30, deauthentication and disassociation 26,
-- other management 24
unfoldable pub least_management : ℕ → ℕ
least_management s =
    pick (eqb s 11) 30
    (pick (eqb s 0) 28
    (pick (eqb s 2) 34
    (pick (eqb s 1 || eqb s 3) 30
    (pick (eqb s 12 || eqb s 10) 26 24))))

-- CTS and ACK: control, 12 and 13
unfoldable pub is_bare : ℕ → Bool
is_bare first = eqb (type_of first) 1 && (eqb (subtype_of first) 12 || eqb (subtype_of first) 13)

-- Least lengths, by the first octet: CTS, ACK 10; other control 16; data and management 24, but as above.
unfoldable pub least_of : ℕ → ℕ
least_of first =
    pick (is_bare first) 10
    (pick (eqb (type_of first) 1) 16
    (pick (eqb (type_of first) 0) (least_management (subtype_of first)) 24))

unfoldable pub shape_of : List ℕ → Shape
shape_of xs =
    -- 1. Under 10 or over 4,096 bytes: 3.
    pick (ltb (length xs) 10 || ltb 4096 (length xs)) Misfit
    -- 2. Version not 0, or no class: discard, nothing else.
    (pick (classless (class_of xs)) Classless
    -- 3. Below its least length: 3.
    (pick (ltb (length xs) (least_of (field 1 0 xs))) Misfit
    -- 4. CTS and ACK have Address 1 only.
    (pick (is_bare (field 1 0 xs)) Bare Full)))
