-- 01, A received frame: "Elements (id, length, contents) follow octet 29; the walk ends at an element that would pass the end."
-- Assumes nothing.
use Rattle.std.specs.Prelude.{ℕ, zero, suc, Bool, true, false, not, ◌&&◌, ◌||◌, List, [], ◌∷◌, ◌++◌, length, get_or, drop, leb, ltb, eqb, Option, Some, None}
use Rattle.octets.specs.Pick.{pick}
use Rattle.octets.specs.Field.{field, type_of, subtype_of}

-- Whether the element of length n that xs begins with has id 56, length 5 and type 3.
abbrev pub wanted_at : List ℕ → ℕ → Bool
wanted_at xs n = eqb (get_or xs 0 0) 56 && (eqb n 5 && eqb (get_or xs 2 0) 3)

-- The walk, with k octets of an element still to be passed. One octet left over is an id without a length, and ends it.
unfoldable pub walk : List ℕ → ℕ → Option ℕ
walk [] k = None
walk (x ∷ xs) (suc k) = walk xs k
walk (x ∷ []) zero = None
walk (x ∷ n ∷ rest) zero =
    pick (leb n (length rest))
    (pick (wanted_at (x ∷ n ∷ rest) n) (Some (field 4 1 rest)) (walk rest n))
    None

-- Whether octets begin with no whole element: none are left, an id stands without a length, or the element would pass the end.
abbrev pub is_cut : List ℕ → Bool
is_cut [] = true
is_cut (x ∷ []) = true
is_cut (x ∷ n ∷ rest) = ltb (length rest) n

-- Whether the walk reaches the end exactly, with k octets of an element still to be passed. 02, K7: "The element walk must now say whether it
-- reached the end exactly." An element that would pass the end leaves octets to be passed, and a last octet alone is an id without a length.
unfoldable pub ends : List ℕ → ℕ → Bool
ends [] zero = true
ends [] (suc k) = false
ends (x ∷ xs) (suc k) = ends xs k
ends (x ∷ []) zero = false
ends (x ∷ n ∷ rest) zero = ends rest n

-- A (re)association response, by the first octet: management, subtypes 1 and 3.
unfoldable pub is_response : ℕ → Bool
is_response first = eqb (type_of first) 0 && (eqb (subtype_of first) 1 || eqb (subtype_of first) 3)

-- 02, K7: "A (re)association response, at either role, whose elements do not end with the frame". Elements follow octet 29.
unfoldable pub broken_of : List ℕ → Bool
broken_of xs = is_response (field 1 0 xs) && not (ends (drop 30 xs) 0)

-- Elements as a list, each an id and its contents; their octets: id, length, contents.
abbrev pub element_octets : List (ℕ × List ℕ) → List ℕ
element_octets [] = []
element_octets (e ∷ es) = e.0 ∷ length e.1 ∷ (e.1 ++ element_octets es)

-- Whether an element has id 56, length 5, type 3.
abbrev pub is_comeback : ℕ → List ℕ → Bool
is_comeback id contents = eqb id 56 && (eqb (length contents) 5 && eqb (get_or contents 0 0) 3)

-- The comeback that such a list gives: that of its first element of id 56, length 5, type 3.
abbrev pub first_comeback : List (ℕ × List ℕ) → Option ℕ
first_comeback [] = None
first_comeback (e ∷ es) =
    pick (is_comeback e.0 e.1) (Some (field 4 1 e.1)) (first_comeback es)

-- "the first element of id 56, length 5, type 3 gives its 4-octet value in TU"
abbrev pub comeback_of : List ℕ → Option ℕ
comeback_of xs = walk (drop 30 xs) 0
