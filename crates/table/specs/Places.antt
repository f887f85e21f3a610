-- Places of the table, and the definitions over a list of records that the rules are written with.
-- Assumes nothing.
use Rattle.std.specs.Prelude.{ℕ, ◌+◌, Bool, true, false, ◌&&◌, ◌||◌, List, [], ◌∷◌, ◌++◌, map, eqb, Option, Some, None}
use Rattle.octets.specs.Links.{links_of}
use Rattle.octets.specs.Pick.{pick}
use Rattle.peer.specs.declared.record.Record.{Record}

-- The place of the first element that passes a test, counted from n.
unfoldable pub first_from : {A : Type 0} → (A → Bool) → ℕ → List A → Option ℕ
first_from f n [] = None
first_from f n (p ∷ ps) = pick (f p) (Some n) (first_from f (n + 1) ps)

-- What a place that may be found gives.
abbrev pub on_found : {A : Type 0} → Option ℕ → A → (ℕ → A) → A
on_found None z f = z
on_found (Some i) z f = f i

-- A test of each element and what follows it; of each element; of some; how many pass a test.
unfoldable pub all_tails : {A : Type 0} → (A → List A → Bool) → List A → Bool
all_tails f [] = true
all_tails f (p ∷ ps) = f p ps && all_tails f ps

abbrev pub all_of : {A : Type 0} → (A → Bool) → List A → Bool
all_of f t = all_tails (λ p ps. f p) t

unfoldable pub some_of : {A : Type 0} → (A → Bool) → List A → Bool
some_of f [] = false
some_of f (p ∷ ps) = f p || some_of f ps

unfoldable pub count_of : {A : Type 0} → (A → Bool) → List A → ℕ
count_of f [] = 0
count_of f (p ∷ ps) = pick (f p) 1 0 + count_of f ps

-- The addresses, place for place. A free place has 0, and in a well-formed table no other place has.
abbrev pub addresses_of : List Record → List ℕ
addresses_of t = map (λ p. p.address) t

-- The lowest place with an address.
abbrev pub find_of : List ℕ → ℕ → Option ℕ
find_of ads a = first_from (λ b. eqb b a) 0 ads

-- Whether a place was found.
abbrev pub is_found : Option ℕ → Bool
is_found at = on_found at false (λ i. true)

-- The link addresses, four slots for each place; 0 is none.
unfoldable pub link_addresses_of : List Record → List ℕ
link_addresses_of [] = []
link_addresses_of (p ∷ ps) = links_of p.links ++ link_addresses_of ps

-- Whether a record has an address among its links; the lowest place that has. 0 is no link.
abbrev pub has_link : ℕ → Record → Bool
has_link a p = some_of (λ l. eqb l a) (links_of p.links)

unfoldable pub find_link_of : List Record → ℕ → Option ℕ
find_link_of t a = pick (eqb a 0) None (first_from (has_link a) 0 t)

-- 02, K11: "A frame's Address 2 is looked up among link addresses first, then device addresses."
unfoldable pub seek_of : List Record → List ℕ → ℕ → Option ℕ
seek_of t ads a = on_found (find_link_of t a) (find_of ads a) (λ i. Some i)
