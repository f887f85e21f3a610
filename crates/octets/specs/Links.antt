-- 02, K11: "a device address and one to four link addresses". Four slots; one without a link is 0.
-- Assumes nothing.
use Rattle.std.specs.Prelude.{ℕ, ◌+◌, List, [], ◌∷◌, ◌++◌, Bool, ◌&&◌, eqb}
use Rattle.octets.specs.Field.{field, octets}
use Rattle.octets.specs.declared.links.Links.{Links}

abbrev pub unlinked : Links
unlinked = record { one = 0; two = 0; three = 0; four = 0 }

-- The slots in their order.
abbrev pub links_of : Links → List ℕ
links_of ls = ls.one ∷ ls.two ∷ ls.three ∷ ls.four ∷ []

-- Whether no slot has a link.
unfoldable pub no_links : Links → Bool
no_links ls = eqb ls.one 0 && (eqb ls.two 0 && (eqb ls.three 0 && eqb ls.four 0))

-- The links in the 24 octets from place k on, six each; and their octets.
unfoldable pub links_at : ℕ → List ℕ → Links
links_at k xs =
    record { one = field 6 k xs; two = field 6 (k + 6) xs; three = field 6 (k + 12) xs; four = field 6 (k + 18) xs }

unfoldable pub link_octets : Links → List ℕ
link_octets ls = octets 6 ls.one ++ octets 6 ls.two ++ octets 6 ls.three ++ octets 6 ls.four
