-- 01, "Well formed": every clause, for settings and table. (That there are 32 records is the table's type.)
-- Assumes nothing.
use Rattle.std.specs.Prelude.{ℕ, Bool, not, ◌&&◌, ◌||◌, List, leb, eqb}
use Rattle.peer.specs.Settings.{role_answers, settings_fit}
use Rattle.peer.specs.Record.{is_joined, associates}
use Rattle.peer.specs.Fit.{place_fits}
use Rattle.peer.specs.declared.settings.Settings.{Settings}
use Rattle.peer.specs.declared.record.Record.{Record}
use Rattle.table.specs.Places.{all_tails, all_of, count_of, addresses_of, link_addresses_of}
use Rattle.table.specs.declared.rules.others.Counts.{Counts}

-- "outside free places no address is .. in two places": an address is 0, or in no later place
abbrev pub apart : ℕ → ℕ → Bool
apart a b = not (eqb b a)

unfoldable pub alone_in : ℕ → List ℕ → Bool
alone_in a ads = eqb a 0 || all_of (apart a) ads

abbrev pub distinct_of : List ℕ → Bool
distinct_of ads = all_tails alone_in ads

-- 02, K11: "every address outside free places .. unlike every other": a link is 0, or neither a link in a later slot nor a device's address
abbrev pub links_apart : List ℕ → List ℕ → Bool
links_apart ls ads = all_tails (λ l later. alone_in l later && alone_in l ads) ls

unfoldable pub crowd_of : List Record → Counts
crowd_of t = record { joined = count_of is_joined t; associating = count_of associates t }

-- "a station has at most one record in State 3 or 4 and at most one (re)association under way": the role that answers nobody
unfoldable pub sparse_of : Settings → List Record → Bool
sparse_of s t = role_answers s.role || (leb (crowd_of t).joined 1 && leb (crowd_of t).associating 1)

-- "settings in range and own address valid"; "each in State 1 to 4 or all zero", exchanges and times as they must be; the three above
unfoldable pub well_formed : Settings → List Record → Bool
well_formed s t = settings_fit s && (all_of (place_fits s) t && (distinct_of (addresses_of t) && (links_apart (link_addresses_of t) (addresses_of t) && sparse_of s t)))
