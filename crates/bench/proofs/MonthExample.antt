-- The numbers of a file, computed: an access point is told of a clock step of 0 TU, which is refused, and then of half a frame. It is made of octets, as `month_counts`
-- asks, and stops. And of files together.
-- Assumes nothing.
use mathlib.Core.Path.{◌≡◌, refl}
use mathlib.Core.Bool.{true}
use mathlib.Core.List.{List, [], ◌∷◌, map}
use Rattle.octets.specs.Address.{valid_of, group_of}
use Rattle.octets.specs.Field.{all_octets}
use Rattle.octets.specs.Links.{no_links}
use Rattle.peer.specs.Fit.{place_fits}
use Rattle.peer.specs.Record.{is_free}
use Rattle.peer.specs.Settings.{network_fits, query_times_fit, role_answers, role_associates, settings_fit, time_fits}
use Rattle.sums.proofs.Counting.{one_by_one}
use Rattle.sums.specs.Block.{added_to, block_of, both_at, empty_of, placewise, tally}
use Rattle.sums.specs.Orders.{joined}
use Rattle.table.specs.Boundary.{edition_in, maximum_in, retry_in, settings_in, settings_length}
use Rattle.table.specs.Fit.{alone_in, sparse_of, well_formed}
use Rattle.table.specs.Pass.{passed_in, passed_of}
use Rattle.table.specs.Places.{all_tails, link_addresses_of}
use Rattle.table.specs.Refusals.{first_of}
use Rattle.table.specs.Why.{why_of, why_passed}
use Rattle.bench.specs.Facts.{answer_numbers, front_numbers, hold_of, numbers_of, ones_from, reports_in, timeout_numbers}
use Rattle.table.specs.Input.{body_of, event_at, length_allowed, marked, miscounted, taken_of}
use Rattle.bench.specs.Month.{month_of, numbers_by}
use Rattle.bench.specs.Play.{number_after}
use Rattle.bench.specs.Plays.{Play, plays_from, plays_of, stops, stops_from}
use Rattle.bench.proofs.WholeExample.{told}

pub told_octets : all_octets told ≡ true
told_octets = refl

pub told_stops : stops told ≡ true
unfolding stops_from taken_of marked length_allowed miscounted event_at body_of settings_length
told_stops = refl

-- one event, and of the refusals number 3
pub told_numbers : month_of (plays_of told) ≡ 1 ∷ 0 ∷ 0 ∷ 1 ∷ 0 ∷ 0 ∷ 0 ∷ 0 ∷ 0 ∷ 0 ∷ 0 ∷ 0 ∷ 0 ∷ 0 ∷ 0 ∷ 0 ∷ 0 ∷ 0 ∷ 0 ∷ 0 ∷ 0 ∷ 0 ∷ 0 ∷ []
unfolding plays_from taken_of marked length_allowed miscounted event_at body_of settings_in settings_length edition_in retry_in maximum_in number_after
    passed_of passed_in first_of well_formed settings_fit valid_of group_of network_fits query_times_fit role_answers role_associates time_fits place_fits is_free all_tails alone_in
    link_addresses_of no_links sparse_of why_of why_passed tally placewise both_at numbers_of front_numbers answer_numbers timeout_numbers ones_from reports_in hold_of
told_numbers = refl

-- "Totals over files equal the totals over the joined lists": the blocks of files, joined one behind the other, are the block of all their events. (In any order and
-- bracketing: sums, `any_Way`.)
pub files_together : (files : List (List Play)) → added_to empty_of (map (λ (ps : List Play). block_of (month_of ps)) files) ≡ block_of (month_of (joined files))
files_together files = one_by_one numbers_by files
