-- What an input prints, computed: an access point is told of a clock step of 0 TU, which is refused, and then of half a frame.
-- Assumes nothing.
use Prim.Native.Nat.{ℕ}
use mathlib.Core.Path.{◌≡◌, refl}
use mathlib.Core.List.{List, [], ◌∷◌}
use Rattle.octets.specs.Address.{valid_of, group_of}
use Rattle.octets.specs.Links.{no_links}
use Rattle.peer.specs.Fit.{place_fits}
use Rattle.peer.specs.Record.{is_free}
use Rattle.peer.specs.Settings.{network_fits, query_times_fit, role_answers, role_associates, settings_fit, time_fits}
use Rattle.table.specs.Boundary.{edition_in, maximum_in, retry_in, settings_in, settings_length}
use Rattle.table.specs.Fit.{alone_in, sparse_of, well_formed}
use Rattle.table.specs.Pass.{passed_of}
use Rattle.table.specs.Places.{all_tails, link_addresses_of}
use Rattle.table.specs.Refusals.{first_of}
use Rattle.table.specs.Input.{body_of, event_at, length_allowed, marked, miscounted, taken_of}
use Rattle.bench.specs.Line.{back_of, ds_letter, front_of, line_of, stop_line, verdict_letter}
use Rattle.bench.specs.Output.{said}
use Rattle.bench.specs.Play.{number_after}
use Rattle.bench.specs.Printed.{bench_output, printed_from, shown_by}
use Rattle.bench.specs.Text.{field_of, tens}

-- role 1, own address 02:00:00:00:00:01, no RSNA, timeouts of 100 TU; a clock step of 0 TU; the head of a frame of 24 octets
abbrev pub told : List ℕ
told =
    0x0b ∷ 3 ∷ 0 ∷ 12 ∷ 0 ∷ 1 ∷ 2 ∷ 0 ∷ 0 ∷ 0 ∷ 0 ∷ 1 ∷ 0 ∷ 100 ∷ 0 ∷ 100 ∷ 0
    ∷ 0x0b ∷ 3 ∷ 3 ∷ 2 ∷ 0 ∷ 0 ∷ 0
    ∷ 0x0b ∷ 3 ∷ 2 ∷ 24 ∷ 0 ∷ []

-- "1 3 - 0 0 0 - 0", and `stop`
pub told_output : bench_output told ≡ 49 ∷ 32 ∷ 51 ∷ 32 ∷ 45 ∷ 32 ∷ 48 ∷ 32 ∷ 48 ∷ 32 ∷ 48 ∷ 32 ∷ 45 ∷ 32 ∷ 48 ∷ 10 ∷ stop_line
unfolding printed_from taken_of marked length_allowed miscounted event_at body_of settings_in settings_length edition_in retry_in maximum_in shown_by said number_after
    line_of front_of back_of field_of tens verdict_letter ds_letter passed_of first_of well_formed settings_fit valid_of group_of network_fits
    query_times_fit role_answers role_associates time_fits place_fits is_free all_tails alone_in link_addresses_of no_links sparse_of
told_output = refl
