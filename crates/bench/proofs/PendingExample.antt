-- An event that meets what `event_pending` asks: an access point is told, under a trace, of a device with two links.
-- Assumes nothing.
use Prim.Native.Nat.{ℕ, ◌≤◌}
use mathlib.Core.Path.{◌≡◌, refl, ◌∙◌}
use mathlib.Core.Bool.{true, false}
use mathlib.Core.List.{List, [], ◌∷◌, ◌++◌}
use lib.ListN.{length}
use Rattle.octets.specs.Address.{valid_of, group_of}
use Rattle.octets.specs.Field.{octets}
use Rattle.octets.specs.Links.{links_at, no_links}
use Rattle.peer.specs.Fit.{place_fits}
use Rattle.peer.specs.Record.{fresh_of, is_free, linked_of as withLinks}
use Rattle.peer.specs.Settings.{network_fits, query_times_fit, role_answers, role_associates, settings_fit, time_fits}
use Rattle.peer.specs.Turn.{linking_of, turn_of}
use Rattle.peer.specs.declared.record.Record.{Record}
use Rattle.table.specs.Answer.{refused_of, settled_of, stepped_of}
use Rattle.table.specs.Case.{table_of}
use Rattle.table.specs.Fit.{alone_in, sparse_of, well_formed}
use Rattle.table.specs.Link.{count_fits, link_allowed, linked_at, linked_of, may_link, used_elsewhere}
use Rattle.table.specs.Marked.{as_ap}
use Rattle.table.specs.Places.{all_tails, find_link_of, first_from, link_addresses_of, some_of}
use Rattle.table.specs.Refusals.{first_of, unless}
use Rattle.table.specs.Seat.{newcomer_of, seated_of, starts_of}
use Rattle.table.specs.declared.rules.event.Event.TheVariants.{Links}
use Rattle.bench.specs.Line.{back_of, front_of, line_of}
use Rattle.bench.specs.Output.{pending, said}
use Rattle.bench.specs.Play.{number_after}
use Rattle.bench.specs.Printed.{shown_by}
use Rattle.bench.specs.Run.{event_lines, event_output, played_of, scratch_of}
use Rattle.bench.specs.Text.{field_of, glyph_of, hex_octet, hex_of, tens}
use Rattle.bench.specs.Trace.{current_lines, has_query, link_text, links_line, links_lines, name_of, octets_lines, place_line, place_lines, query_lines, table_lines, trace_lines}
use Rattle.bench.specs.declared.run.Prints.TheVariants as prints
use Rattle.bench.specs.declared.run.Run.{Run}
use Rattle.bench.proofs.Pending.{event_pending}

abbrev told : Run
told = record { settings = as_ap; fit = true; number = 0; at = 0; have = 0; out = 0; first = false; over = false; done = false; prints = prints.Trace }

-- 02:00:00:00:00:0c, with the links 02:00:00:00:00:0d and :0e
abbrev named : List ℕ
named = 2 ∷ 0 ∷ 0 ∷ 0 ∷ 0 ∷ 0x0c ∷ 2 ∷ 2 ∷ 0 ∷ 0 ∷ 0 ∷ 0 ∷ 0x0d ∷ 2 ∷ 0 ∷ 0 ∷ 0 ∷ 0 ∷ 0x0e ∷ []

abbrev device : Record
device = withLinks (fresh_of 0x0c0000000002) (record { one = 0x0d0000000002; two = 0x0e0000000002; three = 0; four = 0 })

record AtWork : Type 0 where
  scratch : length (scratch_of told (table_of []) Links named) ≡ 256
  table : length (played_of told (table_of []) Links named).table ≡ 32
  lines : said (event_lines told (table_of []) Links named) ≡ line_of 1 (played_of told (table_of []) Links named).answer ++ place_line 0 device ++ links_line 0 device
  -- "  links 0 02000000000d 02000000000e"
  text : links_line 0 device ≡ 32 ∷ 32 ∷ 108 ∷ 105 ∷ 110 ∷ 107 ∷ 115 ∷ 32 ∷ 48 ∷ 32 ∷ 48 ∷ 50 ∷ 48 ∷ 48 ∷ 48 ∷ 48 ∷ 48 ∷ 48 ∷ 48 ∷ 48 ∷ 48 ∷ 100 ∷ 32 ∷ 48 ∷ 50 ∷ 48 ∷ 48 ∷ 48 ∷ 48 ∷ 48 ∷ 48 ∷ 48 ∷ 48 ∷ 48 ∷ 101 ∷ 10 ∷ []

at_work : AtWork
unfolding valid_of group_of links_at no_links place_fits fresh_of is_free withLinks network_fits query_times_fit role_answers role_associates settings_fit time_fits linking_of turn_of
    refused_of settled_of stepped_of table_of alone_in sparse_of well_formed count_fits link_allowed linked_at linked_of may_link used_elsewhere all_tails find_link_of first_from
    link_addresses_of some_of first_of unless newcomer_of seated_of starts_of said number_after event_lines shown_by current_lines has_query links_lines octets_lines place_lines query_lines
    table_lines trace_lines line_of front_of back_of place_line name_of links_line link_text field_of tens hex_of hex_octet glyph_of octets
at_work = record { scratch = refl; table = refl; lines = refl; text = refl }

-- What is pending then: its line, that of its place and that of its links.
pub links_shown : (l : List ℕ) → 6912 ≤ length l → pending (event_output told (table_of []) Links named l) ≡ line_of 1 (played_of told (table_of []) Links named).answer ++ place_line 0 device ++ links_line 0 device
links_shown l h = event_pending told (table_of []) Links named at_work.scratch at_work.table l h ∙ at_work.lines
