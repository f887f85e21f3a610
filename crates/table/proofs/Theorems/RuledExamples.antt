-- The rules alone beside the step: an access point with an empty table meets what `ruled_is_step` and `ruled_lent_is_step` ask, so a clock step is
-- the same by both; and it has to be asked, for settings that do not fit the step refuses and the rules play.
-- Assumes nothing.
use mathlib.Core.Path.{◌≡◌, refl}
use mathlib.Core.Bool.{true}
use mathlib.Core.List.{List, []}
use lib.ListN.{replicate}
use Rattle.octets.specs.Address.{group_of, valid_of}
use Rattle.octets.specs.Links.{no_links}
use Rattle.peer.specs.Fit.{place_fits}
use Rattle.peer.specs.Record.{associates, free_of, is_free, is_joined}
use Rattle.peer.specs.Settings.{network_fits, query_times_fit, role_answers, role_associates, settings_fit, time_fits}
use Rattle.peer.specs.declared.record.Record.{Record}
use Rattle.peer.specs.declared.settings.Settings.{Settings}
use Rattle.table.specs.Fit.{alone_in, sparse_of, well_formed}
use Rattle.table.specs.Lent.{lent_answer}
use Rattle.table.specs.Pass.{passed_of}
use Rattle.table.specs.Places.{all_tails, count_of, link_addresses_of}
use Rattle.table.specs.Refusals.{first_of}
use Rattle.table.specs.Ruled.{ruled_lent_answer, ruled_of, ticked_of}
use Rattle.table.specs.Step.{step_of}
use Rattle.table.specs.declared.rules.event.Event.TheVariants as event
use Rattle.table.proofs.Octets.RuledLaws.{ruled_is_step}
use Rattle.table.proofs.Theorems.RuledRecords.{ruled_lent_is_step}

abbrev site : Settings
site = record { role = 1; own = 0x0a; network = 0; rsna = 0; authentication = 10; association = 10; edition = 1; protection = 0; retry = 201; maximum = 1000 }

-- with no address of its own
abbrev nobody : Settings
nobody = record { role = 1; own = 0; network = 0; rsna = 0; authentication = 10; association = 10; edition = 1; protection = 0; retry = 201; maximum = 1000 }

abbrev empty : List Record
empty = replicate 32 free_of

empty_well : well_formed site empty ≡ true
unfolding well_formed settings_fit valid_of group_of time_fits network_fits query_times_fit all_tails place_fits is_free no_links alone_in link_addresses_of count_of is_joined associates sparse_of role_associates role_answers
empty_well = refl

same : ruled_of site empty (event.Clock 5) [] 256 ≡ step_of site empty (event.Clock 5) [] 256
same = ruled_is_step site empty empty_well (event.Clock 5) [] 256

same_lent : ruled_lent_answer empty site (event.Clock 5) [] (replicate 256 0) ≡ lent_answer empty site (event.Clock 5) [] (replicate 256 0)
same_lent = (ruled_lent_is_step site empty empty_well (event.Clock 5) [] (replicate 256 0)).0

refused : (step_of nobody empty (event.Clock 5) [] 256).answer.refusal ≡ 2
unfolding passed_of first_of well_formed settings_fit valid_of group_of time_fits query_times_fit network_fits role_associates
refused = refl

played : (ruled_of nobody empty (event.Clock 5) [] 256).answer.refusal ≡ 0
unfolding ruled_of ticked_of
played = refl
