-- The table a run starts with: 1,536 octets zero.
-- Assumes nothing.
use mathlib.Core.Path.{◌≡◌, refl}
use mathlib.Core.Bool.{true}
use lib.ListN.{replicate}
use borrow.Author.Tests.{leb-true}
use Rattle.octets.specs.Links.{links_at, no_links}
use Rattle.octets.specs.Row.{row_at}
use Rattle.peer.specs.Fit.{place_fits}
use Rattle.peer.specs.Query.{query_of}
use Rattle.peer.specs.Record.{associates, exchange_of, free_of, is_free, is_joined}
use Rattle.peer.specs.Settings.{settings_fit}
use Rattle.peer.specs.declared.settings.Settings.{Settings}
use Rattle.table.proofs.Theorems.Well.{of_well}
use Rattle.table.specs.Fit.{alone_in, well_formed}
use Rattle.table.specs.Places.{all_tails, count_of, link_addresses_of}
use Rattle.table.specs.Rows.{is_table, numbered_at, query_numbered, record_of, records_at, records_of, row_numbered}

-- it is one, and its records are free
pub empty_table_lem : is_table (replicate 1536 0) ≡ true
unfolding is_table numbered_at row_numbered query_numbered row_at
empty_table_lem = refl

pub empty_records : records_of (replicate 1536 0) ≡ replicate 32 free_of
unfolding records_at record_of row_at exchange_of query_of links_at
empty_records = refl

-- it is well formed if the settings fit
pub empty_well : (s : Settings) → settings_fit s ≡ true → well_formed s (replicate 32 free_of) ≡ true
unfolding all_tails place_fits is_free no_links alone_in link_addresses_of count_of is_joined associates
empty_well s g =
    of_well s (replicate 32 free_of)
    (record {
      settings = g;
      long = refl;
      places = refl;
      distinct = refl;
      apart = refl;
      joined = λ r. leb-true (count_of is_joined (replicate 32 free_of)) 1 refl;
      associating = λ r. leb-true (count_of associates (replicate 32 free_of)) 1 refl;
    })
