-- 02, K6 at work: a sleep of 190 TU told in one step and in two, at an access point, at a station and in an ad hoc network; and two steps around a retry,
-- whose reports are not those of the one.
-- Assumes nothing.
use Prim.Native.Nat.{ℕ, ◌+◌}
use mathlib.Core.Path.{◌≡◌, refl, ap, sym, ◌∙◌}
use mathlib.Core.Bool.{true, false}
use mathlib.Core.List.{List, [], ◌∷◌, ◌++◌}
use native.Mathlib.Omega.{arith}
use lib.ListN.{length, replicate, take}
use Rattle.octets.specs.Address.{group_of, valid_of}
use Rattle.octets.specs.Field.{octets}
use Rattle.octets.specs.Links.{no_links, unlinked}
use Rattle.octets.specs.Report.{report_bytes}
use Rattle.octets.specs.declared.heard.Kind.TheVariants as kind
use Rattle.octets.specs.declared.links.Links.{Links}
use Rattle.peer.specs.Fit.{asked_fits, awaiting_fits, highest_state, hold_fits, links_fit, links_stand, place_fits, query_allowed, query_stands, record_fits, running_fits, sent_fits, slot_fits, stands}
use Rattle.peer.specs.Query.{query_in, reaches, running_report, running_retried, running_timed}
use Rattle.peer.specs.Record.{associates, changed_of, free_of, is_free, is_joined, queried_of}
use Rattle.peer.specs.Settings.{network_fits, query_times_fit, role_answers, role_asks, role_associates, settings_fit, time_fits}
use Rattle.peer.specs.Tick.{expired_move, freed_of, queried_timed, reported_of, tick_of, timed_of}
use Rattle.peer.specs.Turn.{ended_of}
use Rattle.peer.specs.declared.query.Query.TheVariants as query
use Rattle.peer.specs.declared.query.Query.{Query}
use Rattle.peer.specs.declared.exchange.Exchange.TheVariants as exchange
use Rattle.peer.specs.declared.exchange.Exchange.{Exchange}
use Rattle.peer.specs.declared.record.Record.{Record}
use Rattle.peer.specs.declared.settings.Settings.{Settings}
use Rattle.table.specs.Case.{table_of}
use Rattle.table.specs.Fit.{alone_in, crowd_of, sparse_of, well_formed}
use Rattle.table.specs.Marked.{as_ap, as_station, them}
use Rattle.table.specs.Pass.{clocked_of, passed_in, passed_of, report_for, reports_of}
use Rattle.table.specs.Places.{all_tails, count_of, link_addresses_of, some_of}
use Rattle.table.specs.Refusals.{first_of}
use Rattle.table.specs.Sleep.{Lapse, insert_of, lapse_fits, lapsed, reports_got, reports_in, retried_of, sorted_of}
use Rattle.table.proofs.Order.OrderExamples.{ad_hoc_peer, other}
use Rattle.table.proofs.Theorems.Sleep.{one_or_two}

-- a step, and a buffer of 256 octets
abbrev pub step : ℕ → Lapse
step n = record { tu = n; out = replicate 256 9 }

-- what a step leaves, and what it reports
abbrev leaves : Settings → List Record → ℕ → List Record
leaves s t n = (lapsed s t (step n)).0

abbrev tells : Settings → List Record → ℕ → List (List ℕ)
tells s t n = reports_got (lapsed s t (step n)).1

abbrev peer : ℕ → ℕ → Exchange → ℕ → ℕ → Query → Links → Record
peer address state e left hold q links =
    record { address = address; state = state; exchange = e; left = left; hold = hold; query = q; identifier = 0; links = links }

-- more peers, 02:00:00:00:00:0c to 0e
abbrev third : ℕ
third = 0x0c0000000002

abbrev fourth : ℕ
fourth = 0x0d0000000002

abbrev fifth : ℕ
fifth = 0x0e0000000002

-- "reaches no retry", yet the maximum: of 150 TU in the second step, of 40 in the first. A third query runs on, with its retry at 192 TU. A device with
-- links stays, a peer with neither links nor an exchange is freed at once.
abbrev pub dock : List Record
dock =
    table_of
    (peer them 4 exchange.None 0 0 (query.Running 150 false) unlinked
    ∷ peer other 4 (exchange.Asked kind.Authentication) 0 0 (query.Running 40 true) unlinked
    ∷ peer third 4 exchange.None 0 0 (query.Running 790 false) unlinked
    ∷ peer fourth 1 exchange.None 0 0 query.None (record { one = 6; two = 8; three = 0; four = 0 })
    ∷ peer fifth 1 exchange.None 0 0 query.None unlinked
    ∷ [])

-- An association that ends in the second step; an authentication that ends in the first, whose record is freed with it; a hold that goes on; a hold
-- that ends, and with it the record; the access point that we are joined to.
abbrev pub truck : List Record
truck =
    table_of
    (peer them 2 (exchange.Sent kind.Association) 150 0 query.None unlinked
    ∷ peer other 1 (exchange.Sent kind.Authentication) 30 20 query.None unlinked
    ∷ peer third 2 exchange.None 0 1954 query.None unlinked
    ∷ peer fourth 1 exchange.None 0 120 query.None unlinked
    ∷ peer fifth 4 exchange.None 0 0 query.None unlinked
    ∷ [])

-- An authentication of each that is asked of us, or that we asked for.
abbrev pub cold_store : List Record
cold_store =
    table_of
    (peer them 1 (exchange.Sent kind.Authentication) 190 0 query.None unlinked
    ∷ peer other 2 (exchange.Sent kind.Authentication) 1 0 query.None unlinked
    ∷ peer third 1 (exchange.Asked kind.Authentication) 0 0 query.None unlinked
    ∷ [])

-- In steps of 100 and 90, and in one of 190: what is reported in each, and the first n records after it.
pub record AtWork (s : Settings) (t : List Record) (n : ℕ) (first second long : List (List ℕ)) (after : List Record) : Type 0 where
  pub well : well_formed s t ≡ true
  pub unretried : retried_of s 190 t ≡ false
  told_first : tells s t 100 ≡ first
  told_second : tells s (leaves s t 100) 90 ≡ second
  told_long : tells s t 190 ≡ long
  left_two : take n (leaves s (leaves s t 100) 90) ≡ after
  left_long : take n (leaves s t 190) ≡ after

pub dock_at_work :
    AtWork as_ap dock 5 (report_bytes 1 5 other ∷ []) (report_bytes 0 5 them ∷ []) (report_bytes 0 5 them ∷ report_bytes 1 5 other ∷ [])
    (peer them 4 exchange.None 0 0 query.TimedOut unlinked
    ∷ peer other 4 (exchange.Asked kind.Authentication) 0 0 query.TimedOut unlinked
    ∷ peer third 4 exchange.None 0 0 (query.Running 600 false) unlinked
    ∷ peer fourth 1 exchange.None 0 0 query.None (record { one = 6; two = 8; three = 0; four = 0 })
    ∷ free_of
    ∷ [])
unfolding group_of valid_of octets no_links report_bytes asked_fits awaiting_fits highest_state hold_fits links_fit links_stand place_fits query_allowed query_stands record_fits
    running_fits sent_fits slot_fits stands query_in reaches running_report running_retried running_timed associates changed_of is_free is_joined queried_of
    network_fits query_times_fit role_answers role_asks role_associates settings_fit time_fits expired_move freed_of queried_timed reported_of tick_of timed_of ended_of
    table_of alone_in crowd_of sparse_of well_formed clocked_of passed_in passed_of report_for reports_of all_tails count_of link_addresses_of some_of first_of reports_in
    retried_of insert_of sorted_of
dock_at_work = record { well = refl; unretried = refl; told_first = refl; told_second = refl; told_long = refl; left_two = refl; left_long = refl }

pub truck_at_work :
    AtWork as_station truck 5 (report_bytes 1 1 other ∷ []) (report_bytes 0 2 them ∷ []) (report_bytes 0 2 them ∷ report_bytes 1 1 other ∷ [])
    (peer them 2 exchange.None 0 0 query.None unlinked
    ∷ free_of
    ∷ peer third 2 exchange.None 0 1764 query.None unlinked
    ∷ free_of
    ∷ peer fifth 4 exchange.None 0 0 query.None unlinked
    ∷ [])
unfolding group_of valid_of octets no_links report_bytes asked_fits awaiting_fits highest_state hold_fits links_fit links_stand place_fits query_allowed query_stands record_fits
    running_fits sent_fits slot_fits stands query_in reaches running_report running_retried running_timed associates changed_of is_free is_joined queried_of
    network_fits query_times_fit role_answers role_asks role_associates settings_fit time_fits expired_move freed_of queried_timed reported_of tick_of timed_of ended_of
    table_of alone_in crowd_of sparse_of well_formed clocked_of passed_in passed_of report_for reports_of all_tails count_of link_addresses_of some_of first_of reports_in
    retried_of insert_of sorted_of
truck_at_work = record { well = refl; unretried = refl; told_first = refl; told_second = refl; told_long = refl; left_two = refl; left_long = refl }

pub cold_store_at_work :
    AtWork ad_hoc_peer cold_store 3 (report_bytes 1 1 other ∷ []) (report_bytes 0 1 them ∷ []) (report_bytes 0 1 them ∷ report_bytes 1 1 other ∷ [])
    (free_of
    ∷ peer other 2 exchange.None 0 0 query.None unlinked
    ∷ peer third 1 (exchange.Asked kind.Authentication) 0 0 query.None unlinked
    ∷ [])
unfolding group_of valid_of octets no_links report_bytes asked_fits awaiting_fits highest_state hold_fits links_fit links_stand place_fits query_allowed query_stands record_fits
    running_fits sent_fits slot_fits stands query_in reaches running_report running_retried running_timed associates changed_of is_free is_joined queried_of
    network_fits query_times_fit role_answers role_asks role_associates settings_fit time_fits expired_move freed_of queried_timed reported_of tick_of timed_of ended_of
    table_of alone_in crowd_of sparse_of well_formed clocked_of passed_in passed_of report_for reports_of all_tails count_of link_addresses_of some_of first_of reports_in
    retried_of insert_of sorted_of
cold_store_at_work = record { well = refl; unretried = refl; told_first = refl; told_second = refl; told_long = refl; left_two = refl; left_long = refl }

-- What the theorem asks for is met by each: the same table, and the same reports.
abbrev Same : Settings → List Record → Type 0
Same s t =
    (leaves s (leaves s t 100) 90 ≡ leaves s t 190)
    × (sorted_of (tells s t 100 ++ tells s (leaves s t 100) 90) ≡ tells s t 190)

same : (s : Settings) (t : List Record) → well_formed s t ≡ true → length t ≡ 32 → retried_of s 190 t ≡ false → Same s t
unfolding lapse_fits time_fits
same s t h l r = let a = one_or_two s t (step 100) (step 90) (step 190) (h, l) refl refl refl refl in (a.table, a.reported r)

pub dock_same : Same as_ap dock
unfolding table_of
dock_same = same as_ap dock dock_at_work.well refl dock_at_work.unretried

pub truck_same : Same as_station truck
unfolding table_of
truck_same = same as_station truck truck_at_work.well refl truck_at_work.unretried

pub cold_store_same : Same ad_hoc_peer cold_store
unfolding table_of
cold_store_same = same ad_hoc_peer cold_store cold_store_at_work.well refl cold_store_at_work.unretried

-- Around a retry: a query that has just begun, its retry at 201 TU and at 402. Two steps report each, one step reports one; the tables are the same.
abbrev pub yard : List Record
yard = table_of (peer them 4 exchange.None 0 0 (query.Running 1000 true) unlinked ∷ [])

pub record Around (n : ℕ) (kind : ℕ) : Type 0 where
  retried : retried_of as_ap (201 + n) yard ≡ true
  two : sorted_of (tells as_ap yard 201 ++ tells as_ap (leaves as_ap yard 201) n) ≡ report_bytes 0 4 them ∷ report_bytes 0 kind them ∷ []
  one : tells as_ap yard (201 + n) ≡ report_bytes 0 kind them ∷ []

-- the next retry; the maximum
pub around_retries : Around 201 4
unfolding group_of valid_of octets no_links report_bytes asked_fits awaiting_fits highest_state hold_fits links_fit links_stand place_fits query_allowed query_stands record_fits
    running_fits sent_fits slot_fits stands query_in reaches running_report running_retried running_timed associates changed_of is_free is_joined queried_of
    network_fits query_times_fit role_answers role_asks role_associates settings_fit time_fits expired_move freed_of queried_timed reported_of tick_of timed_of ended_of
    table_of alone_in crowd_of sparse_of well_formed clocked_of passed_in passed_of report_for reports_of all_tails count_of link_addresses_of some_of first_of reports_in
    retried_of insert_of sorted_of
around_retries = record { retried = refl; two = refl; one = refl }

pub around_maximum : Around 799 5
unfolding group_of valid_of octets no_links report_bytes asked_fits awaiting_fits highest_state hold_fits links_fit links_stand place_fits query_allowed query_stands record_fits
    running_fits sent_fits slot_fits stands query_in reaches running_report running_retried running_timed associates changed_of is_free is_joined queried_of
    network_fits query_times_fit role_answers role_asks role_associates settings_fit time_fits expired_move freed_of queried_timed reported_of tick_of timed_of ended_of
    table_of alone_in crowd_of sparse_of well_formed clocked_of passed_in passed_of report_for reports_of all_tails count_of link_addresses_of some_of first_of reports_in
    retried_of insert_of sorted_of
around_maximum = record { retried = refl; two = refl; one = refl }

-- so the law needs its condition
pub condition_needed : (n kind : ℕ) → Around n kind → sorted_of (tells as_ap yard 201 ++ tells as_ap (leaves as_ap yard 201) n) ≡ tells as_ap yard (201 + n) → ⊥
condition_needed n kind a h = let z : ◌≡◌ {A = ℕ} 2 1 = ap length (sym a.two ∙ h ∙ a.one) in absurd (omega arith)
