-- 01: "A clock step (1 to 65,535 TU) lowers every time left and every hold, not below 0. An exchange whose time falls to 0 from above ends:
-- authentication keeps the state, the others set State 2. .. Then every record in State 1 without exchange and with hold 0 is freed for
-- use again." At one record. 02, K5: what is left of a query falls too.
-- Assumes nothing.
use Rattle.std.specs.Prelude.{ℕ, ◌-◌, ◌&&◌, ◌==◌, nat_lt}
use Rattle.octets.specs.Links.{no_links}
use Rattle.octets.specs.Pick.{pick}
use Rattle.octets.specs.declared.heard.Kind.TheVariants.{Authentication}
use Rattle.peer.specs.Query.{query_report, query_timed}
use Rattle.peer.specs.Record.{changed_of, free_of, kind_of, queried_of, under_way}
use Rattle.peer.specs.Turn.{ended_of}
use Rattle.peer.specs.declared.moves.Move.TheVariants as move
use Rattle.peer.specs.declared.moves.Move.{Move}
use Rattle.peer.specs.declared.record.Record.{Record}
use Rattle.peer.specs.declared.settings.Settings.{Settings}
use Rattle.peer.specs.declared.tick.Ticked.{Ticked}

-- "authentication keeps the state, the others set State 2"
unfoldable pub expired_move : ℕ → Move
expired_move kind = pick (kind == kind_of Authentication) move.Keep move.Drop

-- The times fall, not below 0 (subtraction stops there), and an exchange may end; the number of its kind is reported, else 0.
unfoldable pub timed_of : Settings → Record → ℕ → Ticked
timed_of s p d =
    pick (p.left == 0)
    (record { peer = changed_of p p.state p.exchange 0 (p.hold - d); report = 0 })
    (pick (nat_lt d p.left)
    (record { peer = changed_of p p.state p.exchange (p.left - d) (p.hold - d); report = 0 })
    (record { peer = ended_of s p (expired_move (under_way p.exchange)) (p.hold - d); report = under_way p.exchange }))

-- "every record in State 1 without exchange and with hold 0 is freed"; 02, K11: "A record with links is freed by no clock step"
unfoldable pub freed_of : Record → Record
freed_of p = pick (p.state == 1 && (p.hold == 0 && (under_way p.exchange == 0 && no_links p.links))) free_of p

-- The query of a record after a step, and what is reported: "one report a record". An exchange that ends and a query never stand in one record
-- that is well formed (an AP's exchanges have no time); its report would win.
unfoldable pub queried_timed : Settings → Record → ℕ → Record
queried_timed s p d = queried_of p (query_timed s p.query d) p.identifier

unfoldable pub reported_of : Settings → Ticked → ℕ → ℕ
reported_of s t d = pick (t.report == 0) (query_report s t.peer.query d) t.report

unfoldable pub tick_of : Settings → Record → ℕ → Ticked
tick_of s p d = record { peer = freed_of (queried_timed s (timed_of s p d).peer d); report = reported_of s (timed_of s p d) d }
