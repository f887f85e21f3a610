-- 01, "Well formed": what it asks of one record by itself.
-- Assumes nothing.
use Rattle.std.specs.Prelude.{ℕ, Bool, true, not, ◌&&◌, ◌||◌, ◌==◌, nat_le}
use Rattle.octets.specs.Address.{valid_of}
use Rattle.octets.specs.Links.{no_links}
use Rattle.octets.specs.Pick.{pick}
use Rattle.octets.specs.declared.heard.Kind.{Kind}
use Rattle.octets.specs.declared.links.Links.{Links}
use Rattle.peer.specs.Record.{is_associating, is_free}
use Rattle.peer.specs.Settings.{ap, role_answers, role_asks, role_associates, time_fits}
use Rattle.peer.specs.declared.query.Query.TheVariants as query
use Rattle.peer.specs.declared.query.Query.{Query}
use Rattle.peer.specs.declared.exchange.Exchange.TheVariants.{Asked, Awaiting, None, Sent}
use Rattle.peer.specs.declared.exchange.Exchange.{Exchange}
use Rattle.peer.specs.declared.record.Record.{Record}
use Rattle.peer.specs.declared.settings.Settings.{Settings}

-- "every (re)association exchange stands in State 2 or above"; "exchanges fit the role": where nobody associates there is none
unfoldable pub stands : Kind → ℕ → ℕ → Bool
stands k role state = pick (is_associating k) (role_associates role && nat_le 2 state) true

-- "exchanges fit the role": asked, AP (any of the three); "every other time left is 0". 02, K10: "an asked exchange has time 0"
unfoldable pub asked_fits : Kind → ℕ → ℕ → ℕ → Bool
asked_fits k role state left = role_answers role && (left == 0 && stands k role state)

-- "response not yet acknowledged, AP (the last two)"
unfoldable pub awaiting_fits : Kind → ℕ → ℕ → ℕ → Bool
awaiting_fits k role state left = is_associating k && asked_fits k role state left

-- "sent, station (any of the three)"; "a station's exchange has 1 to 65,535 TU left". 02, K10: "Clock and timeouts are a station's"
unfoldable pub sent_fits : Kind → ℕ → ℕ → ℕ → Bool
sent_fits k role state left = role_asks role && (time_fits left && stands k role state)

abbrev pub exchange_fits : Exchange → ℕ → ℕ → ℕ → Bool
exchange_fits None role state left = left == 0
exchange_fits (Asked k) role state left = asked_fits k role state left
exchange_fits (Awaiting k) role state left = awaiting_fits k role state left
exchange_fits (Sent k) role state left = sent_fits k role state left

-- "a hold time left (0 to 4,294,967,295 TU)"; "an AP's holds are 0"
unfoldable pub hold_fits : ℕ → ℕ → Bool
hold_fits role hold = nat_le hold 4294967295 && (role_asks role || hold == 0)

-- 02, K5: "Well formed allows a query or mark only in State 4 at an AP, remaining 1 to the maximum."
unfoldable pub query_stands : Settings → ℕ → Bool
query_stands s state = s.role == ap && state == 4

unfoldable pub running_fits : Settings → ℕ → ℕ → Bool
running_fits s state left = not (left == 0) && (nat_le left s.maximum && query_stands s state)

abbrev pub query_fits : Settings → ℕ → Query → Bool
query_fits s state query.None = true
query_fits s state (query.Running left due) = running_fits s state left
query_fits s state query.TimedOut = query_stands s state

-- "a two-octet identifier": any, outside free places
unfoldable pub query_allowed : Settings → Record → Bool
query_allowed s p = nat_le p.identifier 65535 && query_fits s p.state p.query

-- 02, K11: "every address outside free places valid, not own and unlike every other" (that last of the whole table). A slot has a link only if
-- what stands before it is an address.
unfoldable pub slot_fits : ℕ → ℕ → ℕ → Bool
slot_fits own before l = l == 0 || (not (before == 0) && (not (l == own) && valid_of l))

unfoldable pub links_stand : ℕ → ℕ → Links → Bool
links_stand own address ls =
    slot_fits own address ls.one
    && (slot_fits own ls.one ls.two
    && (slot_fits own ls.two ls.three
    && slot_fits own ls.three ls.four))

-- "links only at an access point"
unfoldable pub links_fit : Settings → Record → Bool
links_fit s p = no_links p.links || (s.role == ap && links_stand s.own p.address p.links)

-- "each in State 1 to 4"; 02, K10: "States over 2 are not well formed"
unfoldable pub highest_state : ℕ → ℕ
highest_state role = pick (role_associates role) 4 2

-- "each in State 1 to 4"; "outside free places no address is invalid, own"; the hold, the exchange, the
-- query and the links as above
unfoldable pub record_fits : Settings → Record → Bool
record_fits s p =
    nat_le 1 p.state && (nat_le p.state (highest_state s.role)
    && (not (p.address == s.own)
    && (valid_of p.address
    && (hold_fits s.role p.hold
    && (exchange_fits p.exchange s.role p.state p.left
    && (query_allowed s p
    && links_fit s p))))))

-- "each in State 1 to 4 or all zero"
unfoldable pub place_fits : Settings → Record → Bool
place_fits s p = is_free p || record_fits s p
