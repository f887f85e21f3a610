-- 01, Settings, table, clock: "Settings: role (1 AP, 2 station), own address, whether RSNA is required (0 or 1), authentication and
-- association timeouts (1 to 65,535 TU)". 02, K2: "Settings gain an edition (1 or 2) and a protection flag":
-- the edition names one of two rules for a rejected association, the flag says whether management frame protection is in use.
-- 02, K5: "Settings gain retry and maximum times (1 to 65,535 TU)", of an SA Query.
-- 02, K10: "Add an ad hoc profile, role 3. .. Settings gain the network's address".
-- Assumes nothing.
use Rattle.std.specs.Prelude.{ℕ, Bool, not, ◌&&◌, ◌||◌, ◌==◌, nat_le}
use Rattle.octets.specs.Address.{valid_of}
use Rattle.peer.specs.declared.settings.Settings.{Settings}

abbrev pub ap : ℕ
ap = 1

abbrev pub station : ℕ
station = 2

abbrev pub ad_hoc : ℕ
ad_hoc = 3

-- What a role may do; what more than one role does goes by these.
-- It sends requests, and what it sent has a time: a station, and in an ad hoc network "either end".
unfoldable pub role_asks : ℕ → Bool
role_asks role = not (role == ap)

-- It answers requests for authentication: an AP, and in an ad hoc network "either end".
unfoldable pub role_answers : ℕ → Bool
role_answers role = not (role == station)

-- It takes part in associations, so that there are States 3 and 4: an AP and a station.
unfoldable pub role_associates : ℕ → Bool
role_associates role = not (role == ad_hoc)

-- "1 to 65,535 TU": a timeout, and what is left of one
unfoldable pub time_fits : ℕ → Bool
time_fits n = not (n == 0) && nat_le n 65535

-- 02, K5: "retry and maximum times (1 to 65,535 TU)"
unfoldable pub query_times_fit : Settings → Bool
query_times_fit s = time_fits s.retry && time_fits s.maximum

-- 02, K10: "2 for role 3 without a valid network address"; in the other roles it is not looked at
unfoldable pub network_fits : Settings → Bool
network_fits s = role_associates s.role || valid_of s.network

-- "settings in range and own address valid"; 02, K2: "an edition (1 or 2) and a protection flag", "another edition or flag value is 2"; and the
-- times of a query, and the network's address
unfoldable pub settings_fit : Settings → Bool
settings_fit s =
    not (s.role == 0) && (nat_le s.role 3
    && (nat_le s.rsna 1
    && (time_fits s.authentication
    && (time_fits s.association
    && (nat_le s.protection 1
    && (not (s.edition == 0)
    && (nat_le s.edition 2
    && (query_times_fit s
    && (network_fits s
    && valid_of s.own)))))))))
