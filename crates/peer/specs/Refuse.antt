-- 01, "Refusal numbers" and "Primitives from our own side": what refuses a primitive at one peer. The order is the table's.
-- Assumes nothing.
use Rattle.std.specs.Prelude.{ℕ, Bool, true, false, not, ◌&&◌, ◌||◌, ◌==◌, nat_le, nat_lt}
use Rattle.octets.specs.Pick.{pick}
use Rattle.octets.specs.declared.heard.Kind.TheVariants.{Association, Authentication, Reassociation}
use Rattle.peer.specs.Query.{is_due}
use Rattle.peer.specs.Record.{awaiting_of, is_asked, under_way}
use Rattle.peer.specs.Settings.{ap, role_answers, role_asks, role_associates, station}
use Rattle.peer.specs.declared.record.Record.{Record}
use Rattle.peer.specs.declared.refuse.Others.{Others}

-- Whether a number is one of two.
abbrev pub one : ℕ → ℕ → ℕ → Bool
one q a b = q == a || q == b

-- Refusal 3, "unknown primitive; .. code not allowed": 1, 4, 5 and 9 code 0; 3 and 6 reason not 0; 10 "1 acknowledged, 0 not"; 2, 7, 8 a status.
-- 02, K5: "primitive 11 (AP, code 0)".
unfoldable pub code_allowed : ℕ → ℕ → Bool
code_allowed q c =
    pick (one q 1 9 || (one q 4 5 || q == 11)) (c == 0)
    (pick (one q 3 6) (not (c == 0))
    (pick (q == 10) (nat_le c 1)
    (q == 2 || one q 7 8)))

-- Refusal 5, "primitive not for this role": 1, 4, 5 station; 2, 7, 8, 10, 11 AP; the others are for both. 02, K10: "Authentication may be asked
-- by either end" (1, 2); "5 for primitives 4 to 11" in role 3.
unfoldable pub role_allowed : ℕ → ℕ → Bool
role_allowed q role =
    pick (q == 1) (role_asks role)
    (pick (q == 2) (role_answers role)
    (pick (one q 4 5) (role == station)
    (pick (one q 6 9) (role_associates role)
    (pick (one q 7 8 || one q 10 11) (role == ap)
    true))))

-- "9 if this record has an exchange or any has a (re)association"
unfoldable pub join_conflict : Record → Others → Bool
join_conflict p o = not (under_way p.exchange == 0) || o.busy

-- Refusal 9: 1, "if this record has an exchange"; 4 and 5 as above.
unfoldable pub conflict_of : Record → Others → ℕ → Bool
conflict_of p o q =
    pick (q == 1) (not (under_way p.exchange == 0))
    (pick (one q 4 5) (join_conflict p o)
    false)

-- "another record is in State 3 or 4"; a station has at most one
unfoldable pub joined_elsewhere : Record → Others → Bool
joined_elsewhere p o = not (o.associated == 0) && not (o.associated == p.address)

-- Refusal 7: 2, 7 and 8 "unless that is asked"; 4 "if another record is in State 3 or 4"; 9 "State 3 to 4; State 4 kept; else 7";
-- 10 "unless awaited". 02, K5: "7 for primitive 11 without a query due".
unfoldable pub mismatch_of : Record → Others → ℕ → Bool
mismatch_of p o q =
    pick (q == 2) (not (is_asked Authentication p.exchange))
    (pick (q == 4) (joined_elsewhere p o)
    (pick (q == 7) (not (is_asked Association p.exchange))
    (pick (q == 8) (not (is_asked Reassociation p.exchange))
    (pick (q == 9) (nat_lt p.state 3)
    (pick (q == 10) (awaiting_of p.exchange == 0)
    (pick (q == 11) (not (is_due p.query))
    false))))))

-- Refusal 8, "the hold on this peer is above 0": 4 and 5.
unfoldable pub held_of : Record → ℕ → Bool
held_of p q = pick (one q 4 5) (nat_lt 0 p.hold) false
