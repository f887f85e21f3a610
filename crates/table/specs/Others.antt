-- What a station's primitives ask of the whole table: which record is in State 3 or 4, and whether any has a (re)association.
-- Assumes nothing.
use Rattle.std.specs.Prelude.{ℕ, false, List, [], ◌∷◌, ltb}
use Rattle.octets.specs.Pick.{pick}
use Rattle.peer.specs.Settings.{role_answers}
use Rattle.peer.specs.Record.{is_joined}
use Rattle.peer.specs.declared.settings.Settings.{Settings}
use Rattle.peer.specs.declared.record.Record.{Record}
use Rattle.peer.specs.declared.refuse.Others.{Others}
use Rattle.table.specs.Fit.{crowd_of}

-- The address of the record in State 3 or 4, of which a station has at most one; 0 where there is none.
unfoldable pub associated_of : List Record → ℕ
associated_of [] = 0
associated_of (p ∷ ps) = pick (is_joined p) p.address (associated_of ps)

-- A role that answers does not look at the other records.
unfoldable pub others_of : Settings → List Record → Others
others_of s t =
    pick (role_answers s.role)
    (record { associated = 0; busy = false })
    (record { associated = associated_of t; busy = ltb 0 (crowd_of t).associating })
