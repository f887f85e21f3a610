-- `table::records::places::part_all` meets its contract: the places passed are mapped, the others are not.
-- Assumes nothing.
use Rattle.peer.specs.Association.{parted_of}
use lib.ListN.{drop, length, take}
use mathlib.Core.List.{◌++◌, map}
use mathlib.Core.Path.{◌≡◌}
use Rattle.table.proofs.records.places.part_all.Given as goal

abbrev pub invariant-loop-i : goal.invariant-loop-i
invariant-loop-i l = (length l.next ≡ 32) × (take l.i l.next ++ map parted_of (drop l.i l.next) ≡ map parted_of l.initial.next)
