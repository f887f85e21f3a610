-- `table::records::places::part_all` meets its contract: the places passed are mapped, the others are not.
-- Assumes nothing.
use Rattle.peer.specs.Association.{parted_of}
use Rattle.peer.specs.Record.{free_of}
use Rattle.table.proofs.Passes.Loops.{map_end, map_step}
use lib.ListN.{length-set}
use mathlib.Core.Path.{◌∙◌}
use native.Mathlib.Omega.{arith}
use Rattle.table.proofs.records.places.part_all.Goals as goal

pub loop-i-preserved : goal.loop-i-preserved
loop-i-preserved c =
    let k = c.loop-i.invariant in
    (simp length-set k.0, map_step parted_of c.loop-i.next c.loop-i.i free_of _ (omega (arith, k.0, c.loop-i-test.true)) c.parted.ensures ∙ k.1)

pub returns : goal.returns
returns c = map_end parted_of c.loop-i.next _ c.loop-i.i (omega (arith, c.loop-i.invariant.0, c.loop-i-test.false)) c.loop-i.invariant.1
