-- `rival::compare` meets its contract. The loop's invariant: what is left of both, with the octets that were taken, comes to what both come to.
-- Assumes nothing.
use Prim.Native.Nat.{◌+◌}
use mathlib.Core.Path.{◌≡◌}
use lib.ListN.{length}
use Rattle.rival.specs.Beside.{compared_of}
use Rattle.rival.proofs.Passing.{after}
use Rattle.rival.proofs.compare.Given as goal

abbrev pub invariant-loop-x : goal.invariant-loop-x
invariant-loop-x l =
    let us = l.x-iterator.a.rest.now in
    let vs = l.x-iterator.b.rest.now in
    (l.taken + length us ≡ length l.fn.ours) × (after l.taken (compared_of l.standing us vs) ≡ compared_of l.fn.s l.fn.ours l.fn.theirs)
