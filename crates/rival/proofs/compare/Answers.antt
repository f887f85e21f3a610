-- `rival::compare` meets its contract: one octet of each more by `both_on`, and the ends.
-- Assumes nothing.
use native.Mathlib.Omega.{arith}
use Prim.Native.Nat.{◌+◌}
use mathlib.Core.Logic.{inl, inr}
use mathlib.Core.Path.{◌≡◌}
use lib.ListN.{length}
use Rattle.rival.proofs.Passing.{after_none, both_on, both_stop, ours_ended, theirs_ended}
use Rattle.rival.proofs.compare.Goals as goal

pub overflow_add-taken : goal.overflow_add-taken
overflow_add-taken c = omega arith

pub loop-x-init : goal.loop-x-init
loop-x-init c =
    let i = c.into_iter-x-iterator.result in
    let a : i.a.rest.now ≡ c.args.ours.now = cc in
    let b : i.b.rest.now ≡ c.args.theirs.now = cc in
    (rw a (omega arith), rw (a, b) (after_none _))

pub loop-x-preserved : goal.loop-x-preserved
loop-x-preserved c =
    let s = c.in-Some.ensures.steps in
    let k : length c.loop-x.x-iterator.a.rest.now ≡ 1 + length c.next.new.self.a.rest.now = rw s.0 (omega arith) in
    (omega arith, rw c.beside-standing.ensures (both_on _ _ _ _ _ _ _ c.loop-x.invariant.1 _ _ _ _ s.0 s.1 c.if-standing.false))

pub returns-in-None : goal.returns-in-None
returns-in-None c =
    elim c.in-None.ensures.steps [
      | inl p ↦ ours_ended _ _ _ _ _ _ _ c.loop-x.invariant.1 p.1.0
      | inr p ↦ theirs_ended _ _ _ _ _ _ _ c.loop-x.invariant.1 p.1.0
    ]

pub returns-then-standing : goal.returns-then-standing
returns-then-standing c = both_stop _ _ _ _ _ _ _ c.loop-x.invariant.1 c.if-standing.true
