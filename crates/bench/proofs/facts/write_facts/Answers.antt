-- `bench::facts::write_facts` meets its contract: the octets, where there is room.
-- Assumes nothing.
use Rattle.bench.proofs.Counting.{facts_length, facts_short}
use Rattle.bench.proofs.Outputs.{put_none, put_stored}
use borrow.Author.Tests.{leb-true}
use mathlib.Core.Path.{ap, sym, ◌∙◌}
use Prim.Native.Nat.{ℕ, ◌+◌, ◌≤◌}
use lib.ListN.{length}
use native.Mathlib.Omega.{arith}
use Rattle.bench.proofs.facts.write_facts.Goals as goal

pub returns-then-not-has_room : goal.returns-then-not-has_room
returns-then-not-has_room c = put_none _ _ (sym c.has_room.ensures ∙ c.if-not-has_room.true)

pub put_facts-requires : goal.put_facts-requires
put_facts-requires c =
    let a = c.args in
    let h : a.at + 64 ≤ length a.out.now = leb-true (a.at + 64) (length a.out.now) (sym c.has_room.ensures ∙ c.if-not-has_room.false) in
    (omega arith, omega arith)

pub returns : goal.returns
returns c =
    let a = c.args in
    let n = facts_length a.a a.dropped a.reports.now a.set a.hold in
    put_stored 64 _ c.put_facts.ensures.1 (leb-true _ _ (sym c.has_room.ensures ∙ c.if-not-has_room.false)) (facts_short a.a a.dropped a.reports.now a.set a.hold) (c.put_facts.ensures.0 ∙ ap (λ (k : ℕ). a.at + k) (sym n))
