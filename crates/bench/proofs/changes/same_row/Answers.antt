-- `bench::changes::same_row` meets its contract: as long as none differs, the octets so far are the same.
-- Assumes nothing.
use Rattle.bench.proofs.ChangedRows.{alike_step}
use Rattle.peer.proofs.Fits.{clash}
use mathlib.Core.Path.{◌≡◌, sym, ◌∙◌}
use native.Mathlib.Omega.{arith}
use Rattle.bench.proofs.changes.same_row.Goals as goal
use Rattle.bench.proofs.changes.same_row.Goals.{then-a-at, else-a-at}

pub loop-j-preserved : goal.loop-j-preserved
loop-j-preserved c =
    let l = c.loop-j in
    λ h.
    elim c.if-a-at.branch [
      | then-a-at w ↦ clash h w.same-is
      | else-a-at w ↦ alike_step _ _ _ l.j c.requires.0 c.requires.1 (omega arith) w.if-a-at.false (l.invariant (sym w.same-is ∙ h))
    ]

pub returns : goal.returns
returns c = λ h. let e : c.loop-j.j ≡ 48 = omega arith in rw e at (c.loop-j.invariant h)
