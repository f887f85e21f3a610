-- `table::host::survey::used` meets its contract: the places passed are free.
-- Assumes nothing.
use Prim.Native.Nat.{◌+◌, ◌*◌, ◌-◌, ℕ}
use Rattle.octets.specs.Row.{blank_at}
use Rattle.peer.proofs.Fits.{both}
use Rattle.table.proofs.Octets.Surveys.{one_down}
use mathlib.Core.Bool.{true}
use mathlib.Core.Path.{◌∙◌, ◌≡◌, sym}
use native.Mathlib.Omega.{arith}
use Rattle.table.proofs.host.survey.used.Goals as goal

pub returns-then-table-ne1536 : goal.returns-then-table-ne1536
returns-then-table-ne1536 c = absurd (c.if-table-ne1536.true c.requires)

pub loop-i-init : goal.loop-i-init
loop-i-init c = (c.requires, omega arith, λ j l h. absurd (omega arith))

pub returns-then-not-blank_four : goal.returns-then-not-blank_four
returns-then-not-blank_four c = (omega (arith, c.loop-i.invariant.1), omega arith, λ j l h. c.loop-i.invariant.2 j (omega arith) h)

pub loop-i-preserved : goal.loop-i-preserved
loop-i-preserved c =
    let i = c.loop-i.i in
    let more = c.loop-i-test.true in
    let free : ℕ → Type 0 = λ j. blank_at (48 * j) c.args.table.now ≡ true in
    let last = both _ _ (sym c.blank_four.ensures ∙ c.if-not-blank_four.false) in
    let third = both _ _ last.1 in
    let second = both _ _ third.1 in
    let p3 : 48 * (4 * i - 1) ≡ 192 * (i - 1) + 144 = omega (arith, more) in
    let p2 : 48 * (4 * i - 1 - 1) ≡ 192 * (i - 1) + 96 = omega (arith, more) in
    let p1 : 48 * (4 * i - 1 - 1 - 1) ≡ 192 * (i - 1) + 48 = omega (arith, more) in
    let p0 : 48 * (4 * i - 1 - 1 - 1 - 1) ≡ 192 * (i - 1) = omega (arith, more) in
    let d3 = one_down free (4 * i) (omega (arith, more)) (rw p3 last.0) c.loop-i.invariant.2 in
    let d2 = one_down free (4 * i - 1) (omega (arith, more)) (rw p2 third.0) d3 in
    let d1 = one_down free (4 * i - 1 - 1) (omega (arith, more)) (rw p1 second.0) d2 in
    (c.loop-i.invariant.0, omega (arith, c.loop-i.invariant.1), λ j l h. one_down free (4 * i - 1 - 1 - 1) (omega (arith, more)) (rw p0 second.1) d1 j (omega (arith, l)) h)

pub returns : goal.returns
returns c = (omega arith, omega arith, λ j l h. c.loop-i.invariant.2 j (omega (arith, c.loop-i-test.false)) h)
