-- `bench::run::refill` meets its contract: what is left moves to the front, and what is read goes behind it.
-- Assumes nothing.
use Prim.Native.Nat.{◌-◌, ◌≤◌}
use Rattle.bench.proofs.Refills.{front_kept, left_le, refilled}
use Rattle.bench.specs.Run.{left_of, shifted_of}
use Rattle.bench.specs.Turn.{failed, more}
use borrow.Rule.Slice.PartMut.{same_len_mid}
use lib.ListN.{length}
use mathlib.Core.Path.{◌≡◌, ◌∙◌}
use native.Mathlib.Omega.{arith}
use Rattle.bench.proofs.run.refill.Goals as goal

pub slice_bounds-read-start : goal.slice_bounds-read-start
slice_bounds-read-start g c =
    let e = c.shift-left.ensures.0 in
    let k : length c.shift-left.new.input ≡ length c.args.input.now = c.shift-left.auto.input in
    omega (arith, left_le c.args.r.at c.args.r.have (length c.args.input.now))

pub slice_bounds-read-count : goal.slice_bounds-read-count
slice_bounds-read-count g c =
    let e = c.shift-left.ensures.0 in
    let k : length c.shift-left.new.input ≡ length c.args.input.now = c.shift-left.auto.input in
    omega (arith, left_le c.args.r.at c.args.r.have (length c.args.input.now))

pub returns-in-Ok : goal.returns-in-Ok
returns-in-Ok g c =
    let r = c.args.r in
    let s = c.args.input.now in
    let e = c.shift-left.ensures.0 in
    let k : length c.shift-left.new.input ≡ length s = c.shift-left.auto.input in
    let h : c.shift-left.result ≤ length c.shift-left.new.input = omega (arith, left_le r.at r.have (length s)) in
    more c.in-Ok.n
    (refilled r c.in-Ok.n c.shift-left.result _ (length s) c.behind-have.result c.behind-have.ensures (same_len_mid c.shift-left.result (length c.shift-left.new.input - c.shift-left.result) c.shift-left.new.input c.read.new.buf c.read.auto.buf ∙ k) e)
    (front_kept c.shift-left.new.input _ (shifted_of r.at r.have s) c.shift-left.result (left_of r.at r.have (length s)) h e c.shift-left.ensures.1)

pub returns-in-Err : goal.returns-in-Err
returns-in-Err g c = failed c.finish.ensures
