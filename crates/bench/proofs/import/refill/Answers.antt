-- `bench::import::refill` meets its contract: what is left moves to the front, and what is read goes behind it.
-- Assumes nothing.
use Prim.Native.Nat.{◌≤◌}
use Rattle.bench.proofs.Refills.{left_le}
use lib.ListN.{length}
use mathlib.Core.Path.{◌≡◌}
use native.Mathlib.Omega.{arith}
use Rattle.bench.proofs.import.refill.Goals as goal

pub slice_bounds-read-count : goal.slice_bounds-read-count
slice_bounds-read-count c =
    let r = c.args.j in
    let s = c.args.input.now in
    let e = c.shift-left.ensures.0 in
    let k : length c.shift-left.new.input ≡ length s = c.shift-left.auto.input in
    let h : c.shift-left.result ≤ length c.shift-left.new.input = omega (arith, left_le r.at r.have (length s)) in
    omega arith

pub slice_bounds-read-start : goal.slice_bounds-read-start
slice_bounds-read-start c =
    let r = c.args.j in
    let s = c.args.input.now in
    let e = c.shift-left.ensures.0 in
    let k : length c.shift-left.new.input ≡ length s = c.shift-left.auto.input in
    let h : c.shift-left.result ≤ length c.shift-left.new.input = omega (arith, left_le r.at r.have (length s)) in
    omega arith
