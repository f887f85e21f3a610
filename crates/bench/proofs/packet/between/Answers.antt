-- `bench::packet::between` meets its contract: each answer by the tests that led to it and what its callees ensure.
-- Assumes nothing.
use Prim.Native.Nat.{◌+◌, ◌-◌}
use Rattle.bench.proofs.Fronts.{idle, part_short}
use Rattle.bench.specs.Importer.{between_front}
use borrow.Author.Tests.{le-ltb, lt-ltb}
use mathlib.Core.Path.{◌∙◌, ◌≡◌, refl, sym}
use native.Mathlib.Omega.{arith}
use Rattle.bench.proofs.packet.between.Goals as goal

pub returns-then-xs-lt16 : goal.returns-then-xs-lt16
unfolding between_front
returns-then-xs-lt16 c = rw (lt-ltb _ _ c.if-xs-lt16.true) (idle refl refl)

pub returns-then-not-is_kept : goal.returns-then-not-is_kept
unfolding between_front
returns-then-not-is_kept c = rw (le-ltb _ _ c.if-xs-lt16.false, ← c.number_at-captured.ensures, ← c.number_at-original.ensures, ← c.is_kept.ensures, c.if-not-is_kept.true, ← c.time_at.ensures, ← c.moved-c.ensures) (idle refl refl)

pub returns-then-xs-size : goal.returns-then-xs-size
unfolding between_front
returns-then-xs-size c = rw (le-ltb _ _ c.if-xs-lt16.false, ← c.number_at-captured.ensures, ← c.number_at-original.ensures, ← c.is_kept.ensures, c.if-not-is_kept.false, lt-ltb _ _ c.if-xs-size.true) (idle refl refl)

pub keep-requires : goal.keep-requires
keep-requires c =
    record {
      at_in_bounds = omega arith;
      octets_len_bound = part_short c.number_at-captured.result c.number_at-original.result c.args.xs.now c.if-xs-lt16.false c.if-xs-size.false (sym c.is_kept.ensures ∙ c.if-not-is_kept.false);
      n_value = c.due.ensures;
    }

pub returns : goal.returns
unfolding between_front
returns c =
    let n = c.number_at-captured.result in
    let z : 16 + n - 16 ≡ n = omega arith in
    rw (le-ltb _ _ c.if-xs-lt16.false, ← c.number_at-captured.ensures, ← c.number_at-original.ensures, ← c.is_kept.ensures, c.if-not-is_kept.false, le-ltb _ _ c.if-xs-size.false, ← c.time_at.ensures, ← c.moved-c.ensures, ← c.due.ensures) (rw z at c.keep.ensures)
