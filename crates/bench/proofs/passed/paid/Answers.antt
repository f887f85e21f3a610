-- `bench::passed::paid` meets its contract: what was put out is no more than was due, so no sum wraps.
-- Assumes nothing.
use Rattle.bench.specs.Import.{due_of, paid_of}
use borrow.Author.Rules.{rules}
use native.Mathlib.Omega.{arith}
use Rattle.bench.proofs.passed.paid.Goals as goal

pub overflow_mul-result : goal.overflow_mul-result
unfolding due_of
overflow_mul-result c = omega arith

pub overflow_add-result : goal.overflow_add-result
unfolding due_of
overflow_add-result c = omega arith

pub returns : goal.returns
unfolding paid_of
returns c = search rules
