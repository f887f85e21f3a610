-- `bench::put::put_rest` meets its contract: a frame, or a step and a frame behind it.
-- Assumes nothing.
use Rattle.bench.proofs.Fronts.{step_length, step_then}
use Rattle.bench.specs.Import.{rest_of, written_of}
use Rattle.octets.proofs.Stores.{then}
use borrow.Author.Tests.{eq-eqb, ne_eqb}
use mathlib.Core.List.{append-nil}
use mathlib.Core.Path.{◌∙◌}
use Rattle.bench.proofs.put.put_rest.Goals as goal

pub returns-then-n-eq0 : goal.returns-then-n-eq0
unfolding rest_of written_of
returns-then-n-eq0 c = rw (eq-eqb _ _ c.if-n-eq0.true, append-nil) c.put_frame.ensures

pub returns : goal.returns
unfolding rest_of written_of
returns c =
    let p2 = c.put_frame-2 in
    let p1 = c.put_step in
    rw (ne_eqb _ _ c.if-n-eq0.false, append-nil) (p2.ensures.0 ∙ step_then _ _ _, then p1.ensures p2.ensures.1 (rw (step_length c.args.n)))
