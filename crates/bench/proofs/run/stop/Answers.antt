-- `bench::run::stop` meets its contract: the line put, then `finish`.
-- Assumes nothing.
use Rattle.bench.specs.Output.{Output}
use Rattle.bench.specs.Run.{done_of}
use mathlib.Core.Path.{ap, ◌∙◌}
use Rattle.bench.proofs.run.stop.Goals as goal

pub returns : goal.returns
unfolding done_of
returns c = (c.finish.ensures ∙ ap (λ (o : Output). done_of c.args.r o.filled) c.write_stop-out.ensures, ap (λ (o : Output). o.octets) c.write_stop-out.ensures)
