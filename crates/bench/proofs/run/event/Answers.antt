-- `bench::run::event` meets its contract: played and printed, and the run behind it.
-- Assumes nothing.
use Rattle.bench.proofs.Events.{event_run}
use Rattle.bench.specs.Output.{Output}
use Rattle.bench.specs.Turn.{Made}
use Rattle.table.specs.Rows.{records_of}
use borrow.Author.Rules.{rules}
use mathlib.Core.Path.{ap}
use Rattle.bench.proofs.run.event.Goals as goal

pub printed-out-requires : goal.printed-out-requires
printed-out-requires c = c.one_more-number.ensures

pub returns : goal.returns
returns c =
    let a = c.args in
    let ts = a.table.now in
    let m : Made ts = λ k. search rules in (
      λ i.
          let p = c.printed-out.ensures i in
          (p.0, event_run a.r (records_of ts) a.e a.frame.now a.output.now a.size _ _ _ _ c.one_more-number.ensures c.behind-at.ensures p.1, ap (λ (o : Output). o.octets) p.1),
      m,
      λ k. (c.type_inv.frame k).fits,
    )
