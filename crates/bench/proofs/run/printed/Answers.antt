-- `bench::run::printed` meets its contract: played and printed in one of five ways.
-- Assumes nothing.
use Rattle.bench.proofs.Events.{changed_output, facts_output, plain_output, traced_output, why_output_lem}
use Rattle.bench.specs.Turn.{Made}
use borrow.Author.Rules.{rules}
use Rattle.bench.proofs.run.printed.Goals as goal

pub returns-in-Lines : goal.returns-in-Lines
returns-in-Lines c = λ i.
    let a = c.args in
    let p = c.plain.ensures i in
    (p.0, plain_output a.r a.table.now a.e a.frame.now a.output.now _ c.requires _ i.sound.table c.in-Lines.is p.1)

pub returns-in-Trace : goal.returns-in-Trace
returns-in-Trace c = λ i.
    let a = c.args in
    let p = c.traced_event.ensures i in
    (p.0, traced_output a.r a.table.now a.e a.frame.now a.output.now _ c.requires _ c.in-Trace.is p.1)

pub returns-in-Changes : goal.returns-in-Changes
returns-in-Changes c = λ i.
    let a = c.args in
    let p = c.changed_event.ensures i in
    (p.0, changed_output a.r a.table.now a.e a.frame.now a.output.now _ c.requires _ c.in-Changes.is p.1)

pub returns-in-Why : goal.returns-in-Why
returns-in-Why c = λ i.
    let a = c.args in
    let p = c.explained.ensures i in
    (p.0, why_output_lem a.r a.table.now a.e a.frame.now a.output.now _ c.requires _ c.in-Why.is p.1)

pub returns-in-Facts : goal.returns-in-Facts
returns-in-Facts c = λ i.
    let a = c.args in
    let p = c.noted.ensures i in
    let m : Made a.table.now = λ k. search rules in
    (p.0, facts_output a.r a.table.now a.e a.frame.now a.output.now _ c.requires _ i.sound.table m (λ k. (c.type_inv.frame k).fits) c.in-Facts.is p.1)
