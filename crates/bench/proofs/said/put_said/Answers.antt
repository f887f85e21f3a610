-- `bench::said::put_said` meets its contract: each of the four lines.
-- Assumes nothing.
use Rattle.bench.proofs.said.put_said.Goals as goal

pub returns-in-Right : goal.returns-in-Right
returns-in-Right c = rw c.in-Right.is c.put_word.ensures

pub returns-in-Differs : goal.returns-in-Differs
returns-in-Differs c = rw c.in-Differs.is c.put_differs.ensures

pub returns-in-Short : goal.returns-in-Short
returns-in-Short c = rw c.in-Short.is c.put_event.ensures

pub returns-in-Long : goal.returns-in-Long
returns-in-Long c = rw c.in-Long.is c.put_event-in-Long.ensures
