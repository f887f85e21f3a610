-- `bench::said::put_name` meets its contract: each name.
-- Assumes nothing.
use Rattle.octets.proofs.Branch.{tests}
use Rattle.bench.specs.Said.{field_name}
use Rattle.bench.proofs.said.put_name.Goals as goal

pub returns-in-0 : goal.returns-in-0
unfolding field_name
returns-in-0 c = rw c.in-0.is c.put_word.ensures

pub returns-in-1 : goal.returns-in-1
unfolding field_name
returns-in-1 c = rw c.in-1.is c.put_word-in-1.ensures

pub returns-in-2 : goal.returns-in-2
unfolding field_name
returns-in-2 c = rw c.in-2.is c.put_word-in-2.ensures

pub returns-in-3 : goal.returns-in-3
unfolding field_name
returns-in-3 c = rw c.in-3.is c.put_word-in-3.ensures

pub returns-in-4 : goal.returns-in-4
unfolding field_name
returns-in-4 c = rw c.in-4.is c.put_word-in-4.ensures

pub returns-in-5 : goal.returns-in-5
unfolding field_name
returns-in-5 c = rw c.in-5.is c.put_word-in-5.ensures

pub returns-in-6 : goal.returns-in-6
unfolding field_name
returns-in-6 c = rw c.in-6.is c.put_word-in-6.ensures

pub returns-in-7 : goal.returns-in-7
unfolding field_name
returns-in-7 c = rw c.in-7.is c.put_word-in-7.ensures

pub returns-in_default : goal.returns-in_default
unfolding field_name
returns-in_default c = search (tests, c.put_word-in_default.ensures)
