-- `bench::why::put_reason` meets its contract: each word, and a blank behind it.
-- Assumes nothing.
use Rattle.bench.proofs.why.put_reason.Goals as goal

pub returns-in-None : goal.returns-in-None
returns-in-None c = rw c.in-None.is c.put_word.ensures

pub returns-in-Refusal : goal.returns-in-Refusal
returns-in-Refusal c = rw c.in-Refusal.is c.put_refusal.ensures

pub returns-in-NoClass : goal.returns-in-NoClass
returns-in-NoClass c = rw c.in-NoClass.is c.put_word-in-NoClass.ensures

pub returns-in-ClassFilter : goal.returns-in-ClassFilter
returns-in-ClassFilter c = rw c.in-ClassFilter.is c.put_word-in-ClassFilter.ensures

pub returns-in-GroupRule : goal.returns-in-GroupRule
returns-in-GroupRule c = rw c.in-GroupRule.is c.put_word-in-GroupRule.ensures

pub returns-in-NothingToDo : goal.returns-in-NothingToDo
returns-in-NothingToDo c = rw c.in-NothingToDo.is c.put_word-in-NothingToDo.ensures
