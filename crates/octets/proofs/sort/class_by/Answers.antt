-- `octets::sort::class_by` meets its contract: by its case.
-- Assumes nothing.
use Rattle.octets.proofs.sort.class_by.Goals as goal

pub returns-in-Listed : goal.returns-in-Listed
returns-in-Listed c = rw c.in-Listed.is c.listed.ensures
