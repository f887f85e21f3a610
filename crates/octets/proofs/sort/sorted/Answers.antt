-- `octets::sort::sorted` meets its contract: by whether Frame Control decides.
-- Assumes nothing.
use Rattle.octets.specs.Sort.{sort_of}
use Rattle.octets.proofs.sort.sorted.Goals as goal

pub returns-then-is_listed : goal.returns-then-is_listed
unfolding sort_of
returns-then-is_listed c = rw (← c.octet_at-first.ensures, ← c.octet_at.ensures, ← c.is_listed.ensures, c.if-is_listed.true)

pub returns-else-is_listed : goal.returns-else-is_listed
unfolding sort_of
returns-else-is_listed c = rw (← c.octet_at-first.ensures, ← c.octet_at.ensures, ← c.is_listed.ensures, c.if-is_listed.false, ← c.class_in.ensures)
