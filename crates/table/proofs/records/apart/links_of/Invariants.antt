-- `table::records::apart::links_of` meets its contract: the slots before the one reached are written down.
-- Assumes nothing.
use Rattle.std.proofs.Common.{◌≡◌, ℕ, ◌<◌, length, get_or}
use Rattle.table.specs.Places.{link_addresses_of}
use Rattle.table.proofs.records.apart.links_of.Given as goal

abbrev pub invariant-loop-k : goal.invariant-loop-k
invariant-loop-k l = record { wide : length l.link-items ≡ 128; long : length l.t ≡ 32; same : (k : ℕ) → k < l.k → get_or l.link-items k 0 ≡ get_or (link_addresses_of l.t) k 0 }
