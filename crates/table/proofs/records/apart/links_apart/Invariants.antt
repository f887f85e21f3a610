-- `table::records::apart::links_apart` meets its contract: what holds from the slot reached on holds at all.
-- Assumes nothing.
use Rattle.std.proofs.Common.{◌≡◌, drop, ◌&&◌}
use Rattle.table.specs.Fit.{alone_in, links_apart}
use Rattle.table.specs.Places.{all_tails}
use Rattle.table.proofs.records.apart.links_apart.Given as goal

abbrev pub invariant-loop-k : goal.invariant-loop-k
invariant-loop-k v = all_tails (λ l later. alone_in l later && alone_in l v.addresses) (drop v.k v.links) ≡ links_apart v.links v.addresses
