-- `bench::text::put_letter` meets its contract: two octets, one behind the other.
-- Assumes nothing.
use Rattle.octets.proofs.Stores.{then}
use mathlib.Core.Path.{refl}
use native.Mathlib.Omega.{arith}
use Rattle.bench.proofs.text.put_letter.Goals as goal

pub returns : goal.returns
returns c = (refl, then c.put_octet.ensures c.put_octet-2.ensures (omega arith))
