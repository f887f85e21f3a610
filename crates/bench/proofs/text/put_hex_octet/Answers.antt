-- `bench::text::put_hex_octet` meets its contract: two digits, one behind the other.
-- Assumes nothing.
use Rattle.bench.specs.Text.{hex_octet}
use Rattle.octets.proofs.Stores.{then}
use native.Mathlib.Omega.{arith}
use Rattle.bench.proofs.text.put_hex_octet.Goals as goal

pub returns : goal.returns
unfolding hex_octet
returns c = then (rw c.glyph.ensures at c.put_octet.ensures) (rw c.glyph-2.ensures at c.put_octet-2.ensures) (omega arith)
