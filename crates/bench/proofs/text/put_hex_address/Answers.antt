-- `bench::text::put_hex_address` meets its contract: the six octets, in hexadecimal.
-- Assumes nothing.
use Rattle.octets.specs.Field.{octets}
use Rattle.bench.proofs.text.put_hex_address.Goals as goal

pub returns : goal.returns
unfolding octets
returns c = c.put_hex.ensures
