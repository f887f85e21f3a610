-- `bench::text::put_word` meets its contract: the word is copied over the octets that it takes up.
-- Assumes nothing.
use Rattle.bench.proofs.Puts.{stored_mid}
use mathlib.Core.Path.{refl}
use native.Mathlib.Omega.{arith}
use Rattle.bench.proofs.text.put_word.Goals as goal

pub returns : goal.returns
returns c = (refl, stored_mid _ _ _ _ _ c.copy_from_slice.ensures.after (omega arith) c.requires)
