-- `octets::put::put_u16` meets its contract: two stores, one behind the other.
-- Assumes nothing.
use Rattle.octets.specs.Field.{octets}
use lib.ListN.{length-set}
use native.Mathlib.Numerals.{add-one}
use native.Mathlib.Omega.{arith}
use Rattle.octets.proofs.put.put_u16.Goals as goal

pub bounds-out-at-2 : goal.bounds-out-at-2
bounds-out-at-2 c = simp length-set (omega arith)

pub returns : goal.returns
unfolding octets
returns c = record { is = rw add-one }
