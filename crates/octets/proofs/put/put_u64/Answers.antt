-- `octets::put::put_u64` meets its contract: the address, and two octets behind it.
-- Assumes nothing.
use Rattle.octets.specs.Field.{octets}
use lib.ListN.{length-set}
use native.Mathlib.Numerals.{towards_suc}
use native.Mathlib.Omega.{arith}
use Rattle.octets.proofs.put.put_u64.Goals as goal

pub bounds-out-at-2 : goal.bounds-out-at-2
bounds-out-at-2 c = simp length-set (omega arith)

pub returns : goal.returns
unfolding octets
returns c = record { is = rw c.put_address.ensures.is (simp towards_suc) }
