-- `octets::put::put_u32` meets its contract: four stores, one behind the other.
-- Assumes nothing.
use Rattle.octets.specs.Field.{octets}
use lib.ListN.{length-set}
use native.Mathlib.Numerals.{towards_suc}
use native.Mathlib.Omega.{arith}
use Rattle.octets.proofs.put.put_u32.Goals as goal

pub bounds-out-at-2 : goal.bounds-out-at-2
bounds-out-at-2 c = simp length-set (omega arith)

pub bounds-out-at-3 : goal.bounds-out-at-3
bounds-out-at-3 c = simp length-set (omega arith)

pub bounds-out-at-4 : goal.bounds-out-at-4
bounds-out-at-4 c = simp length-set (omega arith)

pub returns : goal.returns
unfolding octets
returns c = record { is = simp towards_suc }
