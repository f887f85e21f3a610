-- `bench::block::put_number` meets its contract: a blank, and the digits or the word behind it.
-- Assumes nothing.
use native.Mathlib.Omega.{arith}
use Rattle.octets.proofs.Stores.{then}
use Rattle.bench.proofs.block.put_number.Goals as goal

pub returns-in-Some : goal.returns-in-Some
returns-in-Some c =
    let p1 = c.put_octet in
    let p2 = c.put_tens in
    let e2 = p2.ensures.0 in
    rw c.in-Some.is (omega arith, then p1.ensures p2.ensures.1 (omega arith))

pub returns-in-None : goal.returns-in-None
returns-in-None c = rw c.in-None.is c.put_word.ensures
