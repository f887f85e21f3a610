-- How long the line is that is printed of a log.
-- Assumes nothing.
use Prim.Native.Nat.{ℕ, ◌≤◌}
use mathlib.Core.List.{List}
use native.Mathlib.Omega.{arith}
use lib.Dec.{eqb}
use lib.ListN.{length, length-append}
use Rattle.octets.proofs.Branch.{pick_both}
use Rattle.rival.specs.declared.Said.{Said}
use Rattle.rival.specs.declared.Said.TheVariants.{Right, Differs, Short, Long}
use Rattle.bench.specs.Said.{differs_line, event_line, field_name, said_line}
use Rattle.bench.proofs.Digits.{field_length, tens_length}

abbrev Short8 : List ℕ → Type 0
Short8 l = length l ≤ 8

pub name_length : (f : ℕ) → length (field_name f) ≤ 8
unfolding field_name
name_length f =
    pick_both Short8 (eqb f 0) (omega arith)
    (pick_both Short8 (eqb f 1) (omega arith)
    (pick_both Short8 (eqb f 2) (omega arith)
    (pick_both Short8 (eqb f 3) (omega arith)
    (pick_both Short8 (eqb f 4) (omega arith)
    (pick_both Short8 (eqb f 5) (omega arith)
    (pick_both Short8 (eqb f 6) (omega arith)
    (pick_both Short8 (eqb f 7) (omega arith) (omega arith))))))))

pub said_length_lem : (v : Said) → length (said_line v) ≤ 64
unfolding differs_line event_line
said_length_lem Right = omega arith
said_length_lem (Differs n f) = simp length-append (omega (arith, field_length 20 n, name_length f))
said_length_lem (Short n) = simp length-append (omega (arith, tens_length 20 n))
said_length_lem (Long n) = simp length-append (omega (arith, tens_length 20 n))
