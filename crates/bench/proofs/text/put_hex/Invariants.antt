-- `bench::text::put_hex` meets its contract: what is put and what is still to be put are all digits.
-- Assumes nothing.
use Prim.Native.Nat.{◌*◌, ◌+◌}
use Rattle.bench.specs.Text.{hex_of}
use lib.ListN.{drop, length}
use lib.Seq.{sets}
use mathlib.Core.Path.{◌≡◌}
use Rattle.bench.proofs.text.put_hex.Given as goal

abbrev pub invariant-loop-i : goal.invariant-loop-i
invariant-loop-i l = (length l.out ≡ length l.initial.out) × (sets l.out (l.at + 2 * l.i) (hex_of (drop l.i l.octets)) ≡ sets l.initial.out l.at (hex_of l.octets))
