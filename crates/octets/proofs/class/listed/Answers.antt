-- `octets::class::listed` meets its contract: the place of a type and a subtype gives them back.
-- Assumes nothing.
use Prim.Native.Nat.{◌%◌, ◌*◌, ◌+◌, ◌/◌, ◌<◌, ℕ}
use Rattle.octets.specs.Class.{class_number, listed_class, named}
use mathlib.Core.Path.{◌∙◌, ◌≡◌, ap}
use native.Mathlib.Omega.{arith}
use Rattle.octets.proofs.class.listed.Goals as goal

apart : (b : ℕ) → b < 256 → class_number ((b / 4 % 4 * 16 + b / 16) / 16) ((b / 4 % 4 * 16 + b / 16) % 16) ≡ class_number (b / 4 % 4) (b / 16)
apart b h =
    let t : (b / 4 % 4 * 16 + b / 16) / 16 ≡ b / 4 % 4 = omega arith in
    let s : (b / 4 % 4 * 16 + b / 16) % 16 ≡ b / 16 = omega arith in
    rw (t, s)

pub returns : goal.returns
unfolding listed_class
returns c = c.entry.ensures ∙ ap named (apart c.args.first (omega arith))
