-- What the library tells of a place that may be found, in the words of specs/Places.antt.
-- Assumes nothing.
use mathlib.Core.Path.{◌≡◌, refl}
use Rattle.std.specs.Prelude.{ℕ, Option, Some, None, is_some}
use Rattle.table.specs.Places.{is_found}

pub found : (at : Option ℕ) → is_some at ≡ is_found at
found None = refl
found (Some i) = refl
