-- A query by its number and what is left of it: which stand in a row, by the tests of `table::host::standing::query_standing`.
-- Assumes nothing.
use Prim.Native.Nat.{ℕ, ◌+◌}
use mathlib.Core.Path.{◌≡◌, refl}
use mathlib.Core.Bool.{Bool, true, false, not, ◌&&◌, ◌||◌}
use native.Mathlib.Omega.{arith}
use lib.Dec.{eqb, leb}
use borrow.Author.Tests.{eqb-true, lt-leb, ne_eqb}
use Rattle.octets.specs.Pick.{pick}
use Rattle.octets.proofs.Branch.{by_bool}
use Rattle.peer.specs.Fit.{query_fits, query_stands, running_fits}
use Rattle.peer.specs.Query.{query_of}
use Rattle.peer.specs.declared.settings.Settings.{Settings}
use Rattle.table.specs.Rows.{query_numbered}
use Rattle.table.proofs.Octets.Standings.{by_query}

-- Whether numbers are a query's that stands.
abbrev pub query_standing : Settings → ℕ → ℕ → ℕ → Bool
query_standing s state n left = query_numbered n left && query_fits s state (query_of n left)

module _ (s : Settings) (state : ℕ) where
  -- the same, test by test: none has no time left; another stands at an access point in State 4, and time is left of one that runs
  abbrev tested : ℕ → ℕ → Bool
  tested n left =
      pick (eqb n 0) (eqb left 0)
      (query_stands s state && pick (eqb n 3) (eqb left 0) (leb n 3 && (not (eqb left 0) && leb left s.maximum)))

  pub by_tests : (n left : ℕ) → query_standing s state n left ≡ tested n left
  unfolding query_numbered query_of running_fits
  by_tests n left =
      by_query (λ n. query_standing s state n left ≡ tested n left)
      (none (eqb left 0))
      (runs (eqb left 0) (leb left s.maximum) (query_stands s state))
      (runs (eqb left 0) (leb left s.maximum) (query_stands s state))
      (over (eqb left 0) (query_stands s state))
      (λ n m. rw (lt-leb n 3 m, ne_eqb n 0 (λ (z : n ≡ 0). omega arith), ne_eqb n 3 (λ (z : n ≡ 3). omega arith)) (above (query_stands s state))) n
    where
      none : (z : Bool) → ((z || false) && true) ≡ z
      none true = refl
      none false = refl

      runs : (z m b : Bool) → ((z || true) && (not z && (m && b))) ≡ (b && (not z && m))
      runs true m true = refl
      runs true m false = refl
      runs false true true = refl
      runs false true false = refl
      runs false false true = refl
      runs false false false = refl

      over : (z b : Bool) → ((z || false) && b) ≡ (b && z)
      over true true = refl
      over true false = refl
      over false true = refl
      over false false = refl

      above : (b : Bool) → false ≡ (b && false)
      above true = refl
      above false = refl

  -- no query stands, where one is written and it is not the place for it
  pub nowhere : (n left : ℕ) → (n + left ≡ 0 → ⊥) → query_stands s state ≡ false → false ≡ query_standing s state n left
  nowhere n left some h = rw (by_tests n left, h) (by_bool (eqb n 0)
      (λ e. let z = eqb-true n 0 e in rw (e, ne_eqb left 0 (λ (y : left ≡ 0). some (omega arith))))
      (λ e. rw e))
