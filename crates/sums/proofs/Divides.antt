-- gcd_of is the greatest common divisor: it divides both, and every common divisor divides it. By induction on the turns; the library's `dvd-mod_iff` is each step.
-- Assumes nothing.
use Prim.Native.Nat.{ℕ, zero, suc, ◌%◌, ◌≤◌, ◌<◌, ◌∣◌}
use native.Mathlib.Nat.{mod-lt, zero-lt-suc, dvd_refl, dvd-zero, dvd-mod_iff, dvd_antisymm, pos_of_dvd_of_pos}
use native.Mathlib.Omega.{arith}
use mathlib.Core.Path.{◌≡◌, refl}
use Rattle.sums.specs.Gcd.{euclid, gcd_of}

euclid_divides : (n a b : ℕ) → b ≤ n → (euclid n a b ∣ a) × (euclid n a b ∣ b)
unfolding euclid
euclid_divides zero a b h = let e : b ≡ 0 = omega arith in (dvd_refl a, rw e (dvd-zero a))
euclid_divides (suc n) a zero h = (dvd_refl a, dvd-zero a)
euclid_divides (suc n) a (suc b) h =
    let ih = euclid_divides n (suc b) (a % suc b) (omega (arith, mod-lt a (zero-lt-suc b))) in
    ((dvd-mod_iff _ ih.0).0 ih.1, ih.0)

euclid_greatest : (n a b d : ℕ) → d ∣ a → d ∣ b → d ∣ euclid n a b
unfolding euclid
euclid_greatest zero a b d p q = p
euclid_greatest (suc n) a zero d p q = p
euclid_greatest (suc n) a (suc b) d p q = euclid_greatest n (suc b) (a % suc b) d q ((dvd-mod_iff d q).1 p)

-- it divides both
pub gcd_divides_left : (a b : ℕ) → gcd_of a b ∣ a
unfolding gcd_of
gcd_divides_left a b = (euclid_divides b a b (omega arith)).0

pub gcd_divides_right : (a b : ℕ) → gcd_of a b ∣ b
unfolding gcd_of
gcd_divides_right a b = (euclid_divides b a b (omega arith)).1

-- every common divisor divides it
pub gcd_greatest : (a b d : ℕ) → d ∣ a → d ∣ b → d ∣ gcd_of a b
unfolding gcd_of
gcd_greatest a b = euclid_greatest b a b

-- and no other number does both
pub gcd_only : (a b g : ℕ) → g ∣ a → g ∣ b → ((d : ℕ) → d ∣ a → d ∣ b → d ∣ g) → g ≡ gcd_of a b
gcd_only a b g p q most = dvd_antisymm (gcd_greatest a b g p q) (most (gcd_of a b) (gcd_divides_left a b) (gcd_divides_right a b))

pub gcd_pos : (a b : ℕ) → 0 < b → 0 < gcd_of a b
gcd_pos a b h = pos_of_dvd_of_pos (gcd_divides_right a b) h

-- what the loop goes by: one turn, and the end
pub gcd_step : (a b : ℕ) → gcd_of b (a % b) ≡ gcd_of a b
gcd_step a b =
    gcd_only a b (gcd_of b (a % b))
    ((dvd-mod_iff _ (gcd_divides_left b (a % b))).0 (gcd_divides_right b (a % b)))
    (gcd_divides_left b (a % b))
    (λ d p q. gcd_greatest b (a % b) d q ((dvd-mod_iff d q).1 p))

pub gcd_zero : (a : ℕ) → gcd_of a 0 ≡ a
unfolding gcd_of euclid
gcd_zero a = refl
