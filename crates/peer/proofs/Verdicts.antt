-- 02, K3: "The table's rule is shown once for the whole table." A verdict is 1 exactly where a frame passes the class filter, at an access point and at a
-- station (`passes_verdict`); it is 0 exactly where the frame has no class (`classless_verdict`).
-- Assumes nothing.
use Rattle.std.proofs.Common.{◌≡◌, ℕ, ◌+◌, ◌-◌, ◌*◌, ◌/◌, ◌%◌, ◌<◌, ◌≤◌, true, eqb, leb, refl, arith}
use Rattle.octets.proofs.Branch.{by_bool}
use Rattle.octets.specs.Class.{classless, listed_class}
use Rattle.octets.specs.declared.class.FrameClass.TheVariants as class
use Rattle.octets.specs.declared.class.FrameClass.{FrameClass}
use Rattle.peer.specs.Filter.{passes_of}
use Rattle.peer.specs.Settings.{role_associates}
use Rattle.peer.specs.Verdict.{verdict_of}

pub passes_verdict : (role : ℕ) (k : FrameClass) (state : ℕ) → role_associates role ≡ true → eqb (verdict_of k state) 1 ≡ passes_of role k state
unfolding verdict_of role_associates
passes_verdict role class.None state a = refl
passes_verdict role class.One state a = refl
passes_verdict role class.Two state a = by_bool (leb 2 state) (λ e. rw (a, e)) (λ e. rw (a, e))
passes_verdict role class.Three state a = by_bool (leb 3 state) (λ e. rw (a, e)) (λ e. rw (a, e))

pub classless_verdict : (k : FrameClass) (state : ℕ) → eqb (verdict_of k state) 0 ≡ classless k
unfolding verdict_of role_associates
classless_verdict class.None state = refl
classless_verdict class.One state = refl
classless_verdict class.Two state = by_bool (leb 2 state) (λ e. rw e) (λ e. rw e)
classless_verdict class.Three state = by_bool (leb 3 state) (λ e. rw e) (λ e. rw e)

-- Type and subtype are all that counts of the octet.
same_class : (first : ℕ) → listed_class (first / 4 * 4) ≡ listed_class first
unfolding listed_class
same_class first =
    let t : first / 4 * 4 / 4 % 4 ≡ first / 4 % 4 = omega arith in
    let s : first / 4 * 4 / 16 ≡ first / 16 = omega arith in
    rw (t, s)

-- The place of a state, a type and a subtype gives them back.
pub place_gives : (first state : ℕ) → first < 256 → 1 ≤ state
    → verdict_of (listed_class ((64 * (state - 1) + first / 4) % 64 * 4)) ((64 * (state - 1) + first / 4) / 64 + 1) ≡ verdict_of (listed_class first) state
place_gives first state h l =
    let low : (64 * (state - 1) + first / 4) % 64 ≡ first / 4 = omega arith in
    let high : (64 * (state - 1) + first / 4) / 64 + 1 ≡ state = omega arith in
    rw (low, high, same_class first)

-- Data in State 2 and in State 3; a beacon; a reserved subtype.
examples : (verdict_of (listed_class 0x08) 2 ≡ 2) × (verdict_of (listed_class 0x08) 3 ≡ 1) × (verdict_of (listed_class 0x80) 1 ≡ 1) × (verdict_of (listed_class 0xf0) 4 ≡ 0)
unfolding verdict_of listed_class role_associates
examples = (refl, refl, refl, refl)
