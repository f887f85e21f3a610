-- A word put into a buffer; and what the loop that puts octets in hexadecimal keeps, in the form of what is still to come.
-- Assumes nothing.
use mathlib.Core.Path.{◌≡◌, refl, sym, ◌∙◌}
use mathlib.Core.List.{List, [], ◌∷◌}
use borrow.Rule.Slice.PartMut.{put_mid}
use Prim.Native.Nat.{ℕ, suc, ◌+◌, ◌*◌, ◌≤◌, ◌<◌}
use native.Mathlib.Numerals.{add-one}
use native.Mathlib.Omega.{arith}
use lib.ListN.{length, drop, get_or, drop_of_length-le}
use lib.Seq.{drop-cons, sets, sets-eq, take_all}
use Rattle.octets.proofs.Stores.{sets_append}
use Rattle.octets.specs.Stored.{Stored}
use Rattle.std.proofs.lemmas.Slice.{put_mid-paste}
use Rattle.bench.specs.Text.{hex_octet, hex_of}

-- a word copied over a part as long as itself
pub stored_mid : (l vs k : List ℕ) (at n : ℕ) → k ≡ vs → n ≡ length vs → at + length vs ≤ length l → Stored l at vs (put_mid at n l k)
stored_mid l vs k at n e h b =
    let t : length vs ≤ length vs = omega arith in
    record { is = put_mid-paste at n l k vs n e refl h ∙ rw (h, take_all (length vs) vs t) (sym (sets-eq vs l at b)) }

-- one octet more in hexadecimal
pub hex_step : (o o' w : List ℕ) (at i : ℕ) (k : List ℕ) → i < length w → o' ≡ sets o (at + 2 * i) (hex_octet (get_or w i 0)) → sets o (at + 2 * i) (hex_of (drop i w)) ≡ k → sets o' (at + 2 * (i + 1)) (hex_of (drop (i + 1) w)) ≡ k
unfolding hex_of hex_octet
hex_step o o' w at i k h p e =
    let a : at + 2 * (i + 1) ≡ at + 2 * i + 2 = omega arith in
    rw (p, a, add-one i) (sym (sets_append (hex_octet (get_or w i 0)) (hex_of (drop (suc i) w)) o (at + 2 * i)) ∙ rw (drop-cons w i 0 h) at e)

pub hex_end : (o w : List ℕ) (at i : ℕ) (k : List ℕ) → length w ≤ i → sets o (at + 2 * i) (hex_of (drop i w)) ≡ k → o ≡ k
unfolding hex_of
hex_end o w at i k h e = rw (drop_of_length-le w h) at e

pub hex_length : (vs : List ℕ) → length (hex_of vs) ≡ 2 * length vs
unfolding hex_of hex_octet
hex_length [] = refl
hex_length (v ∷ vs) = let e = hex_length vs in omega arith
