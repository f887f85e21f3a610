-- The loop of `compare`, and how what is said goes on from where it got to.
-- Assumes nothing.
use Prim.Native.Nat.{ℕ, suc, ◌+◌, ◌≤◌, ◌<◌}
use mathlib.Core.Path.{◌≡◌, refl, ◌∙◌}
use mathlib.Core.Bool.{true, false}
use mathlib.Core.List.{List, [], ◌∷◌, ◌++◌, append-nil}
use native.Mathlib.Omega.{arith}
use lib.ListN.{length, get_or, drop, drop_of_length-le}
use lib.Seq.{drop-cons}
use Rattle.octets.proofs.Branch.{by_bool}
use Rattle.rival.specs.Beside.{alone_of, beside_of, compared_of, differs_in, other_field, said_by}
use Rattle.rival.specs.declared.Passed.{Passed}
use Rattle.rival.specs.declared.Said.TheVariants.{Right, Short, Long}
use Rattle.rival.specs.declared.Standing.{Standing}

abbrev pub none : Standing → Passed
none s = record { standing = s; taken = 0 }

-- i octets were taken before
abbrev pub after : ℕ → Passed → Passed
after i p = record { standing = p.standing; taken = i + p.taken }

pub after_none : (p : Passed) → after 0 p ≡ p
after_none p =
    let z : 0 + p.taken ≡ p.taken = omega arith in
    rw z

-- nothing is taken where either has ended, or the two came apart
none_left : (s : Standing) (xs ys : List ℕ) → length xs ≡ 0 → compared_of s xs ys ≡ none s
unfolding compared_of
none_left s [] ys h = refl
none_left s (x ∷ xs) ys h = absurd (omega arith)

no_more : (s : Standing) (xs ys : List ℕ) → length ys ≡ 0 → compared_of s xs ys ≡ none s
unfolding compared_of
no_more s [] ys h = refl
no_more s (x ∷ xs) [] h = refl
no_more s (x ∷ xs) (y ∷ ys) h = absurd (omega arith)

came_apart : (s : Standing) (xs ys : List ℕ) → s.apart ≡ true → compared_of s xs ys ≡ none s
unfolding compared_of
came_apart s [] ys h = refl
came_apart s (x ∷ xs) [] h = refl
came_apart s (x ∷ xs) (y ∷ ys) h = rw h

stopped : (t : Standing) (i : ℕ) (p q : Passed) → after i p ≡ q → p ≡ none t → record { standing = t; taken = i } ≡ q
stopped t i p q e h =
    let z : i + 0 ≡ i = omega arith in
    rw (← e, h, z)

-- us and vs are left of xs and ys, and i octets of both were taken
module _ (s t : Standing) (xs ys us vs : List ℕ) (i : ℕ) (e : after i (compared_of t us vs) ≡ compared_of s xs ys) where
  pub ours_ended : length us ≡ 0 → record { standing = t; taken = i } ≡ compared_of s xs ys
  ours_ended h = stopped t i (compared_of t us vs) (compared_of s xs ys) e (none_left t us vs h)

  pub theirs_ended : length vs ≡ 0 → record { standing = t; taken = i } ≡ compared_of s xs ys
  theirs_ended h = stopped t i (compared_of t us vs) (compared_of s xs ys) e (no_more t us vs h)

  pub both_stop : t.apart ≡ true → record { standing = t; taken = i } ≡ compared_of s xs ys
  both_stop h = stopped t i (compared_of t us vs) (compared_of s xs ys) e (came_apart t us vs h)

  one_on : (x y : ℕ) (ps qs : List ℕ) → us ≡ x ∷ ps → vs ≡ y ∷ qs → t.apart ≡ false →
      after (i + 1) (compared_of (beside_of t x y) ps qs) ≡ after i (compared_of t us vs)
  unfolding compared_of beside_of
  one_on x y ps qs h g a =
      let p = compared_of (beside_of t x y) ps qs in
      let z : i + 1 + p.taken ≡ i + suc p.taken = omega arith in
      rw (h, g, a, z)

  pub both_on : (x y : ℕ) (ps qs : List ℕ) → us ≡ x ∷ ps → vs ≡ y ∷ qs → t.apart ≡ false →
      after (i + 1) (compared_of (beside_of t x y) ps qs) ≡ compared_of s xs ys
  both_on x y ps qs h g a = one_on x y ps qs h g a ∙ e

-- Of two that came apart the same is said whatever follows.
pub said_apart : (s : Standing) (xs ys : List ℕ) → s.apart ≡ true → said_by s xs ys ≡ differs_in s s.field
unfolding said_by
said_apart s [] [] h = rw h
said_apart s [] (y ∷ ys) h = rw h
said_apart s (x ∷ xs) [] h = rw h
said_apart s (x ∷ xs) (y ∷ ys) h = rw h

apart_later : (s : Standing) (xs ys us vs : List ℕ) → s.apart ≡ true →
    said_by s (xs ++ us) (ys ++ vs) ≡ said_by (compared_of s xs ys).standing (drop (compared_of s xs ys).taken xs ++ us) (drop (compared_of s xs ys).taken ys ++ vs)
apart_later s xs ys us vs h = rw (came_apart s xs ys h)

-- THE LAW OF PIECES. What is said of two lists is what is said, from where `compare` got to on their first pieces, of the rest.
pub said_later : (s : Standing) (xs ys us vs : List ℕ) →
    said_by s (xs ++ us) (ys ++ vs) ≡ said_by (compared_of s xs ys).standing (drop (compared_of s xs ys).taken xs ++ us) (drop (compared_of s xs ys).taken ys ++ vs)
unfolding compared_of said_by beside_of
said_later s [] ys us vs = refl
said_later s (x ∷ xs) [] us vs = refl
said_later s (x ∷ xs) (y ∷ ys) us vs =
    by_bool s.apart
    (λ h. apart_later s (x ∷ xs) (y ∷ ys) us vs h)
    (λ h. rw h (said_later (beside_of s x y) xs ys us vs))

-- Where `compare` stopped short of the end of ours, and the two are alike so far, theirs has ended.
pub other_ended : (s : Standing) (xs ys : List ℕ) → (compared_of s xs ys).standing.apart ≡ false → (compared_of s xs ys).taken < length xs → length ys ≤ (compared_of s xs ys).taken
unfolding compared_of beside_of
other_ended s [] ys a h = absurd (omega arith)
other_ended s (x ∷ xs) [] a h = omega arith
other_ended s (x ∷ xs) (y ∷ ys) a h =
    by_bool s.apart
    (λ e. let z : ◌≡◌ {A = ℕ} 0 1 = cc (rw e at a) in absurd (omega arith))
    (λ e. rw e (omega (arith, other_ended (beside_of s x y) xs ys (rw e at a) (omega (arith, rw e at h)))))

-- No more is taken than either has.
pub taken_ours : (s : Standing) (xs ys : List ℕ) → (compared_of s xs ys).taken ≤ length xs
unfolding compared_of beside_of
taken_ours s [] ys = omega arith
taken_ours s (x ∷ xs) [] = omega arith
taken_ours s (x ∷ xs) (y ∷ ys) = by_bool s.apart (λ e. rw e (omega arith)) (λ e. rw e (omega (arith, taken_ours (beside_of s x y) xs ys)))

pub taken_theirs : (s : Standing) (xs ys : List ℕ) → (compared_of s xs ys).taken ≤ length ys
unfolding compared_of beside_of
taken_theirs s [] ys = omega arith
taken_theirs s (x ∷ xs) [] = omega arith
taken_theirs s (x ∷ xs) (y ∷ ys) = by_bool s.apart (λ e. rw e (omega arith)) (λ e. rw e (omega (arith, taken_theirs (beside_of s x y) xs ys)))

-- the ends of `ending`
module _ (s : Standing) (xs ys : List ℕ) (p : Passed) (e : p ≡ compared_of s xs ys) where
  on : said_by s xs ys ≡ said_by p.standing (drop p.taken xs) (drop p.taken ys)
  on =
      let l = said_later s xs ys [] [] in
      rw e (rw (append-nil xs, append-nil ys, append-nil (drop (compared_of s xs ys).taken xs), append-nil (drop (compared_of s xs ys).taken ys)) at l)

  pub said_differs : p.standing.apart ≡ true → said_by s xs ys ≡ differs_in p.standing p.standing.field
  said_differs a = on ∙ said_apart p.standing (drop p.taken xs) (drop p.taken ys) a

  -- the field by the octet that one of the two has there, and the end of the other
  pub said_short : p.standing.apart ≡ false → p.taken < length xs →
      said_by s xs ys ≡ alone_of p.standing (other_field p.standing.field (get_or xs p.taken 10) 10) (Short p.standing.lines)
  unfolding said_by
  said_short a h =
      let l : length ys ≤ p.taken = rw e (other_ended s xs ys (rw e at a) (rw e at h)) in
      on ∙ rw (drop-cons xs p.taken 10 h, drop_of_length-le ys l, a)

  pub said_long : p.standing.apart ≡ false → length xs ≤ p.taken → p.taken < length ys →
      said_by s xs ys ≡ alone_of p.standing (other_field p.standing.field 10 (get_or ys p.taken 10)) (Long p.standing.lines)
  unfolding said_by
  said_long a h g = on ∙ rw (drop_of_length-le xs h, drop-cons ys p.taken 10 g, a)

  pub said_right : p.standing.apart ≡ false → length xs ≤ p.taken → length ys ≤ p.taken → said_by s xs ys ≡ Right
  unfolding said_by
  said_right a h g = on ∙ rw (drop_of_length-le xs h, drop_of_length-le ys g, a)
