-- The pieces in which ours and the log come do not matter.
-- Assumes nothing.
use Prim.Native.Nat.{ℕ}
use mathlib.Core.Path.{◌≡◌, refl, sym, ◌∙◌}
use mathlib.Core.Bool.{Bool, true, false}
use mathlib.Core.List.{List, [], ◌∷◌, ◌++◌, append_assoc, append-nil}
use Rattle.octets.proofs.Branch.{by_bool}
use Rattle.rival.specs.Beside.{said_by}
use Rattle.rival.specs.Log.{said_of}
use Rattle.rival.specs.Pieces.{Went, begun, compared, ends_of, is_none, log_came, ours_came, settled_of}
use Rattle.rival.specs.declared.Standing.{Standing}
use Rattle.rival.proofs.Lines.{said_lines}
use Rattle.rival.proofs.Passing.{said_apart, said_later}

-- Whatever follows behind the pieces that came.
pub went_said : {s : Standing} {p q ours log : List ℕ} → Went s p q ours log → (us vs : List ℕ) → said_by s (p ++ us) (q ++ vs) ≡ said_of (ours ++ us) (log ++ vs)
went_said begun us vs = said_lines us vs
went_said (ours_came {p = p} {ours = ours} xs w) us vs = rw (append_assoc p xs us, append_assoc ours xs us) (went_said w (xs ++ us) vs)
went_said (log_came {q = q} {log = log} ys w) us vs = rw (append_assoc q ys vs, append_assoc log ys vs) (went_said w us (ys ++ vs))
went_said (compared {s = s} {p = p} {q = q} w e) us vs = rw e (sym (said_later s p q us vs) ∙ went_said w us vs)

-- What is said where either is at its end stays, whatever follows.
stays_ended : (s : Standing) (p q us vs : List ℕ) (done over : Bool) → ends_of (is_none p) done (is_none q) over ≡ true → (done ≡ true → us ≡ []) → (over ≡ true → vs ≡ []) →
    said_by s (p ++ us) (q ++ vs) ≡ said_by s p q
unfolding said_by
stays_ended s p q us vs true true h d o = rw (d refl, o refl, append-nil p, append-nil q)
stays_ended s [] [] us vs true false h d o = cc
stays_ended s [] (y ∷ q) us vs true false h d o = rw (d refl)
stays_ended s (x ∷ p) q us vs true false h d o = cc
stays_ended s [] [] us vs false true h d o = cc
stays_ended s (x ∷ p) [] us vs false true h d o = rw (o refl)
stays_ended s p (y ∷ q) us vs false true h d o = cc
stays_ended s p q us vs false false h d o = cc

pub stays : (s : Standing) (p q us vs : List ℕ) (done over : Bool) → settled_of s (is_none p) done (is_none q) over ≡ true → (done ≡ true → us ≡ []) → (over ≡ true → vs ≡ []) →
    said_by s (p ++ us) (q ++ vs) ≡ said_by s p q
unfolding settled_of
stays s p q us vs done over h d o =
    by_bool s.apart
    (λ e. said_apart s (p ++ us) (q ++ vs) e ∙ sym (said_apart s p q e))
    (λ e. stays_ended s p q us vs done over (rw e at h) d o)

-- THE THEOREM. Once it is settled, what `ending` says of what is left is what is said of the whole of ours and the whole log.
pub settled_said : {s : Standing} {p q ours log : List ℕ} → Went s p q ours log → (us vs : List ℕ) (done over : Bool) → settled_of s (is_none p) done (is_none q) over ≡ true →
    (done ≡ true → us ≡ []) → (over ≡ true → vs ≡ []) → said_by s p q ≡ said_of (ours ++ us) (log ++ vs)
settled_said {s} {p} {q} w us vs done over h d o = sym (stays s p q us vs done over h d o) ∙ went_said w us vs
