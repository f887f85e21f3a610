-- The class of what is heard: authentication is of class 1, a (re)association request or response of class 2, where there are access points and
-- in an ad hoc network (`classed`).
-- Assumes nothing.
use Rattle.std.proofs.Common.{◌≡◌, ℕ, Bool, true, false, eqb, ltb, List, length, sym, refl, ◌∙◌, eqb-true}
use Rattle.octets.proofs.Branch.{by_bool, pick_both}
use Rattle.octets.specs.Class.{class_in, classless, class_of, direct_class, is_direct, is_public_action}
use Rattle.octets.specs.Field.{field, subtype_of, type_of, version_of}
use Rattle.octets.specs.Heard.{authentication_of, heard_of, query_of, response_of}
use Rattle.octets.specs.declared.class.FrameClass.TheVariants as class
use Rattle.octets.specs.declared.class.FrameClass.{FrameClass}
use Rattle.octets.specs.declared.heard.Heard.TheVariants as heard
use Rattle.octets.specs.declared.heard.Heard.{Heard}
use Rattle.peer.specs.Filter.{passes_of}
use Rattle.peer.specs.Record.{is_associating}
use Rattle.peer.proofs.Fits.{wrong}

abbrev pub Classed : FrameClass → Heard → Type 0
Classed k heard.Other = Unit
Classed k (heard.Authentication algorithm transaction status) = k ≡ class.One
Classed k (heard.Deauthentication reason) = Unit
Classed k (heard.Disassociation reason) = Unit
Classed k (heard.Request kind current) = (k ≡ class.Two) × (is_associating kind ≡ true)
Classed k (heard.Response kind status aid comeback) = k ≡ class.Two
Classed k (heard.QueryRequest identifier) = Unit
Classed k (heard.QueryResponse identifier) = Unit

-- a frame that has a class has version 0
version_zero : (xs : List ℕ) → classless (class_of xs) ≡ false → eqb (version_of (field 1 0 xs)) 0 ≡ true
unfolding class_of
version_zero xs h = by_bool (eqb (version_of (field 1 0 xs)) 0) (λ e. e) (λ e. wrong (sym (rw e at h)))

query_classed : (k : FrameClass) (xs : List ℕ) → Classed k (query_of xs)
unfolding query_of
query_classed k xs =
    let C : Heard → Type 0 = Classed k in
    pick_both C (ltb (length xs) 28) tt
    (pick_both C (eqb (field 1 24 xs) 8) (pick_both C (eqb (field 1 25 xs) 0) tt (pick_both C (eqb (field 1 25 xs) 1) tt tt)) tt)

-- by the one list of 01
listed : (xs : List ℕ) → classless (class_of xs) ≡ false → Classed (class_of xs) (heard_of xs)
unfolding class_of is_public_action heard_of authentication_of response_of
listed xs h =
    let v = version_zero xs h in
    by_bool (eqb (type_of (field 1 0 xs)) 0)
    (λ t.
    by_bool (eqb (subtype_of (field 1 0 xs)) 0) (λ e. rw (v, t, e, eqb-true (subtype_of (field 1 0 xs)) 0 e) (refl, refl)) (λ e0.
    by_bool (eqb (subtype_of (field 1 0 xs)) 1) (λ e. rw (v, t, e0, e, eqb-true (subtype_of (field 1 0 xs)) 1 e) refl) (λ e1.
    by_bool (eqb (subtype_of (field 1 0 xs)) 2) (λ e. rw (v, t, e0, e1, e, eqb-true (subtype_of (field 1 0 xs)) 2 e) (refl, refl)) (λ e2.
    by_bool (eqb (subtype_of (field 1 0 xs)) 3) (λ e. rw (v, t, e0, e1, e2, e, eqb-true (subtype_of (field 1 0 xs)) 3 e) refl) (λ e3.
    by_bool (eqb (subtype_of (field 1 0 xs)) 10) (λ e. rw (t, e0, e1, e2, e3, e) tt) (λ e4.
    by_bool (eqb (subtype_of (field 1 0 xs)) 11) (λ e. rw (v, t, e0, e1, e2, e3, e4, e, eqb-true (subtype_of (field 1 0 xs)) 11 e) refl) (λ e5.
    by_bool (eqb (subtype_of (field 1 0 xs)) 12) (λ e. rw (t, e0, e1, e2, e3, e4, e5, e) tt) (λ e6.
    by_bool (eqb (subtype_of (field 1 0 xs)) 13) (λ e. rw (t, e0, e1, e2, e3, e4, e5, e6, e) (query_classed _ xs)) (λ e7. rw (t, e0, e1, e2, e3, e4, e5, e6, e7) tt)))))))))
    (λ t. rw t tt)

-- in an ad hoc network classes 1 and 2 are the list's, and what has a class in the list has one
direct_classed : (xs : List ℕ) (k : FrameClass) (h : Heard) → Classed k h → Classed (direct_class xs k) h
direct_classed xs k heard.Other c = tt
direct_classed xs k (heard.Authentication algorithm transaction status) c = rw c
direct_classed xs k (heard.Deauthentication reason) c = tt
direct_classed xs k (heard.Disassociation reason) c = tt
direct_classed xs k (heard.Request kind current) c = (rw c.0, c.1)
direct_classed xs k (heard.Response kind status aid comeback) c = rw c
direct_classed xs k (heard.QueryRequest identifier) c = tt
direct_classed xs k (heard.QueryResponse identifier) c = tt

direct_classless : (xs : List ℕ) (k : FrameClass) → classless (direct_class xs k) ≡ classless k
direct_classless xs class.None = refl
direct_classless xs class.One = refl
direct_classless xs class.Two = refl
direct_classless xs class.Three = pick_both (λ k. classless k ≡ false) (is_direct xs) refl refl

-- the two networks have the same frames without a class
pub same_classless : (infrastructure : Bool) (xs : List ℕ) → classless (class_in infrastructure xs) ≡ classless (class_of xs)
unfolding class_in
same_classless infrastructure xs = pick_both (λ k. classless k ≡ classless (class_of xs)) infrastructure refl (direct_classless xs (class_of xs))

pub classed : (infrastructure : Bool) (xs : List ℕ) → classless (class_in infrastructure xs) ≡ false → Classed (class_in infrastructure xs) (heard_of xs)
unfolding class_in
classed infrastructure xs h =
    let c = listed xs (sym (same_classless infrastructure xs) ∙ h) in
    pick_both (λ k. Classed k (heard_of xs)) infrastructure c (direct_classed xs (class_of xs) (heard_of xs) c)

-- what passes has a class
pub passes_classed : (role : ℕ) (k : FrameClass) (state : ℕ) → passes_of role k state ≡ true → classless k ≡ false
passes_classed role class.None state e = wrong e
passes_classed role class.One state e = refl
passes_classed role class.Two state e = refl
passes_classed role class.Three state e = refl
