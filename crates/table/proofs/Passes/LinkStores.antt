-- What a record stored, an address stored and a map leave of links that are apart (LinkLaws.antt).
-- Assumes nothing.
use Prim.Native.Nat.{ℕ, zero, suc, ◌+◌, ◌*◌}
use mathlib.Core.Path.{◌≡◌, refl, sym, ap, ◌∙◌}
use mathlib.Core.Bool.{Bool, true, false}
use mathlib.Core.List.{List, [], ◌∷◌, map}
use native.Mathlib.Omega.{arith}
use lib.Dec.{eqb}
use lib.ListN.{get_or, set}
use borrow.Author.Tests.{eqb-true, not-true}
use Rattle.octets.proofs.Branch.{by_bool}
use Rattle.octets.specs.Links.{links_of}
use Rattle.octets.specs.declared.links.Links.{Links}
use Rattle.peer.proofs.Fits.{both, or_right}
use Rattle.peer.specs.Record.{free_of}
use Rattle.peer.specs.declared.record.Record.{Record}
use Rattle.table.specs.Fit.{alone_in, apart, distinct_of, links_apart}
use Rattle.table.specs.Places.{addresses_of, all_of, all_tails, link_addresses_of}
use Rattle.table.proofs.Passes.Lists.{all_set, alone_map, distinct_set, join, swap}
use Rattle.table.proofs.Passes.LinkLaws.{all_links, all_weak, apart_both, both_apart}

-- ---- an address stored: 0, or no link

named_all : (ads : List ℕ) (i a l : ℕ) → alone_in l (a ∷ []) ≡ true → alone_in l ads ≡ true → alone_in l (set ads i a) ≡ true
unfolding alone_in all_tails
named_all ads i a l e h = by_bool (eqb l 0)
    (λ z. rw z)
    (λ z. rw z (all_set (apart l) ads i a (rw z at h) (both (apart l a) _ (rw z at e)).0))

all_two : {A : Type 0} (f g h : A → Bool) → ((x : A) → f x ≡ true → g x ≡ true → h x ≡ true) → (t : List A) → all_of f t ≡ true → all_of g t ≡ true → all_of h t ≡ true
unfolding all_tails
all_two f g h k [] u v = refl
all_two f g h k (x ∷ t) u v =
    join (k x (both (f x) _ u).0 (both (g x) _ v).0) (all_two f g h k t (both (f x) _ u).1 (both (g x) _ v).1)

pub named_apart : (ls ads : List ℕ) (i a : ℕ) → links_apart ls ads ≡ true → all_of (λ l. alone_in l (a ∷ [])) ls ≡ true → links_apart ls (set ads i a) ≡ true
named_apart ls ads i a h e =
    let k = apart_both ls ads h in
    both_apart ls (set ads i a) k.0 (all_two (λ (l : ℕ). alone_in l (a ∷ [])) (λ l. alone_in l ads) (λ l. alone_in l (set ads i a)) (named_all ads i a) ls e k.1)

-- of 0 and of an address that is no link
pub zero_lone : (ls : List ℕ) → all_of (λ l. alone_in l (0 ∷ [])) ls ≡ true
unfolding all_tails alone_in
zero_lone [] = refl
zero_lone (l ∷ ls) = by_bool (eqb l 0) (λ z. rw z (zero_lone ls)) (λ z. rw (z, swap l 0 z) (zero_lone ls))

pub apart_lone : (a : ℕ) (ls : List ℕ) → all_of (apart a) ls ≡ true → all_of (λ l. alone_in l (a ∷ [])) ls ≡ true
unfolding all_tails alone_in
apart_lone a ls h = all_weak (apart a) (λ l. alone_in l (a ∷ [])) (λ l e. or_right (eqb l 0) _ (rw (swap l a (not-true _ e)))) ls h

-- ---- a record stored: with the same links, and with others

pub links_same : (t : List Record) (i : ℕ) (q : Record) → q.links ≡ (get_or t i free_of).links → link_addresses_of (set t i q) ≡ link_addresses_of t
unfolding link_addresses_of
links_same [] i q e = refl
links_same (p ∷ ps) zero q e = rw e
links_same (p ∷ ps) (suc i) q e = rw (links_same ps i q e)

-- slot for slot
slots : List ℕ → ℕ → Links → List ℕ
slots ls k n = set (set (set (set ls k n.one) (k + 1) n.two) (k + 2) n.three) (k + 3) n.four

slots_set : (t : List Record) (i : ℕ) (q : Record) → link_addresses_of (set t i q) ≡ slots (link_addresses_of t) (4 * i) q.links
unfolding link_addresses_of slots
slots_set [] i q = refl
slots_set (p ∷ ps) zero q = refl
slots_set (p ∷ ps) (suc i) q =
    let one : 4 * suc i ≡ suc (suc (suc (suc (4 * i)))) = omega arith in
    let two : 4 * suc i + 1 ≡ suc (suc (suc (suc (4 * i + 1)))) = omega arith in
    let three : 4 * suc i + 2 ≡ suc (suc (suc (suc (4 * i + 2)))) = omega arith in
    let four : 4 * suc i + 3 ≡ suc (suc (suc (suc (4 * i + 3)))) = omega arith in
    rw (two, three, four, one, slots_set ps i q)

-- a link stored in a slot, apart from what follows it in its record
alone_set : (ls : List ℕ) (k a b : ℕ) → alone_in a ls ≡ true → alone_in a (b ∷ []) ≡ true → alone_in a (set ls k b) ≡ true
alone_set ls k a b h e = named_all ls k b a e h

alone_more : (a b : ℕ) (bs : List ℕ) → alone_in a (b ∷ bs) ≡ true → (alone_in a (b ∷ []) ≡ true) × (alone_in a bs ≡ true)
unfolding alone_in all_tails
alone_more a b bs h = by_bool (eqb a 0)
    (λ z. (rw z, rw z))
    (λ z. let k = both (apart a b) _ (rw z at h) in (rw (z, k.0), rw (z, k.1)))

lone_turned : (x y : ℕ) → alone_in x (y ∷ []) ≡ true → alone_in y (x ∷ []) ≡ true
unfolding alone_in all_tails
lone_turned x y q = by_bool (eqb y 0)
    (λ z. rw z)
    (λ z. by_bool (eqb x 0)
    (λ w. rw (z, eqb-true x 0 w, swap y 0 z))
    (λ w. rw (z, swap y x (not-true _ (both (apart x y) _ (rw w at q)).0))))

slots_distinct :
    (ls : List ℕ) (k : ℕ) (n : Links) → distinct_of ls ≡ true → distinct_of (links_of n) ≡ true → all_of (λ l. alone_in l ls) (links_of n) ≡ true
    → distinct_of (slots ls k n) ≡ true
unfolding slots all_tails
slots_distinct ls k n d e h =
    let a = both (alone_in n.one ls) _ h in
    let b = both (alone_in n.two ls) _ a.1 in
    let c = both (alone_in n.three ls) _ b.1 in
    let f = both (alone_in n.four ls) _ c.1 in
    let u = both (alone_in n.one (n.two ∷ n.three ∷ n.four ∷ [])) _ e in
    let v = both (alone_in n.two (n.three ∷ n.four ∷ [])) _ u.1 in
    let w = both (alone_in n.three (n.four ∷ [])) _ v.1 in
    let onetwo = alone_more n.one n.two _ u.0 in
    let onethree = alone_more n.one n.three _ onetwo.1 in
    let twothree = alone_more n.two n.three _ v.0 in
    distinct_set _ (k + 3) n.four (distinct_set _ (k + 2) n.three (distinct_set _ (k + 1) n.two (distinct_set ls k n.one d a.0)
    (alone_set ls k n.two n.one b.0 (lone_turned n.one n.two onetwo.0)))
    (alone_set _ (k + 1) n.three n.two (alone_set ls k n.three n.one c.0 (lone_turned n.one n.three onethree.0)) (lone_turned n.two n.three twothree.0)))
    (alone_set _ (k + 2) n.four n.three (alone_set _ (k + 1) n.four n.two (alone_set ls k n.four n.one f.0 (lone_turned n.one n.four onethree.1)) (lone_turned n.two n.four twothree.1)) (lone_turned n.three n.four w.0))

emptied : (t : List Record) (i : ℕ) → distinct_of (link_addresses_of t) ≡ true → distinct_of (link_addresses_of (set t i free_of)) ≡ true
unfolding alone_in all_tails
emptied t i d = rw (slots_set t i free_of) (slots_distinct (link_addresses_of t) (4 * i) free_of.links d refl refl)

pub set_again : {A : Type 0} (t : List A) (i : ℕ) (p q : A) → set (set t i p) i q ≡ set t i q
set_again [] i p q = refl
set_again (x ∷ t) zero p q = refl
set_again (x ∷ t) (suc i) p q = rw (set_again t i p q)

-- links that are apart from one another, from those of every other record and from the addresses
pub stored_apart :
    (t : List Record) (ads : List ℕ) (i : ℕ) (q : Record) → links_apart (link_addresses_of t) ads ≡ true → distinct_of (links_of q.links) ≡ true
    → all_of (λ l. alone_in l (link_addresses_of (set t i free_of))) (links_of q.links) ≡ true → all_of (λ l. alone_in l ads) (links_of q.links) ≡ true
    → links_apart (link_addresses_of (set t i q)) ads ≡ true
stored_apart t ads i q h d others named =
    let k = apart_both (link_addresses_of t) ads h in
    let alone = slots_distinct (link_addresses_of (set t i free_of)) (4 * i) q.links (emptied t i k.0) d others in
    let is : link_addresses_of (set t i q) ≡ slots (link_addresses_of (set t i free_of)) (4 * i) q.links = ap link_addresses_of (sym (set_again t i free_of q)) ∙ slots_set (set t i free_of) i q in
    let f : ℕ → Bool = λ l. alone_in l ads in
    both_apart (link_addresses_of (set t i q)) ads (rw is alone)
    (all_links f (set t i q) ∙ all_set (λ (p : Record). all_of f (links_of p.links)) t i q (sym (all_links f t) ∙ k.1) named)

pub emptied_apart : (t : List Record) (ads : List ℕ) (i : ℕ) → links_apart (link_addresses_of t) ads ≡ true → links_apart (link_addresses_of (set t i free_of)) ads ≡ true
unfolding alone_in all_tails
emptied_apart t ads i h = stored_apart t ads i free_of h refl refl refl

pub emptied_all : (f : ℕ → Bool) → f 0 ≡ true → (t : List Record) (i : ℕ) (q : Record) → all_of f (link_addresses_of (set t i q)) ≡ true → all_of f (link_addresses_of (set t i free_of)) ≡ true
unfolding all_tails
emptied_all f z t i q h =
    let four : all_of f (links_of free_of.links) ≡ true = rw z in
    all_links f (set t i free_of)
    ∙ rw (set_again t i q free_of) at (all_set (λ (p : Record). all_of f (links_of p.links)) (set t i q) i free_of (sym (all_links f (set t i q)) ∙ h) four)

-- ---- a map that leaves the links

all_true : {A : Type 0} (t : List A) → all_of (λ p. true) t ≡ true
unfolding all_tails
all_true [] = refl
all_true (p ∷ ps) = all_true ps

module _ (g : Record → Record) where
  pub links_map :
      (w : Record → Bool) → ((p : Record) → w p ≡ true → (g p).links ≡ p.links) → (t : List Record) → all_of w t ≡ true
      → link_addresses_of (map g t) ≡ link_addresses_of t
  unfolding link_addresses_of all_tails
  links_map w k [] h = refl
  links_map w k (p ∷ ps) h = rw (k p (both (w p) _ h).0, links_map w k ps (both (w p) _ h).1)

  pub set_links_map : ((p : Record) → (g p).links ≡ p.links) → (t : List Record) (i : ℕ) (q : Record) → link_addresses_of (set (map g t) i q) ≡ link_addresses_of (set t i q)
  unfolding link_addresses_of all_tails
  set_links_map k [] i q = refl
  set_links_map k (p ∷ ps) zero q = rw (links_map (λ r. true) (λ r e. k r) ps (all_true ps))
  set_links_map k (p ∷ ps) (suc i) q = rw (k p, set_links_map k ps i q)

-- where addresses stay or become 0
pub apart_map :
    (w : Record → Bool) (g : Record → Record) → ((p : Record) → w p ≡ true → eqb (g p).address 0 ≡ false → (g p).address ≡ p.address)
    → (ls : List ℕ) (t : List Record) → all_of w t ≡ true → links_apart ls (addresses_of t) ≡ true → links_apart ls (addresses_of (map g t)) ≡ true
apart_map w g k ls t h e =
    let a = apart_both ls (addresses_of t) e in
    both_apart ls (addresses_of (map g t)) a.0
    (all_weak (λ (l : ℕ). alone_in l (addresses_of t)) (λ l. alone_in l (addresses_of (map g t))) (λ l. alone_map w g k l t h) ls a.1)
