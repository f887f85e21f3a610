-- What the rules are made of keeps what a record must be: a turn that leaves the record, ends an exchange or begins one; a record found,
-- fresh, or moved to State 2 by another's turn.
-- Assumes nothing.
use Rattle.std.proofs.Common.{◌≡◌, ℕ, ◌≤◌, Bool, true, false, not, ◌&&◌, ◌||◌, eqb, ltb, leb, sym, refl, arith, ltb-false, ltb-true, eqb-true, le-leb, Option}
use borrow.Author.Tests.{lt-leb}
use Rattle.octets.proofs.Branch.{by_bool, pick_both, pick_by}
use Rattle.octets.specs.Address.{valid_of}
use Rattle.octets.specs.Links.{no_links}
use Rattle.octets.specs.declared.frame.Frame.{Frame}
use Rattle.octets.specs.declared.heard.Kind.TheVariants.{Association, Authentication, Reassociation}
use Rattle.octets.specs.declared.heard.Kind.{Kind}
use Rattle.peer.specs.Ask.{declined_move}
use Rattle.peer.specs.Association.{parted_of}
use Rattle.peer.specs.Authentication.{answered_move}
use Rattle.peer.specs.Fit.{exchange_fits, hold_fits, links_fit, place_fits, query_fits, record_fits, stands}
use Rattle.peer.specs.Moves.{moved_of}
use Rattle.peer.specs.Query.{query_left}
use Rattle.peer.specs.Record.{associates, changed_of, fresh_of, is_free, is_joined, queried_of, under_way}
use Rattle.peer.specs.Settings.{ap, role_answers, role_asks, role_associates, settings_fit}
use Rattle.peer.specs.Turn.{begun_of, ended_of, replied_of, still_of, turn_of}
use Rattle.peer.specs.declared.moves.Move.{Move}
use Rattle.peer.specs.declared.query.Query.{Query}
use Rattle.peer.specs.declared.exchange.Exchange.TheVariants.{None}
use Rattle.peer.specs.declared.exchange.Exchange.{Exchange}
use Rattle.peer.specs.declared.record.Record.{Record}
use Rattle.peer.specs.declared.settings.Settings.{Settings}
use Rattle.peer.specs.declared.turn.Told.{Told}
use Rattle.peer.specs.declared.turn.Turn.{Turn}
use Rattle.peer.proofs.Fits.{Fits, Keeps, both, clash, fits_of, keeps_all, keeps_changed, keeps_queried, of_fits, or_right, suits_still, wrong}
use Rattle.peer.proofs.Moved.{calm, calm_moved, moved_high, moved_low}
use Rattle.peer.proofs.QueryFits.{left_short, maximum_short}
use Rattle.peer.proofs.Roles.{ap_answers, ap_associates, high_two}

-- a turn that keeps what a record must be
abbrev pub Turns : Settings → Bool → Record → Turn → Type 0
Turns s busy p turn = Keeps s busy p turn.peer turn.sole

-- every exchange stands in State 2 and above where the role takes part in associations, an authentication in any state at any role
pub stood : (k : Kind) (role state : ℕ) → (role_associates role && leb 2 state) ≡ true → stands k role state ≡ true
unfolding stands
stood Authentication role state h = refl
stood Association role state h = h
stood Reassociation role state h = h

pub stood_any : (role state : ℕ) → stands Authentication role state ≡ true
unfolding stands
stood_any role state = refl

-- an answer to an authentication raises no state to 3 or 4
pub answered_calm : (status : ℕ) → calm (answered_move status) ≡ true
unfolding answered_move
answered_calm status = by_bool (eqb status 0) (λ e. rw e) (λ e. rw e)

-- nor does a rejection of ours, in either edition
pub declined_calm : (s : Settings) → calm (declined_move s) ≡ true
unfolding declined_move
declined_calm s =
    pick_both (λ m. calm m ≡ true) (eqb s.edition 1) refl (pick_both (λ m. calm m ≡ true) (eqb s.protection 1) refl refl)

-- it lowers a state or leaves it, in State 2 and above
pub declined_no_higher : (s : Settings) (state : ℕ) → 2 ≤ state → moved_of s.rsna state (declined_move s) ≤ state
unfolding declined_move
declined_no_higher s state two =
    pick_both (λ m. moved_of s.rsna state m ≤ state) (eqb s.edition 1) two
    (pick_both (λ m. moved_of s.rsna state m ≤ state) (eqb s.protection 1) (omega arith)
    (pick_by (λ (n : ℕ). n ≤ state) (eqb state 4) (λ e. let z = eqb-true state 4 e in omega arith) (λ e. omega arith)))

-- turns of a record that fits: it stays; its exchange ends; one begins; its query is another
module _ {s : Settings} {busy : Bool} {p : Record} (f : Fits s p) where
  pub turned : (v : ℕ) (told : Told) (r : Option Frame) → Turns s busy p (turn_of s p p v told r)
  unfolding turn_of
  turned v told r = keeps_all s busy p f

  pub replied : (v : ℕ) (r : Option Frame) → Turns s busy p (replied_of s p v r)
  unfolding replied_of turn_of
  replied v r = keeps_all s busy p f

  pub still : (v : ℕ) → Turns s busy p (still_of s p v)
  unfolding still_of replied_of turn_of
  still v = keeps_all s busy p f

  pub ended :
      (m : Move) (hold v : ℕ) (told : Told) (r : Option Frame) → hold_fits s.role hold ≡ true → (calm m ≡ false → eqb s.role ap ≡ true)
      → Turns s busy p (turn_of s p (ended_of s p m hold) v told r)
  unfolding turn_of ended_of
  ended m hold v told r held c =
      keeps_changed s busy p f (moved_of s.rsna p.state m) None 0 hold false
      (moved_low s.rsna p.state m f.low) (moved_high s.role s.rsna p.state m (λ n. ap_associates s.role (c n)) f.high) held refl
      (λ a b j. calm_moved s.rsna p.state m (by_bool (calm m) (λ e. e) (λ n. clash (ap_answers s.role (c n)) a)) j) (λ a b j. wrong j)

  pub begun :
      (e : Exchange) (left v : ℕ) (told : Told) (r : Option Frame) → exchange_fits e s.role p.state left ≡ true
      → (role_answers s.role ≡ false → busy ≡ true → leb 2 (under_way e) ≡ true → leb 2 (under_way p.exchange) ≡ true)
      → Turns s busy p (turn_of s p (begun_of p e left) v told r)
  unfolding turn_of begun_of
  begun e left v told r suits starts =
      keeps_changed s busy p f p.state e left p.hold false f.low f.high f.held suits (λ a b j. j) starts

  pub queried :
      (q : Query) (identifier v : ℕ) (told : Told) (r : Option Frame) → identifier ≤ 65535 → query_fits s p.state q ≡ true
      → Turns s busy p (turn_of s p (queried_of p q identifier) v told r)
  unfolding turn_of
  queried q identifier v told r short suits = keeps_queried s busy p f q identifier short suits

-- a place with a valid address is not free
pub found_fits : (s : Settings) (p : Record) → place_fits s p ≡ true → valid_of p.address ≡ true → Fits s p
unfolding place_fits is_free valid_of
found_fits s p h v = by_bool (eqb p.address 0)
    (λ e. wrong (rw e at v))
    (λ e. fits_of s p (rw e at h))

-- "a fresh record has one fixed form"
pub fresh_fits : (s : Settings) (a : ℕ) → not (eqb a s.own) ≡ true → valid_of a ≡ true → Fits s (fresh_of a)
unfolding fresh_of hold_fits links_fit no_links
fresh_fits s a e v =
    record {
      low = omega arith;
      high = let two = high_two s.role in omega arith;
      apart = e;
      valid = v;
      held = or_right (role_asks s.role) true refl;
      suits = refl;
      numbered = omega arith;
      queries = refl;
      linked = refl;
    }

-- what is left of its query has two octets
pub query_soon : (s : Settings) (p : Record) → settings_fit s ≡ true → Fits s p → query_left p.query ≤ 65535
query_soon s p fit f = let l = left_short s p.state p.query f.queries in let m = maximum_short s fit in omega arith

-- a free place is in State 0
clash_free : {P : Type 0} (p : Record) → is_free p ≡ true → ltb p.state 3 ≡ false → P
unfolding is_free
clash_free p i e =
    let z : p.state ≡ 0 = eqb-true p.state 0 (both (eqb p.state 0) _ (both (eqb p.address 0) _ i).1).0 in
    wrong (sym (rw z at e))

-- any other record that goes to State 2 stays well formed
pub parted_keeps : (s : Settings) (p : Record) → place_fits s p ≡ true → place_fits s (parted_of p) ≡ true
unfolding parted_of place_fits
parted_keeps s p h = by_bool (ltb p.state 3) (λ e. rw e h) high
  where
    high : ltb p.state 3 ≡ false → (is_free (parted_of p) || record_fits s (parted_of p)) ≡ true
    high e = by_bool (is_free p)
        (λ i. clash_free p i e)
        (λ i.
        let f : Fits s p = fits_of s p (rw i at h) in
        let three : 3 ≤ p.state = ltb-false p.state 3 e in
        rw e (or_right (is_free (changed_of p 2 p.exchange p.left p.hold)) _ (of_fits s _
        (keeps_changed s true p f 2 p.exchange p.left p.hold false (omega arith) (high_two s.role) f.held
        (suits_still p.exchange s.role p.state p.left 2 p.left f.suits refl (omega arith) (le-leb 2 p.state (omega arith)))
        (λ a b j. wrong j) (λ a b j. j)).fits)))

-- .. and leaves State 3 or 4, with its exchange
pub parted_joined : (p : Record) → is_joined (parted_of p) ≡ false
unfolding parted_of is_joined changed_of
parted_joined p = by_bool (ltb p.state 3)
    (λ e. rw e (lt-leb 3 p.state (ltb-true p.state 3 e)))
    (λ e. rw e)

pub parted_associates : (p : Record) → associates (parted_of p) ≡ associates p
unfolding parted_of associates changed_of
parted_associates p = by_bool (ltb p.state 3) (λ e. rw e) (λ e. rw e)
