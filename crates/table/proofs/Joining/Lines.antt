-- Over the lines of State 2 and State 3, for K9: what each move does to them, where an exchange stands, and what a turn leaves.
-- Assumes nothing.
use Prim.Native.Nat.{ℕ, ◌≤◌}
use mathlib.Core.Path.{◌≡◌, refl}
use mathlib.Core.Bool.{Bool, true, false, not, ◌&&◌, ◌||◌}
use mathlib.Core.List.{List}
use native.Mathlib.Omega.{arith}
use lib.Dec.{eqb, leb, ltb}
use lib.ListN.{length}
use borrow.Author.Tests.{eqb-true, le-leb, eqb-false}
use Rattle.octets.proofs.Branch.{and_right, by_bool, pick_both}
use Rattle.octets.specs.Field.{field, subtype_of, type_of}
use Rattle.octets.specs.Heard.{authentication_of, heard_of, query_of, response_of}
use Rattle.octets.specs.declared.heard.Heard.{Heard}
use Rattle.octets.specs.declared.heard.Heard.TheVariants as heard
use Rattle.octets.specs.declared.heard.Kind.{Kind}
use Rattle.octets.specs.declared.heard.Kind.TheVariants as kind
use Rattle.peer.proofs.Fits.{both, wrong}
use Rattle.peer.specs.Authentication.{answered_move}
use Rattle.peer.specs.Fit.{exchange_fits, sent_fits, stands}
use Rattle.peer.specs.Moves.{moved_of}
use Rattle.peer.specs.Record.{is_associating, is_sent}
use Rattle.peer.specs.Settings.{role_asks, role_associates, time_fits}
use Rattle.peer.specs.declared.moves.Move.TheVariants as move
use Rattle.peer.specs.declared.exchange.Exchange.{Exchange}
use Rattle.peer.specs.declared.exchange.Exchange.TheVariants.{None, Asked, Awaiting, Sent}
use Rattle.peer.specs.declared.record.Record.{Record}
use Rattle.peer.specs.declared.turn.Turn.{Turn}

-- ---- Bools that stay

pub kept : (b : Bool) → b ≡ (b && true)
kept true = refl
kept false = refl

pub gone : (b : Bool) → false ≡ (b && false)
gone true = refl
gone false = refl

pub or_none : (b : Bool) → (b || false) ≡ b
or_none true = refl
or_none false = refl

-- ---- moves

-- an answer to an authentication: success ends in State 2 or above, and nothing else in it moves a state over a line
pub answered_two : (rsna state status : ℕ) → 1 ≤ state → leb 2 (moved_of rsna state (answered_move status)) ≡ (eqb status 0 || leb 2 state)
unfolding answered_move
answered_two rsna state status low = by_bool (eqb status 0)
    (λ e. rw e (by_bool (eqb state 1) (λ o. rw o) (λ o. rw o (le-leb 2 state (let n = eqb-false state 1 o in omega arith)))))
    (λ e. rw e)

pub answered_three : (rsna state status : ℕ) → leb 3 (moved_of rsna state (answered_move status)) ≡ leb 3 state
unfolding answered_move
answered_three rsna state status = by_bool (eqb status 0)
    (λ e. rw e (by_bool (eqb state 1) (λ o. rw (o, eqb-true state 1 o)) (λ o. rw o)))
    (λ e. rw e)

pub joined_two : (rsna state : ℕ) → leb 2 (moved_of rsna state move.Join) ≡ true
joined_two rsna state = by_bool (eqb rsna 1) (λ e. rw e) (λ e. rw e)

pub joined_three : (rsna state : ℕ) → leb 3 (moved_of rsna state move.Join) ≡ true
joined_three rsna state = by_bool (eqb rsna 1) (λ e. rw e) (λ e. rw e)

-- ---- exchanges

-- a (re)association stands in State 2 or above
pub stands_two : (k : Kind) (role state : ℕ) → is_associating k ≡ true → stands k role state ≡ true → leb 2 state ≡ true
unfolding stands
stands_two kind.Authentication role state a h = wrong a
stands_two kind.Association role state a h = and_right (role_associates role) _ h
stands_two kind.Reassociation role state a h = and_right (role_associates role) _ h

pub sent_two : (e : Exchange) (k : Kind) (role state left : ℕ) → is_associating k ≡ true → exchange_fits e role state left ≡ true → is_sent k e ≡ true → leb 2 state ≡ true
unfolding sent_fits
sent_two e kind.Authentication role state left a h q = wrong a
sent_two None kind.Association role state left a h q = wrong q
sent_two None kind.Reassociation role state left a h q = wrong q
sent_two (Asked j) kind.Association role state left a h q = wrong q
sent_two (Asked j) kind.Reassociation role state left a h q = wrong q
sent_two (Awaiting j) kind.Association role state left a h q = wrong q
sent_two (Awaiting j) kind.Reassociation role state left a h q = wrong q
sent_two (Sent kind.Authentication) kind.Association role state left a h q = wrong q
sent_two (Sent kind.Association) kind.Association role state left a h q = stands_two kind.Association role state refl (both (time_fits left) _ (both (role_asks role) _ h).1).1
sent_two (Sent kind.Reassociation) kind.Association role state left a h q = wrong q
sent_two (Sent kind.Authentication) kind.Reassociation role state left a h q = wrong q
sent_two (Sent kind.Association) kind.Reassociation role state left a h q = wrong q
sent_two (Sent kind.Reassociation) kind.Reassociation role state left a h q = stands_two kind.Reassociation role state refl (both (time_fits left) _ (both (role_asks role) _ h).1).1

-- what octets say of a response is of a (re)association
abbrev pub Associating : Heard → Type 0
Associating heard.Other = Unit
Associating (heard.Authentication algorithm transaction status) = Unit
Associating (heard.Deauthentication reason) = Unit
Associating (heard.Disassociation reason) = Unit
Associating (heard.Request kind current) = Unit
Associating (heard.Response k status aid comeback) = is_associating k ≡ true
Associating (heard.QueryRequest identifier) = Unit
Associating (heard.QueryResponse identifier) = Unit

pub heard_associating : (xs : List ℕ) → Associating (heard_of xs)
unfolding heard_of authentication_of response_of query_of
heard_associating xs =
    let A : Heard → Type 0 = Associating in
    let b = subtype_of (field 1 0 xs) in
    pick_both A (eqb (type_of (field 1 0 xs)) 0)
    (pick_both A (eqb b 0) tt
    (pick_both A (eqb b 1) refl
    (pick_both A (eqb b 2) tt
    (pick_both A (eqb b 3) refl
    (pick_both A (eqb b 10) tt
    (pick_both A (eqb b 11) tt
    (pick_both A (eqb b 12) tt
    (pick_both A (eqb b 13)
    (pick_both A (ltb (length xs) 28) tt
    (pick_both A (eqb (field 1 24 xs) 8) (pick_both A (eqb (field 1 25 xs) 0) tt (pick_both A (eqb (field 1 25 xs) 1) tt tt)) tt))
    tt))))))))
    tt

-- ---- the turn

-- What the peer's state is after a turn on p, over each of the two lines: g and a raise it over them, x and y put it below.
pub record Turned (p : Record) (g x a y : Bool) (t : Turn) : Type 0 where
  pub two : leb 2 t.peer.state ≡ (g || (leb 2 p.state && not x))
  pub three : leb 3 t.peer.state ≡ (a || (leb 3 p.state && not y))

-- the state stays
pub remains : {p : Record} (t : Turn) → t.peer.state ≡ p.state → Turned p false false false false t
remains {p} t e = rw e (record { two = kept (leb 2 p.state); three = kept (leb 3 p.state) })
