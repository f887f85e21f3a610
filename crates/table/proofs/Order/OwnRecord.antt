-- A peer's own record, in the table and under the rules: what demand 3 stands on.
--     find_at                in a table in which no address stands twice, a peer is found at its place
--     hear-alone, ask-alone  where the role answers, no rule touches another record
-- Assumes nothing.
use Rattle.std.specs.Prelude.{Option}
use Prim.Native.Nat.{ℕ, zero, suc, ◌+◌, ◌<◌}
use native.Mathlib.Nat.{not-suc-le-zero, le_of_suc-le-suc}
use native.Mathlib.Omega.{arith}
use mathlib.Core.Path.{◌≡◌, refl, sym, ap, ◌∙◌}
use mathlib.Core.Bool.{Bool, true, false, not, ◌&&◌, ◌||◌}
use mathlib.Core.List.{List, [], ◌∷◌}
use lib.Dec.{eqb, ltb}
use lib.ListN.{length, get_or, length-map, get_or-map}
use borrow.Author.Tests.{eqb-true, eqb-false, eq-eqb, not-false, not-true}
use Rattle.octets.proofs.Branch.{and_left, and_right, by_bool, pick_both, pick_by}
use Rattle.peer.proofs.Classes.{Classed, passes_classed}
use Rattle.peer.proofs.Fits.{clash, fits_of, sent_asks}
use Rattle.peer.proofs.Roles.{authentication_by, no_answers, request_by}
use Rattle.octets.specs.Class.{classless}
use Rattle.octets.specs.Links.{no_links}
use Rattle.octets.specs.Pick.{pick}
use Rattle.octets.specs.declared.class.FrameClass.{FrameClass}
use Rattle.octets.specs.declared.heard.Heard.{Heard}
use Rattle.octets.specs.declared.heard.Heard.TheVariants as heard
use Rattle.octets.specs.declared.heard.Kind.{Kind}
use Rattle.octets.specs.declared.heard.Kind.TheVariants as kind
use Rattle.peer.specs.Settings.{role_answers, role_associates, settings_fit}
use Rattle.peer.specs.Record.{free_of, kind_of, sent_of, under_way, is_free, is_sent}
use Rattle.peer.specs.Fit.{place_fits}
use Rattle.peer.specs.Turn.{turn_of, replied_of, still_of}
use Rattle.peer.specs.Filter.{passes_of}
use Rattle.peer.specs.Authentication.{requested_of}
use Rattle.peer.specs.Farewell.{deauthentication_heard, disassociation_heard}
use Rattle.peer.specs.Association.{response_heard}
use Rattle.peer.specs.Challenge.{challenged_of, inquired_of, query_request_heard, query_response_heard}
use Rattle.peer.specs.Query.{is_running, query_number}
use Rattle.peer.specs.Hear.{is_exchange, is_query, act_of, group_heard, hear_of}
use Rattle.peer.specs.Ask.{started_of, answer_of, deauthenticate_of, failed_of, associate_of, reassociate_of, disassociate_of, awaited_of, declined_of, respond_of, secure_of, report_of, ask_of}
use Rattle.peer.specs.declared.settings.Settings.{Settings}
use Rattle.peer.specs.declared.record.Record.{Record}
use Rattle.peer.specs.declared.exchange.Exchange.{Exchange}
use Rattle.peer.specs.declared.exchange.Exchange.TheVariants.{None, Asked, Awaiting, Sent}
use Rattle.peer.specs.declared.refuse.Others.{Others}
use Rattle.peer.specs.declared.turn.Turn.{Turn}
use Rattle.table.specs.Places.{first_from, all_tails, all_of, addresses_of, find_of}
use Rattle.table.specs.Fit.{apart, alone_in, distinct_of, well_formed}
use Rattle.table.specs.Order.{address_of}
use Rattle.std.specs.declared.option.Option.TheVariants as option

-- a place in a list whose every element passes a test
pub all_at : {A : Type 0} (f : A → Bool) (t : List A) (i : ℕ) (d : A) → all_of f t ≡ true → i < length t → f (get_or t i d) ≡ true
unfolding all_tails
all_at f [] i d e h = absurd (not-suc-le-zero h)
all_at f (x ∷ t) zero d e h = and_left (f x) (all_of f t) e
all_at f (x ∷ t) (suc i) d e h = all_at f t i d (and_right (f x) (all_of f t) e) (le_of_suc-le-suc h)

-- an address that is not 0 and stands at place i is found there
find_from : (ads : List ℕ) (n i a : ℕ) → distinct_of ads ≡ true → i < length ads → get_or ads i 0 ≡ a → eqb a 0 ≡ false → first_from (λ b. eqb b a) n ads ≡ option.Some (n + i)
unfolding all_tails first_from alone_in
find_from [] n i a t h e z = absurd (not-suc-le-zero h)
find_from (x ∷ xs) n zero a t h e z = rw (eq-eqb x a e) (ap option.Some (omega arith))
find_from (x ∷ xs) n (suc i) a t h e z =
    go (eqb x a) refl (find_from xs (n + 1) i a (and_right (alone_in x xs) (distinct_of xs) t) (le_of_suc-le-suc h) e z)
  where
    go : (b : Bool) → eqb x a ≡ b → first_from (λ c. eqb c a) (n + 1) xs ≡ option.Some (n + 1 + i) → pick b (option.Some n) (first_from (λ c. eqb c a) (n + 1) xs) ≡ option.Some (n + suc i)
    go false q ih = ih ∙ ap option.Some (omega arith)
    go true q ih =
        let w : x ≡ a = eqb-true x a q in
        let y : eqb x 0 ≡ false = rw w z in
        let l : all_of (apart x) xs ≡ true = rw y at (and_left (eqb x 0 || all_of (apart x) xs) (distinct_of xs) t) in
        let f : eqb a x ≡ false = not-true (eqb a x) (rw e at (all_at (apart x) xs i 0 l (le_of_suc-le-suc h))) in
        absurd (eqb-false a x f (sym w))

pub find_at : (t : List Record) (i : ℕ) → distinct_of (addresses_of t) ≡ true → i < length t → eqb (get_or t i free_of).address 0 ≡ false → find_of (addresses_of t) (get_or t i free_of).address ≡ option.Some i
find_at t i d h z =
    find_from (addresses_of t) 0 i (get_or t i free_of).address d (rw (length-map t address_of) h) (get_or-map address_of t i free_of) z
    ∙ ap option.Some (omega arith)

-- what well-formedness gives
pub wf_settings : (s : Settings) (t : List Record) → well_formed s t ≡ true → settings_fit s ≡ true
unfolding well_formed
wf_settings s t w = and_left (settings_fit s) _ w

pub wf_fits : (s : Settings) (t : List Record) → well_formed s t ≡ true → all_of (place_fits s) t ≡ true
unfolding well_formed
wf_fits s t w = and_left (all_of (place_fits s) t) _ (and_right (settings_fit s) _ w)

pub wf_distinct : (s : Settings) (t : List Record) → well_formed s t ≡ true → distinct_of (addresses_of t) ≡ true
unfolding well_formed
wf_distinct s t w = and_left (distinct_of (addresses_of t)) _ (and_right (all_of (place_fits s) t) _ (and_right (settings_fit s) _ w))

-- no rule touches another record: of those who answer, an AP sends no request, and in an ad hoc network no response passes
abbrev pub Alone : Turn → Type 0
Alone t = t.sole ≡ false

pub no_kind : (k : Kind) → eqb 0 (kind_of k) ≡ false
no_kind kind.Authentication = refl
no_kind kind.Association = refl
no_kind kind.Reassociation = refl

sent_free : (e : Exchange) → under_way e ≡ 0 → sent_of e ≡ 0
sent_free None h = refl
sent_free (Asked k) h = refl
sent_free (Awaiting k) h = refl
sent_free (Sent k) h = h

module _ (s : Settings) (p : Record) (fit : settings_fit s ≡ true) (r : role_answers s.role ≡ true) (w : place_fits s p ≡ true) where
  none_sent : (k : Kind) → role_associates s.role ≡ true → is_sent k p.exchange ≡ false
  unfolding place_fits is_free
  none_sent k on = by_bool (is_free p)
      (λ f.
      rw (sent_free p.exchange
      (eqb-true (under_way p.exchange) 0
      (and_right (no_links p.links) _
      (and_right (eqb (query_number p.query) 0) _
      (and_right (eqb p.identifier 0) _
      (and_right (eqb p.hold 0) _
      (and_right (eqb p.left 0) _ (and_right (eqb p.state 0) _ (and_right (eqb p.address 0) _ f)))))))))
      (no_kind k))
      (λ f. by_bool (is_sent k p.exchange)
      (λ q. clash r (no_answers s fit (sent_asks p.exchange k s.role p.state p.left (fits_of s p (rw f at w)).suits q) on))
      (λ q. q))

  response_alone : (k : Kind) (status aid : ℕ) (c : Option ℕ) → role_associates s.role ≡ true → Alone (response_heard s p k status aid c)
  unfolding response_heard still_of replied_of turn_of
  response_alone k status aid c on = rw (none_sent k on)

  -- (what is heard has the class of its kind, where nobody associates)
  act_alone : (k : FrameClass) (h : Heard) → (role_associates s.role ≡ false → Classed k h) → passes_of s.role k p.state ≡ true → Alone (act_of s p h)
  unfolding still_of replied_of turn_of requested_of deauthentication_heard disassociation_heard challenged_of query_request_heard query_response_heard
  act_alone k heard.Other b e = refl
  act_alone k (heard.Authentication algorithm transaction status) b e =
      authentication_by s p Alone algorithm transaction status (λ a z. refl) (λ z. refl) (λ q. refl) refl
  act_alone k (heard.Deauthentication reason) b e = pick_both Alone (ltb p.state 2) refl refl
  act_alone k (heard.Disassociation reason) b e = pick_both Alone (ltb p.state 3) refl refl
  act_alone k (heard.Request kind current) b e = request_by s p Alone kind current (λ a c. refl) (λ a. refl) refl
  act_alone k (heard.Response kind status aid c) b e =
      response_alone kind status aid c (by_bool (role_associates s.role) (λ on. on) (λ off. and_left (role_associates s.role) _ (rw (b off) at e)))
  act_alone k (heard.QueryRequest identifier) b e = pick_both Alone (eqb p.state 4) refl refl
  act_alone k (heard.QueryResponse identifier) b e =
      pick_both Alone (eqb p.state 4 && (is_running p.query && eqb identifier p.identifier)) refl refl

  pub hear_alone : (k : FrameClass) (group : Bool) (h : Heard) → (role_associates s.role ≡ false → classless k ≡ false → Classed k h) → Alone (hear_of s p k group h)
  unfolding hear_of group_heard still_of replied_of turn_of
  hear_alone k group h b = pick_by Alone (not (passes_of s.role k p.state))
      (λ e. refl)
      (λ e.
      let on = not-false _ e in
      let a = act_alone k h (λ off. b off (passes_classed s.role k p.state on)) on in
      pick_both Alone group (pick_both Alone (is_exchange h) refl (pick_both Alone (is_query h) refl a)) a)

pub ask_alone : (s : Settings) (aid : ℕ) (p : Record) (o : Others) (q c : ℕ) → Alone (ask_of s aid p o q c)
unfolding ask_of started_of answer_of deauthenticate_of associate_of reassociate_of failed_of disassociate_of respond_of awaited_of declined_of secure_of report_of inquired_of turn_of
ask_alone s aid p o q c =
    pick_both Alone (eqb q 1) refl
    (pick_both Alone (eqb q 2) refl
    (pick_both Alone (eqb q 3) refl
    (pick_both Alone (eqb q 4) (pick_both Alone (eqb p.state 1) refl refl)
    (pick_both Alone (eqb q 5) (pick_both Alone (eqb o.associated 0 || eqb p.state 1) refl refl)
    (pick_both Alone (eqb q 6) (pick_both Alone (ltb p.state 3) refl refl)
    (pick_both Alone (eqb q 7) (pick_both Alone (eqb c 0) refl refl)
    (pick_both Alone (eqb q 8) (pick_both Alone (eqb c 0) refl refl)
    (pick_both Alone (eqb q 9) refl
    (pick_both Alone (eqb q 10) refl refl)))))))))
