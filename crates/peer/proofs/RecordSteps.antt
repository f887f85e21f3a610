-- 02, K6, "One long step or two short", of a record before it may be freed: its times fall by d, then by e, as they fall by d + e.
-- Assumes nothing.
use Rattle.std.proofs.Common.{◌≡◌, ℕ, ◌+◌, ◌-◌, true, false, not, eqb, ltb, leb, sym, refl, arith, ltb-false, ltb-true, le-ltb, lt-ltb, ne_eqb, leb-true}
use borrow.Author.Tests.{not-true}
use Rattle.octets.proofs.Branch.{and_left, and_right, by_bool}
use Rattle.octets.specs.declared.heard.Kind.TheVariants as kind
use Rattle.octets.specs.declared.heard.Kind.{Kind}
use Rattle.peer.specs.Fit.{asked_fits, awaiting_fits, exchange_fits, place_fits, query_fits, query_stands, running_fits, sent_fits}
use Rattle.peer.specs.Moves.{moved_of}
use Rattle.peer.specs.Query.{query_in, query_number, query_retried, query_timed, running_number}
use Rattle.peer.specs.Record.{changed_of, is_associating, is_free, kind_of, queried_of, under_way}
use Rattle.peer.specs.Settings.{ap, role_answers, role_asks}
use Rattle.peer.specs.Tick.{expired_move, queried_timed, timed_of}
use Rattle.peer.specs.Turn.{ended_of}
use Rattle.peer.specs.declared.query.Query.TheVariants as query
use Rattle.peer.specs.declared.query.Query.{Query}
use Rattle.peer.specs.declared.exchange.Exchange.TheVariants.{Asked, Awaiting, None, Sent}
use Rattle.peer.specs.declared.exchange.Exchange.{Exchange}
use Rattle.peer.specs.declared.record.Record.{Record}
use Rattle.peer.specs.declared.settings.Settings.{Settings}
use Rattle.peer.proofs.Fits.{both, clash, fits_of, wrong}
use Rattle.peer.proofs.QuerySteps.{Bounded, in_bounded, in_in, in_none, in_timed, in_unretried, query_unretried, timed_bounded, timed_twice}

some_kind : (k : Kind) → eqb (kind_of k) 0 ≡ false
some_kind kind.Authentication = refl
some_kind kind.Association = refl
some_kind kind.Reassociation = refl

module _ (s : Settings) where
  -- the record after a step; `tick_of` then frees it, or not
  abbrev pub fallen : Record → ℕ → Record
  fallen p d = queried_timed s (timed_of s p d).peer d

  -- What the clock asks of a record, as a well-formed table's have it: time is left only of an exchange, and then no query stands there; and what a
  -- query has left.
  pub record Sound (p : Record) : Type 0 where
    pub busy : eqb p.left 0 ≡ false → (eqb (under_way p.exchange) 0 ≡ false) × (p.query ≡ query.None)
    pub bounded : Bounded s p.query

  fits_bounded : (state : ℕ) (q : Query) → query_fits s state q ≡ true → Bounded s q
  unfolding running_fits
  fits_bounded state query.None h = tt
  fits_bounded state (query.Running left due) h =
      leb-true left s.maximum (and_left (leb left s.maximum) _ (and_right (not (eqb left 0)) _ h))
  fits_bounded state query.TimedOut h = tt

  fits_none : (state : ℕ) (q : Query) → role_asks s.role ≡ true → query_fits s state q ≡ true → q ≡ query.None
  unfolding running_fits query_stands role_asks
  fits_none state query.None r h = refl
  fits_none state (query.Running left due) r h =
      clash (and_left (eqb s.role ap) _ (and_right (leb left s.maximum) _ (and_right (not (eqb left 0)) _ h))) (not-true (eqb s.role ap) r)
  fits_none state query.TimedOut r h = clash (and_left (eqb s.role ap) _ h) (not-true (eqb s.role ap) r)

  fits_busy :
      (x : Exchange) (q : Query) (state left : ℕ) → exchange_fits x s.role state left ≡ true → query_fits s state q ≡ true → eqb left 0 ≡ false
      → (eqb (under_way x) 0 ≡ false) × (q ≡ query.None)
  unfolding asked_fits awaiting_fits sent_fits
  fits_busy None q state left h k z = clash h z
  fits_busy (Asked a) q state left h k z = clash (and_left (eqb left 0) _ (and_right (role_answers s.role) _ h)) z
  fits_busy (Awaiting a) q state left h k z =
      clash (and_left (eqb left 0) _ (and_right (role_answers s.role) _ (and_right (is_associating a) _ h))) z
  fits_busy (Sent a) q state left h k z = (some_kind a, fits_none state q (and_left (role_asks s.role) _ h) k)

  no_query : (q : Query) → eqb (query_number q) 0 ≡ true → q ≡ query.None
  unfolding running_number
  no_query query.None h = refl
  no_query (query.Running left true) h = wrong h
  no_query (query.Running left false) h = wrong h
  no_query query.TimedOut h = wrong h

  free_none : (p : Record) → is_free p ≡ true → (eqb p.left 0 ≡ true) × (p.query ≡ query.None)
  unfolding is_free
  free_none p h =
      let l = both (eqb p.left 0) _ (both (eqb p.state 0) _ (both (eqb p.address 0) _ h).1).1 in
      let q = both (eqb (query_number p.query) 0) _ (both (eqb p.identifier 0) _ (both (eqb p.hold 0) _ l.1).1).1 in
      (l.0, no_query p.query q.0)

  pub sound : (p : Record) → place_fits s p ≡ true → Sound p
  unfolding place_fits
  sound p h = by_bool (is_free p)
      (λ e. let z = free_none p e in record { busy = λ y. clash z.0 y; bounded = rw z.1 tt })
      (λ e.
      let f = fits_of s p (rw e at h) in
      record {
        busy = fits_busy p.exchange p.query p.state p.left f.suits f.queries;
        bounded = fits_bounded p.state p.query f.queries;
      })

  -- a query stands in State 4 alone, so no step takes it from its place before it is looked at
  four_only : (state : ℕ) (q : Query) → query_fits s state q ≡ true → query_in state q ≡ q
  unfolding query_in running_fits query_stands
  four_only state query.None h = in_none state
  four_only state (query.Running left due) h =
      rw (and_right (eqb s.role ap) _ (and_right (leb left s.maximum) _ (and_right (not (eqb left 0)) _ h)))
  four_only state query.TimedOut h = rw (and_right (eqb s.role ap) _ h)

  pub place_query : (p : Record) → place_fits s p ≡ true → query_in p.state p.query ≡ p.query
  unfolding place_fits
  place_query p h = by_bool (is_free p)
      (λ e. rw ((free_none p e).1, in_none p.state))
      (λ e. four_only p.state p.query (fits_of s p (rw e at h)).queries)

  -- a step is one of three: no time runs; it runs on; the exchange ends
  pub data When (p : Record) (d : ℕ) : Type 0 where
    still : eqb p.left 0 ≡ true → When p d
    on : eqb p.left 0 ≡ false → ltb d p.left ≡ true → When p d
    over : eqb p.left 0 ≡ false → ltb d p.left ≡ false → When p d

  pub when : (p : Record) (d : ℕ) → When p d
  when p d = by_bool (eqb p.left 0) still (λ z. by_bool (ltb d p.left) (on z) (over z))

  pub timed_still : (p : Record) (d : ℕ) → eqb p.left 0 ≡ true → timed_of s p d ≡ record { peer = changed_of p p.state p.exchange 0 (p.hold - d); report = 0 }
  unfolding timed_of
  timed_still p d z = rw z

  pub timed_on :
      (p : Record) (d : ℕ) → eqb p.left 0 ≡ false → ltb d p.left ≡ true
      → timed_of s p d ≡ record { peer = changed_of p p.state p.exchange (p.left - d) (p.hold - d); report = 0 }
  unfolding timed_of
  timed_on p d z l = rw (z, l)

  pub timed_over :
      (p : Record) (d : ℕ) → eqb p.left 0 ≡ false → ltb d p.left ≡ false
      → timed_of s p d ≡ record { peer = ended_of s p (expired_move (under_way p.exchange)) (p.hold - d); report = under_way p.exchange }
  unfolding timed_of
  timed_over p d z l = rw (z, l)

  -- the record with another state, exchange and times, and its query after a step
  abbrev pub rest_of : Record → ℕ → Exchange → ℕ → ℕ → ℕ → Record
  rest_of p state x left hold d =
      record {
        address = p.address;
        state = state;
        exchange = x;
        left = left;
        hold = hold;
        query = query_timed s (query_in state p.query) d;
        identifier = p.identifier;
        links = p.links;
      }

  abbrev pub end_state : Record → ℕ
  end_state p = moved_of s.rsna p.state (expired_move (under_way p.exchange))

  pub fallen_still : (p : Record) (d : ℕ) → eqb p.left 0 ≡ true → fallen p d ≡ rest_of p p.state p.exchange 0 (p.hold - d) d
  unfolding queried_timed queried_of changed_of
  fallen_still p d z = rw (timed_still p d z)

  pub fallen_on :
      (p : Record) (d : ℕ) → eqb p.left 0 ≡ false → ltb d p.left ≡ true
      → fallen p d ≡ rest_of p p.state p.exchange (p.left - d) (p.hold - d) d
  unfolding queried_timed queried_of changed_of
  fallen_on p d z l = rw (timed_on p d z l)

  pub fallen_over :
      (p : Record) (d : ℕ) → eqb p.left 0 ≡ false → ltb d p.left ≡ false → fallen p d ≡ rest_of p (end_state p) None 0 (p.hold - d) d
  unfolding queried_timed queried_of changed_of ended_of
  fallen_over p d z l = rw (timed_over p d z l)

  rest_rest :
      (p : Record) (state : ℕ) (x : Exchange) (left hold d state' : ℕ) (x' : Exchange) (left' hold' e : ℕ) → Bounded s p.query
      → query_in state' (query_in state p.query) ≡ query_in state' p.query
      → rest_of (rest_of p state x left hold d) state' x' left' hold' e ≡ rest_of p state' x' left' hold' (d + e)
  rest_rest p state x left hold d state' x' left' hold' e b h =
      rw (in_timed s state' (query_in state p.query) d, h, timed_twice s (query_in state' p.query) d e (in_bounded s state' p.query b))

  minus : (x d e : ℕ) → x - d - e ≡ x - (d + e)
  minus x d e = omega arith

  -- the times fall by d, then by e: by d + e
  pub fallen_twice : (p : Record) (d e : ℕ) → Sound p → fallen (fallen p d) e ≡ fallen p (d + e)
  fallen_twice p d e w = go (when p d)
    where
      go : When p d → fallen (fallen p d) e ≡ fallen p (d + e)
      go (still z) =
          let r = rest_of p p.state p.exchange 0 (p.hold - d) d in
          rw (fallen_still p d z, fallen_still r e refl, fallen_still p (d + e) z, minus p.hold d e)
          (rest_rest p p.state p.exchange 0 (p.hold - d) d p.state p.exchange 0 (p.hold - (d + e)) e w.bounded (in_in p.state p.query))
      go (over z l) =
          let r = rest_of p (end_state p) None 0 (p.hold - d) d in
          let more : ltb (d + e) p.left ≡ false = le-ltb (d + e) p.left (let k = ltb-false d p.left l in omega arith) in
          rw (fallen_over p d z l, fallen_still r e refl, fallen_over p (d + e) z more, minus p.hold d e)
          (rest_rest p (end_state p) None 0 (p.hold - d) d (end_state p) None 0 (p.hold - (d + e)) e w.bounded (in_in (end_state p) p.query))
      go (on z l) = later (when r e)
        where
          r : Record
          r = rest_of p p.state p.exchange (p.left - d) (p.hold - d) d

          later : When r e → fallen (fallen p d) e ≡ fallen p (d + e)
          later (still y) = clash y (ne_eqb (p.left - d) 0 (λ (n : p.left - d ≡ 0). let k = ltb-true d p.left l in omega arith))
          later (on y m) =
              let more : ltb (d + e) p.left ≡ true = lt-ltb (d + e) p.left (let k = ltb-true e (p.left - d) m in omega arith) in
              rw (fallen_on p d z l, fallen_on r e y m, fallen_on p (d + e) z more, minus p.left d e, minus p.hold d e)
              (rest_rest p p.state p.exchange (p.left - d) (p.hold - d) d p.state p.exchange (p.left - (d + e)) (p.hold - (d + e)) e w.bounded (in_in p.state p.query))
          later (over y m) =
              let more : ltb (d + e) p.left ≡ false = le-ltb (d + e) p.left (let k = ltb-false e (p.left - d) m in omega arith) in
              let none : query_in (end_state p) (query_in p.state p.query) ≡ query_in (end_state p) p.query = rw ((w.busy z).1, in_none p.state) in
              rw (fallen_on p d z l, fallen_over r e y m, fallen_over p (d + e) z more, minus p.hold d e)
              (rest_rest p p.state p.exchange (p.left - d) (p.hold - d) d (end_state p) None 0 (p.hold - (d + e)) e w.bounded none)

  pub fallen_sound : (p : Record) (d : ℕ) → Sound p → Sound (fallen p d)
  fallen_sound p d w = go (when p d)
    where
      left_of : (state : ℕ) → Bounded s (query_timed s (query_in state p.query) d)
      left_of state = timed_bounded s (query_in state p.query) d (in_bounded s state p.query w.bounded)

      go : When p d → Sound (fallen p d)
      go (still z) = rw (fallen_still p d z) (record { busy = λ y. wrong (sym y); bounded = left_of p.state })
      go (over z l) = rw (fallen_over p d z l) (record { busy = λ y. wrong (sym y); bounded = left_of (end_state p) })
      go (on z l) =
          let b = w.busy z in
          rw (fallen_on p d z l) (record { busy = λ y. (b.0, rw (b.1, in_none p.state)); bounded = left_of p.state })

  pub fallen_address : (p : Record) (d : ℕ) → (fallen p d).address ≡ p.address
  fallen_address p d = go (when p d)
    where
      go : When p d → (fallen p d).address ≡ p.address
      go (still z) = rw (fallen_still p d z)
      go (over z l) = rw (fallen_over p d z l)
      go (on z l) = rw (fallen_on p d z l)

  pub fallen_unretried : (p : Record) (d e : ℕ) → Sound p → query_retried s (d + e) p.query ≡ false → query_retried s e (fallen p d).query ≡ false
  fallen_unretried p d e w h = go (when p d)
    where
      in_state : (state : ℕ) → query_retried s e (query_timed s (query_in state p.query) d) ≡ false
      in_state state = query_unretried s (query_in state p.query) d e (in_bounded s state p.query w.bounded) (in_unretried s state p.query (d + e) h)

      go : When p d → query_retried s e (fallen p d).query ≡ false
      go (still z) = rw (fallen_still p d z) (in_state p.state)
      go (over z l) = rw (fallen_over p d z l) (in_state (end_state p))
      go (on z l) = rw (fallen_on p d z l) (in_state p.state)
