-- What one record must be, as facts; and a record that comes of another and keeps them.
-- Assumes nothing.
use Rattle.std.proofs.Common.{◌≡◌, ℕ, ◌≤◌, Bool, true, false, not, ◌&&◌, eqb, leb, sym, refl, ◌∙◌, arith, eqb-true, le-leb, leb-true}
pub use Rattle.std.proofs.lemmas.Bool.{and_parts as both, and_right as and_none, or_parts as or_left, or_right}
use Rattle.octets.specs.Address.{valid_of}
use Rattle.octets.specs.declared.heard.Kind.TheVariants.{Association, Authentication, Reassociation}
use Rattle.octets.specs.declared.heard.Kind.{Kind}
use Rattle.peer.specs.Fit.{stands, asked_fits, awaiting_fits, sent_fits, exchange_fits, highest_state, hold_fits, links_fit, query_allowed, query_fits, record_fits, place_fits}
use Rattle.peer.specs.Record.{associates, changed_of, is_associating, is_free, is_joined, is_sent, queried_of, under_way, asked_of}
use Rattle.peer.specs.Settings.{role_answers, role_asks, role_associates, time_fits}
use Rattle.peer.specs.declared.query.Query.{Query}
use Rattle.peer.specs.declared.exchange.Exchange.TheVariants.{Asked, Awaiting, None, Sent}
use Rattle.peer.specs.declared.exchange.Exchange.{Exchange}
use Rattle.peer.specs.declared.record.Record.{Record}
use Rattle.peer.specs.declared.settings.Settings.{Settings}
use Rattle.peer.proofs.QueryFits.{in_fits}

pub wrong : {P : Type 0} → ◌≡◌ {A = Bool} false true → P
wrong h = cc

pub clash : {P : Type 0} {b : Bool} → b ≡ true → b ≡ false → P
clash t f = wrong (sym f ∙ t)

-- the clauses of `record_fits`
pub record Fits (s : Settings) (p : Record) : Type 0 where
  pub low : 1 ≤ p.state
  pub high : p.state ≤ highest_state s.role
  pub apart : not (eqb p.address s.own) ≡ true
  pub valid : valid_of p.address ≡ true
  pub held : hold_fits s.role p.hold ≡ true
  pub suits : exchange_fits p.exchange s.role p.state p.left ≡ true
  pub numbered : p.identifier ≤ 65535
  pub queries : query_fits s p.state p.query ≡ true
  pub linked : links_fit s p ≡ true

pub fits_of : (s : Settings) (p : Record) → record_fits s p ≡ true → Fits s p
unfolding record_fits query_allowed
fits_of s p h =
    let a = both (leb 1 p.state) _ h in
    let b = both (leb p.state (highest_state s.role)) _ a.1 in
    let c = both (not (eqb p.address s.own)) _ b.1 in
    let d = both (valid_of p.address) _ c.1 in
    let e = both (hold_fits s.role p.hold) _ d.1 in
    let g = both (exchange_fits p.exchange s.role p.state p.left) _ e.1 in
    let j = both (query_allowed s p) _ g.1 in
    let i = both (leb p.identifier 65535) _ j.0 in
    record {
      low = leb-true 1 p.state a.0;
      high = leb-true p.state (highest_state s.role) b.0;
      apart = c.0;
      valid = d.0;
      held = e.0;
      suits = g.0;
      numbered = leb-true p.identifier 65535 i.0;
      queries = i.1;
      linked = j.1;
    }

pub of_fits : (s : Settings) (p : Record) → Fits s p → record_fits s p ≡ true
unfolding record_fits query_allowed
of_fits s p f =
    rw (le-leb 1 p.state f.low, le-leb p.state (highest_state s.role) f.high, f.apart, f.valid, f.held, f.suits, le-leb p.identifier 65535 f.numbered, f.queries)
    f.linked

-- The record q comes of p: it fits, and has the same address; and at a station it is in State 3 or 4, or has a (re)association under way,
-- only where p was so, or where any other record leaves State 3 or 4 with it (sole), or where no record had one (not busy).
pub record Keeps (s : Settings) (busy : Bool) (p q : Record) (sole : Bool) : Type 0 where
  pub fits : Fits s q
  pub same : q.address ≡ p.address
  pub joins : role_answers s.role ≡ false → sole ≡ false → is_joined q ≡ true → is_joined p ≡ true
  pub starts : role_answers s.role ≡ false → busy ≡ true → associates q ≡ true → associates p ≡ true

-- The place q comes of p: the same, but that it may be free.
pub record Placed (s : Settings) (busy : Bool) (p q : Record) (sole : Bool) : Type 0 where
  pub place : place_fits s q ≡ true
  pub same : eqb q.address 0 ≡ false → q.address ≡ p.address
  pub joins : role_answers s.role ≡ false → sole ≡ false → is_joined q ≡ true → is_joined p ≡ true
  pub starts : role_answers s.role ≡ false → busy ≡ true → associates q ≡ true → associates p ≡ true

pub placed : {s : Settings} {busy sole : Bool} {p q : Record} → Keeps s busy p q sole → Placed s busy p q sole
unfolding place_fits
placed {s} {q} k =
    record { place = or_right (is_free q) _ (of_fits s q k.fits); same = λ e. k.same; joins = k.joins; starts = k.starts }

-- ---- the exchanges

-- a time that fits still does when it falls, but not to 0
time_still : (left left' : ℕ) → time_fits left ≡ true → eqb left 0 ≡ eqb left' 0 → left' ≤ left → time_fits left' ≡ true
unfolding time_fits
time_still left left' h z l =
    let a = both (not (eqb left 0)) _ h in
    let top : left ≤ 65535 = leb-true left 65535 a.1 in
    rw (← z, a.0, le-leb left' 65535 (omega arith))

-- an exchange fits by whether its time is 0, and if not, in range; and by whether the state is 2 or above
pub suits_still :
    (e : Exchange) (role state left state' left' : ℕ) → exchange_fits e role state left ≡ true → eqb left 0 ≡ eqb left' 0 → left' ≤ left
    → leb 2 state ≡ leb 2 state' → exchange_fits e role state' left' ≡ true
unfolding asked_fits awaiting_fits sent_fits stands
suits_still None role state left state' left' h z l k = rw (← z) h
suits_still (Asked a) role state left state' left' h z l k = rw (← z, ← k) h
suits_still (Awaiting a) role state left state' left' h z l k = rw (← z, ← k) h
suits_still (Sent a) role state left state' left' h z l k =
    let r = both (role_asks role) _ h in
    let t = both (time_fits left) _ r.1 in
    rw (r.0, time_still left left' t.0 z l, ← k) t.1

asked_short : (k : Kind) (role state left : ℕ) → asked_fits k role state left ≡ true → left ≤ 65535
unfolding asked_fits
asked_short k role state left h =
    let z : left ≡ 0 = eqb-true left 0 (both (eqb left 0) _ (both (role_answers role) _ h).1).0 in omega arith

-- whatever the exchange, its time left is in range
pub suits_short : (e : Exchange) (role state left : ℕ) → exchange_fits e role state left ≡ true → left ≤ 65535
unfolding awaiting_fits sent_fits time_fits
suits_short None role state left h = let z : left ≡ 0 = eqb-true left 0 h in omega arith
suits_short (Asked k) role state left h = asked_short k role state left h
suits_short (Awaiting k) role state left h = asked_short k role state left (both (is_associating k) _ h).1
suits_short (Sent k) role state left h =
    leb-true left 65535 (both (not (eqb left 0)) _ (both (time_fits left) _ (both (role_asks role) _ h).1).0).1

-- an exchange that was sent is one of a role that asks
pub sent_asks :
    (e : Exchange) (k : Kind) (role state left : ℕ) → exchange_fits e role state left ≡ true → is_sent k e ≡ true
    → role_asks role ≡ true
unfolding sent_fits
sent_asks None Authentication role state left h q = wrong q
sent_asks None Association role state left h q = wrong q
sent_asks None Reassociation role state left h q = wrong q
sent_asks (Asked a) Authentication role state left h q = wrong q
sent_asks (Asked a) Association role state left h q = wrong q
sent_asks (Asked a) Reassociation role state left h q = wrong q
sent_asks (Awaiting a) Authentication role state left h q = wrong q
sent_asks (Awaiting a) Association role state left h q = wrong q
sent_asks (Awaiting a) Reassociation role state left h q = wrong q
sent_asks (Sent a) k role state left h q = (both (role_asks role) _ h).0

-- a (re)association asked stands where the role takes part in associations, in State 2 or above
pub asked_stands :
    (e : Exchange) (n role state left : ℕ) → exchange_fits e role state left ≡ true → leb 2 n ≡ true → eqb (asked_of e) n ≡ true
    → (role_associates role && leb 2 state) ≡ true
unfolding asked_fits stands
asked_stands None n role state left h two q = wrong (rw (← eqb-true 0 n q) at two)
asked_stands (Asked Authentication) n role state left h two q = wrong (rw (← eqb-true 1 n q) at two)
asked_stands (Asked Association) n role state left h two q = (both (eqb left 0) _ (both (role_answers role) _ h).1).1
asked_stands (Asked Reassociation) n role state left h two q = (both (eqb left 0) _ (both (role_answers role) _ h).1).1
asked_stands (Awaiting k) n role state left h two q = wrong (rw (← eqb-true 0 n q) at two)
asked_stands (Sent k) n role state left h two q = wrong (rw (← eqb-true 0 n q) at two)

-- ---- a changed record

-- what comes of what comes of p
pub keeps_on :
    {s : Settings} {busy sole : Bool} {p q r : Record} → Keeps s busy p q false → Keeps s busy q r sole → Keeps s busy p r sole
keeps_on k l =
    record {
      fits = l.fits;
      same = l.same ∙ k.same;
      joins = λ a b j. k.joins a refl (l.joins a b j);
      starts = λ a b j. k.starts a b (l.starts a b j);
    }

module _ (s : Settings) (busy : Bool) (p : Record) (f : Fits s p) where
  pub keeps_all : Keeps s busy p p false
  keeps_all = record { fits = f; same = refl; joins = λ a b c. c; starts = λ a b c. c }

  pub keeps_changed :
      (state : ℕ) (e : Exchange) (left hold : ℕ) (sole : Bool) → 1 ≤ state → state ≤ highest_state s.role → hold_fits s.role hold ≡ true
      → exchange_fits e s.role state left ≡ true
      → (role_answers s.role ≡ false → sole ≡ false → leb 3 state ≡ true → leb 3 p.state ≡ true)
      → (role_answers s.role ≡ false → busy ≡ true → leb 2 (under_way e) ≡ true → leb 2 (under_way p.exchange) ≡ true)
      → Keeps s busy p (changed_of p state e left hold) sole
  unfolding changed_of is_joined associates links_fit
  keeps_changed state e left hold sole low high held suits joins starts =
      record {
        fits =
            record {
              low = low;
              high = high;
              apart = f.apart;
              valid = f.valid;
              held = held;
              suits = suits;
              numbered = f.numbered;
              queries = in_fits s p.state p.query state f.queries;
              linked = f.linked;
            };
        same = refl;
        joins = joins;
        starts = starts;
      }

  pub keeps_queried :
      (q : Query) (identifier : ℕ) → identifier ≤ 65535 → query_fits s p.state q ≡ true → Keeps s busy p (queried_of p q identifier) false
  unfolding queried_of is_joined associates links_fit
  keeps_queried q identifier short suits =
      record {
        fits =
            record {
              low = f.low;
              high = f.high;
              apart = f.apart;
              valid = f.valid;
              held = f.held;
              suits = f.suits;
              numbered = short;
              queries = suits;
              linked = f.linked;
            };
        same = refl;
        joins = λ a b j. j;
        starts = λ a b j. j;
      }
