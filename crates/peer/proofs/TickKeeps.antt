-- 01, Settings, table, clock, of "Well formed": "Each step keeps this." A clock step, at one place.
-- Assumes nothing.
use Rattle.std.proofs.Common.{◌≡◌, ℕ, ◌-◌, ◌<◌, ◌≤◌, Bool, true, false, ◌&&◌, eqb, ltb, leb, sym, refl, ◌∙◌, arith, ltb-true, eq-eqb, ne_eqb, eqb-true, le-leb, leb-true}
use Rattle.octets.proofs.Branch.{by_bool, pick_by}
use Rattle.octets.specs.Links.{no_links}
use Rattle.peer.specs.Fit.{hold_fits, place_fits}
use Rattle.peer.specs.Moves.{moved_of}
use Rattle.peer.specs.Query.{query_number, query_timed}
use Rattle.peer.specs.Record.{associates, changed_of, free_of, is_free, is_joined, queried_of, under_way}
use Rattle.peer.specs.Settings.{role_asks}
use Rattle.peer.specs.Tick.{expired_move, freed_of, queried_timed, tick_of, timed_of}
use Rattle.peer.specs.Turn.{ended_of}
use Rattle.peer.specs.declared.moves.Move.{Move}
use Rattle.peer.specs.declared.exchange.Exchange.TheVariants.{None}
use Rattle.peer.specs.declared.record.Record.{Record}
use Rattle.peer.specs.declared.settings.Settings.{Settings}
use Rattle.peer.proofs.Fits.{Fits, Keeps, Placed, both, clash, fits_of, keeps_changed, keeps_on, keeps_queried, placed, suits_still, wrong}
use Rattle.peer.proofs.Moved.{calm, calm_moved, moved_high, moved_low}
use Rattle.peer.proofs.QueryFits.{none_stays, timed_fits}

-- the statement
abbrev pub ClockKeeps : Type 0
ClockKeeps = (s : Settings) (p : Record) (d : ℕ) → place_fits s p ≡ true → Placed s true p (tick_of s p d).peer false

-- "an AP's holds are 0", and stay so
hold_less : (role hold d : ℕ) → hold_fits role hold ≡ true → hold_fits role (hold - d) ≡ true
unfolding hold_fits
hold_less role hold d h =
    let t = both (leb hold 4294967295) _ h in
    let top : hold ≤ 4294967295 = leb-true hold 4294967295 t.0 in
    rw (le-leb (hold - d) 4294967295 (omega arith)) (by_bool (role_asks role)
    (λ a. rw a)
    (λ a. rw (a, eq-eqb (hold - d) 0 (let z : hold ≡ 0 = eqb-true hold 0 (rw a at t.1) in omega arith))))

expired_calm : (kind : ℕ) → calm (expired_move kind) ≡ true
unfolding expired_move
expired_calm kind = by_bool (eqb kind 1) (λ e. rw e) (λ e. rw e)

-- the times fall, and an exchange may end
timed_keeps : (s : Settings) (p : Record) (d : ℕ) → Fits s p → Keeps s true p (timed_of s p d).peer false
unfolding timed_of ended_of
timed_keeps s p d f = by_bool (eqb p.left 0)
    (λ l. rw l (keeps_changed s true p f p.state p.exchange 0 (p.hold - d) false f.low f.high held
    (suits_still p.exchange s.role p.state p.left p.state 0 f.suits l (omega arith) refl) (λ a b j. j) (λ a b j. j)))
    (λ l. by_bool (ltb d p.left)
    (λ r.
    let more : d < p.left = ltb-true d p.left r in
    let on : eqb (p.left - d) 0 ≡ false = ne_eqb (p.left - d) 0 (λ (z : p.left - d ≡ 0). omega arith) in
    rw (l, r) (keeps_changed s true p f p.state p.exchange (p.left - d) (p.hold - d) false f.low f.high held
    (suits_still p.exchange s.role p.state p.left p.state (p.left - d) f.suits (l ∙ sym on) (omega arith) refl)
    (λ a b j. j) (λ a b j. j)))
    (λ r. rw (l, r) (keeps_changed s true p f (moved_of s.rsna p.state m) None 0 (p.hold - d) false
    (moved_low s.rsna p.state m f.low) (moved_high s.role s.rsna p.state m (λ n. clash quiet n) f.high) held refl
    (λ a b j. calm_moved s.rsna p.state m quiet j) (λ a b j. wrong j))))
  where
    m : Move
    m = expired_move (under_way p.exchange)

    quiet : calm m ≡ true
    quiet = expired_calm (under_way p.exchange)

    held : hold_fits s.role (p.hold - d) ≡ true
    held = hold_less s.role p.hold d f.held

-- "every record in State 1 without exchange and with hold 0 is freed"; 02, K11: "A record with links is freed by no clock step"
pub freed_by :
    (P : Record → Type 0) (q : Record) → (eqb q.hold 0 ≡ true → no_links q.links ≡ true → P free_of) → P q → P (freed_of q)
unfolding freed_of
freed_by P q gone stays =
    pick_by P (eqb q.state 1 && (eqb q.hold 0 && (eqb (under_way q.exchange) 0 && no_links q.links)))
    (λ e.
    let h = both (eqb q.hold 0) _ (both (eqb q.state 1) _ e).1 in
    gone h.0 (both (eqb (under_way q.exchange) 0) _ h.1).1)
    (λ e. stays)

-- any place may be freed
free_placed : {s : Settings} {busy sole : Bool} {p : Record} → Placed s busy p free_of sole
unfolding place_fits is_free is_joined associates no_links
free_placed = record { place = refl; same = λ e. wrong (sym e); joins = λ a b j. wrong j; starts = λ a b j. wrong j }

pub freed_placed : {s : Settings} {busy sole : Bool} {p q : Record} → Placed s busy p q sole → Placed s busy p (freed_of q) sole
freed_placed {s} {busy} {sole} {p} {q} k = freed_by (λ r. Placed s busy p r sole) q (λ z l. free_placed) k

-- what is left of a query falls
queried_keeps : (s : Settings) (p : Record) (d : ℕ) → Fits s p → Keeps s true p (queried_timed s p d) false
unfolding queried_timed
queried_keeps s p d f =
    keeps_queried s true p f (query_timed s p.query d) p.identifier f.numbered (timed_fits s p.state p.query d f.queries)

step_keeps : (s : Settings) (p : Record) (d : ℕ) → Fits s p → Keeps s true p (queried_timed s (timed_of s p d).peer d) false
step_keeps s p d f = let k = timed_keeps s p d f in keeps_on k (queried_keeps s (timed_of s p d).peer d k.fits)

-- a free place stays free
free_timed : (s : Settings) (p : Record) (d : ℕ) → is_free p ≡ true → Placed s true p (queried_timed s (timed_of s p d).peer d) false
unfolding place_fits is_free is_joined associates timed_of changed_of queried_timed queried_of
free_timed s p d h =
    let a = both (eqb p.address 0) _ h in
    let b = both (eqb p.state 0) _ a.1 in
    let l = both (eqb p.left 0) _ b.1 in
    let k = both (eqb p.hold 0) _ l.1 in
    let i = both (eqb p.identifier 0) _ k.1 in
    let q = both (eqb (query_number p.query) 0) _ i.1 in
    let z : p.hold ≡ 0 = eqb-true p.hold 0 k.0 in
    let z' : eqb (p.hold - d) 0 ≡ true = eq-eqb (p.hold - d) 0 (omega arith) in
    rw l.0 (record { place = rw (a.0, b.0, z', i.0, none_stays s p.state d p.query q.0, q.1); same = λ e. refl; joins = λ a b j. j; starts = λ a b j. j })

pub tick_keeps : ClockKeeps
unfolding tick_of place_fits
tick_keeps s p d h = freed_placed (by_bool (is_free p) (free_timed s p d) (λ e. placed (step_keeps s p d (fits_of s p (rw e at h)))))
