-- What a frame from a peer makes of the table, beside the rule that decided: a discard, nothing to do, or something told, written or ended. For WhyExplains.
-- Assumes nothing.
use Prim.Native.Nat.{ℕ, zero, suc, ◌<◌}
use mathlib.Core.Path.{◌≡◌, refl, ap as apply, sym, ◌∙◌}
use mathlib.Core.Bool.{Bool, true, false, ◌&&◌, ◌||◌}
use mathlib.Core.List.{List, [], ◌∷◌, map}
use native.Mathlib.Omega.{arith}
use lib.Dec.{eqb, ltb}
use lib.ListN.{length, get_or, length-map}
use lib.Seq.{get_or-set_same, set-get_or}
use Rattle.octets.proofs.Branch.{by_bool, pick_both}
use Rattle.octets.proofs.Lengths.{bytes_length}
use Rattle.octets.specs.Frame.{bytes_of, length_of, longest}
use Rattle.octets.specs.Links.{no_links}
use Rattle.octets.specs.Pick.{pick}
use Rattle.octets.specs.declared.class.FrameClass.{FrameClass}
use Rattle.octets.specs.declared.frame.Frame.{Frame}
use Rattle.octets.specs.declared.heard.Heard.TheVariants as heard
use Rattle.octets.specs.declared.heard.Heard.{Heard}
use Rattle.peer.proofs.Effects.{Done, ended, full_said, hear_done, hear_idle, said, told}
use Rattle.peer.proofs.Fits.{both, clash, wrong}
use Rattle.peer.proofs.Roles.{authentication_by, ds_beside, request_by}
use Rattle.peer.specs.Ask.{answer_of, ask_of, associate_of, awaited_of, deauthenticate_of, declined_of, disassociate_of, failed_of, reassociate_of, report_of, respond_of, secure_of, started_of}
use Rattle.peer.specs.Association.{accepted_of, parted_of, rejected_of, response_heard}
use Rattle.peer.specs.Authentication.{full_of, requested_of}
use Rattle.peer.specs.Challenge.{challenged_of, inquired_of, query_request_heard, query_response_heard}
use Rattle.peer.specs.Codes.{last_aid}
use Rattle.peer.specs.Farewell.{deauthentication_heard, disassociation_heard}
use Rattle.peer.specs.Filter.{passes_of}
use Rattle.peer.specs.Hear.{act_of, group_heard, hear_of, is_exchange, is_query}
use Rattle.peer.specs.Idle.{group_barred, idle_of}
use Rattle.peer.specs.Query.{is_running}
use Rattle.peer.specs.Record.{free_of, fresh_of, is_sent}
use Rattle.peer.specs.Reply.{directed_of}
use Rattle.peer.specs.Turn.{admit, discard, none, replied_of, sole_of, still_of, towards_of, turn_of}
use Rattle.peer.specs.declared.query.Query.TheVariants as query
use Rattle.peer.specs.declared.record.Record.{Record}
use Rattle.peer.specs.declared.refuse.Others.{Others}
use Rattle.peer.specs.declared.settings.Settings.{Settings}
use Rattle.peer.specs.declared.turn.Turn.{Turn}
use Rattle.table.specs.Answer.{said_length, stepped_of}
use Rattle.table.specs.Places.{on_found}
use Rattle.table.specs.Reasons.{is_discard}
use Rattle.table.specs.Seat.{newcomer_of, peer_of, seated_of, starts_of, stored_in, stranger_of, turn_in}
use Rattle.table.specs.Why.{why_from}
use Rattle.table.specs.declared.rules.answer.Stepped.{Stepped}
use Rattle.std.specs.Prelude.{Option}
use Rattle.std.specs.declared.option.Option.TheVariants as option
use Rattle.table.specs.declared.rules.why.Reason.{Reason}
use Rattle.table.specs.declared.rules.why.Reason.TheVariants.{None, ClassFilter, GroupRule, NothingToDo}
use Rattle.table.proofs.Theorems.WhyCases.{Case, does, idles, stops}

-- ---- verdicts of turns

module _ (s : Settings) (p : Record) where
  Admits : Turn → Type 0
  Admits t = t.verdict ≡ admit

  act_admits : (h : Heard) → Admits (act_of s p h)
  unfolding Admits still_of replied_of turn_of requested_of deauthentication_heard disassociation_heard response_heard accepted_of rejected_of sole_of query_request_heard query_response_heard challenged_of
  act_admits heard.Other = refl
  act_admits (heard.Authentication a t st) =
      authentication_by s p Admits a t st (λ r z. refl) (λ z. refl) (λ sent. refl) refl
  act_admits (heard.Deauthentication r) = pick_both Admits (ltb p.state 2) refl refl
  act_admits (heard.Disassociation r) = pick_both Admits (ltb p.state 3) refl refl
  act_admits (heard.Request k c) = request_by s p Admits k c (λ r met. refl) (λ r. refl) refl
  act_admits (heard.QueryRequest i) = pick_both Admits (eqb p.state 4) refl refl
  act_admits (heard.QueryResponse i) = pick_both Admits (eqb p.state 4 && (is_running p.query && eqb i p.identifier)) refl refl
  act_admits (heard.Response k st aid c) =
      pick_both Admits (is_sent k p.exchange)
      (pick_both Admits (eqb st 0) (pick_both Admits (eqb aid 0 || ltb last_aid aid) refl refl) refl)
      refl

  module _ (k : FrameClass) (g : Bool) (h : Heard) where
    hear_barred : passes_of s.role k p.state ≡ false → ((hear_of s p k g h).verdict ≡ discard) × ((hear_of s p k g h).peer ≡ p)
    unfolding hear_of replied_of turn_of
    hear_barred y = rw y (refl, refl)

    hear_grouped : passes_of s.role k p.state ≡ true → group_barred g h ≡ true → ((hear_of s p k g h).verdict ≡ discard) × ((hear_of s p k g h).peer ≡ p)
    unfolding hear_of group_heard group_barred still_of replied_of turn_of
    hear_grouped y b = let z = both g _ b in rw (y, z.0, z.1) (refl, refl)

    hear_admits : passes_of s.role k p.state ≡ true → group_barred g h ≡ false → (hear_of s p k g h).verdict ≡ admit
    unfolding Admits hear_of group_heard group_barred still_of replied_of turn_of
    hear_admits y b = rw y (by_bool g
        (λ t. by_bool (is_exchange h) (λ x. clash x (rw t at b)) (λ x. rw (t, x) (pick_both Admits (is_query h) refl (act_admits h))))
        (λ t. rw t (act_admits h)))

full_admits : (s : Settings) (p : Record) → (full_of s p).verdict ≡ admit
unfolding full_of replied_of turn_of
full_admits s p = refl

pub ask_none : (s : Settings) (aid : ℕ) (p : Record) (o : Others) (q code : ℕ) → (ask_of s aid p o q code).verdict ≡ none
unfolding ask_of started_of answer_of deauthenticate_of associate_of reassociate_of failed_of disassociate_of respond_of awaited_of declined_of secure_of report_of inquired_of turn_of
ask_none s aid p o q code =
    let N : Turn → Type 0 = λ t. t.verdict ≡ none in
    pick_both N (eqb q 1) refl
    (pick_both N (eqb q 2) refl
    (pick_both N (eqb q 3) refl
    (pick_both N (eqb q 4) (pick_both N (eqb p.state 1) refl refl)
    (pick_both N (eqb q 5) (pick_both N (eqb o.associated 0 || eqb p.state 1) refl refl)
    (pick_both N (eqb q 6) (pick_both N (ltb p.state 3) refl refl)
    (pick_both N (eqb q 7) (pick_both N (eqb code 0) refl refl)
    (pick_both N (eqb q 8) (pick_both N (eqb code 0) refl refl)
    (pick_both N (eqb q 9) refl
    (pick_both N (eqb q 10) refl refl)))))))))

-- ---- a turn in the table

unwritten : (f : Frame) (n : ℕ) → ltb n longest ≡ false → length_of f n ≡ 0 → ⊥
unfolding length_of
unwritten f n r h = let z : length (bytes_of f) ≡ 0 = rw r at h in omega (arith, z, bytes_length f)

running_inside : (t : List Record) (i : ℕ) → is_running (get_or t i free_of).query ≡ true → i < length t
running_inside [] i r = wrong r
running_inside (p ∷ ps) zero r = omega arith
running_inside (p ∷ ps) (suc i) r = let l = running_inside ps i r in omega arith

-- a record whose query was ended is not the one that was there
not_restored : (t : List Record) (i : ℕ) (sole : Bool) (q : Record) → is_running (get_or t i free_of).query ≡ true → q.query ≡ query.None → stored_in t sole i q ≡ t → ⊥
not_restored t i sole q r e same =
    let base : List Record = pick sole (map parted_of t) t in
    let long : length base ≡ length t = pick_both (λ (l : List Record). length l ≡ length t) sole (length-map t parted_of) refl in
    let inside : i < length base = omega (arith, long, running_inside t i r) in
    let here : get_or t i free_of ≡ q = apply (λ (l : List Record). get_or l i free_of) (sym same) ∙ get_or-set_same base i q free_of inside in
    clash r (apply (λ (p : Record). is_running p.query) here ∙ apply is_running e)

module _ (s : Settings) (t : List Record) (n a : ℕ) (free : Option ℕ) (roomy : ltb n longest ≡ false) where
  abbrev stepped : Option ℕ → Turn → Turn → Stepped
  stepped at turn full = stepped_of (turn_in t at free (towards_of a turn) (towards_of a full)) n

  stopped_at : (q : Reason) → is_discard q ≡ true → (at : Option ℕ) (turn full : Turn) → turn.verdict ≡ discard → turn.peer ≡ peer_of t at a → Case t q (stepped at turn full)
  unfolding stepped_of seated_of newcomer_of stranger_of starts_of towards_of fresh_of no_links
  stopped_at q d (option.Some i) turn full v e = stops d refl v
  stopped_at q d option.None turn full v e = rw e (stops d refl v)

  idle_at : (at : Option ℕ) (full : Turn) → Case t NothingToDo (stepped at (still_of s (peer_of t at a) admit) full)
  unfolding stepped_of seated_of newcomer_of stranger_of starts_of towards_of fresh_of no_links still_of replied_of turn_of
  idle_at (option.Some i) full =
      idles (record { admitted = refl; table = set-get_or t i free_of; notice = refl; written = refl }) refl
      (ds_beside s.role (get_or t i free_of).state (get_or t i free_of).state refl)
  idle_at option.None full = idles (record { admitted = refl; table = refl; notice = refl; written = refl }) refl (ds_beside s.role 1 1 refl)

  -- our own side is told, something is written, or the table is another one
  spoke : (p : Record) (turn : Turn) → Done p turn → (is_running p.query ≡ true → turn.peer.query ≡ query.None → ⊥) → turn.told.notice ≡ 0 → said_length (directed_of a turn.reply) n ≡ 0 → ⊥
  spoke p turn (told f) kept h w = f h
  spoke p turn (said f e) kept h w = unwritten _ n roomy (rw e at w)
  spoke p turn (ended r q) kept h w = kept r q

  seated_does : (i : ℕ) (p : Record) (turn : Turn) → turn.verdict ≡ admit → Done p turn → (is_running p.query ≡ true → turn.peer.query ≡ query.None → stored_in t turn.sole i turn.peer ≡ t → ⊥) → Case t None (stepped_of (seated_of t i (towards_of a turn)) n)
  unfolding stepped_of seated_of towards_of
  seated_does i p turn v d kept = does (λ x. spoke p turn d (λ r q. kept r q x.table) x.notice x.written) refl v

  stranger_does : (p : Record) (turn : Turn) → turn.verdict ≡ admit → Done p turn → is_running p.query ≡ false → Case t None (stepped_of (stranger_of t (towards_of a turn)) n)
  unfolding stepped_of stranger_of towards_of
  stranger_does p turn v d f = does (λ x. spoke p turn d (λ r q. clash r f) x.notice x.written) refl v

  done_at : (at : Option ℕ) (turn full : Turn) → turn.verdict ≡ admit → full.verdict ≡ admit → Done (peer_of t at a) turn → Done (peer_of t at a) full → Case t None (stepped at turn full)
  unfolding newcomer_of fresh_of
  done_at (option.Some i) turn full v w d f = seated_does i (get_or t i free_of) turn v d (λ r q same. not_restored t i turn.sole turn.peer r q same)
  done_at option.None turn full v w d f = by_bool (starts_of (towards_of a turn)) (λ b. rw b (found free)) (λ b. rw b (stranger_does (fresh_of a) turn v d refl))
    where
      found : (free : Option ℕ) → Case t None (stepped_of (on_found free (stranger_of t (towards_of a full)) (λ i. seated_of t i (towards_of a turn))) n)
      found option.None = stranger_does (fresh_of a) full w f refl
      found (option.Some i) = seated_does i (fresh_of a) turn v d (λ r q same. wrong r)

  pub from_case : (at : Option ℕ) (k : FrameClass) (g : Bool) (h : Heard) → Case t (why_from s (peer_of t at a) k g h).reason (stepped at (hear_of s (peer_of t at a) k g h) (full_of s (peer_of t at a)))
  unfolding why_from
  from_case at k g h =
      let p = peer_of t at a in
      by_bool (passes_of s.role k p.state)
      (λ y. by_bool (group_barred g h)
      (λ b. let z = hear_grouped s p k g h y b in rw (y, b) (stopped_at GroupRule refl at (hear_of s p k g h) (full_of s p) z.0 z.1))
      (λ b. by_bool (idle_of s p g h)
      (λ i. rw (y, b, i, hear_idle s p k g h y b i) (idle_at at (full_of s p)))
      (λ i. rw (y, b, i) (done_at at (hear_of s p k g h) (full_of s p) (hear_admits s p k g h y b) (full_admits s p) (hear_done s p k g h y b i) (full_said s p)))))
      (λ y. let z = hear_barred s p k g h y in rw y (stopped_at ClassFilter refl at (hear_of s p k g h) (full_of s p) z.0 z.1))
