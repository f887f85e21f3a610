-- Where the role answers an event acts on its own peer's record alone: what the event makes of that record, and what it gets.
--     next, said, alone       the record after it; what it gets; and what it gets where it names no peer
--     acts, stays, same_of    the laws of `Local` (AnyOrder.antt) but `keeps`
-- Assumes nothing.
use Prim.Native.Nat.{ℕ, ◌<◌}
use mathlib.Core.Path.{◌≡◌, refl, sym}
use mathlib.Core.Bool.{Bool, true, false, not, ◌&&◌}
use mathlib.Core.Option.{none, some}
use mathlib.Core.List.{List, map}
use lib.Dec.{eqb, ltb}
use lib.ListN.{length, get_or, set}
use lib.Seq.{set-get_or}
use Rattle.octets.proofs.Branch.{pick_both}
use Rattle.octets.specs.Pick.{pick}
use Rattle.octets.specs.Frame.{longest}
use Rattle.octets.specs.Sort.{class_by}
use Rattle.peer.specs.Settings.{role_answers, role_associates}
use Rattle.peer.specs.Record.{free_of, spoken_at}
use Rattle.peer.specs.Fit.{place_fits}
use Rattle.peer.specs.Turn.{admit, discard, towards_of}
use Rattle.peer.specs.Hear.{hear_of}
use Rattle.peer.specs.Refuse.{role_allowed}
use Rattle.peer.specs.Ask.{ask_of}
use Rattle.peer.proofs.Links.{ask_links, hear_links}
use Rattle.peer.specs.declared.settings.Settings.{Settings}
use Rattle.peer.specs.declared.record.Record.{Record}
use Rattle.peer.specs.declared.refuse.Others.{Others}
use Rattle.peer.specs.declared.turn.Turn.{Turn}
use Rattle.table.specs.Places.{addresses_of, find_link_of, is_found}
use Rattle.table.specs.Fit.{well_formed}
use Rattle.table.specs.Others.{others_of}
use Rattle.table.specs.Answer.{refusal_answer, verdict_answer, turn_answer, count_answer, settled_of, refused_of, said_length, said_in, stepped_of}
use Rattle.table.specs.Refusals.{first_of, unless}
use Rattle.table.specs.Seat.{aid_of, seated_of}
use Rattle.table.specs.Read.{read_of}
use Rattle.table.specs.Receive.{heard_from, heard_at, received_of}
use Rattle.table.specs.Ask.{may_ask, no_place, refusals_at, asked_at, asked_of}
use Rattle.table.specs.Order.{Coming, frame, primitive, Handed, Gets, Whole, happens, read_peer, coming_peer, device_named, device_of, peer_named, address_of}
use Rattle.std.specs.Prelude.{Some, None}
use Rattle.table.specs.declared.rules.read.Reading.{Reading}
use Rattle.table.specs.declared.rules.read.Reading.TheVariants.{Refused, Discarded, Admitted, From}
use Rattle.table.specs.declared.rules.answer.Answer.{Answer}
use Rattle.table.specs.declared.rules.answer.Met.{Met}
use Rattle.table.proofs.Order.OwnRecord.{all_at, find_at, Alone, hear_alone, ask_alone}
use Rattle.table.proofs.Order.NamedPeer.{Classes, asked_named, device_place, link_same, named_long, names, nobody, read_classed, read_named}
use Rattle.table.proofs.Theorems.Well.{Well, well_of}

-- what an event comes to: at a peer's place and record; and where it names none
abbrev told : Met → List ℕ → List Record × Gets
told m out = (m.table, record { answer = count_answer m.answer (said_length m.reply (length out)); bytes = said_in m.reply out })

abbrev turned : Turn → List ℕ → Gets
turned t out = record { answer = count_answer (turn_answer t t.peer.state) (said_length t.reply (length out)); bytes = said_in t.reply out }

abbrev settles : Answer → List ℕ → Gets
settles a out = record { answer = a; bytes = out }

abbrev unseen : Others
unseen = record { associated = 0; busy = false }

same_names : (p q : Record) → (q.address ≡ p.address) × (q.links ≡ p.links) → names q ≡ names p
same_names p q e = λ i. (e.0 i, e.1 i)

module _ (s : Settings) where
  abbrev refusal : ℕ → Record → ℕ → ℕ → ℕ → ℕ
  refusal i p q a c = first_of (refusals_at s p unseen (Some i) None None q a c)

  abbrev heard_next : Record → Reading → Record
  heard_next p (Refused n) = p
  heard_next p Discarded = p
  heard_next p Admitted = p
  heard_next p (From peer group k h) = (hear_of s p (class_by k) group h).peer

  abbrev heard_gets : Record → Reading → List ℕ → Gets
  heard_gets p (Refused n) out = settles (refusal_answer n) out
  heard_gets p Discarded out = settles (verdict_answer discard) out
  heard_gets p Admitted out = settles (verdict_answer admit) out
  heard_gets p (From peer group k h) out = turned (towards_of peer (hear_of s p (class_by k) group h)) out

  -- a primitive's turn speaks to the first link
  abbrev asked : ℕ → Record → ℕ → ℕ → Turn
  asked i p q c = towards_of (spoken_at p) (ask_of s (aid_of (Some i)) p unseen q c)

  abbrev next_of : ℕ → Record → Coming → Record
  next_of i p (frame xs) = heard_next p (read_of s.own (role_associates s.role) xs)
  next_of i p (primitive q a c) = pick (eqb (refusal i p q a c) 0) (asked i p q c).peer p

  abbrev gets_of : ℕ → Record → Coming → List ℕ → Gets
  gets_of i p (frame xs) out = heard_gets p (read_of s.own (role_associates s.role) xs) out
  gets_of i p (primitive q a c) out =
      pick (eqb (refusal i p q a c) 0) (turned (asked i p q c) out) (settles (refusal_answer (refusal i p q a c)) out)

  -- (free_of stands for the record that is not looked at)
  abbrev alone_of : List Record → Coming → List ℕ → Gets
  alone_of t (frame xs) out = heard_gets free_of (read_of s.own (role_associates s.role) xs) out
  alone_of t (primitive q a c) out = settles (refusal_answer (pick (may_ask s q a c && not (is_found (find_link_of t a))) 5 3)) out

  abbrev pub next : ℕ → Record → Handed → Record
  next i p e = next_of i p e.coming

  abbrev pub said : ℕ → Record → Handed → Gets
  said i p e = gets_of i p e.coming e.out

  abbrev pub alone : List Record → Handed → Gets
  alone t e = pick (ltb (length e.out) longest) (settles (refusal_answer 1) e.out) (alone_of t e.coming e.out)

  pub alone_same : (t u : List Record) → map names u ≡ map names t → (e : Handed) → alone u e ≡ alone t e
  alone_same t u k e = go e.coming
    where
      go : (c : Coming) → pick (ltb (length e.out) longest) (settles (refusal_answer 1) e.out) (alone_of u c e.out) ≡ pick (ltb (length e.out) longest) (settles (refusal_answer 1) e.out) (alone_of t c e.out)
      go (frame xs) = refl
      go (primitive q a c) = rw (link_same t u k a)

  same_read : (p : Record) (r : Reading) → names (heard_next p r) ≡ names p
  same_read p (Refused n) = refl
  same_read p Discarded = refl
  same_read p Admitted = refl
  same_read p (From peer group k h) = same_names p (hear_of s p (class_by k) group h).peer (hear_links s p (class_by k) group h)

  -- the law `same`, of the links too
  pub same_of : (i : ℕ) (p : Record) (c : Coming) → names (next_of i p c) ≡ names p
  unfolding towards_of
  same_of i p (frame xs) = same_read p (read_of s.own (role_associates s.role) xs)
  same_of i p (primitive q a c) =
      pick_both (λ (x : Record). names x ≡ names p) (eqb (refusal i p q a c) 0)
      (same_names p (ask_of s (aid_of (Some i)) p unseen q c).peer (ask_links s p (aid_of (Some i)) unseen q c)) refl

  -- a turn that touches no other record, in its place
  seated : (t : List Record) (i : ℕ) (turn : Turn) (out : List ℕ) → Alone turn → told (seated_of t i turn) out ≡ (set t i turn.peer, turned turn out)
  unfolding seated_of
  seated t i turn out a = rw a

  -- Where the role answers, in a well-formed table with a peer at place i: its events act on that place alone.
  module _ (role : role_answers s.role ≡ true) (t : List Record) (whole : Whole s t) where
    w : well_formed s t ≡ true
    w = whole.0

    well : Well s t
    well = well_of s t whole.0 whole.1

    others_unseen : others_of s t ≡ unseen
    unfolding others_of
    others_unseen = rw role

    module _ (i : ℕ) (h : i < length t) (out : List ℕ) (long : ltb (length out) longest ≡ false) where
      abbrev p : Record
      p = get_or t i free_of

      fits : place_fits s p ≡ true
      fits = all_at (place_fits s) t i free_of well.places h

      acts_frame : (xs : List ℕ) → device_named t (read_peer (read_of s.own (role_associates s.role) xs)) ≡ some p.address → told (received_of s t xs (length out)) out ≡ (set t i (next_of i p (frame xs)), gets_of i p (frame xs) out)
      unfolding received_of heard_from towards_of
      acts_frame xs k = rw (long, w) (go (read_of s.own (role_associates s.role) xs) (read_classed s.own (role_associates s.role) xs) (read_named s xs) k)
        where
          go : (r : Reading) → Classes r → ((a : ℕ) → read_peer r ≡ some a → eqb a 0 ≡ false) → device_named t (read_peer r) ≡ some p.address → told (heard_at s t (addresses_of t) r) out ≡ (set t i (heard_next p r), heard_gets p r out)
          go (Refused n) b z y = nobody y
          go Discarded b z y = nobody y
          go Admitted b z y = nobody y
          go (From peer group k g) b z y =
              let e : device_of t peer ≡ p.address = cc in
              let place = device_place s t well peer i (z peer refl) h e in
              rw place.1 (seated t i (towards_of peer (hear_of s p (class_by k) group g)) out (hear_alone s p well.settings role fits (class_by k) group g (λ off. b)))

      acts_primitive : (q a c : ℕ) → coming_peer s t (primitive q a c) ≡ some p.address → told (asked_of s t q a c (length out)) out ≡ (set t i (next_of i p (primitive q a c)), gets_of i p (primitive q a c) out)
      unfolding asked_of asked_at unless first_of no_place refused_of settled_of towards_of
      acts_primitive q a c y =
          let e = asked_named s t q a c p.address y in
          let found = find_at t i well.distinct h e.1 in
          rw (long, w, e.2, e.0, found, others_unseen) (go (refusal i p q p.address c))
        where
          go : (n : ℕ) → told (pick (eqb n 0) (seated_of t i (asked i p q c)) (refused_of t n)) out ≡ (set t i (pick (eqb n 0) (asked i p q c).peer p), pick (eqb n 0) (turned (asked i p q c) out) (settles (refusal_answer n) out))
          go n = by (eqb n 0)
            where
              by : (b : Bool) → told (pick b (seated_of t i (asked i p q c)) (refused_of t n)) out ≡ (set t i (pick b (asked i p q c).peer p), pick b (turned (asked i p q c) out) (settles (refusal_answer n) out))
              by true = seated t i (asked i p q c) out (ask_alone s (aid_of (Some i)) p unseen q c)
              by false = rw (set-get_or t i free_of)

    -- an event that names no valid peer is settled before a record is looked up
    module _ (out : List ℕ) where
      short_frame : (xs : List ℕ) → ltb (length out) longest ≡ true → told (received_of s t xs (length out)) out ≡ (t, settles (refusal_answer 1) out)
      unfolding received_of refused_of settled_of
      short_frame xs b = rw b

      short_primitive : (q a c : ℕ) → ltb (length out) longest ≡ true → told (asked_of s t q a c (length out)) out ≡ (t, settles (refusal_answer 1) out)
      unfolding asked_of unless first_of refused_of settled_of
      short_primitive q a c b = rw b

      stays_frame : (xs : List ℕ) → ltb (length out) longest ≡ false → device_named t (read_peer (read_of s.own (role_associates s.role) xs)) ≡ none → told (received_of s t xs (length out)) out ≡ (t, alone_of t (frame xs) out)
      unfolding received_of refused_of settled_of
      stays_frame xs b k = rw (b, w) (go (read_of s.own (role_associates s.role) xs) k)
        where
          go : (r : Reading) → device_named t (read_peer r) ≡ none → told (heard_at s t (addresses_of t) r) out ≡ (t, heard_gets free_of r out)
          go (Refused n) y = refl
          go Discarded y = refl
          go Admitted y = refl
          go (From peer group k h) y = nobody (sym y)

      stays_primitive : (q a c : ℕ) → ltb (length out) longest ≡ false → coming_peer s t (primitive q a c) ≡ none → told (asked_of s t q a c (length out)) out ≡ (t, alone_of t (primitive q a c) out)
      unfolding asked_of asked_at unless first_of refused_of settled_of
      stays_primitive q a c b k = rw (b, w) (go (may_ask s q a c) refl (is_found (find_link_of t a)) refl (role_allowed q s.role) refl k)
        where
          go : (m : Bool) → may_ask s q a c ≡ m → (f : Bool) → is_found (find_link_of t a) ≡ f → (l : Bool) → role_allowed q s.role ≡ l → pick (m && not f) (pick l (some a) none) none ≡ none
              → told (asked_at s t (addresses_of t) q a c) out ≡ (t, settles (refusal_answer (pick (may_ask s q a c && not (is_found (find_link_of t a))) 5 3)) out)
          go true x false f true y z = nobody (sym z)
          go true x false f false y z = rw (x, f, y)
          go true x true f l y z = rw (x, f)
          go false x f g l y z = rw x

  module _ (role : role_answers s.role ≡ true) where
    -- the law `acts`
    pub acts : (t : List Record) (e : Handed) (i : ℕ) → Whole s t → i < length t → peer_named s t e ≡ some (address_of (get_or t i free_of)) → happens s t e ≡ (set t i (next i (get_or t i free_of) e), said i (get_or t i free_of) e)
    unfolding happens stepped_of
    acts t e i w h k = go e.coming (named_long s t e (get_or t i free_of).address k).1
      where
        long : ltb (length e.out) longest ≡ false
        long = (named_long s t e (get_or t i free_of).address k).0

        go : (c : Coming) → coming_peer s t c ≡ some (get_or t i free_of).address → happens s t (record { coming = c; out = e.out }) ≡ (set t i (next_of i (get_or t i free_of) c), gets_of i (get_or t i free_of) c e.out)
        go (frame xs) y = acts_frame role t w i h e.out long xs y
        go (primitive q a c) y = acts_primitive role t w i h e.out long q a c y

    -- the law `stays`
    pub stays : (t : List Record) (e : Handed) → Whole s t → peer_named s t e ≡ none → happens s t e ≡ (t, alone t e)
    unfolding happens stepped_of peer_named
    stays t e w k = go (ltb (length e.out) longest) refl e.coming k
      where
        go : (b : Bool) → ltb (length e.out) longest ≡ b → (c : Coming) → pick b none (coming_peer s t c) ≡ none → happens s t (record { coming = c; out = e.out }) ≡ (t, pick b (settles (refusal_answer 1) e.out) (alone_of t c e.out))
        go true b (frame xs) y = short_frame role t w e.out xs b
        go true b (primitive q a c) y = short_primitive role t w e.out q a c b
        go false b (frame xs) y = stays_frame role t w e.out xs b y
        go false b (primitive q a c) y = stays_primitive role t w e.out q a c b y
