-- 02, K11, "Devices with several links", of the whole table.
--     one-record                        in a well-formed table no address leads to two records
--     link-alike, steps-link-alike      a frame from one address of a device does what one that reads alike from another does, but for Address 1 of the
--                                       reply (octet for octet: LinkFrames.antt)
--     links-move-no-state, links-leave  primitive 12 moves no record's state, exchange, times or query, and leaves every other record
-- Assumes nothing.
use Prim.Native.Nat.{ℕ, zero, suc, ◌<◌}
use native.Mathlib.Decide.{ℕ_discrete}
use native.Mathlib.Omega.{arith}
use mathlib.Core.Path.{◌≡◌, refl, ap, sym, ◌∙◌}
use mathlib.Core.Bool.{Bool, true, false, ◌||◌}
use mathlib.Core.List.{List, [], ◌∷◌}
use lib.Dec.{eqb, ltb}
use lib.ListN.{length, get_or, set, length-map}
use lib.Seq.{get_or-set_other, get_or-set_same}
use borrow.Author.Tests.{eq-eqb, eqb-true, eqb-false, not-true}
use Rattle.std.proofs.Common.{Option, None, Some}
use Rattle.octets.proofs.Branch.{by_bool, pick_both}
use Rattle.octets.proofs.Lengths.{bytes_length}
use Rattle.octets.specs.Frame.{length_of, longest}
use Rattle.octets.specs.Links.{links_of}
use Rattle.octets.specs.Sort.{class_by}
use Rattle.octets.specs.declared.frame.Frame.{Frame}
use Rattle.octets.specs.declared.sort.Sort.{Sort}
use Rattle.octets.specs.declared.heard.Heard.{Heard}
use Rattle.octets.specs.declared.links.Links.{Links}
use Rattle.peer.proofs.Fits.{both, clash, wrong}
use Rattle.peer.proofs.Spoken.{directed_twice}
use Rattle.peer.specs.Hear.{hear_of}
use Rattle.peer.specs.Record.{free_of, fresh_of, linked_of as withLinks}
use Rattle.peer.specs.Reply.{directed_of}
use Rattle.peer.specs.Settings.{role_associates}
use Rattle.peer.specs.Turn.{linking_of, towards_of, turn_of}
use Rattle.peer.specs.declared.record.Record.{Record}
use Rattle.peer.specs.declared.settings.Settings.{Settings}
use Rattle.table.specs.Answer.{count_answer, refused_of, said_length, settled_of, stepped_of}
use Rattle.table.specs.Fit.{alone_in, apart, well_formed}
use Rattle.table.specs.Link.{device_in, linked_at, linked_of, links_in}
use Rattle.table.specs.Order.{address_of, read_peer}
use Rattle.table.specs.Places.{addresses_of, all_of, all_tails, find_link_of, find_of, has_link, link_addresses_of, on_found, seek_of, some_of}
use Rattle.table.specs.Read.{read_of}
use Rattle.table.specs.Receive.{heard_from, received_of}
use Rattle.table.specs.Refusals.{unless}
use Rattle.table.specs.Seat.{newcomer_of, peer_of, seated_of, starts_of, stranger_of, turn_in}
use Rattle.table.specs.Step.{step_of}
use Rattle.table.specs.declared.rules.answer.Met.{Met}
use Rattle.table.specs.declared.rules.event.Event.TheVariants as event
use Rattle.table.specs.declared.rules.read.Reading.TheVariants.{From}
use Rattle.std.specs.Prelude.{Option, Some, None}
use Rattle.table.proofs.Order.NamedPeer.{read_named}
use Rattle.table.proofs.Order.OwnRecord.{all_at, find_at}
use Rattle.table.proofs.Passes.LinkLaws.{all_links, apart_both, link_found, link_place}
use Rattle.table.proofs.Passes.Lists.{all_get, get_map}
use Rattle.table.proofs.Theorems.Well.{found_address}
use Rattle.table.proofs.Theorems.Worded.{Facts, facts}

-- ---- where an address leads

-- to a device by its own address, or by one of its links
abbrev pub leads : Record → ℕ → Bool
leads p a = eqb p.address a || has_link a p

-- a place that has an address is in the table
named_inside : (t : List Record) (i a : ℕ) → eqb a 0 ≡ false → (get_or t i free_of).address ≡ a → i < length t
named_inside [] i a z e = absurd (eqb-false a 0 z (sym e))
named_inside (p ∷ ps) zero a z e = omega arith
named_inside (p ∷ ps) (suc i) a z e = let l = named_inside ps i a z e in omega arith

-- what holds of all holds of one that is there
pub some_holds : (f : ℕ → Bool) (a : ℕ) (xs : List ℕ) → some_of (λ l. eqb l a) xs ≡ true → all_of f xs ≡ true → f a ≡ true
unfolding some_of all_tails
some_holds f a [] h k = wrong h
some_holds f a (x ∷ xs) h k = by_bool (eqb x a)
    (λ e. rw (← eqb-true x a e) (both (f x) _ k).0)
    (λ e. some_holds f a xs (rw e at h) (both (f x) _ k).1)

module _ (s : Settings) (t : List Record) (w : well_formed s t ≡ true) (a : ℕ) (z : eqb a 0 ≡ false) where
  known : Facts s t
  known = facts s t w

  by_device : (i : ℕ) → eqb (get_or t i free_of).address a ≡ true → find_of (addresses_of t) a ≡ Some i
  by_device i e =
      let same = eqb-true (get_or t i free_of).address a e in
      rw same at (find_at t i known.distinct (named_inside t i a z same) (rw same z))

  by_link : (i : ℕ) → has_link a (get_or t i free_of) ≡ true → find_link_of t a ≡ Some i
  by_link i h = link_place a z t i (apart_both (link_addresses_of t) (addresses_of t) known.apart).0 h

  -- no device's address is a link
  not_both : {P : Type 0} (i j : ℕ) → eqb (get_or t i free_of).address a ≡ true → has_link a (get_or t j free_of) ≡ true → P
  unfolding alone_in all_tails
  not_both i j e h =
      let f : ℕ → Bool = λ l. alone_in l (addresses_of t) in
      let each = sym (all_links f t) ∙ (apart_both (link_addresses_of t) (addresses_of t) known.apart).1 in
      let mine = all_get (λ (p : Record). all_of f (links_of p.links)) t j free_of each refl in
      let alone : all_of (apart a) (addresses_of t) ≡ true = rw z at (some_holds f a (links_of (get_or t j free_of).links) h mine) in
      let same = eqb-true (get_or t i free_of).address a e in
      let other = all_at (apart a) (addresses_of t) i 0 alone (rw (length-map t address_of) (named_inside t i a z same)) in
      clash e (not-true _ (rw (get_map address_of t i free_of) at other))

  -- In a well-formed table no address leads to two records.
  pub one_record : (i j : ℕ) → leads (get_or t i free_of) a ≡ true → leads (get_or t j free_of) a ≡ true → i ≡ j
  one_record i j h k =
      by_bool (eqb (get_or t i free_of).address a)
      (λ e. by_bool (eqb (get_or t j free_of).address a)
      (λ f. one i j (sym (by_device i e) ∙ by_device j f))
      (λ f. not_both i j e (rw f at k)))
      (λ e. by_bool (eqb (get_or t j free_of).address a)
      (λ f. not_both j i f (rw e at h))
      (λ f. one i j (sym (by_link i (rw e at h)) ∙ by_link j (rw f at k))))
    where
      one : (i j : ℕ) → Some i ≡ Some j → i ≡ j
      one i j q = cc

  -- a frame from it goes to that record
  pub seek_place : (i : ℕ) → leads (get_or t i free_of) a ≡ true → seek_of t (addresses_of t) a ≡ Some i
  unfolding seek_of
  seek_place i h = by_bool (eqb (get_or t i free_of).address a)
      (λ e. go (find_link_of t a) refl e)
      (λ e. rw (by_link i (rw e at h)))
    where
      go : (f : Option ℕ) → find_link_of t a ≡ f → eqb (get_or t i free_of).address a ≡ true → on_found (find_link_of t a) (find_of (addresses_of t) a) (λ j. Some j) ≡ Some i
      go None q e = rw q (by_device i e)
      go (Some j) q e = not_both i j e (link_found t a j q).1

-- ---- frames from two addresses of a device

-- n is m, but that its reply goes to b
pub record Alike (b : ℕ) (m n : Met) : Type 0 where
  pub table : n.table ≡ m.table
  pub answer : n.answer ≡ m.answer
  pub reply : n.reply ≡ directed_of b m.reply

said_alike : (b n : ℕ) (r : Option Frame) → said_length (directed_of b r) n ≡ said_length r n
unfolding length_of
said_alike b n None = refl
said_alike b n (Some f) =
    rw (bytes_length (record { subtype = f.subtype; address1 = b; address2 = f.address2; address3 = f.address3; body = f.body }), bytes_length f)

-- as many octets are written
pub alike_stepped : (b : ℕ) (m u : Met) (n : ℕ) → Alike b m u → stepped_of u n ≡ stepped_of m n
unfolding stepped_of
alike_stepped b m u n k =
    let long : said_length u.reply n ≡ said_length m.reply n = ap (λ (r : Option Frame). said_length r n) k.reply ∙ said_alike b n m.reply in
    λ j. record { table = k.table j; answer = count_answer (k.answer j) (long j) }

module _ (s : Settings) (t : List Record) (i a b : ℕ) (la : leads (get_or t i free_of) a ≡ true) (lb : leads (get_or t i free_of) b ≡ true) (group : Bool) (k : Sort) (h : Heard) (xs ys : List ℕ) (rx : read_of s.own (role_associates s.role) xs ≡ From a group k h) (ry : read_of s.own (role_associates s.role) ys ≡ From b group k h) (n : ℕ) where
  -- Whatever the table: one that is not well formed refuses both.
  pub link_alike : Alike b (received_of s t xs n) (received_of s t ys n)
  unfolding received_of refused_of settled_of heard_from seated_of towards_of
  link_alike =
      by_bool (ltb n longest) (λ e. rw e (record { table = refl; answer = refl; reply = refl })) (λ e.
      by_bool (well_formed s t)
      (λ w.
      let there = seek_place s t w a (read_named s xs a (ap read_peer rx)) i la in
      let here = seek_place s t w b (read_named s ys b (ap read_peer ry)) i lb in
      rw (e, w, rx, ry, there, here) (record { table = refl; answer = refl; reply = sym (directed_twice a b (hear_of s (get_or t i free_of) (class_by k) group h).reply) }))
      (λ w. rw (e, w) (record { table = refl; answer = refl; reply = refl })))

  -- the same table and the same answer
  pub steps_link_alike : step_of s t event.Frame ys n ≡ step_of s t event.Frame xs n
  steps_link_alike = alike_stepped b (received_of s t xs n) (received_of s t ys n) n link_alike

-- ---- primitive 12

-- q is p, whatever its links
pub record Unmoved (p q : Record) : Type 0 where
  pub address : q.address ≡ p.address
  pub state : q.state ≡ p.state
  pub exchange : q.exchange ≡ p.exchange
  pub left : q.left ≡ p.left
  pub hold : q.hold ≡ p.hold
  pub query : q.query ≡ p.query
  pub identifier : q.identifier ≡ p.identifier

unmoved : {p q : Record} → q ≡ p → Unmoved p q
unmoved e =
    record {
      address = λ i. (e i).address;
      state = λ i. (e i).state;
      exchange = λ i. (e i).exchange;
      left = λ i. (e i).left;
      hold = λ i. (e i).hold;
      query = λ i. (e i).query;
      identifier = λ i. (e i).identifier;
    }

relinked : (p : Record) (ls : Links) → Unmoved p (withLinks p ls)
unfolding withLinks
relinked p ls = record { address = refl; state = refl; exchange = refl; left = refl; hold = refl; query = refl; identifier = refl }

-- every record of t is unmoved in u, and but for the device's it is the same
abbrev Linked : ℕ → List Record → List Record → Type 0
Linked d t u =
    (i : ℕ) → eqb (get_or t i free_of).address 0 ≡ false
    → Unmoved (get_or t i free_of) (get_or u i free_of) × (eqb (get_or t i free_of).address d ≡ false → get_or u i free_of ≡ get_or t i free_of)

module _ (s : Settings) (t : List Record) (xs : List ℕ) where
  abbrev device : ℕ
  device = device_in xs

  stays : Linked device t t
  stays i z = (unmoved refl, λ o. refl)

  -- a record stored at the device's place, or at a free one
  stored : (j : ℕ) (q : Record) → (eqb (get_or t j free_of).address 0 ≡ false → Unmoved (get_or t j free_of) q × (eqb (get_or t j free_of).address device ≡ true)) → Linked device t (set t j q)
  stored j q k i z = elim (ℕ_discrete i j) [
    | yes e ↦ same e
    | no e ↦ let o = get_or-set_other t j i q free_of e in (unmoved o, λ d. o)
  ]
    where
      same : i ≡ j → Unmoved (get_or t i free_of) (get_or (set t j q) i free_of) × (eqb (get_or t i free_of).address device ≡ false → get_or (set t j q) i free_of ≡ get_or t i free_of)
      same e =
          let here : eqb (get_or t j free_of).address 0 ≡ false = rw (← e) z in
          let inside = named_inside t j (get_or t j free_of).address here refl in
          rw (e, get_or-set_same t j q free_of inside) ((k here).0, λ d. clash (k here).1 d)

  turned : (at free : Option ℕ) → find_of (addresses_of t) device ≡ at → find_of (addresses_of t) 0 ≡ free → Linked device t (turn_in t at free (linking_of s (peer_of t at device) (links_in xs)) (linking_of s (peer_of t at device) (links_in xs))).table
  unfolding newcomer_of stranger_of seated_of linking_of turn_of
  turned (Some j) free e f = stored j (withLinks (get_or t j free_of) (links_in xs)) (λ z. (relinked (get_or t j free_of) (links_in xs), eq-eqb _ _ (found_address t device j e)))
  turned None None e f = pick_both (λ (m : Met). Linked device t m.table) (starts_of (linking_of s (fresh_of device) (links_in xs))) stays stays
  turned None (Some j) e f =
      pick_both (λ (m : Met). Linked device t m.table) (starts_of (linking_of s (fresh_of device) (links_in xs)))
      (stored j (withLinks (fresh_of device) (links_in xs)) (λ z. clash (eq-eqb _ _ (found_address t 0 j f)) z)) stays

  unless_linked : (n : ℕ) (m : Met) → Linked device t m.table → Linked device t (unless n t m).table
  unfolding unless refused_of settled_of
  unless_linked n m k = pick_both (λ (m : Met). Linked device t m.table) (eqb n 0) k stays

  linked : (n : ℕ) → Linked device t (linked_of s t xs n).table
  unfolding linked_of linked_at
  linked n = unless_linked _ _ (unless_linked _ _ (turned (find_of (addresses_of t) device) (find_of (addresses_of t) 0) refl refl))

  -- Primitive 12 never moves a state, nor an exchange, a time or a query, of any record ..
  pub links_move_no_state : (n i : ℕ) → eqb (get_or t i free_of).address 0 ≡ false → Unmoved (get_or t i free_of) (get_or (step_of s t event.Links xs n).table i free_of)
  unfolding stepped_of
  links_move_no_state n i z = (linked n i z).0

  -- .. and leaves every record but the device's as it was.
  pub links_leave : (n i : ℕ) → eqb (get_or t i free_of).address 0 ≡ false → eqb (get_or t i free_of).address device ≡ false → get_or (step_of s t event.Links xs n).table i free_of ≡ get_or t i free_of
  unfolding stepped_of
  links_leave n i z o = (linked n i z).1 o
