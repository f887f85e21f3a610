-- Many events in one call: records of a bench input (Input.antt) one behind the other. It is nothing but the single calls (Host.antt) one after
-- the other, each on the table that the one before left and on what it left of the buffer: "what each event writes goes behind what the one
-- before wrote", and each answer takes 24 octets behind the one before.
-- Assumes nothing.
use Rattle.std.specs.Prelude.{ℕ, zero, suc, ◌+◌, ◌/◌, ◌≡◌, Bool, false, true, ◌&&◌, List, ◌++◌, eqb, ltb, drop, length, take}
use Rattle.octets.specs.Pick.{pick}
use Rattle.peer.specs.Settings.{settings_fit}
use Rattle.peer.specs.declared.settings.Settings.{Settings}
use Rattle.table.specs.Boundary.{Crossed, answer_in, crossed}
use Rattle.table.specs.Fit.{well_formed}
use Rattle.table.specs.Host.{host_answer, host_table, host_in}
use Rattle.table.specs.Input.{body_of, size_of, taken_of}
use Rattle.table.specs.Lent.{room_of}
use Rattle.table.specs.Rows.{is_table, linked_in, records_of}
use Rattle.table.specs.declared.host.input.Taken.{Taken}
use Rattle.table.specs.declared.host.input.Taken.TheVariants.{Cut, Fault, First, Next}
use Rattle.table.specs.declared.rules.event.Event.{Event}

-- What one event leaves: the octets of its record and those that it wrote; the table, the buffer, and the octets for answers.
pub record Gone : Type 0 where
  pub size : ℕ
  pub written : ℕ
  pub table : List ℕ
  pub out : List ℕ
  pub answers : List ℕ

abbrev pub gone : ℕ → ℕ → List ℕ → List ℕ → List ℕ → Gone
gone n w xs l ks = record { size = n; written = w; table = xs; out = l; answers = ks }

-- The run stops: no record is taken, and all stays.
abbrev pub stayed : List ℕ → List ℕ → List ℕ → Gone
stayed xs l ks = gone 0 0 xs l ks

-- The single call, with the records rs from its own on; its answer to the front of ks.
abbrev pub called_with : Settings → List ℕ → List ℕ → List ℕ → List ℕ → Event → Gone
called_with s xs rs l ks e =
    gone (size_of rs)
    (host_answer xs s e (body_of rs) l).written
    (host_table xs s e (body_of rs) l)
    (host_in xs s e (body_of rs) l)
    (answer_in (host_answer xs s e (body_of rs) l) ks)

-- It stops where no whole, faultless record of an event stands at the front, and where the buffer has less room left than the event's call needs.
abbrev pub onward_of : Taken → ℕ → Gone → (Event → Gone) → Gone
onward_of Cut n z f = z
onward_of Fault n z f = z
onward_of (First s) n z f = z
onward_of (Next e) n z f = pick (ltb n (room_of e)) z (f e)

unfoldable pub gone_of : Settings → List ℕ → List ℕ → List ℕ → List ℕ → Gone
gone_of s xs rs l ks = onward_of (taken_of rs false) (length l) (stayed xs l ks) (called_with s xs rs l ks)

-- Size, octets written, table, buffer and answers are what one event leaves, behind the octets f of the buffer and h of the answers.
pub record Goes (g : Gone) (n w : ℕ) (ys f l h ks : List ℕ) : Type 0 where
  pub size : n ≡ g.size
  pub written : w ≡ g.written
  pub table : ys ≡ g.table
  pub out : l ≡ f ++ g.out
  pub answers : ks ≡ h ++ g.answers

-- What is known of settings and of the octets xs: whether all is well formed and, if so, whether any record has links.
pub record Knows (s : Settings) (xs : List ℕ) (well linked : Bool) : Type 0 where
  pub told : well ≡ (is_table xs && well_formed s (records_of xs))
  pub links : well ≡ true → linked ≡ linked_in (records_of xs)

-- The octets are a table, and it is well formed if the settings fit: so is every table that events make of the empty one.
pub record Sound (s : Settings) (xs : List ℕ) : Type 0 where
  pub table : is_table xs ≡ true
  pub well : settings_fit s ≡ true → well_formed s (records_of xs) ≡ true

-- What is left of all, n events later: the octets that are settled in front of buffer and answers.
abbrev pub behind : ℕ → List ℕ → List ℕ → Crossed → Crossed
behind n l ks c = crossed (n + c.result) c.table (l ++ c.out) (ks ++ c.answer)

-- At most n events: as many as there are 24 octets for answers.
unfoldable pub ran_from : ℕ → Settings → List ℕ → List ℕ → List ℕ → List ℕ → Crossed
ran_from zero s xs rs l ks = crossed 0 xs l ks
ran_from (suc n) s xs rs l ks =
    let g = gone_of s xs rs l ks in
    pick (eqb g.size 0)
    (crossed 0 g.table g.out g.answers)
    (behind 1 (take g.written g.out) (take 24 g.answers)
    (ran_from n s g.table (drop g.size rs) (drop g.written g.out) (drop 24 g.answers)))

-- The result is how many events were played.
unfoldable pub ran_of : List ℕ → Settings → List ℕ → List ℕ → List ℕ → Crossed
ran_of xs s rs l ks = ran_from (length ks / 24) s xs rs l ks
