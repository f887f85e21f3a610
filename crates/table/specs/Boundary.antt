-- The boundary to C: only numbers and octets cross. Settings come as octets, the answer goes out as octets, and what a call gives back is the
-- refusal's number.
-- Assumes nothing.
use Rattle.std.specs.Prelude.{ℕ, Bool, ◌||◌, List, eqb, ltb, length}
use Rattle.octets.specs.Answer.{answer_written}
use Rattle.octets.specs.Field.{field}
use Rattle.octets.specs.Pick.{pick}
use Rattle.peer.specs.declared.settings.Settings.{Settings}
use Rattle.table.specs.Host.{host_answer, host_table, host_in}
use Rattle.table.specs.declared.rules.answer.Answer.{Answer}
use Rattle.table.specs.declared.rules.event.Event.{Event}

-- Out of range, so refusal 2: "settings or table not well formed".
abbrev pub no_settings : Settings
no_settings = record { own = 0; network = 0; authentication = 0; association = 0; role = 0; rsna = 0; edition = 0; protection = 0; retry = 0; maximum = 0 }

-- 01, The bench program: "role, own address, RSNA 0/1, two timeouts, 12 octets." 02, K2: "a bench settings record of 14 octets carries them
-- last, and one of 12 means edition 1, no protection". Octets that are not there are 0, so of these only the edition has to be said.
-- 02, K5: "a bench settings record of 18 octets carries them last, shorter ones mean 201 and 1,000": a query's retry time and its maximum.
-- 02, K10: "a bench settings record of 24 octets carries it last": the network's address.
unfoldable pub settings_length : ℕ → Bool
settings_length n = eqb n 12 || (eqb n 14 || (eqb n 18 || eqb n 24))

unfoldable pub edition_in : List ℕ → ℕ
edition_in xs = pick (ltb (length xs) 14) 1 (field 1 12 xs)

unfoldable pub retry_in : List ℕ → ℕ
retry_in xs = pick (ltb (length xs) 18) 201 (field 2 14 xs)

unfoldable pub maximum_in : List ℕ → ℕ
maximum_in xs = pick (ltb (length xs) 18) 1000 (field 2 16 xs)

-- Of any other length: settings out of range.
unfoldable pub settings_in : List ℕ → Settings
settings_in xs =
    pick (settings_length (length xs))
    (record {
      own = field 6 1 xs;
      network = field 6 18 xs;
      authentication = field 2 8 xs;
      association = field 2 10 xs;
      role = field 1 0 xs;
      rsna = field 1 7 xs;
      edition = edition_in xs;
      protection = field 1 13 xs;
      retry = retry_in xs;
      maximum = maximum_in xs;
    })
    no_settings

-- The octets lent for an answer, with the answer at their front.
abbrev pub answer_in : Answer → List ℕ → List ℕ
answer_in a l =
    answer_written l a.current a.code a.written a.refusal a.verdict a.notice a.ds a.state

-- What a call gives back, and what it leaves of all that it was lent to write to.
pub record Crossed : Type 0 where
  pub result : ℕ
  pub table : List ℕ
  pub out : List ℕ
  pub answer : List ℕ

abbrev pub crossed : ℕ → List ℕ → List ℕ → List ℕ → Crossed
crossed r xs l k = record { result = r; table = xs; out = l; answer = k }

-- The table's octets xs, the settings' ss, the frame's fs, the buffer l, and the octets k for the answer: too few of them is refusal 1, and
-- nothing is written. Else what one event makes of table and buffer (Host.antt), and its answer; a refusal's has "its number with everything
-- else zero".
unfoldable pub crossed_of : List ℕ → List ℕ → Event → List ℕ → List ℕ → List ℕ → Crossed
crossed_of xs ss e fs l k =
    pick (ltb (length k) 24)
    (crossed 1 xs l k)
    (crossed
    (host_answer xs (settings_in ss) e fs l).refusal
    (host_table xs (settings_in ss) e fs l)
    (host_in xs (settings_in ss) e fs l)
    (answer_in (host_answer xs (settings_in ss) e fs l) k))
