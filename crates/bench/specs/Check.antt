-- A check on its way: the run of the bench program on one side, a log on the other, both in pieces.
-- Assumes nothing.
use Rattle.std.specs.Prelude.{ℕ, ◌≤◌, Bool, true, false, List, [], ◌++◌, ◌≡◌, eqb, leb, length, take}
use Rattle.octets.specs.Pick.{pick}
use Rattle.rival.specs.Beside.{compared_of, standing_at_first}
use Rattle.rival.specs.Pieces.{Went, settled_of}
use Rattle.bench.specs.Rounds.{Ran}
use Rattle.bench.specs.Run.{ahead_of, behind_of, flushed_of, start_of, within}
use Rattle.bench.specs.Turn.{TurnOf}
use Rattle.bench.specs.declared.checker.Check.{Check}
use Rattle.bench.specs.declared.run.Prints.TheVariants.{Lines}
use Rattle.bench.specs.declared.run.Run.{Run}

-- No octet of either yet.
unfoldable pub check_at_first : Check
check_at_first = record { run = start_of Lines; standing = standing_at_first; mark = 0; at = 0; have = 0; over = false; broken = false }

-- The octets of a buffer from `at` to `have`; none where these are no places of it.
unfoldable pub part_of : ℕ → ℕ → List ℕ → List ℕ
part_of at have xs = pick (within at have (length xs)) (ahead_of at have xs) []

-- A run that had no lines pending could not read on: it is done, neither at its input's end nor with a line.
unfoldable pub is_unread : Run → Bool
is_unread r = pick r.done (pick r.over false (eqb r.out 0)) false

-- The run went on to r, and all its lines are still to be compared.
unfoldable pub with_run : Check → Run → Check
with_run c r = record { run = r; standing = c.standing; mark = 0; at = c.at; have = c.have; over = c.over; broken = c.broken }

-- n octets of the log were read into a buffer of `len`; none is the log's end.
unfoldable pub read_on : Check → ℕ → ℕ → Check
read_on c n len = record { run = c.run; standing = c.standing; mark = c.mark; at = 0; have = behind_of 0 n len; over = eqb n 0; broken = c.broken }

-- The octets at hand of both, one beside the other.
unfoldable pub beside_on : List ℕ → List ℕ → Check → Check
beside_on o log c =
    let p = compared_of c.standing (part_of c.mark c.run.out o) (part_of c.at c.have log) in
    record {
      run = c.run;
      standing = p.standing;
      mark = behind_of c.mark p.taken c.run.out;
      at = behind_of c.at p.taken c.have;
      have = c.have;
      over = c.over;
      broken = c.broken;
    }

-- Nothing that may still come changes what is said.
unfoldable pub is_settled : Check → Bool
is_settled c = settled_of c.standing (leb c.run.out c.mark) c.run.done (leb c.have c.at) c.over

-- More of our lines: the run stays where lines are still to be compared, or it is done. Else these lines went, and it takes a turn; or it can't read.
pub data Ours (ts xs o : List ℕ) (c : Check) (us ys k : List ℕ) (q : Check) : Type 0 where
  same : us ≡ ts → ys ≡ xs → k ≡ o → q ≡ c → Ours ts xs o c us ys k q
  turned : (t : Run) → c.run.out ≤ c.mark → c.run.done ≡ false → TurnOf ts xs o (flushed_of c.run c.run.done) us ys k t → is_unread t ≡ false → t.out ≤ length k →
      q ≡ with_run c t → Ours ts xs o c us ys k q
  broke : q.broken ≡ true → Ours ts xs o c us ys k q

-- More of the log, the same way. What was read is the reader's affair.
pub data Logged (xs : List ℕ) (c : Check) (ys : List ℕ) (q : Check) : Type 0 where
  stayed : ys ≡ xs → q ≡ c → Logged xs c ys q
  came : (n : ℕ) → c.have ≤ c.at → q ≡ read_on c n (length ys) → Logged xs c ys q
  unread : q.broken ≡ true → Logged xs c ys q

-- A round: both, and the octets at hand one beside the other; or a file can't be read.
pub data CheckRound (ts xs o log : List ℕ) (c : Check) (us ys k more : List ℕ) (q : Check) : Type 0 where
  on : (a b : Check) → Ours ts xs o c us ys k a → a.broken ≡ false → Logged log a more b → b.broken ≡ false → q ≡ beside_on k more b → CheckRound ts xs o log c us ys k more q
  off : q.broken ≡ true → CheckRound ts xs o log c us ys k more q

-- A check behind rounds in which `read` came in as input, `wrote` went out of the output buffer, and `theirs` came in of the log.
pub record Checking (ts xs o log : List ℕ) (c : Check) (read wrote theirs : List ℕ) : Type 0 where
  pub ran : Ran Lines ts xs o c.run read wrote
  pub marked : c.mark ≤ c.run.out
  pub filled : c.run.out ≤ length o
  pub places : c.at ≤ c.have
  pub inside : c.have ≤ length log
  pub went : Went c.standing (ahead_of c.mark c.run.out o) (ahead_of c.at c.have log) (wrote ++ take c.run.out o) theirs

-- Such a check; or a file can't be read, and nothing is said.
pub data Held (ts xs o log : List ℕ) (c : Check) : Type 0 where
  held : {read wrote theirs : List ℕ} → Checking ts xs o log c read wrote theirs → Held ts xs o log c
  lost : c.broken ≡ true → Held ts xs o log c
