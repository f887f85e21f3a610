-- 02, K12: "Each number is defined from the list of events and answers." The numbers of a list of events are those of each (Facts.antt), added up; of the holds
-- the longest (sums, specs/Block.antt). And how they are counted from the octets that the run hands on.
-- Assumes nothing.
use Rattle.std.specs.Prelude.{ℕ, zero, suc, ◌+◌, ◌*◌, Bool, true, false, List, ◌≡◌, eqb, drop, length, take}
use Rattle.octets.specs.Pick.{pick}
use Rattle.sums.specs.Block.{block_of, empty_of, join_of, tally}
use Rattle.sums.specs.Sums.{Total}
use Rattle.bench.specs.Facts.{numbers_in, numbers_of}
use Rattle.bench.specs.Plays.{Play, plays_of}
use Rattle.bench.specs.Printed.{counted}
use Rattle.bench.specs.Rounds.{Ran}
use Rattle.bench.specs.Run.{flushed_of}
use Rattle.bench.specs.declared.run.Prints.TheVariants as prints
use Rattle.bench.specs.declared.run.Run.{Run}

-- The numbers of one event, of a list of events, and the block of a file: "A total that would pass 64 bits prints `over` in its own place .. and the others
-- stand."
abbrev pub numbers_by : Play → List ℕ
numbers_by p = counted numbers_of p.settings p.table p.event p.octets

abbrev pub month_of : List Play → List ℕ
month_of ps = tally numbers_by ps

abbrev pub file_block : List ℕ → List Total
file_block xs = block_of (month_of (plays_of xs))

-- The octets of n events, 25 each, counted onto a block one behind the other.
unfoldable pub counted_in : ℕ → List Total → List ℕ → List Total
counted_in zero b fs = b
counted_in (suc n) b fs = counted_in n (join_of b (block_of (numbers_in (take 25 fs)))) (drop 25 fs)

-- Where the count of a file stands: the run, the block so far, and whether the last turn ended it with the line `stop`.
pub record Count : Type 0 where
  pub run : Run
  pub block : List Total
  pub stopped : Bool

-- What is made of the octets that a turn left in the output buffer k, n of them: those of an event are counted, and the line `stop` is told by its length. None is
-- left.
unfoldable pub added_of : List Total → ℕ → List ℕ → List Total
added_of b n k = pick (eqb n 25) (join_of b (block_of (numbers_in (take 25 k)))) b

unfoldable pub consumed_of : List Total → Run → List ℕ → Count
consumed_of b q k = record { run = flushed_of q q.done; block = added_of b q.out k; stopped = eqb q.out 5 }

-- Where turns of the run (Turn.antt), with what each left counted, lead to: the run is one of Rounds.antt, all that it handed on is counted, and of the line `stop` it is told. Or a read failed.
pub data Counting (ts xs o : List ℕ) (c : Count) : Type 0 where
  ran : {read wrote : List ℕ} (n : ℕ) →
      Ran prints.Facts ts xs o c.run read wrote → c.run.out ≡ 0 → (c.stopped ≡ true → c.run.done ≡ true) →
      length wrote ≡ 25 * n + pick c.stopped 5 0 → c.block ≡ counted_in n empty_of wrote → Counting ts xs o c
  broke : c.run.done ≡ true → c.run.over ≡ false → c.stopped ≡ false → Counting ts xs o c

-- The block of a file's count, whatever the table and the buffers. proofs/MonthCounts.antt proves `month_counts`: it is the block of the file's events and answers.
pub data Counted (b : List Total) : Type 0 where
  so : {ts xs o : List ℕ} {c : Count} → Counting ts xs o c → b ≡ c.block → Counted b
