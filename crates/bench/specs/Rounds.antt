-- The program's rounds, one behind the other: the octets read so far and the octets written out so far. What a read gave stands in the input
-- buffer behind those left; what is handed to a write are the first octets of the output buffer.
-- Assumes nothing.
use Rattle.std.specs.Prelude.{ℕ, ◌+◌, ◌≤◌, false, List, [], ◌++◌, ◌≡◌, length, replicate, take}
use Rattle.table.specs.Input.{taken_of}
use Rattle.bench.specs.Run.{ahead_of, flushed_of, left_of, shifted_of, start_of}
use Rattle.bench.specs.Turn.{Took, refilled_of}
use Rattle.table.specs.declared.host.input.Taken.TheVariants.{Cut}
use Rattle.bench.specs.declared.run.Prints.{Prints}
use Rattle.bench.specs.declared.run.Run.{Run}

-- The octets ahead in the input buffer xs, and how many of them a read leaves at its front.
abbrev pub ahead : List ℕ → Run → List ℕ
ahead xs r = ahead_of r.at r.have xs

abbrev pub left : List ℕ → Run → ℕ
left xs r = left_of r.at r.have (length xs)

-- The table's octets ts, the buffers xs and o and the run r, behind rounds in which `read` came in, in pieces of any size, and `wrote` went out.
pub data Ran (prints : Prints) : List ℕ → List ℕ → List ℕ → Run → List ℕ → List ℕ → Type 0 where
  start : {xs o : List ℕ} → length xs ≡ 65536 → length o ≡ 65536 → Ran prints (replicate 1536 0) xs o (start_of prints) [] []
  -- one record, or the end of the input
  taken : {ts xs o us k read wrote : List ℕ} {r q : Run} →
      Ran prints ts xs o r read wrote → r.done ≡ false → r.out + 8192 ≤ length o → length k ≡ length o →
      Took (taken_of (ahead xs r) r.first) (ahead xs r) ts o r us k q → Ran prints us xs k q read wrote
  -- a piece of n octets; none is the end of the input
  came : {ts xs o ys read wrote : List ℕ} {r q : Run} (n : ℕ) →
      Ran prints ts xs o r read wrote → r.done ≡ false → taken_of (ahead xs r) r.first ≡ Cut → r.over ≡ false → length ys ≡ length xs →
      q ≡ refilled_of r (length xs) n → take (left xs r) ys ≡ take (left xs r) (shifted_of r.at r.have xs) →
      Ran prints ts ys o q (read ++ ahead_of (left xs r) q.have ys) wrote
  -- the lines so far
  went : {ts xs o read wrote : List ℕ} {r : Run} →
      Ran prints ts xs o r read wrote → r.out ≤ length o → Ran prints ts xs o (flushed_of r r.done) read (wrote ++ take r.out o)
