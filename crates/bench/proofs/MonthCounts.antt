-- The month's count goes along with the run's turns (specs/Month.antt), and what it comes to is the block of the file.
-- Assumes nothing.
use Prim.Native.Nat.{ℕ, suc, ◌+◌, ◌*◌, ◌≤◌}
use mathlib.Core.Path.{◌≡◌, refl, sym, ap, ◌∙◌}
use mathlib.Core.Bool.{Bool, true, false}
use mathlib.Core.List.{List, [], ◌++◌, append-nil}
use native.Mathlib.Omega.{arith}
use lib.Dec.{eqb}
use lib.ListN.{length, replicate, take, length-append}
use lib.Seq.{length-take-le}
use Rattle.octets.proofs.Branch.{by_bool}
use Rattle.octets.specs.Field.{all_octets}
use Rattle.octets.specs.Pick.{pick}
use Rattle.peer.proofs.Fits.{clash}
use Rattle.peer.specs.declared.record.Record.{Record}
use Rattle.sums.proofs.Joining.{tally_nothing}
use Rattle.sums.specs.Block.{block_of, empty_of, join_of, nothing, tally}
use Rattle.sums.specs.Sums.{held}
use Rattle.sums.specs.Sums.{Total}
use Rattle.table.specs.Rows.{records_of}
use Rattle.table.specs.declared.rules.event.Event.{Event}
use Rattle.bench.specs.Facts.{facts_of, numbers_in}
use Rattle.table.specs.Input.{body_of, taken_of}
use Rattle.bench.specs.Line.{stop_line}
use Rattle.bench.specs.Month.{Count, Counting, added_of, broke, consumed_of, counted_in, file_block, numbers_by, ran}
use Rattle.bench.specs.Output.{put_all, short, up_to}
use Rattle.bench.specs.Plays.{lines_of, plays_of, stops}
use Rattle.bench.specs.Printed.{at_start, counted, shown_by}
use Rattle.bench.specs.Rounds.{Ran, ahead, came, start, taken, went}
use Rattle.bench.specs.Run.{begun_of, done_of, end_output, event_lines, event_of, event_output, flushed_of, start_of, stop_output}
use Rattle.bench.specs.Turn.{Refilled, Took, TurnOf, Turned, failed, more, refilled_of, took, wanted}
use Rattle.table.specs.declared.host.input.Taken.{Taken}
use Rattle.table.specs.declared.host.input.Taken.TheVariants.{Cut, Fault, First, Next}
use Rattle.bench.specs.declared.run.Prints.TheVariants as prints
use Rattle.bench.specs.declared.run.Run.{Run}
use Rattle.bench.proofs.Counting.{facts_length}
use Rattle.bench.proofs.MonthStream.{counted_before, counted_behind, counted_lines, lines_length, plays_octets}
use Rattle.bench.proofs.Pending.{put_filled}
use Rattle.bench.proofs.PlaysPrinted.{plays_printed}
use Rattle.bench.proofs.Whole.{Kept, kept, whole_output, ready_of}

-- What a turn leaves in the output buffer where nothing was in it: nothing, an event's 25 octets, or the line `stop`.
data Piece (q : Run) : Type 0 where
  quiet : q.out ≡ 0 → Piece q
  event : q.out ≡ 25 → Piece q
  stop : q.out ≡ 5 → q.done ≡ true → Piece q

stop_filled : (r : Run) (o : List ℕ) → r.out ≡ 0 → length o ≡ 65536 → (stop_output r o).filled ≡ 5
stop_filled r o z l = put_filled (short stop_line) (up_to o r.out) (omega arith) (omega arith) ∙ omega arith

event_filled : (r : Run) (t : List Record) (e : Event) (xs o : List ℕ) → r.prints ≡ prints.Facts → r.out ≡ 0 → length o ≡ 65536 → (event_output r t e xs o).filled ≡ 25
unfolding event_output event_lines shown_by put_all
event_filled r t e xs o m z l =
    let f = counted facts_of r.settings t e xs in
    let n : length f ≡ 25 = facts_length _ _ _ _ _ in
    let s : length f ≤ 64 = omega arith in
    rw m (put_filled (short f) (up_to o r.out) s (omega arith) ∙ omega (arith, n, z))

piece : {ts xs o read wrote : List ℕ} {r : Run} → Kept prints.Facts ts xs o r read wrote → r.out ≡ 0 → length o ≡ 65536 → (t : Taken) → taken_of (ahead xs r) r.first ≡ t → (us k : List ℕ) (q : Run) → Took t (ahead xs r) ts o r us k q → Piece q
unfolding done_of begun_of end_output event_of
piece {o = o} {r = r} p z l Cut h us k q f =
    rw f.2
    (by_bool (eqb r.at r.have)
    (λ e. quiet (rw e z))
    (λ e. stop (rw e (stop_filled r o z l)) refl))
piece {o = o} {r = r} p z l Fault h us k q f = rw f.1 (stop (stop_filled r o z l) refl)
piece p z l (First s) h us k q f = rw f.1 (quiet z)
piece {ts = ts} {xs = xs} {o = o} {r = r} p z l (Next e) h us k q f =
    rw (f.0 (ready_of p e h)).1 (event (event_filled r (records_of ts) e (body_of (ahead xs r)) o p.mode z l))

-- A turn more: what it left is counted.
module _ {ts xs o read wrote : List ℕ} (c : Count) (n : ℕ) (w : Ran prints.Facts ts xs o c.run read wrote) (z : c.run.out ≡ 0) (long : length wrote ≡ 25 * n) (b : c.block ≡ counted_in n empty_of wrote) where
  after : {us ys k read' : List ℕ} (r : Run) → Ran prints.Facts us ys k r read' wrote → length k ≡ 65536 → Piece r → Counting us ys k (consumed_of c.block r k)
  unfolding consumed_of added_of flushed_of
  after {k = k} r v l (quiet e) =
      let h : length (wrote ++ take r.out k) ≡ 25 * n + 0 = rw (e, append-nil wrote) (omega arith) in
      let d : c.block ≡ counted_in n empty_of (wrote ++ take r.out k) = rw (e, append-nil wrote) b in
      rw e (ran n (went v (omega arith)) refl (λ x. clash x refl) h d)
  after {k = k} r v l (event e) =
      let f : length (take 25 k) ≡ 25 = length-take-le 25 k (omega arith) in
      let h : length (wrote ++ take r.out k) ≡ 25 * suc n + 0 = rw e (length-append wrote (take 25 k) ∙ omega arith) in
      let d : join_of c.block (block_of (numbers_in (take 25 k))) ≡ counted_in (suc n) empty_of (wrote ++ take r.out k) = rw (e, b) (sym (counted_behind n empty_of wrote (take 25 k) long f)) in
      rw e (ran (suc n) (went v (omega arith)) refl (λ x. clash x refl) h d)
  after {k = k} r v l (stop e g) =
      let f : length (take 5 k) ≡ 5 = length-take-le 5 k (omega arith) in
      let h : length (wrote ++ take r.out k) ≡ 25 * n + 5 = rw e (length-append wrote (take 5 k) ∙ omega arith) in
      let d : c.block ≡ counted_in n empty_of (wrote ++ take r.out k) = b ∙ sym (counted_before n empty_of wrote (take r.out k) long) in
      rw e (ran n (went v (omega arith)) refl (λ x. g) h d)

  module _ (d : c.run.done ≡ false) (l : length o ≡ 65536) where
    refilled : (us ys k : List ℕ) (r : Run) → length ys ≡ length xs → taken_of (ahead xs c.run) c.run.first ≡ Cut → c.run.over ≡ false → us ≡ ts → k ≡ o → Refilled xs c.run ys r →
        Counting us ys k (consumed_of c.block r k)
    unfolding consumed_of added_of flushed_of done_of refilled_of
    refilled us ys k r a t v g h (failed f) = rw f (broke refl v (rw z))
    refilled us ys k r a t v g h (more m f e) = rw (g, h) (after r (came m w d t v a f e) l (quiet (rw f z)))

    on_turn : (us ys k : List ℕ) (r : Run) → length ys ≡ length xs → length k ≡ length o → Turned (taken_of (ahead xs c.run) c.run.first) ts xs o c.run us ys k r →
        Counting us ys k (consumed_of c.block r k)
    on_turn us ys k r a e (took f same) = rw same (after r (taken w d (omega arith) e f) (omega arith) (piece (kept w) z l (taken_of (ahead xs c.run) c.run.first) refl us k r f))
    on_turn us ys k r a e (wanted t v f g h) = refilled us ys k r a t v g h f

pub count_again : {ts xs o : List ℕ} (run : Run) (block : List Total) (stopped : Bool) (us ys k : List ℕ) (r run' : Run) (block' : List Total) (stopped' : Bool) →
    Counting ts xs o (record { run = run; block = block; stopped = stopped }) → run.done ≡ false → length xs ≡ 65536 → length o ≡ 65536 → length ys ≡ 65536 → length k ≡ 65536 →
    TurnOf ts xs o run us ys k r → block' ≡ added_of block r.out k → stopped' ≡ eqb r.out 5 → run' ≡ flushed_of r r.done →
    Counting us ys k (record { run = run'; block = block'; stopped = stopped' })
unfolding consumed_of
count_again run block stopped us ys k r run' block' stopped' (broke e v s) d lx lo ly lk t f g h = clash e d
count_again run block stopped us ys k r run' block' stopped' (ran {wrote = wrote} n w z s long b) d lx lo ly lk t f g h =
    let still : stopped ≡ false = by_bool stopped (λ x. clash (s x) d) (λ x. x) in
    let m : length wrote ≡ 25 * n + 0 = rw still at long in
    rw (f, g, h) (on_turn (record { run = run; block = block; stopped = stopped }) n w z (omega arith) b d lo us ys k r (ly ∙ sym lx) (lk ∙ sym lo) (t (kept w).places (kept w).inside))

pub count_start : (ts xs o : List ℕ) (run : Run) (block : List Total) → ts ≡ replicate 1536 0 → length xs ≡ 65536 → length o ≡ 65536 → run ≡ start_of prints.Facts → block ≡ empty_of →
    Counting ts xs o (record { run = run; block = block; stopped = false })
unfolding counted_in start_of
count_start ts xs o run block t a b e f = rw (t, e, f) (ran 0 (start a b) refl (λ x. clash x refl) refl refl)

-- the numbers of events told, and the rest behind them, by how many octets there are
parted : (s t : Bool) (n m : ℕ) → 25 * n + pick s 5 0 ≡ 25 * m + length (pick t stop_line []) → (n ≡ m) × (s ≡ t)
parted true true n m h = (omega arith, refl)
parted false false n m h = (omega arith, refl)
parted true false n m h = absurd (omega arith)
parted false true n m h = absurd (omega arith)

-- THE THEOREM. The count of a file came to its end: its block is that of the file's events and answers, the octets read and any that were not read behind a fault; and it
-- stopped exactly if the file has a fault. (What it asks for is met: `bench::month::count_file` keeps to such turns. The file is made of octets.)
pub month_counts : {ts xs o read wrote : List ℕ} (c : Count) (n : ℕ) → Ran prints.Facts ts xs o c.run read wrote → c.run.out ≡ 0 → length wrote ≡ 25 * n + pick c.stopped 5 0 →
    c.block ≡ counted_in n empty_of wrote → c.run.done ≡ true → (rest : List ℕ) → (c.run.over ≡ true → rest ≡ []) → all_octets (read ++ rest) ≡ true →
    (c.block ≡ file_block (read ++ rest)) × (c.stopped ≡ stops (read ++ rest))
unfolding tally held
month_counts {o = o} {read = read} {wrote = wrote} c n w z long b d rest h m =
    let input = read ++ rest in
    let ps = plays_of input in
    let tail = pick (stops input) stop_line [] in
    let all : wrote ≡ lines_of (shown_by prints.Facts) ps ++ tail =
    sym (append-nil wrote) ∙ ((rw z at (whole_output w d rest h)) ∙ plays_printed (shown_by prints.Facts) input) in
    let sizes : 25 * n + pick c.stopped 5 0 ≡ 25 * length ps + length tail =
    sym long ∙ (ap (λ (l : List ℕ). length l) all ∙ (length-append (lines_of (shown_by prints.Facts) ps) tail ∙ ap (λ (k : ℕ). k + length tail) (lines_length ps))) in
    let same = parted c.stopped (stops input) n (length ps) sizes in (
      b ∙ (ap (counted_in n empty_of) all ∙ (ap (λ (k : ℕ). counted_in k empty_of (lines_of (shown_by prints.Facts) ps ++ tail)) same.0
          ∙ (counted_lines ps nothing tail (tally_nothing numbers_by []) (plays_octets input 0 at_start m) ∙ ap block_of (tally_nothing numbers_by ps)))),
      same.1,
    )
