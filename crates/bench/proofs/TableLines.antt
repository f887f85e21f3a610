-- The lines of a table, one place a turn, in the form of those still to come.
-- Assumes nothing.
use Prim.Native.Nat.{ℕ, suc, ◌+◌, ◌≤◌, ◌<◌}
use mathlib.Core.Path.{◌≡◌, sym, ap, ◌∙◌}
use mathlib.Core.List.{List}
use native.Mathlib.Numerals.{add-one}
use lib.ListN.{length, get_or, drop, drop_of_length-le}
use lib.Seq.{drop-cons}
use Rattle.peer.specs.Record.{free_of}
use Rattle.peer.specs.declared.record.Record.{Record}
use Rattle.bench.specs.Output.{Output, put_all}
use Rattle.bench.specs.Trace.{place_lines, table_lines}
use Rattle.bench.proofs.Outputs.{all_behind}

pub table_step : (t : List Record) (i : ℕ) (o o' k : Output) → i < length t → o' ≡ put_all (place_lines i (get_or t i free_of)) o →
    put_all (table_lines i (drop i t)) o ≡ k → put_all (table_lines (i + 1) (drop (i + 1) t)) o' ≡ k
unfolding table_lines
table_step t i o o' k h e g =
    let d : drop (i + 1) t ≡ drop (suc i) t = ap (λ (j : ℕ). drop j t) (add-one i) in
    rw (e, d) (sym (all_behind (place_lines i (get_or t i free_of)) (table_lines (i + 1) (drop (suc i) t)) o) ∙ rw (drop-cons t i free_of h) at g)

pub table_end : (t : List Record) (i : ℕ) (o k : Output) → length t ≤ i → put_all (table_lines i (drop i t)) o ≡ k → o ≡ k
unfolding table_lines put_all
table_end t i o k h e = rw (drop_of_length-le t h) at e
