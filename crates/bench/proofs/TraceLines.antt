-- How long the lines of a trace are.
-- Assumes nothing.
use Prim.Native.Nat.{ℕ, ◌+◌, ◌*◌, ◌≤◌}
use mathlib.Core.List.{List}
use native.Mathlib.Omega.{arith}
use lib.Dec.{eqb}
use lib.ListN.{length, length-append}
use Rattle.octets.specs.Field.{octets}
use Rattle.octets.proofs.Branch.{pick_both}
use Rattle.octets.proofs.Le.{length_octets}
use Rattle.peer.specs.Query.{query_left, query_number}
use Rattle.peer.specs.Record.{exchange_number}
use Rattle.peer.specs.declared.record.Record.{Record}
use Rattle.bench.specs.Trace.{octets_line, current_line, name_of, times_of, query_name, query_times, link_text, links_line}
use Rattle.bench.proofs.Digits.{field_length, tens_length}
use Rattle.bench.proofs.Puts.{hex_length}

pub octets_line_length : (vs : List ℕ) → length (octets_line vs) ≤ 2 * length vs + 64
unfolding octets_line
octets_line_length vs = simp length-append (omega (arith, hex_length vs))

pub current_line_length : (a : ℕ) → length (current_line a) ≤ 64
unfolding current_line
current_line_length a = simp length-append (omega (arith, hex_length (octets 6 a), length_octets 6 a))

pub name_length : (place : ℕ) (p : Record) → length (name_of place p) ≤ 24
unfolding name_of
name_length place p =
    simp length-append (omega (arith, field_length 2 place, hex_length (octets 6 p.address), length_octets 6 p.address))

pub times_length : (p : Record) → length (times_of p) ≤ 25
unfolding times_of
times_length p =
    simp length-append
    (omega (arith, field_length 3 p.state, field_length 3 (exchange_number p.exchange), field_length 5 p.left, tens_length 10 p.hold))

pub query_name_length : (place : ℕ) (p : Record) → length (query_name place p) ≤ 24
unfolding query_name
query_name_length place p = simp length-append (omega (arith, field_length 2 place, field_length 5 p.identifier))

pub query_times_length : (p : Record) → length (query_times p) ≤ 25
unfolding query_times
query_times_length p =
    simp length-append (omega (arith, field_length 3 (query_number p.query), tens_length 5 (query_left p.query)))

pub link_length : (l : ℕ) → length (link_text l) ≤ 13
unfolding link_text
link_length l =
    pick_both (λ (vs : List ℕ). length vs ≤ 13) (eqb l 0) (omega arith) (omega (arith, hex_length (octets 6 l), length_octets 6 l))

pub links_line_length : (place : ℕ) (p : Record) → length (links_line place p) ≤ 64
unfolding links_line
links_line_length place p =
    simp length-append
    (omega (arith, tens_length 2 place, link_length p.links.one, link_length p.links.two, link_length p.links.three, link_length p.links.four))
