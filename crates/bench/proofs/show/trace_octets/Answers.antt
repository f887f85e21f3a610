-- `bench::show::trace_octets` meets its contract: nothing, or one line.
-- Assumes nothing.
use Rattle.bench.specs.Output.{put_all}
use Rattle.bench.specs.Trace.{octets_lines}
use borrow.Author.Rules.{rules}
use borrow.Author.Tests.{eq-eqb, le-ltb, lt-ltb, ne_eqb}
use lib.ListN.{length}
use lib.Seq.{length-take-le}
use mathlib.Core.Path.{◌≡◌, sym}
use native.Mathlib.Omega.{arith}
use Rattle.bench.proofs.show.trace_octets.Goals as goal

pub returns-then-n-eq0 : goal.returns-then-n-eq0
unfolding octets_lines put_all
returns-then-n-eq0 c = rw (eq-eqb _ _ c.if-n-eq0.true)

pub returns-then-n-gt256 : goal.returns-then-n-gt256
unfolding octets_lines put_all
returns-then-n-gt256 c = rw (ne_eqb _ _ c.if-n-eq0.false, lt-ltb _ _ c.if-n-gt256.true)

pub slice_bounds-write_octets-end : goal.slice_bounds-write_octets-end
slice_bounds-write_octets-end c =
    let a = c.args in
    let long : length a.scratch ≡ 256 = search rules in
    sym (length-take-le a.written a.scratch (omega arith))

pub write_octets-requires : goal.write_octets-requires
write_octets-requires c =
    let a = c.args in
    let long : length a.scratch ≡ 256 = search rules in
    omega (arith, length-take-le a.written a.scratch (omega arith))

pub returns : goal.returns
unfolding octets_lines put_all
returns c = rw (ne_eqb _ _ c.if-n-eq0.false, le-ltb _ _ c.if-n-gt256.false) c.write_octets.ensures
