-- `bench::trace::put_links` meets its contract: the word, the place, four links and the end of the line, one behind the other.
-- Assumes nothing.
use Rattle.bench.proofs.Digits.{tens_length}
use Rattle.bench.proofs.TraceLines.{link_length}
use Rattle.bench.specs.Trace.{links_line}
use Rattle.octets.proofs.Stores.{then}
use lib.ListN.{length-append}
use native.Mathlib.Omega.{arith}
use Rattle.bench.proofs.trace.put_links.Goals as goal

pub put_link-p3-requires : goal.put_link-p3-requires
put_link-p3-requires c =
    omega (arith, c.requires, c.put_word-p1.ensures.0, c.put_tens-p2.ensures.0, tens_length 2 c.args.place)

pub put_link-p4-requires : goal.put_link-p4-requires
put_link-p4-requires c =
    omega (arith, c.requires, c.put_word-p1.ensures.0, c.put_tens-p2.ensures.0, tens_length 2 c.args.place, c.put_link-p3.ensures.0, link_length c.args.p.links.one)

pub put_link-p5-requires : goal.put_link-p5-requires
put_link-p5-requires c =
    omega (arith, c.requires, c.put_word-p1.ensures.0, c.put_tens-p2.ensures.0, tens_length 2 c.args.place, c.put_link-p3.ensures.0, link_length c.args.p.links.one, c.put_link-p4.ensures.0, link_length c.args.p.links.two)

pub put_link-p6-requires : goal.put_link-p6-requires
put_link-p6-requires c =
    omega (arith, c.requires, c.put_word-p1.ensures.0, c.put_tens-p2.ensures.0, tens_length 2 c.args.place, c.put_link-p3.ensures.0, link_length c.args.p.links.one, c.put_link-p4.ensures.0, link_length c.args.p.links.two, c.put_link-p5.ensures.0, link_length c.args.p.links.three)

pub put_octet-requires : goal.put_octet-requires
put_octet-requires c =
    omega (arith, c.requires, c.put_word-p1.ensures.0, c.put_tens-p2.ensures.0, tens_length 2 c.args.place, c.put_link-p3.ensures.0, link_length c.args.p.links.one, c.put_link-p4.ensures.0, link_length c.args.p.links.two, c.put_link-p5.ensures.0, link_length c.args.p.links.three, c.put_link-p6.ensures.0, link_length c.args.p.links.four)

pub overflow_add-result : goal.overflow_add-result
overflow_add-result c =
    omega (arith, c.well_formed.0.0, c.requires, c.put_word-p1.ensures.0, c.put_tens-p2.ensures.0, tens_length 2 c.args.place, c.put_link-p3.ensures.0, link_length c.args.p.links.one, c.put_link-p4.ensures.0, link_length c.args.p.links.two, c.put_link-p5.ensures.0, link_length c.args.p.links.three, c.put_link-p6.ensures.0, link_length c.args.p.links.four)

pub returns : goal.returns
unfolding links_line
returns c =
    let e0 = c.put_word-p1.ensures.0 in
    let e1 = c.put_tens-p2.ensures.0 in
    let e2 = c.put_link-p3.ensures.0 in
    let e3 = c.put_link-p4.ensures.0 in
    let e4 = c.put_link-p5.ensures.0 in
    let e5 = c.put_link-p6.ensures.0 in
    (simp length-append (omega arith), then (then (then (then (then (then c.put_word-p1.ensures.1 c.put_tens-p2.ensures.1 (omega arith)) c.put_link-p3.ensures.1 (simp length-append (omega arith))) c.put_link-p4.ensures.1 (simp length-append (omega arith))) c.put_link-p5.ensures.1 (simp length-append (omega arith))) c.put_link-p6.ensures.1 (simp length-append (omega arith))) c.put_octet.ensures (simp length-append (omega arith)))
