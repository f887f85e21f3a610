-- `table::records::apart::links_of` meets its contract: each turn writes one slot down, and at the end all are.
-- Assumes nothing.
use Rattle.std.proofs.Common.{◌≡◌, ◌≢◌, ◌<◌, ◌*◌, arith, length, length-set, get_or-set_other, get_or-set_same, below_more, sym, ◌∙◌}
use Rattle.std.proofs.lemmas.Grind.{same_number_lists}
use Rattle.table.proofs.Walks.LinkLists.{length_links, link_slot}
use Rattle.table.specs.Places.{link_addresses_of}
use Rattle.table.proofs.records.apart.links_of.Goals as goal

pub loop-k-preserved : goal.loop-k-preserved
loop-k-preserved c =
    let long : length c.args.t ≡ 32 = c.loop-k.invariant.long in
    let low : c.loop-k.k < 128 = omega arith in
    let slot : c.loop-k.k < 4 * length c.args.t = omega arith in
    record {
      wide = simp length-set c.loop-k.invariant.wide;
      long = long;
      same = below_more _ _
          (λ k h. let ne : k ≢ c.loop-k.k = omega arith in rw get_or-set_other (c.loop-k.invariant.same k h))
          (let lt : c.loop-k.k < length c.loop-k.link-items = omega arith in rw get_or-set_same (c.at.ensures ∙ sym (link_slot c.args.t c.loop-k.k slot)));
    }

pub returns : goal.returns
returns c =
    let long : length c.args.t ≡ 32 = c.loop-k.invariant.long in
    let wide : length c.loop-k.link-items ≡ 128 = c.loop-k.invariant.wide in
    same_number_lists c.loop-k.link-items (link_addresses_of c.args.t) (omega (arith, length_links c.args.t)) (λ k h. c.loop-k.invariant.same k (omega arith))
