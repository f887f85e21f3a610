-- `table::records::apart::links_apart` meets its contract: what holds from the slot reached on holds at all.
-- Assumes nothing.
use Rattle.std.proofs.Common.{◌≡◌, sym, ◌∙◌, ℕ, ◌+◌, ◌-◌, true, false, ◌&&◌, List, take, drop, get_or, length, length-drop, arith}
use borrow.Author.Rules.{rules}
use lib.Seq.{take_all}
use mathlib.Core.Path.{ap}
use Rattle.table.proofs.Passes.Loops.{tails_end, tails_no, tails_yes}
use Rattle.table.specs.Fit.{alone_in, links_apart}
use Rattle.table.proofs.records.apart.links_apart.Goals as goal

pub returns-then-not-alone : goal.returns-then-not-alone
returns-then-not-alone c =
    let ads : List ℕ = c.args.addresses.now in
    let links : List ℕ = c.links_of-links.result in
    let long : length links ≡ 128 = search rules in
    let behind : take (128 - (c.loop-k.k + 1)) (drop (c.loop-k.k + 1) links) ≡ drop (c.loop-k.k + 1) links = take_all _ _ (rw length-drop (omega (arith, long))) in
    let no : (alone_in (get_or links c.loop-k.k 0) (drop (c.loop-k.k + 1) links) && alone_in (get_or links c.loop-k.k 0) ads) ≡ false = rw (← behind) (sym c.alone.ensures ∙ c.if-not-alone.true) in
    tails_no (λ l later. alone_in l later && alone_in l ads) links c.loop-k.k _ c.loop-k.invariant 0 (search rules) no ∙ ap (λ xs. links_apart xs ads) c.links_of-links.ensures

pub loop-k-preserved : goal.loop-k-preserved
loop-k-preserved c =
    let ads : List ℕ = c.args.addresses.now in
    let links : List ℕ = c.links_of-links.result in
    let long : length links ≡ 128 = search rules in
    let behind : take (128 - (c.loop-k.k + 1)) (drop (c.loop-k.k + 1) links) ≡ drop (c.loop-k.k + 1) links = take_all _ _ (rw length-drop (omega (arith, long))) in
    let yes : (alone_in (get_or links c.loop-k.k 0) (drop (c.loop-k.k + 1) links) && alone_in (get_or links c.loop-k.k 0) ads) ≡ true = rw (← behind) (sym c.alone.ensures ∙ c.if-not-alone.false) in
    tails_yes (λ l later. alone_in l later && alone_in l ads) links c.loop-k.k _ c.loop-k.invariant 0 (search rules) yes

pub returns : goal.returns
returns c =
    tails_end (λ l later. alone_in l later && alone_in l c.args.addresses.now) c.links_of-links.result c.loop-k.k _ c.loop-k.invariant (search rules)
    ∙ ap (λ xs. links_apart xs c.args.addresses.now) c.links_of-links.ensures
