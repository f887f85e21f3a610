-- `table::rules::link::links_allowed` meets its contract: what holds from the link reached on holds at all.
-- Assumes nothing.
use Rattle.octets.specs.Links.{links_of}
use Rattle.table.proofs.Passes.Loops.{tails_end, tails_no, tails_yes}
use Rattle.table.specs.Link.{link_allowed}
use Rattle.table.specs.Places.{addresses_of, find_link_of, find_of}
use lib.ListN.{take}
use lib.Seq.{get_or-take, length-take-le}
use mathlib.Core.Path.{◌∙◌, refl, sym}
use Rattle.table.proofs.rules.link.links_allowed.Goals as goal

pub loop-j-init : goal.loop-j-init
loop-j-init g c = λ e. refl

pub loop-j-preserved : goal.loop-j-preserved
loop-j-preserved g c =
    let a = c.args in
    let t = g.T.Lookup.records a.t in
    λ e. tails_yes (λ l ls. link_allowed a.s a.at (find_of (addresses_of t) l) (find_link_of t l) l) (take a.count (links_of a.links)) c.loop-j.j _ (c.loop-j.invariant e) 0 (rw (length-take-le a.count (links_of a.links) c.requires) c.loop-j-test.true) (rw (get_or-take a.count (links_of a.links) c.loop-j.j 0 c.loop-j-test.true, ← c.at-l.ensures, ← c.find.ensures, ← c.find_link.ensures e) (sym c.link_allowed.ensures ∙ c.if-not-link_allowed.false))

pub returns-then-not-link_allowed : goal.returns-then-not-link_allowed
returns-then-not-link_allowed g c =
    let a = c.args in
    let t = g.T.Lookup.records a.t in
    λ e. tails_no (λ l ls. link_allowed a.s a.at (find_of (addresses_of t) l) (find_link_of t l) l) (take a.count (links_of a.links)) c.loop-j.j _ (c.loop-j.invariant e) 0 (rw (length-take-le a.count (links_of a.links) c.requires) c.loop-j-test.true) (rw (get_or-take a.count (links_of a.links) c.loop-j.j 0 c.loop-j-test.true, ← c.at-l.ensures, ← c.find.ensures, ← c.find_link.ensures e) (sym c.link_allowed.ensures ∙ c.if-not-link_allowed.true))

pub returns : goal.returns
returns g c =
    let a = c.args in
    let t = g.T.Lookup.records a.t in
    λ e. tails_end (λ l ls. link_allowed a.s a.at (find_of (addresses_of t) l) (find_link_of t l) l) (take a.count (links_of a.links)) c.loop-j.j _ (c.loop-j.invariant e) (rw (length-take-le a.count (links_of a.links) c.requires) c.loop-j-test.false)
