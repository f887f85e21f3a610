-- `table::rules::link::may_link` meets its contract: each answer by the tests that led to it and what its callees ensure.
-- Assumes nothing.
use Rattle.table.proofs.Octets.HostLaws.{may_link_by, named_few}
use Rattle.table.specs.Places.{addresses_of}
use mathlib.Core.Path.{◌∙◌, sym}
use native.Mathlib.Omega.{arith}
use Rattle.table.proofs.rules.link.may_link.Goals as goal

pub returns-then-not-may_name : goal.returns-then-not-may_name
returns-then-not-may_name g c =
    let a = c.args in
    let t = g.T.Lookup.records a.t in
    λ l. sym (may_link_by a.s t (addresses_of t) a.at a.named.now c.may_name.result (c.may_name.ensures ∙ rw (c.find_link.ensures l, c.device_in.ensures)) ∙ rw c.if-not-may_name.true)

pub returns-then-count-gt4 : goal.returns-then-count-gt4
returns-then-count-gt4 g c =
    let a = c.args in
    let t = g.T.Lookup.records a.t in
    λ l. absurd (omega (arith, c.if-count-gt4.true, c.count_in-count.ensures, named_few a.s t (addresses_of t) a.at a.named.now (sym (c.may_name.ensures ∙ rw (c.find_link.ensures l, c.device_in.ensures)) ∙ c.if-not-may_name.false)))

pub returns : goal.returns
returns g c =
    let a = c.args in
    let t = g.T.Lookup.records a.t in
    λ l. c.links_allowed.ensures l ∙ rw (c.count_in-count.ensures, c.links_in.ensures) (sym (may_link_by a.s t (addresses_of t) a.at a.named.now c.may_name.result (c.may_name.ensures ∙ rw (c.find_link.ensures l, c.device_in.ensures)) ∙ rw c.if-not-may_name.false))
