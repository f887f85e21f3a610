-- `table::rules::read::at_once` meets its contract: where all tests are passed, the frame is one of those that come most; else the promise says nothing.
-- Assumes nothing.
use Rattle.octets.specs.Address.{valid_of}
use Rattle.table.proofs.Passes.Commons.{common_read}
use Rattle.table.specs.Common.{common_of}
use Rattle.table.specs.Read.{for_us}
use borrow.Author.Tests.{ne_eqb}
use lib.Dec.{eqb}
use mathlib.Core.Path.{◌∙◌, ap, sym}
use Rattle.table.proofs.rules.read.at_once.Goals as goal

pub returns : goal.returns
returns c =
    let from = c.address_at-from.ensures in
    λ t.
    rw c.if-not-infrastructure.false
    (common_read c.args.frame.now c.if-frame-lt24.false c.if-frame-gt4096.false c.args.own
    (ap common_of (sym c.octet_at.ensures) ∙ sym c.common.ensures ∙ c.if-not-common.false)
    (ap (for_us c.args.own) (sym c.address_at.ensures) ∙ sym c.for_us.ensures ∙ c.if-not-for_us.false)
    (ap (λ a. eqb a c.args.own) (sym from) ∙ ne_eqb _ _ c.if-from-own.false)
    (ap valid_of (sym from) ∙ sym c.valid.ensures ∙ t))
