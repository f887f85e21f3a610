-- `bench::trace::put_link` meets its contract: nothing, or a blank and the address behind it.
-- Assumes nothing.
use Rattle.bench.proofs.Puts.{hex_length}
use Rattle.bench.specs.Trace.{link_text}
use Rattle.octets.proofs.Le.{length_octets}
use Rattle.octets.proofs.Stores.{then}
use Rattle.octets.specs.Field.{octets}
use borrow.Author.Tests.{eq-eqb, ne_eqb}
use mathlib.Core.Path.{refl}
use native.Mathlib.Omega.{arith}
use Rattle.bench.proofs.trace.put_link.Goals as goal

pub returns-then-link-eq0 : goal.returns-then-link-eq0
unfolding link_text
returns-then-link-eq0 c = rw (eq-eqb _ _ c.if-link-eq0.true) (omega arith, record { is = refl })

pub returns : goal.returns
unfolding link_text
returns c =
    let a = c.args.link in
    let h = hex_length (octets 6 a) in
    let k = length_octets 6 a in
    let e = c.put_hex_address.ensures.0 in
    rw (ne_eqb _ _ c.if-link-eq0.false) (omega arith, then c.put_octet.ensures c.put_hex_address.ensures.1 (omega arith))
