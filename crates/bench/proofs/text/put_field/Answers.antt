-- `bench::text::put_field` meets its contract: the number and a blank behind it.
-- Assumes nothing.
use Rattle.bench.proofs.Digits.{tens_length}
use Rattle.bench.specs.Text.{field_of}
use Rattle.octets.proofs.Stores.{then}
use lib.ListN.{length-append}
use native.Mathlib.Omega.{arith}
use Rattle.bench.proofs.text.put_field.Goals as goal

pub put_octet-requires : goal.put_octet-requires
unfolding field_of
put_octet-requires c = omega (arith, tens_length c.args.k c.args.n, c.put_tens-next.ensures.0)

pub overflow_add-result : goal.overflow_add-result
unfolding field_of
overflow_add-result c = omega (arith, tens_length c.args.k c.args.n, c.put_tens-next.ensures.0)

pub returns : goal.returns
unfolding field_of
returns c =
    let e = c.put_tens-next.ensures.0 in
    (simp length-append (omega arith), then c.put_tens-next.ensures.1 c.put_octet.ensures (omega arith))
