-- `bench::packet::keep` meets its contract: one step of many, or what is left and the frame.
-- Assumes nothing.
use Rattle.bench.specs.Import.{head_of, record_of, written_of}
use Rattle.bench.specs.Importer.{kept_front}
use Rattle.octets.specs.Field.{octets}
use borrow.Author.Tests.{le-ltb, lt-ltb}
use mathlib.Core.Path.{refl}
use native.Mathlib.Omega.{arith}
use Rattle.bench.proofs.packet.keep.Goals as goal

pub returns-then-n-gt65535 : goal.returns-then-n-gt65535
unfolding kept_front written_of record_of head_of octets
returns-then-n-gt65535 c =
    rw (lt-ltb _ _ c.if-n-gt65535.true)
    (record {
      state = rw c.paid.ensures;
      taken = refl;
      wants = refl;
      out = omega arith;
      put = c.put_step.ensures;
    })

pub returns : goal.returns
unfolding kept_front
returns c =
    rw (le-ltb _ _ c.if-n-gt65535.false)
    (record {
      state = rw (c.paid-2.ensures, c.counted.ensures);
      taken = refl;
      wants = refl;
      out = c.put_rest-end.ensures.0;
      put = c.put_rest-end.ensures.1;
    })
