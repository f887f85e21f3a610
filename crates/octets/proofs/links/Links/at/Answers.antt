-- `octets::links::Links::at` meets its contract: one slot after the other.
-- Assumes nothing.
use Rattle.octets.proofs.LinkTrip.{no_slot}
use native.Mathlib.Omega.{arith}
use Rattle.octets.proofs.links.Links.at.Goals as goal

pub returns-in_default : goal.returns-in_default
returns-in_default c = no_slot c.args.self c.args.j (omega (arith, c.in_default.in_default-own.rest))
