-- `table::records::places::look` meets its contract: the place, or none.
-- Assumes nothing.
use Rattle.peer.specs.Record.{free_of}
use borrow.Author.Rules.{rules}
use lib.ListN.{length}
use mathlib.Core.Path.{◌∙◌, ◌≡◌, sym}
use native.Mathlib.Omega.{arith}
use lib.ListN.{get_or-eq_default}
use Rattle.table.proofs.records.places.look.Goals as goal

pub returns-else-i-lt32 : goal.returns-else-i-lt32
returns-else-i-lt32 c =
    let long : length c.args.t ≡ 32 = search rules in
    c.free.ensures ∙ sym (get_or-eq_default c.args.t free_of (omega arith))
