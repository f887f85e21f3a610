-- `find_link` of `table::host::seek::Lent` meets its contract: where no record has links, and of 0, none is found.
-- Assumes nothing.
use Rattle.table.proofs.Walks.LinkLists.{find_unlinked}
use Rattle.table.specs.Places.{find_link_of}
use borrow.Author.Tests.{eq-eqb, ne_eqb}
use mathlib.Core.Path.{◌∙◌, sym}
use Rattle.table.proofs.host.seek.LentLookup.find_link.Goals as goal
use Rattle.table.proofs.host.seek.LentLookup.find_link.Goals.{else-self-via-then-self+else-address-ne0, else-self-via-else-self}

pub returns-then-address-ne0 : goal.returns-then-address-ne0
unfolding find_link_of
returns-then-address-ne0 c = λ e. rw (ne_eqb _ _ c.if-address-ne0.true) c.first_link.ensures

pub returns-else-self : goal.returns-else-self
unfolding find_link_of
returns-else-self c = λ e.
    elim c.else-self.branch [
      | else-self-via-then-self+else-address-ne0 w ↦ rw (eq-eqb _ _ w.if-address-ne0.false)
      | else-self-via-else-self w ↦ sym (find_unlinked _ _ (sym e ∙ w.if-self.false))
    ]
