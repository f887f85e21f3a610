-- `octets::row::link_in` meets its contract: six octets of the later 24.
-- Assumes nothing.
use Rattle.octets.proofs.LinkTrip.{slot}
use Rattle.octets.specs.Links.{links_at, links_of}
use Rattle.octets.specs.Row.{row_at}
use Rattle.octets.specs.declared.links.Links.{Links}
use Rattle.std.proofs.Common.{◌≡◌, ◌∙◌, ◌+◌, ap, get_or, sym}
use Rattle.octets.proofs.row.link_in.Goals as goal

pub returns-then-j-lt-SLOTS : goal.returns-then-j-lt-SLOTS
unfolding row_at
returns-then-j-lt-SLOTS c =
    let a = c.args in
    let here : (row_at a.at a.s.now).links ≡ links_at (a.at + 24) a.s.now = rw (← c.has_row.ensures, c.if-has_row.true) in
    c.six.ensures ∙ slot (a.at + 24) a.s.now a.j c.if-j-lt-SLOTS.true ∙ ap (λ (ls : Links). get_or (links_of ls) a.j 0) (sym here)
