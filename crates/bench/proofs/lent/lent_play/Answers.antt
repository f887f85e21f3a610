-- `bench::lent::lent_play` meets its contract: refused where the settings do not fit, else by what `lend` ensures, lent 256 zeros.
-- Assumes nothing.
use mathlib.Core.Path.{◌∙◌, sym}
use Rattle.table.proofs.Octets.KnownLaws.{unfit_ill}
use Rattle.bench.specs.Play.{zeros}
use Rattle.bench.proofs.Events.{room_small}
use Rattle.bench.proofs.LentStep.{ill_steps, well_steps}
use Rattle.bench.proofs.lent.lent_play.Goals as goal

pub returns-then-not-fit : goal.returns-then-not-fit
returns-then-not-fit c = λ f w.
    let a = c.args in
    let i = ill_steps a.s a.t a.e a.frame.now zeros (unfit_ill a.s a.t (sym f ∙ c.if-not-fit.true)) (room_small a.e) in
    (i.0, c.refusal.ensures ∙ i.1, i.2)

pub returns : goal.returns
returns c = λ f w.
    let a = c.args in
    well_steps a.s a.t a.e a.frame.now zeros (w (sym f ∙ c.if-not-fit.false)) _ _ c.lend-r.ensures
