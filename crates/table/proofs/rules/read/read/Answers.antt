-- `table::rules::read::read` meets its contract: the frames that come most at once, any other by its case.
-- Assumes nothing.
use Rattle.octets.proofs.Branch.{tests}
use Rattle.table.specs.Read.{read_of}
use Rattle.table.proofs.rules.read.read.Goals as goal

pub returns-in-Misfit : goal.returns-in-Misfit
unfolding read_of
returns-in-Misfit c = search (tests, c.in-Misfit.is, ← c.measure-shape.ensures)

pub returns-in-Classless : goal.returns-in-Classless
unfolding read_of
returns-in-Classless c = search (tests, c.in-Classless.is, ← c.measure-shape.ensures)

pub returns-in-Bare : goal.returns-in-Bare
unfolding read_of
returns-in-Bare c = search (tests, ← c.read_bare.ensures, c.in-Bare.is, ← c.measure-shape.ensures)

pub returns-in-Full : goal.returns-in-Full
unfolding read_of
returns-in-Full c = search (tests, ← c.read_full.ensures, c.in-Full.is, ← c.measure-shape.ensures)
