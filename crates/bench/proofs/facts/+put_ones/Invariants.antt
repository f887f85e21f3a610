use Rattle.bench.proofs.facts.+put_ones.Given as goal

abbrev pub decreases-put_ones : goal.decreases-put_ones
decreases-put_ones l = l.n
