use Rattle.bench.proofs.text.+put_tens.Given as goal

abbrev pub decreases-put_tens : goal.decreases-put_tens
decreases-put_tens l = l.k
