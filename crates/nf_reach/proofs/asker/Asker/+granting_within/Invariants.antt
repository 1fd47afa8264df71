use Rattle.nf_reach.proofs.asker.Asker.+granting_within.Given as goal

abbrev pub decreases-granting_within : goal.decreases-granting_within
decreases-granting_within l = l.up
