use Rattle.nf_grants.proofs.ground.Ground.+standing.Given as goal

abbrev pub decreases-standing : goal.decreases-standing
decreases-standing l = l.above
