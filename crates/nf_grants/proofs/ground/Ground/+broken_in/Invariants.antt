use Rattle.nf_grants.proofs.ground.Ground.+broken_in.Given as goal

abbrev pub decreases-broken_in : goal.decreases-broken_in
decreases-broken_in l = l.above
