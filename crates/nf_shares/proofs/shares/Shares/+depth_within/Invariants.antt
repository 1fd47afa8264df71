use Rattle.nf_shares.proofs.shares.Shares.+depth_within.Given as goal

abbrev pub decreases-depth_within : goal.decreases-depth_within
decreases-depth_within l = l.most
