use Rattle.nf_shares.proofs.shares.Shares.+mask_within.Given as goal

abbrev pub decreases-mask_within : goal.decreases-mask_within
decreases-mask_within l = l.most
