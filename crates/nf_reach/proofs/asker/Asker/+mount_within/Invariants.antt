use Rattle.nf_reach.proofs.asker.Asker.+mount_within.Given as goal

abbrev pub decreases-mount_within : goal.decreases-mount_within
decreases-mount_within l = l.up
