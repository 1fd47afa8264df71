use Rattle.nf_charge.proofs.sums.+carry.Given as goal

abbrev pub decreases-carry : goal.decreases-carry
decreases-carry l = l.up
