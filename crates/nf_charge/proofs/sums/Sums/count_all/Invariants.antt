use Rattle.std.proofs.Common.{◌≡◌}
use Rattle.nf_charge.proofs.Counting.{AreCounted}
use Rattle.nf_charge.proofs.sums.Sums.count_all.Given as goal

abbrev pub invariant-loop-at : goal.invariant-loop-at
invariant-loop-at l = AreCounted l.rows l.at l.folder l.bytes l.self.sums × (l.self.room ≡ l.fn.self.room)
