use Rattle.std.proofs.Common.{◌≡◌, vec_capacity}
use Rattle.nf_charge.proofs.Counting.{AreBlank}
use Rattle.nf_charge.proofs.sums.Sums.blank.Given as goal

abbrev pub invariant-loop : goal.invariant-loop
invariant-loop l = AreBlank l.index l.self-inside.sums.items × (vec_capacity l.self-inside.sums ≡ l.fn.self.room)
