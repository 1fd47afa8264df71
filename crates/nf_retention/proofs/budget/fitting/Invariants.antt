use Rattle.std.proofs.Common.{◌≡◌, ◌+◌, take, sum}
use Rattle.nf_retention.proofs.budget.fitting.Given as goal

-- so many so far, and what they leave of the bound
abbrev pub invariant-loop-size : goal.invariant-loop-size
invariant-loop-size l = record {
  sofar : l.count ≡ l.size-index;
  spent : sum (take l.size-index l.sizes) + l.left ≡ l.bound;
}
