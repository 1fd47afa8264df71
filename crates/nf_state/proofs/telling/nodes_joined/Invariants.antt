use Rattle.std.proofs.Common.{◌≡◌, take}
use Rattle.nf_state.specs.Current.{nodes_joined}
use Rattle.nf_state.proofs.telling.nodes_joined.Given as goal

-- those of the deeds so far
abbrev pub invariant-loop-deed : goal.invariant-loop-deed
invariant-loop-deed l = l.count ≡ nodes_joined (take l.deed-index l.deeds)
