use Rattle.std.proofs.Common.{◌≡◌, ◌++◌, take}
use Rattle.nf_words.specs.Prelude.{purges}
use Rattle.nf_deeds.proofs.discarding.push_purges.Given as goal

-- those of the nodes so far
abbrev pub invariant-loop-node : goal.invariant-loop-node
invariant-loop-node l = l.deeds.items ≡ l.initial.deeds.items ++ purges (take l.node-index l.nodes)
