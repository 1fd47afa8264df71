use Rattle.std.proofs.Common.{◌≡◌, ◌≤◌, ◌*◌, take}
use Rattle.nf_base.specs.declared.limits.TheConstants.{MAX_PIECES}
use Rattle.nf_words.specs.Limits.{pieces_in}
use Rattle.nf_deeds.proofs.limits.pieces_in.Given as goal

-- those of the nodes so far
abbrev pub invariant-loop-node : goal.invariant-loop-node
invariant-loop-node l = (l.count ≡ pieces_in l.tree.rows (take l.node-index l.nodes)) × (l.count ≤ MAX_PIECES * l.node-index)
