use Rattle.std.proofs.Common.{◌≡◌, ◌≤◌, take}
use Rattle.nf_base.specs.declared.limits.TheConstants.{MAX_DEPTH}
use Rattle.nf_words.specs.Limits.{deepest}
use Rattle.nf_deeds.proofs.limits.deepest.Given as goal

-- that of the nodes so far
abbrev pub invariant-loop-node : goal.invariant-loop-node
invariant-loop-node l = (l.deep ≡ deepest l.tree.rows (take l.node-index l.nodes)) × (l.deep ≤ MAX_DEPTH)
