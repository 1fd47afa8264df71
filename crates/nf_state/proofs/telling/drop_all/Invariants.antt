use Rattle.std.proofs.Common.{◌≡◌, ◌++◌, map, take}
use Rattle.nf_base.specs.declared.changes.Change.TheVariants.{Drop}
use Rattle.nf_base.specs.declared.changes.RowKey.TheVariants.{Node}
use Rattle.nf_state.proofs.telling.drop_all.Given as goal

-- those of the nodes so far
abbrev pub invariant-loop-node : goal.invariant-loop-node
invariant-loop-node l = l.changes ≡ l.initial.changes ++ map (λ node. Drop (Node node)) (take l.node-index l.nodes)
