use Rattle.std.proofs.Common.{◌≡◌, ◌++◌, map, take}
use Rattle.nf_base.specs.declared.rows.Row.TheVariants.{Node}
use Rattle.nf_state.proofs.tables.push_nodes.Given as goal

-- those of the nodes so far
abbrev pub invariant-loop-node : goal.invariant-loop-node
invariant-loop-node l = l.list ≡ l.initial.list ++ map Node (take l.node-index l.nodes)
