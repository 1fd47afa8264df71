use Rattle.std.proofs.Common.{◌≡◌, ◌-◌, [], ◌∷◌, ◌++◌, take}
use Rattle.std.specs.List.{flat_map}
use Rattle.nf_defs.specs.Tree.{walk_within}
use Rattle.nf_tree.proofs.tree.Tree.+walk.Given as goal

abbrev pub decreases-walk : goal.decreases-walk
decreases-walk l = l.down

-- the node, and what is under the children so far
abbrev pub invariant-loop-child : goal.invariant-loop-child
invariant-loop-child l =
    l.nodes.items ≡ (l.fn.nodes.items ++ l.fn.node ∷ []) ++ flat_map (walk_within (l.down - 1) l.self.rows) (take l.child-index l.child-items)
