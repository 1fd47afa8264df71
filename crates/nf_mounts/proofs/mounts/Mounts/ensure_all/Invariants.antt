use Rattle.std.proofs.Common.{◌≡◌, ◌++◌, ◌+◌, ◌≤◌, map, drop, length}
use Rattle.nf_access.specs.Mounts.{ensured_all}
use Rattle.nf_mounts.proofs.mounts.Mounts.ensure_all.Given as goal

-- with what is ensured of the nodes that are left, they are all
abbrev pub invariant-loop-node : goal.invariant-loop-node
invariant-loop-node l =
    (l.rows.items ++ ensured_all l.people.users l.tree.rows (map (λ node. (l.user, node)) (drop l.node-index l.nodes)) l.self.rows
    ≡ ensured_all l.people.users l.tree.rows (map (λ node. (l.user, node)) l.nodes) l.initial.self.rows)
    × (length l.self.rows ≤ length l.initial.self.rows + l.node-index)
