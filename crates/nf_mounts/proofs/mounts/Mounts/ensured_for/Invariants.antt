use Rattle.std.proofs.Common.{◌≡◌, ◌++◌, map, drop}
use Rattle.nf_access.specs.Mounts.{ensured_all}
use Rattle.nf_mounts.proofs.mounts.Mounts.ensured_for.Given as goal

-- with what the users that are left get, they are all
abbrev pub invariant-loop-user : goal.invariant-loop-user
invariant-loop-user l =
    l.rows.items ++ ensured_all l.people.users l.tree.rows (map (λ user. (user, l.node)) (drop l.user-index l.users)) l.self.rows
    ≡ ensured_all l.people.users l.tree.rows (map (λ user. (user, l.node)) l.users) l.self.rows
