use Rattle.std.proofs.Common.{◌+◌, ◌-◌, length}
use Rattle.nf_access.specs.Mounts.{names_in_root}
use Rattle.nf_base.proofs.FreeNames.{AreTakenBelow}
use Rattle.nf_mounts.proofs.mounts.Mounts.free_in_root.Given as goal

abbrev pub invariant-loop-free : goal.invariant-loop-free
invariant-loop-free l = AreTakenBelow l.name (names_in_root l.people.users l.tree.rows l.self.rows l.user) l.number

abbrev pub decreases-loop-free : goal.decreases-loop-free
decreases-loop-free l = length (names_in_root l.people.users l.tree.rows l.self.rows l.user) + 3 - l.number
