use Rattle.std.proofs.Common.{arith}
use Rattle.nf_mounts.proofs.Naming.{taken_beside}
use Rattle.nf_mounts.proofs.mounts.Mounts.is_taken_beside.Goals as goal

pub returns-then-is_some : goal.returns-then-is_some
returns-then-is_some c =
    rw (
      taken_beside c.args.people.now.users c.args.tree.now.rows c.args.self.now.rows c.args.user c.args.node c.args.name.now,
      ← c.child_in_root.ensures,
    ) (grind arith)

pub returns-else-is_some : goal.returns-else-is_some
returns-else-is_some c =
    rw (
      taken_beside c.args.people.now.users c.args.tree.now.rows c.args.self.now.rows c.args.user c.args.node c.args.name.now,
      ← c.child_in_root.ensures,
      ← c.at_but.ensures,
    ) (grind arith)
