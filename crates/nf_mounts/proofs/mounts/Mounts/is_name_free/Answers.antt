use Rattle.std.proofs.Common.{arith}
use Rattle.nf_access.proofs.Naming.{taken_in_root}
use Rattle.nf_mounts.proofs.mounts.Mounts.is_name_free.Goals as goal

pub returns-then-is_none : goal.returns-then-is_none
returns-then-is_none c =
    rw (
      taken_in_root c.args.people.now.users c.args.tree.now.rows c.args.self.now.rows c.args.user c.args.name.now,
      ← c.child_in_root.ensures,
      ← c.at.ensures,
    ) (grind arith)

pub returns-else-is_none : goal.returns-else-is_none
returns-else-is_none c =
    rw (
      taken_in_root c.args.people.now.users c.args.tree.now.rows c.args.self.now.rows c.args.user c.args.name.now,
      ← c.child_in_root.ensures,
    ) (grind arith)
