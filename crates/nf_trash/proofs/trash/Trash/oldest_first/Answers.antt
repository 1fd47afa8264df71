use Rattle.nf_trash.proofs.Around.{users_oldest}
use Rattle.nf_trash.proofs.trash.Trash.oldest_first.Goals as goal

pub of_user-requires : goal.of_user-requires
of_user-requires c = rw c.deref.ensures.value c.self.invariant.rising

pub returns : goal.returns
returns c =
    rw (c.of_user.ensures, c.deref.ensures.value, ← c.self.view_is)
    (users_oldest c.self.inside.items.rows c.self.inside.aged.items c.self.invariant c.args.user)
