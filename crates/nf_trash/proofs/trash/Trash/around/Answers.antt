use Rattle.std.proofs.Common.{◌==◌}
use Rattle.std.proofs.lemmas.List.Kept.{AllPairs-filter}
use Rattle.nf_defs.proofs.Puts.{Below}
use Rattle.nf_trash.specs.Aged.{age_key}
use Rattle.nf_trash.proofs.Around.{around_but, around_with, users_own}
use Rattle.nf_trash.proofs.trash.Trash.around.Goals as goal

pub of_user-aged-requires : goal.of_user-aged-requires
of_user-aged-requires c = rw c.deref.ensures.value c.self.invariant.rising

pub count_to-requires-clause-rising : goal.count_to-requires-clause-rising
count_to-requires-clause-rising c =
    rw c.of_user-aged.ensures
    (AllPairs-filter (Below age_key) (λ one. one.owner == c.args.item.now.owner) c.deref.result.now (rw c.deref.ensures.value c.self.invariant.rising))

pub count_to-requires-clause-own : goal.count_to-requires-clause-own
count_to-requires-clause-own c = rw c.of_user-aged.ensures (users_own c.deref.result.now c.args.item.now.owner)

pub returns-clause-with : goal.returns-clause-with
returns-clause-with c =
    rw (c.split_at.ensures.front, c.split_at.ensures.back, c.count_to.ensures.older, c.count_to.ensures.newer, c.of_user-aged.ensures, c.deref.ensures.value, ← c.self.view_is)
    (around_with c.self.inside.items.rows c.self.inside.aged.items c.self.invariant c.args.item.now)

pub returns-clause-but : goal.returns-clause-but
returns-clause-but c found =
    rw (c.split_at.ensures.front, c.split_at.ensures.back, c.count_to.ensures.older, c.count_to.ensures.newer, c.of_user-aged.ensures, c.deref.ensures.value, ← c.self.view_is)
    (around_but c.self.inside.items.rows c.self.inside.aged.items c.self.invariant c.args.item.now (rw (← c.self.view_is) at found))
