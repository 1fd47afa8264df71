use Rattle.nf_grants.proofs.OnNodes.{by_entries}
use Rattle.nf_grants.proofs.ground.Ground.entries.Goals as goal

pub returns : goal.returns
returns c who =
    rw (← c.self.view_is)
    (by_entries
    (record { members = c.self.inside.people.now.members; nodes = c.self.inside.tree.now.rows; shares = c.self.inside.shares.now.rows })
    who c.args.node c.entries.result.now c.entries.ensures.rising c.entries.ensures.numbers)
