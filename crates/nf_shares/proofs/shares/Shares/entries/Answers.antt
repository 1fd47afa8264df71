use Rattle.nf_shares.proofs.Indexes.{front_numbers}
use Rattle.nf_shares.proofs.shares.Shares.entries.Goals as goal

pub returns-clause-numbers : goal.returns-clause-numbers
returns-clause-numbers c =
    rw (← c.self.view_is, c.front.ensures)
    (front_numbers (λ node. node) (λ row. row.node) c.self.inside.by_node.rows c.self.inside.rows.rows c.args.node c.self.invariant.nodes)
