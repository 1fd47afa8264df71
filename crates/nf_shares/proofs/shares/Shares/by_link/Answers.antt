use Rattle.std.proofs.Common.{None, Some, option_copied, ap, ◌∙◌}
use Rattle.nf_shares.proofs.Indexes.{linked_row}
use Rattle.nf_shares.proofs.shares.Shares.by_link.Goals as goal

pub returns-in_err-id : goal.returns-in_err-id
returns-in_err-id c =
    let first = rw (← c.self.view_is, c.front.ensures, c.of.ensures) at c.in_err-id.ensures in
    ap option_copied c.from_residual.ensures
    ∙ rw (← c.self.view_is) (linked_row c.self.inside.rows.rows c.self.inside.by_token.rows c.args.token.now c.self.invariant.tokens None first)

pub returns : goal.returns
returns c =
    let first = rw (← c.self.view_is, c.front.ensures, c.of.ensures) at c.in_ok-id.ensures in
    c.row.ensures
    ∙ rw (← c.self.view_is) (linked_row c.self.inside.rows.rows c.self.inside.by_token.rows c.args.token.now c.self.invariant.tokens (Some c.in_ok-id.id) first)
