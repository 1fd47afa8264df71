use Rattle.std.proofs.Common.{sym, ◌∙◌}
use Rattle.nf_base.specs.declared.rows.ShareRow.{ShareRow}
use Rattle.nf_defs.proofs.Climbs.{under_leaf}
use Rattle.nf_shares.specs.Kept.{ended_where}
use Rattle.nf_shares.proofs.shares.Shares.end_under.Goals as goal

pub returns-then-is_leaf-clause-rows : goal.returns-then-is_leaf-clause-rows
returns-then-is_leaf-clause-rows c =
    let leaf = sym c.is_leaf.ensures ∙ c.if-is_leaf.true in
    c.end_on.ensures.rows ∙ sym (λ t. ended_where (λ (row : ShareRow). under_leaf c.args.tree.now.rows row.node c.args.top leaf t) c.args.self.now.rows)
