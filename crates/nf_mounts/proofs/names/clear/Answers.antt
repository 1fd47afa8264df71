use Rattle.std.proofs.Common.{sym, ◌∙◌}
use Rattle.nf_mounts.proofs.Keys.{by_key}
use Rattle.nf_mounts.proofs.Puts.{cleared_none, cleared_some}
use Rattle.nf_mounts.proofs.names.clear.Goals as goal

pub returns-in-Some-clause-cleared : goal.returns-in-Some-clause-cleared
returns-in-Some-clause-cleared c =
    let rows = c.args.rows.now.rows in
    let found = sym (by_key rows c.args.user c.args.node) ∙ sym c.in-Some.ensures in
    rw (c.drop.ensures.rows, c.of.ensures) (cleared_some c.args.index.now.rows rows c.args.user c.args.node c.requires c.in-Some.row.now found)

pub returns-in_default-clause-cleared : goal.returns-in_default-clause-cleared
returns-in_default-clause-cleared c =
    let rows = c.args.rows.now.rows in
    cleared_none c.args.index.now.rows rows c.args.user c.args.node c.requires (sym (by_key rows c.args.user c.args.node) ∙ sym (rw c.in_default.is at c.find.ensures))
