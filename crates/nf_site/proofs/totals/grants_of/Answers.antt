use Rattle.std.proofs.Common.{◌∙◌, List, ap, arith, length}
use Rattle.std.proofs.lemmas.List.{take_all}
use Rattle.nf_access.specs.Access.{by_chains}
use Rattle.nf_base.specs.declared.rows.NodeRow.{NodeRow}
use Rattle.nf_defs.specs.declared.Seeker.TheVariants.{User}
use Rattle.nf_site.specs.Totals.{grants_in}
use Rattle.nf_site.proofs.Few.{one_node}
use Rattle.nf_site.proofs.totals.grants_of.Goals as goal

pub loop-node-preserved : goal.loop-node-preserved
loop-node-preserved c =
    let same = ap (λ (n : NodeRow). length (by_chains c.args.base.now (User c.args.user) n.id)) c.node.view_is in
    one_node c.args.base.now c.args.user c.nodes-nodes.result.now c.loop-node.node-index c.loop-node.count c.len.result c.node-item.result
    c.loop-node-test.true c.node-item.is
    (omega (arith, c.len.ensures, ap length c.in_ok-grants.ensures, c.in_ok-grants.field-0.ok.0, same)) c.requires c.loop-node.invariant

pub returns-clause-count : goal.returns-clause-count
returns-clause-count c =
    c.loop-node.invariant.0
    ∙ ap (λ (nodes : List NodeRow). grants_in c.args.base.now nodes c.args.user)
    (take_all c.loop-node.node-index c.nodes-nodes.result.now c.loop-node-test.false ∙ c.nodes-nodes.ensures.rows)
