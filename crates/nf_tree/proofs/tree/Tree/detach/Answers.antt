use Rattle.std.proofs.Common.{ap, subst, sym}
use Rattle.std.specs.Prelude.{IsSome}
use Rattle.nf_charge.specs.Sums.{LeadUp}
use Rattle.nf_defs.specs.Tree.{node_row, trashed, with_node}
use Rattle.nf_tree.specs.Held.{Held}
use Rattle.nf_tree.proofs.Weights.{leads_trashed}
use Rattle.nf_tree.proofs.tree.Tree.detach.Goals as goal

pub place-requires-clause-leads : goal.place-requires-clause-leads
place-requires-clause-leads c =
    let view = ap (λ (h : Held). h.rows) c.self.view_is in
    let there = subst (λ rows. IsSome (node_row rows c.args.node)) (sym view) c.requires in
    subst (λ rows. LeadUp (with_node rows c.args.node trashed)) view
    (leads_trashed c.self.inside.rows.items c.args.node c.self.invariant.0.rising c.self.invariant.2 there)
