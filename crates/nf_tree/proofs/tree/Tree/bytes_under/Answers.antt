use Rattle.std.proofs.Common.{◌≡◌, ◌==◌, Some, None, ap, sym, ◌∙◌}
use Rattle.std.specs.List.{position}
use Rattle.nf_base.specs.declared.rows.NodeRow.{NodeRow}
use Rattle.nf_charge.specs.Sums.{bytes_under}
use Rattle.nf_tree.specs.Held.{Held}
use Rattle.nf_charge.proofs.Leading.{weighed_absent}
use Rattle.nf_tree.proofs.Weights.{weighed_there}
use Rattle.nf_tree.proofs.tree.Tree.bytes_under.Goals as goal

pub returns-in-Some : goal.returns-in-Some
returns-in-Some c =
    let view = ap (λ (h : Held). bytes_under h.rows c.args.node) c.self.view_is in
    let there : Some c.in-Some.at ≡ position (λ (row : NodeRow). row.id == c.args.node) c.self.inside.rows.items =
    rw c.deref.ensures.value at (sym c.in-Some.is ∙ c.index_of.ensures) in
    c.get.ensures ∙ weighed_there c.self.inside.rows.items c.in-Some.at c.args.node c.self.inside.sums.sums there c.self.invariant.3 ∙ view

pub returns-in-None : goal.returns-in-None
returns-in-None c =
    let view = ap (λ (h : Held). bytes_under h.rows c.args.node) c.self.view_is in
    let absent : None ≡ position (λ (row : NodeRow). row.id == c.args.node) c.self.inside.rows.items =
    rw c.deref.ensures.value at (sym c.in-None.is ∙ c.index_of.ensures) in
    sym (weighed_absent c.self.inside.rows.items c.args.node c.self.invariant.0.rising c.self.invariant.2 absent) ∙ view
