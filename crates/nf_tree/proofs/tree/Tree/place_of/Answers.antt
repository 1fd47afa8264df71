use Rattle.std.proofs.Common.{ap, subst, sym, ◌∙◌}
use Rattle.std.specs.Prelude.{IsSome}
use Rattle.nf_defs.specs.Tree.{node_row}
use Rattle.nf_tree.specs.Held.{Held}
use Rattle.nf_charge.proofs.Positions.{is_there}
use Rattle.nf_tree.proofs.tree.Tree.place_of.Goals as goal

pub unwrap-requires : goal.unwrap-requires
unwrap-requires c =
    let view = ap (λ (h : Held). h.rows) c.self.view_is in
    subst IsSome (sym c.index_of.ensures)
    (is_there c.deref.result.now c.args.node (subst (λ rows. IsSome (node_row rows c.args.node)) (sym (c.deref.ensures.value ∙ view)) c.requires))
