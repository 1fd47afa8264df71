use Rattle.std.proofs.Common.{◌-◌, ◌≡◌, List, filter, length, ap, subst, ◌∙◌, arith}
use Rattle.nf_base.specs.declared.rows.NodeRow.{NodeRow}
use Rattle.nf_charge.specs.Sums.{AreSums}
use Rattle.nf_charge.specs.Totals.{AreTotals}
use Rattle.nf_defs.specs.Tree.{piece_count}
use Rattle.nf_tree.specs.Order.{AreFates, outstays}
use Rattle.nf_tree.proofs.Fates.{purged}
use Rattle.nf_tree.proofs.Tops.{all_lead, all_left}
use Rattle.nf_tree.proofs.tree.Tree.purge_each.Goals as goal

pub invariant_of-self : goal.invariant_of-self
invariant_of-self c =
    let rows = c.self.inside.rows.items in
    let tops = c.args.tops.now in
    let p = outstays rows tops in
    let fates = c.drop_under.new.fates.items in
    let are : AreFates p rows (length rows) fates = subst (λ n. AreFates p rows n fates) c.self.inside.rows.ok.0 c.drop_under.ensures.fates in
    let rest = c.drop_under.ensures.rows ∙ all_left tops rows c.self.invariant.0.rising c.self.invariant.2 in
    let left = ap piece_count rest in
    let counted : c.self.inside.pieces - c.drop_under.result ≡ piece_count (filter p rows) = omega (arith, left, c.drop_under.ensures.pieces, c.self.invariant.0.counted) in
    let sums = subst (λ (list : List NodeRow). AreSums list c.drop_under.new.sums.sums) c.drop_under.ensures.rows c.drop_under.ensures.sums in
    let totals = subst (λ (list : List NodeRow). AreTotals list c.drop_under.new.totals) c.drop_under.ensures.rows c.drop_under.ensures.totals in
    let order = rw c.deref-2.ensures.value at c.renumber.ensures.order in
    let tree = purged p rows c.self.inside.order.items fates c.self.inside.pieces (c.self.inside.pieces - c.drop_under.result) c.self.inside.room c.self.invariant.0 are counted in
    rw (
      c.drop_under.ensures.rows,
      order,
      c.drop_under.ensures.rows_room,
      c.renumber.ensures.room,
      c.drop_under.ensures.fates_room,
      c.drop_under.ensures.sums_room,
    ) (
      rw (all_left tops rows c.self.invariant.0.rising c.self.invariant.2) tree,
      c.self.invariant.1,
      all_lead tops rows c.self.invariant.0.rising c.self.invariant.2,
      sums,
      totals,
    )
