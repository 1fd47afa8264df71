use Rattle.std.proofs.Common.{◌+◌, ◌-◌, ◌<◌, ◌≡◌, ◌==◌, List, Some, length, get_or, map, ap, subst, sym, ◌∙◌, arith}
use Rattle.std.specs.List.{position}
use Rattle.std.proofs.lemmas.List.{length-set}
use Rattle.nf_base.specs.Content.{size_of}
use Rattle.nf_base.specs.declared.rows.NodeRow.{NodeRow}
use Rattle.nf_charge.proofs.Positions.{no_row}
use Rattle.nf_charge.proofs.Totaling.{totals_removed}
use Rattle.nf_defs.specs.Tree.{is_leaf, trashed}
use Rattle.nf_tree.specs.Held.{Held}
use Rattle.nf_tree.specs.Order.{LacksOnly, lowered}
use Rattle.nf_tree.proofs.Removed.{leaf_held, lowered_index, no_leaf_held, removed_tree}
use Rattle.nf_tree.proofs.Trees.{counted_there, node_within}
use Rattle.nf_tree.proofs.Weights.{leaf_leads, leaf_sums, sums_lifted}
use Rattle.nf_tree.proofs.tree.Tree.purge_leaf.Goals as goal

pub leave-requires-clause-there : goal.leave-requires-clause-there
leave-requires-clause-there c =
    let there = sym c.in-Some.is ∙ c.index_of.ensures in
    let same = c.deref.ensures.value ∙ sym c.deref-in-Some.ensures.value in
    subst (λ (rows : List NodeRow). c.in-Some.at < length rows) same (node_within c.deref.result.now c.in-Some.at c.args.leaf no_row there)

pub leave-requires-clause-few : goal.leave-requires-clause-few
leave-requires-clause-few c = let long = ap length c.deref-in-Some.ensures.value in omega (arith, long, c.self.invariant.0.fits, c.self.invariant.0.few)

pub remove-requires : goal.remove-requires
remove-requires c =
    let rows = c.self.inside.rows.items in
    let at = c.in-Some.at in
    let there : Some at ≡ position (λ (row : NodeRow). row.id == c.args.leaf) rows = rw c.deref.ensures.value at (sym c.in-Some.is ∙ c.index_of.ensures) in
    let within = node_within rows at c.args.leaf no_row there in
    let left = sums_lifted rows at c.args.leaf c.deref-in-Some.result.now c.leave.new.self.sums c.deref-in-Some.ensures.value there c.leave.ensures.sums in
    omega (arith, left.weighed.long, length-set rows at (trashed (get_or rows at no_row)), within)

pub invariant_of-self : goal.invariant_of-self
invariant_of-self c =
    let rows = c.self.inside.rows.items in
    let at = c.in-Some.at in
    let row = c.remove-row.result in
    let there : Some at ≡ position (λ (row : NodeRow). row.id == c.args.leaf) rows = rw c.deref.ensures.value at (sym c.in-Some.is ∙ c.index_of.ensures) in
    let within = node_within rows at c.args.leaf row there in
    let lacks = subst (λ list. LacksOnly list c.take.new.order.items at) c.deref-in-Some-2.ensures.value c.take.ensures.lacks in
    let counted = counted_there rows at row within c.remove-row.ensures.value in
    let sums : c.self.inside.pieces - c.pieces_of.result + length row.content ≡ c.self.inside.pieces = omega (arith, counted, c.pieces_of.ensures.count, c.self.invariant.0.counted) in
    let is = ap (λ (h : Held). is_leaf h.rows c.args.leaf) c.self.view_is ∙ c.requires in
    let left = sums_lifted rows at c.args.leaf c.deref-in-Some.result.now c.leave.new.self.sums c.deref-in-Some.ensures.value there c.leave.ensures.sums in
    let taken =
    rw (ap (λ (row : NodeRow). row.owner) c.row.view_is, c.size.ensures ∙ ap (λ (row : NodeRow). size_of row.content) c.row.view_is) at c.take-in-Some.ensures in
    rw (
      c.remove-row.ensures.items,
      c.lower.ensures.order,
      c.remove-row.ensures.capacity,
      c.lower.ensures.room,
      c.take.ensures.room,
      c.remove.ensures.room,
      c.leave.ensures.room,
      c.remove.ensures.sums,
    ) (
      removed_tree rows at row c.self.inside.order.items (map (lowered at) c.take.new.order.items) c.self.inside.pieces (c.self.inside.pieces - c.pieces_of.result) c.self.inside.room
          c.self.invariant.0 within c.remove-row.ensures.value sums (lowered_index rows at within c.take.new.order.items lacks),
      c.self.invariant.1,
      leaf_leads rows c.args.leaf at c.self.invariant.0.rising c.self.invariant.2 is there,
      leaf_sums rows c.args.leaf at c.self.invariant.0.rising c.self.invariant.2 is there
          c.self.inside.sums.sums c.leave.new.self.sums c.self.invariant.3 left,
      totals_removed rows at row c.self.inside.totals c.take-in-Some.new.self within c.remove-row.ensures.value c.self.invariant.4 taken,
    )

pub returns-in-Some : goal.returns-in-Some
returns-in-Some c =
    let rows = c.self.inside.rows.items in
    let there : Some c.in-Some.at ≡ position (λ (row : NodeRow). row.id == c.args.leaf) rows = rw c.deref.ensures.value at (sym c.in-Some.is ∙ c.index_of.ensures) in
    rw c.remove-row.ensures.items (leaf_held c.args.self.now rows c.self.inside.room c.args.leaf c.in-Some.at c.self.view_is c.self.invariant.0.rising c.requires there)

pub returns-in_default : goal.returns-in_default
returns-in_default c =
    let same = c.deref.ensures.value ∙ ap (λ (h : Held). h.rows) c.self.view_is in
    no_leaf_held c.args.self.now c.args.leaf c.requires (rw same at (sym c.in_default.is ∙ c.index_of.ensures))
