use Rattle.std.proofs.Common.{◌<◌, ◌≡◌, List, length, set, ap, subst, sym, ◌∙◌, arith}
use Rattle.std.proofs.lemmas.List.{length-set}
use Rattle.nf_base.specs.declared.rows.NodeRow.{NodeRow}
use Rattle.nf_charge.specs.Sums.{AreSums, IsLifted, LeadUp}
use Rattle.nf_charge.proofs.Positions.{no_row}
use Rattle.nf_charge.proofs.Totaling.{totals_moved}
use Rattle.nf_defs.specs.Tree.{trashed, with_node}
use Rattle.nf_tree.specs.Held.{Held}
use Rattle.nf_tree.specs.Order.{AreRisingNodes, IsIndex, LacksOnly, placed}
use Rattle.nf_tree.proofs.Orders.{changed}
use Rattle.nf_tree.proofs.Trees.{moved_tree, node_within, changed_held, changed_rows, rising_moved}
use Rattle.nf_tree.proofs.Weights.{lifted, lifted_set, sums_set}
use Rattle.nf_tree.proofs.tree.Tree.place.Goals as goal

pub leave-requires-clause-there : goal.leave-requires-clause-there
leave-requires-clause-there c =
    let there = rw (← ap (λ (h : Held). h.rows) c.self.view_is) at c.place_of-at.ensures in
    subst (λ rows. c.place_of-at.result < length rows) (sym c.deref.ensures.value)
    (node_within c.self.inside.rows.items c.place_of-at.result c.args.node no_row there)

pub leave-requires-clause-few : goal.leave-requires-clause-few
leave-requires-clause-few c = let long = ap length c.deref.ensures.value in omega (arith, long, c.self.invariant.0.fits, c.self.invariant.0.few)

pub put-requires-clause-rising : goal.put-requires-clause-rising
put-requires-clause-rising c =
    let there = rw (← ap (λ (h : Held). h.rows) c.self.view_is) at c.place_of-at.ensures in
    subst AreRisingNodes (sym c.deref-3.ensures.value)
    (rising_moved c.self.inside.rows.items c.place_of-at.result c.place.new.row c.index_mut.result.now c.self.invariant.0.rising
    (node_within c.self.inside.rows.items c.place_of-at.result c.args.node no_row there)
    c.index_mut.ensures.value (ap (λ (row : NodeRow). row.id) c.place.ensures))

pub put-requires-clause-lacks : goal.put-requires-clause-lacks
put-requires-clause-lacks c =
    let lacks = subst (λ rows. LacksOnly rows c.take.new.order.items c.place_of-at.result) c.deref-2.ensures.value c.take.ensures.lacks in
    rw c.deref-3.ensures.value (changed c.self.inside.rows.items c.place.new.row c.take.new.order.items c.place_of-at.result lacks)

pub enter-requires-clause-there : goal.enter-requires-clause-there
enter-requires-clause-there c =
    let there = rw (← ap (λ (h : Held). h.rows) c.self.view_is) at c.place_of-at.ensures in
    let within = node_within c.self.inside.rows.items c.place_of-at.result c.args.node no_row there in
    let long = ap length c.deref-4.ensures.value ∙ length-set c.self.inside.rows.items c.place_of-at.result c.place.new.row in
    omega (arith, within, long)

pub enter-requires-clause-rising : goal.enter-requires-clause-rising
enter-requires-clause-rising c =
    let there = rw (← ap (λ (h : Held). h.rows) c.self.view_is) at c.place_of-at.ensures in
    subst AreRisingNodes (sym c.deref-4.ensures.value)
    (rising_moved c.self.inside.rows.items c.place_of-at.result c.place.new.row c.index_mut.result.now c.self.invariant.0.rising
    (node_within c.self.inside.rows.items c.place_of-at.result c.args.node no_row there)
    c.index_mut.ensures.value (ap (λ (row : NodeRow). row.id) c.place.ensures))

pub enter-requires-clause-few : goal.enter-requires-clause-few
enter-requires-clause-few c =
    let long = ap length c.deref-4.ensures.value ∙ length-set c.self.inside.rows.items c.place_of-at.result c.place.new.row in
    omega (arith, long, c.self.invariant.0.fits, c.self.invariant.0.few)

pub enter-requires-clause-leads : goal.enter-requires-clause-leads
enter-requires-clause-leads c =
    let rows = c.self.inside.rows.items in
    let same : set rows c.place_of-at.result c.place.new.row ≡ with_node c.args.self.now.rows c.args.node (placed c.args.place c.args.name) =
    changed_rows _ _ _ _ _ _ _ (ap (λ (h : Held). h.rows) c.self.view_is) c.place_of-at.ensures c.index_mut.ensures.value c.place.ensures in
    subst LeadUp (sym (c.deref-4.ensures.value ∙ same)) c.requires.leads

pub enter-requires-clause-sums : goal.enter-requires-clause-sums
enter-requires-clause-sums c =
    let rows = c.self.inside.rows.items in
    let at = c.place_of-at.result in
    let row = c.place.new.row in
    let old = c.index_mut.result.now in
    let there = rw (← ap (λ (h : Held). h.rows) c.self.view_is) at c.place_of-at.ensures in
    let within = node_within rows at c.args.node old there in
    let lift = lifted rows at row old within c.index_mut.ensures.value
    (ap (λ (r : NodeRow). r.id) c.place.ensures) (ap (λ (r : NodeRow). r.content) c.place.ensures) in
    let left = subst (λ list. (row : NodeRow) → IsLifted list at row → AreSums (set list at row) c.leave.new.self.sums)
    c.deref.ensures.value c.leave.ensures.sums (trashed row) lift in
    (trashed row, rw c.deref-4.ensures.value (lifted_set rows at row within), rw c.deref-4.ensures.value (sums_set rows at row c.leave.new.self.sums left))

pub invariant_of-self : goal.invariant_of-self
invariant_of-self c =
    let rows = c.self.inside.rows.items in
    let at = c.place_of-at.result in
    let old = c.index_mut.result.now in
    let there = rw (← ap (λ (h : Held). h.rows) c.self.view_is) at c.place_of-at.ensures in
    let index = subst (λ list. IsIndex list c.put.new.order.items) c.deref-3.ensures.value c.put.ensures.index in
    let same : set rows at c.place.new.row ≡ with_node c.args.self.now.rows c.args.node (placed c.args.place c.args.name) =
    changed_rows _ _ _ _ _ _ _ (ap (λ (h : Held). h.rows) c.self.view_is) c.place_of-at.ensures c.index_mut.ensures.value c.place.ensures in
    rw (c.put.ensures.room, c.take.ensures.room, c.enter.ensures.room, c.leave.ensures.room) (
      moved_tree rows at c.place.new.row old c.self.inside.order.items c.put.new.order.items c.self.inside.pieces c.self.inside.room
          c.self.invariant.0 (node_within rows at c.args.node old there) c.index_mut.ensures.value
          (ap (λ (row : NodeRow). row.id) c.place.ensures) (ap (λ (row : NodeRow). row.content) c.place.ensures) index,
      c.self.invariant.1,
      subst LeadUp (sym same) c.requires.leads,
      subst (λ (list : List NodeRow). AreSums list c.enter.new.self.sums) c.deref-4.ensures.value c.enter.ensures.sums,
      totals_moved rows at c.place.new.row old c.self.inside.totals (node_within rows at c.args.node old there) c.index_mut.ensures.value
          (ap (λ (row : NodeRow). row.owner) c.place.ensures) (ap (λ (row : NodeRow). row.content) c.place.ensures) c.self.invariant.4,
    )

pub returns : goal.returns
returns c = changed_held _ _ _ _ _ _ _ _ c.self.view_is c.place_of-at.ensures c.index_mut.ensures.value c.place.ensures
