use Rattle.std.proofs.Common.{◌≡◌, ◌<◌, ◌≤◌, ◌++◌, ◌∷◌, List, [], length, ap, subst, sym, ◌∙◌, arith}
use Rattle.std.specs.List.{All}
use Rattle.nf_base.specs.Content.{size_of}
use Rattle.nf_base.specs.declared.limits.TheConstants.{MAX_PIECES}
use Rattle.nf_base.specs.declared.rows.NodeRow.{NodeRow}
use Rattle.std.proofs.lemmas.List.{length_push}
use Rattle.nf_charge.proofs.Totaling.{totals_pushed}
use Rattle.nf_charge.specs.Sums.{AreSums, LeadUp}
use Rattle.nf_tree.specs.Held.{Held}
use Rattle.nf_tree.specs.Order.{IsIndex, LacksOnly, AreRisingNodes}
use Rattle.nf_tree.proofs.Orders.{pushed}
use Rattle.nf_tree.proofs.Trees.{added, rising_push, pieces_few}
use Rattle.nf_tree.proofs.tree.Tree.add.Goals as goal

pub overflow_add-self : goal.overflow_add-self
overflow_add-self c = omega (arith, pieces_few _ _ _ _ c.self.invariant.0, c.pieces_of.ensures.few)

pub put-requires-clause-rising : goal.put-requires-clause-rising
put-requires-clause-rising c =
    let view = ap (λ (h : Held). h.rows) c.self.view_is in
    let newest = subst (λ rows. All (λ (older : NodeRow). older.id < c.args.row.id) rows) (sym view) c.requires.newest in
    subst AreRisingNodes (sym (c.deref.ensures.value ∙ c.push_reserved.ensures.items)) (rising_push c.self.inside.rows.items c.args.row c.self.invariant.0.rising newest)

pub put-requires-clause-lacks : goal.put-requires-clause-lacks
put-requires-clause-lacks c =
    let at : c.len-last.result ≡ length c.self.inside.rows.items = omega (arith, c.len-last.ensures, c.self.inside.rows.ok) in
    subst (λ rows. LacksOnly rows c.self.inside.order.items c.len-last.result) (sym (c.deref.ensures.value ∙ c.push_reserved.ensures.items))
    (subst (λ k. LacksOnly (c.self.inside.rows.items ++ c.args.row ∷ []) c.self.inside.order.items k) (sym at) (pushed c.self.inside.rows.items c.args.row c.self.inside.order.items c.self.invariant.0.index))

pub put-requires-clause-room : goal.put-requires-clause-room
put-requires-clause-room c =
    let view = ap (λ (h : Held). length h.rows) c.self.view_is in
    let room = ap (λ (h : Held). h.room) c.self.view_is in
    omega (arith, view, room, c.self.invariant.0.index.long, c.requires.room, c.self.invariant.1.in_order, c.self.inside.order.ok)

pub push-requires-clause-room : goal.push-requires-clause-room
push-requires-clause-room c =
    let view = ap (λ (h : Held). length h.rows) c.self.view_is in
    let room = ap (λ (h : Held). h.room) c.self.view_is in
    omega (arith, view, room, c.self.invariant.3.weighed.long, c.requires.room, c.self.invariant.1.in_sums)

pub push-requires-clause-rising : goal.push-requires-clause-rising
push-requires-clause-rising c =
    let view = ap (λ (h : Held). h.rows) c.self.view_is in
    let newest = subst (λ rows. All (λ (older : NodeRow). older.id < c.args.row.id) rows) (sym view) c.requires.newest in
    subst AreRisingNodes (sym (c.deref-2.ensures.value ∙ c.push_reserved.ensures.items))
    (rising_push c.self.inside.rows.items c.args.row c.self.invariant.0.rising newest)

pub push-requires-clause-few : goal.push-requires-clause-few
push-requires-clause-few c =
    let view = ap (λ (h : Held). length h.rows) c.self.view_is in
    let room = ap (λ (h : Held). h.room) c.self.view_is in
    let long = ap length (c.deref-2.ensures.value ∙ c.push_reserved.ensures.items) ∙ length_push c.self.inside.rows.items c.args.row in
    omega (arith, view, room, long, c.requires.room, c.self.invariant.0.few)

pub push-requires-clause-leads : goal.push-requires-clause-leads
push-requires-clause-leads c =
    let same = c.deref-2.ensures.value ∙ c.push_reserved.ensures.items ∙ ap (λ (h : Held). h.rows ++ c.args.row ∷ []) c.self.view_is in
    subst LeadUp (sym same) c.requires.leads

pub push-requires-clause-sums : goal.push-requires-clause-sums
push-requires-clause-sums c =
    (c.self.inside.rows.items, c.args.row, c.deref-2.ensures.value ∙ c.push_reserved.ensures.items, c.self.invariant.2, c.self.invariant.3)

pub invariant_of-self : goal.invariant_of-self
invariant_of-self c =
    let view = ap (λ (h : Held). h.rows) c.self.view_is in
    let room = ap (λ (h : Held). h.room) c.self.view_is in
    let newest = subst (λ rows. All (λ (older : NodeRow). older.id < c.args.row.id) rows) (sym view) c.requires.newest in
    let fits : length c.self.inside.rows.items < c.self.inside.room = omega (arith, ap length view, room, c.requires.room) in
    let index = subst (λ rows. IsIndex rows c.put.new.order.items) (c.deref.ensures.value ∙ c.push_reserved.ensures.items) c.put.ensures.index in
    let few = subst (λ n. n ≤ MAX_PIECES) c.pieces_of.ensures.count c.pieces_of.ensures.few in
    let leads = subst (λ rows. LeadUp (rows ++ c.args.row ∷ [])) (sym view) c.requires.leads in
    let sums = subst (λ (rows : List NodeRow). AreSums rows c.push.new.self.sums)
    (c.deref-2.ensures.value ∙ c.push_reserved.ensures.items) c.push.ensures.sums in
    let added_totals =
    rw (ap (λ (row : NodeRow). row.owner) c.row.view_is, c.size.ensures ∙ ap (λ (row : NodeRow). size_of row.content) c.row.view_is) at c.add.ensures in
    rw (c.push_reserved.ensures.items, c.push_reserved.ensures.capacity, c.put.ensures.room, c.pieces_of.ensures.count, c.push.ensures.room) (
      added c.self.inside.rows.items c.args.row c.self.inside.order.items c.put.new.order.items c.self.inside.pieces c.self.inside.room
          c.self.invariant.0 fits newest few index,
      c.self.invariant.1,
      leads,
      sums,
      totals_pushed c.self.inside.rows.items c.args.row c.self.inside.totals c.add.new.self c.self.invariant.4 added_totals,
    )
