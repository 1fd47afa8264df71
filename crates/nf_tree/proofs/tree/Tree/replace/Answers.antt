use Rattle.std.proofs.Common.{◌==◌, ◌<◌, ◌≡◌, length, set, ap, subst, sym, refl, ◌∙◌, arith}
use Rattle.std.proofs.lemmas.List.{get_or_read}
use Rattle.nf_base.specs.Content.{size_of}
use Rattle.nf_base.specs.declared.rows.NodeRow.{NodeRow}
use Rattle.nf_charge.specs.Sums.{AreSums, IsRefill}
use Rattle.nf_charge.proofs.Positions.{no_row}
use Rattle.nf_defs.specs.Tree.{content_of, is_file}
use Rattle.nf_tree.specs.Held.{Held}
use Rattle.nf_defs.proofs.Lookups.{find_there}
use Rattle.nf_charge.proofs.Totaling.{totals_set}
use Rattle.nf_charge.proofs.Leading.{leads_filled}
use Rattle.nf_tree.proofs.Trees.{changed_tree, changed_held, node_within, counted_there, same_index, pieces_few, file_row, content_row}
use Rattle.nf_tree.proofs.Weights.{refills}
use Rattle.nf_tree.proofs.tree.Tree.replace.Goals as goal

pub refill-old-requires : goal.refill-old-requires
refill-old-requires c =
    let view = ap (λ (h : Held). h.rows) c.self.view_is in
    let there = find_there (λ (row : NodeRow). row.id == c.args.file) _ c.place_of-at.result c.index_mut.result.now (rw (← view) at c.place_of-at.ensures) c.index_mut.ensures.value in
    file_row _ c.args.file _ there (ap (λ rows. is_file rows c.args.file) view ∙ c.requires)

pub overflow_add-self : goal.overflow_add-self
overflow_add-self c =
    let few = pieces_few _ _ _ _ c.self.invariant.0 in
    let more = rw (← c.pieces-more.ensures.pieces) at c.pieces-more.ensures.kept.few in
    omega arith

pub change-requires-clause-there : goal.change-requires-clause-there
change-requires-clause-there c =
    let there = rw (← ap (λ (h : Held). h.rows) c.self.view_is) at c.place_of-at.ensures in
    subst (λ rows. c.place_of-at.result < length rows) (sym c.deref.ensures.value)
    (node_within c.self.inside.rows.items c.place_of-at.result c.args.file no_row there)

pub change-requires-clause-few : goal.change-requires-clause-few
change-requires-clause-few c = let long = ap length c.deref.ensures.value in omega (arith, long, c.self.invariant.0.fits, c.self.invariant.0.few)

pub invariant_of-self : goal.invariant_of-self
invariant_of-self c =
    let rows = c.self.inside.rows.items in
    let at = c.place_of-at.result in
    let old = c.index_mut.result.now in
    let row = c.refill-old.new.row in
    let is = c.index_mut.ensures.value in
    let there = rw (← ap (λ (h : Held). h.rows) c.self.view_is) at c.place_of-at.ensures in
    let within = node_within rows at c.args.file old there in
    let counted = counted_there rows at old within is in
    let new = c.refill-old.ensures.row in
    let fill = refills rows at row old c.args.content c.args.changed c.size-bytes.result within is new c.size-bytes.ensures in
    let index = same_index rows at row old c.self.inside.order.items within is (rw new refl) c.self.invariant.0.index in
    let sums = subst (λ list. (row : NodeRow) → IsRefill list at row c.size-bytes.result → AreSums (set list at row) c.change.new.self.sums)
    c.deref.ensures.value c.change.ensures.sums row fill in
    let was = c.index-row.result.now in
    let same : old ≡ was = get_or_read rows at old within is was ∙ sym c.index-row.ensures in
    let replaced =
    rw (ap (λ (row : NodeRow). row.owner) c.row.view_is, c.size.ensures ∙ ap (λ (row : NodeRow). size_of row.content) c.row.view_is) at c.replace.ensures in
    rw (c.pieces.ensures.pieces, c.refill-old.ensures.content, c.pieces-more.ensures.pieces, c.change.ensures.room) (
      changed_tree rows at row old c.self.inside.order.items c.self.inside.order.items c.self.inside.pieces _ c.self.inside.room
          c.self.invariant.0 within is (rw new refl) (rw new c.pieces-more.ensures.kept.few)
          (let long = ap (λ (row : NodeRow). length row.content) new in omega (arith, counted, long, c.self.invariant.0.counted)) index,
      c.self.invariant.1,
      leads_filled rows at row c.size-bytes.result c.self.invariant.0.rising c.self.invariant.2 within fill,
      sums,
      totals_set rows at row was c.size-bytes.result c.self.inside.totals c.replace.new.self within c.index-row.ensures
          (ap (λ (row : NodeRow). row.owner) new ∙ ap (λ (row : NodeRow). row.owner) same)
          (ap (λ (row : NodeRow). size_of row.content) new ∙ sym c.size-bytes.ensures) c.self.invariant.4 replaced,
    )

pub returns-clause-rows : goal.returns-clause-rows
returns-clause-rows c = changed_held _ _ _ _ _ _ _ _ c.self.view_is c.place_of-at.ensures c.index_mut.ensures.value c.refill-old.ensures.row

pub returns-clause-content : goal.returns-clause-content
returns-clause-content c =
    let view = ap (λ (h : Held). h.rows) c.self.view_is in
    let there = find_there (λ (row : NodeRow). row.id == c.args.file) _ c.place_of-at.result c.index_mut.result.now (rw (← view) at c.place_of-at.ensures) c.index_mut.ensures.value in
    c.refill-old.ensures.content ∙ content_row _ c.args.file _ there ∙ ap (λ rows. content_of rows c.args.file) view
