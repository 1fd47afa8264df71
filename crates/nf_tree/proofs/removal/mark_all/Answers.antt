use Rattle.std.proofs.Common.{ℕ, ◌≡◌, ◌==◌, List, length, get_or, true, false, subst, sym, ◌∙◌, refl, arith}
use Rattle.std.specs.List.{position}
use Rattle.std.specs.Option.{option_map_or}
use Rattle.std.proofs.lemmas.List.{get_or_default}
use Rattle.nf_base.specs.declared.limits.TheConstants.{MAX_DEPTH}
use Rattle.nf_base.specs.declared.rows.NodeRow.{NodeRow}
use Rattle.nf_defs.specs.Tree.{walk_within}
use Rattle.nf_tree.specs.Order.{AreMarked}
use Rattle.nf_tree.proofs.Marks.{all_tops_marked, none_marked_by, still_marked, walk_marked}
use Rattle.nf_tree.proofs.removal.mark_all.Goals as goal
use Rattle.nf_tree.proofs.removal.mark_all.Goals.{then-not-is_marked, else-not-is_marked}

found_marked : (rows : List NodeRow) (marks read : List ℕ) (node top : ℕ) → read ≡ marks → node ≡ top
    → option_map_or (λ at. get_or read at 0 == length rows) (position (λ row. row.id == node) rows) false ≡ true
    → option_map_or (λ at. get_or marks at 0 == length rows) (position (λ row. row.id == top) rows) false ≡ true
found_marked rows marks read node top same is found = rw (← same, ← is) found

pub loop-top-init : goal.loop-top-init
loop-top-init c = record {
  marked = none_marked_by c.args.rows.now c.args.marks.now.items c.requires.blank (omega (arith, c.requires.long, c.args.marks.now.ok));
  room = refl;
}

pub loop-top-preserved : goal.loop-top-preserved
loop-top-preserved c =
    let rows = c.args.rows.now in
    let tops = c.args.tops.now in
    let at = c.loop-top.top-index in
    let marks = c.loop-top.marks.items in
    let i = c.loop-top.invariant in
    let is : c.top-item.result ≡ get_or tops at 0 = c.top-item.is ∙ get_or_default tops at c.top-item.result 0 c.loop-top-test.true in
    elim c.if-not-is_marked.branch [
      | then-not-is_marked w ↦ rw w.marks-is (record {
        marked = walk_marked rows tops at marks c.requires.leads c.loop-top-test.true i.marked w.mark.new.marks.items c.requires.rising
            (subst (λ node. AreMarked rows (walk_within MAX_DEPTH rows node) marks w.mark.new.marks.items) is w.mark.ensures.marks);
        room = w.mark.ensures.room ∙ i.room;
      })
      | else-not-is_marked w ↦ rw w.marks-is (record {
        marked = still_marked rows tops at marks c.requires.leads c.loop-top-test.true i.marked
            (found_marked rows marks c.deref.result.now c.top-item.result (get_or tops at 0) c.deref.ensures.value is (sym c.is_marked.ensures ∙ w.if-not-is_marked.false));
        room = i.room;
      })
    ]

pub returns-clause-marks : goal.returns-clause-marks
returns-clause-marks c = all_tops_marked c.args.rows.now c.args.tops.now c.loop-top.top-index c.loop-top.marks.items c.loop-top-test.false c.loop-top.invariant.marked
