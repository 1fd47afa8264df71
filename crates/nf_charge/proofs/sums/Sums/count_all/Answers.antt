use Rattle.std.proofs.Common.{ℕ, None, arith, ◌∙◌, ◌≡◌, subst, sym, ap, length}
use Rattle.std.proofs.lemmas.Bool.{eqb-true, not-false}
use Rattle.nf_defs.specs.Tree.{folder_of}
use Rattle.nf_charge.specs.Held.{Held}
use Rattle.nf_charge.proofs.Counting.{AreCounted, counted_all, counted_fits, counted_more, counted_room, counted_run, counted_turn, same_folder}
use Rattle.nf_charge.proofs.sums.Sums.count_all.Goals as goal
use Rattle.nf_charge.proofs.sums.Sums.count_all.Goals.{Joined-ne, then-ne, else-ne}

-- where a run may have ended, what is lacking is of the row's folder
turned : (c : Joined-ne) → AreCounted c.args.rows.now c.loop-at.at c.if-ne.folder c.if-ne.bytes c.if-ne.self.sums
    × (c.if-ne.folder ≡ folder_of c.row.inside.place) × (c.if-ne.self.room ≡ c.args.self.now.room)
turned c = elim c.if-ne.branch [
  | then-ne w ↦
      (let above : c.if-ne.folder ≡ folder_of c.row.inside.place = w.folder-is ∙ c.folder_of-here.ensures in
      let ended = counted_run c.args.rows.now c.loop-at.at c.loop-at.folder c.loop-at.bytes c.loop-at.self.sums w.count_run.new.self.sums
      c.loop-at.invariant.0 w.count_run.ensures.sums w.count_run.ensures.none in
      let next = counted_turn c.args.rows.now c.loop-at.at c.if-ne.folder _ c.index-rows-at.result w.count_run.new.self.sums ended
      c.requires.rising c.requires.leads c.loop-at-test.true (c.row.view_is ∙ c.index-rows-at.is) above in (
        rw (w.self-is, w.bytes-is) next,
        above,
        ap (λ (s : Held). s.room) w.self-is ∙ w.count_run.ensures.room ∙ c.loop-at.invariant.1,
      ))
  | else-ne w ↦
      (let same : c.loop-at.folder ≡ c.folder_of-here.result =
      same_folder _ _ _ (λ a b is. eqb-true a b is) (not-false _ (sym c.ne.ensures ∙ w.if-ne.false)) in (
        rw (w.self-is, w.bytes-is, w.folder-is) c.loop-at.invariant.0,
        w.folder-is ∙ same ∙ c.folder_of-here.ensures,
        ap (λ (s : Held). s.room) w.self-is ∙ c.loop-at.invariant.1,
      ))
]

pub count_run-requires-clause-fits : goal.count_run-requires-clause-fits
count_run-requires-clause-fits c =
    counted_fits c.args.rows.now c.loop-at.at c.loop-at.folder c.loop-at.bytes c.loop-at.self.sums c.loop-at.invariant.0 (omega arith) c.requires.few

pub overflow_add-index_mut : goal.overflow_add-index_mut
overflow_add-index_mut c =
    let counted = (turned (goal.at.overflow_add-index_mut c).Joined-ne).0 in
    let same = subst (λ (s : Held). AreCounted c.args.rows.now c.loop-at.at c.if-ne.folder c.if-ne.bytes s.sums) (sym c.self.view_is) counted in
    let room = counted_room c.args.rows.now c.loop-at.at c.if-ne.folder c.if-ne.bytes c.from-own.result c.index_mut.result.now c.self.inside.sums.items
    same c.loop-at-test.true c.requires.few (omega (arith, c.size.type_inv, c.from-own.ensures)) c.index_mut.ensures.value in
    omega (arith, room)

pub loop-at-preserved : goal.loop-at-preserved
loop-at-preserved c =
    let joined = turned (goal.at.loop-at-preserved c).Joined-ne in
    let same = subst (λ (s : Held). AreCounted c.args.rows.now c.loop-at.at c.if-ne.folder c.if-ne.bytes s.sums) (sym c.self.view_is) joined.0 in (
      counted_more c.args.rows.now c.loop-at.at c.if-ne.folder c.if-ne.bytes c.from-own.result c.index_mut.result.now _
          c.index-rows-at.result c.self.inside.sums.items same c.requires.rising c.requires.leads c.loop-at-test.true (c.row.view_is ∙ c.index-rows-at.is) joined.1 (c.from-own.ensures ∙ c.size.ensures)
          (omega (arith, c.size.type_inv, c.from-own.ensures)) c.index_mut.ensures.value,
      ap (λ (s : Held). s.room) c.self.view_is ∙ joined.2,
    )

pub count_run-requires-2-clause-fits : goal.count_run-requires-2-clause-fits
count_run-requires-2-clause-fits c =
    counted_fits c.args.rows.now c.loop-at.at c.loop-at.folder c.loop-at.bytes c.loop-at.self.sums c.loop-at.invariant.0 (omega arith) c.requires.few

pub returns-clause-sums : goal.returns-clause-sums
returns-clause-sums c =
    let all : c.loop-at.at ≡ length c.args.rows.now = omega arith in
    let counted = counted_run c.args.rows.now c.loop-at.at c.loop-at.folder c.loop-at.bytes c.loop-at.self.sums c.count_run-2.new.self.sums
    c.loop-at.invariant.0 c.count_run-2.ensures.sums c.count_run-2.ensures.none in
    counted_all c.args.rows.now c.count_run-2.new.self.sums (subst (λ (n : ℕ). AreCounted c.args.rows.now n None 0 c.count_run-2.new.self.sums) all counted)
