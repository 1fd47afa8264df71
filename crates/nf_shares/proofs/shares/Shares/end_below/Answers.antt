use Rattle.std.proofs.Common.{ap, get_or, sym, ◌∙◌, arith, ◌+◌, ◌≡◌, Bool, suc, List, add-one}
use Rattle.std.specs.Prelude.{ℕ}
use Rattle.nf_base.specs.declared.rows.ShareRow.{ShareRow}
use Rattle.nf_defs.specs.Prelude.{is_under}
use Rattle.nf_shares.proofs.Ending.{ended_until, one_ended, one_kept, row_there}
use Rattle.nf_shares.specs.Kept.{KeptShares}
use Rattle.nf_shares.proofs.shares.Shares.end_below.Goals as goal
use Rattle.nf_shares.proofs.shares.Shares.end_below.Goals.{then-under, else-under}

pub end-requires : goal.end-requires
end-requires c =
    let row = c.index-rows-place.result in
    row_there (λ (row : ShareRow). is_under c.args.tree.now.rows row.node c.args.top) c.args.self.now.rows c.loop-place.self.rows c.loop-place.place row
    (omega arith) c.loop-place.invariant.rows c.rows.ensures.rising
    (c.index-rows-place.is ∙ ap (λ (rows : List ShareRow). get_or rows c.loop-place.place row) c.rows.ensures.rows)

pub loop-place-preserved : goal.loop-place-preserved
loop-place-preserved c =
    let test : (ShareRow → Bool) = λ row. is_under c.args.tree.now.rows row.node c.args.top in
    let row = c.index-rows-place.result in
    let rows = c.loop-place.self.rows in
    let old = c.args.self.now.rows in
    let is : row ≡ get_or rows c.loop-place.place row =
    c.index-rows-place.is ∙ ap (λ (rows : List ShareRow). get_or rows c.loop-place.place row) c.rows.ensures.rows in
    let next : suc c.loop-place.place ≡ c.loop-place.place + 1 = sym (add-one c.loop-place.place) in
    elim c.if-under.branch [
      | then-under w ↦
          record {
            rows = ap (λ (s : KeptShares). s.rows) w.self-is ∙ w.end.ensures.rows
                ∙ one_ended test old rows c.loop-place.place row (omega arith) c.loop-place.invariant.rows c.rows.ensures.rising is
                (sym c.under.ensures ∙ w.if-under.true)
                ∙ ap (λ (i : ℕ). ended_until test i old) next;
            room = ap (λ (s : KeptShares). s.room) w.self-is ∙ w.end.ensures.room ∙ c.loop-place.invariant.room;
          }
      | else-under w ↦
          record {
            rows = ap (λ (s : KeptShares). s.rows) w.self-is
                ∙ one_kept test old rows c.loop-place.place row (omega arith) c.loop-place.invariant.rows c.rows.ensures.rising is
                (sym c.under.ensures ∙ w.if-under.false)
                ∙ ap (λ (i : ℕ). ended_until test i old) next;
            room = ap (λ (s : KeptShares). s.room) w.self-is ∙ c.loop-place.invariant.room;
          }
    ]
