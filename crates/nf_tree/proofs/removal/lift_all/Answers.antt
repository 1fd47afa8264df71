use Rattle.std.proofs.Common.{◌+◌, ℕ, List, ◌∷◌, drop, length, ap, subst, sym, ◌∙◌, arith}
use Rattle.std.proofs.lemmas.List.{drop_more, drop_all}
use Rattle.nf_base.specs.declared.rows.NodeRow.{NodeRow}
use Rattle.nf_charge.specs.Sums.{LeadUp}
use Rattle.nf_tree.specs.Order.{AreRisingNodes, all_lifted}
use Rattle.nf_tree.proofs.Tops.{one_leads, one_long, one_rising}
use Rattle.nf_tree.proofs.removal.lift_all.Goals as goal

pub loop-top-preserved : goal.loop-top-preserved
loop-top-preserved c =
    let i = c.loop-top.invariant in
    let rows = c.loop-top.rows.items in
    let top = c.top-item.result in
    let tops = c.args.tops.now in
    let at = c.loop-top.top-index in
    let rest = ap (all_lifted rows) (drop_more tops at top c.loop-top-test.true ∙ ap (λ (t : ℕ). t ∷ drop (at + 1) tops) (sym c.top-item.is)) in
    let long = one_long rows top i.rising i.leads in
    record {
      rising = subst AreRisingNodes (sym c.lift.ensures.rows) (one_rising rows top i.rising i.leads);
      leads = subst LeadUp (sym c.lift.ensures.rows) (one_leads rows top i.rising i.leads);
      sums = c.lift.ensures.sums;
      lifted = ap (λ (list : List NodeRow). all_lifted list (drop (at + 1) tops)) c.lift.ensures.rows ∙ sym rest ∙ i.lifted;
      long = let e = ap length c.lift.ensures.rows in omega (arith, e, long, i.long, c.lift.new.rows.ok, c.loop-top.rows.ok);
      rows_room = c.lift.ensures.rows_room ∙ i.rows_room;
      sums_room = c.lift.ensures.sums_room ∙ i.sums_room;
    }

pub returns-clause-rows : goal.returns-clause-rows
returns-clause-rows c =
    let i = c.loop-top.invariant in
    sym (ap (all_lifted c.loop-top.rows.items) (drop_all c.loop-top.top-index c.args.tops.now (omega arith))) ∙ i.lifted
