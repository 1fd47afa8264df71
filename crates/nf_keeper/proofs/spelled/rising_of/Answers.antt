use Rattle.std.proofs.Common.{◌≡◌, ◌∷◌, ◌∙◌, List, length, sym, subst, ap, arith}
use Rattle.std.specs.Vec.Iter.{into_iter_items}
use Rattle.nf_defs.proofs.Puts.{put_rising}
use Rattle.nf_rows.specs.Spelling.{Raw}
use Rattle.nf_told.specs.Told.{AreRisingRaws, raw_key}
use Rattle.nf_keeper.specs.Memory.{put_raws}
use Rattle.nf_keeper.proofs.spelled.rising_of.Goals as goal

pub loop-row-preserved : goal.loop-row-preserved
loop-row-preserved c =
    let at = c.loop-row in
    let rest = into_iter_items c.next.new.self in
    let steps : into_iter_items at.row-iterator ≡ c.in-Some.row ∷ rest = c.in-Some.ensures.steps.0 in
    record {
      left = ap (λ (rows : List Raw). put_raws rows rest) c.in_ok-put.ensures.ok
          ∙ ap (λ (rows : List Raw). put_raws at.kept.items rows) (sym steps) ∙ at.invariant.left;
      count = let gone = c.in-Some.ensures.steps.1 in let short = ap length steps in omega (arith, at.invariant.count);
      rising = subst AreRisingRaws (sym c.in_ok-put.ensures.ok) (put_rising raw_key c.in-Some.row at.kept.items at.invariant.rising);
    }
