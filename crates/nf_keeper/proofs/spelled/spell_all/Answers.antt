use Rattle.std.proofs.Common.{◌∷◌, [], subst, take, arith}
use Rattle.std.proofs.lemmas.List.{map-append, take_more}
use Rattle.std.proofs.lemmas.List.Elements.{All-more}
use Rattle.nf_told.specs.Told.{FitsChange}
use Rattle.nf_keeper.specs.Spelled.{spelled_change}
use Rattle.nf_keeper.proofs.spelled.spell_all.Goals as goal

pub loop-change-preserved : goal.loop-change-preserved
loop-change-preserved c =
    let all = c.args.changes.now in
    let i = c.loop-change.change-index in
    let change = c.change-item.result in
    let more = take_more all i change (omega arith) in
    let mapped = map-append spelled_change (take i all) (change ∷ []) in
    record {
      spelled = cc (more, mapped, c.in_ok-push.ensures.items, c.in_ok-spell.ensures.spelled, c.change-item.is, c.loop-change.invariant.spelled);
      fits = All-more FitsChange all i change (omega arith) c.loop-change.invariant.fits (subst FitsChange c.change-item.is c.in_ok-spell.ensures.fits);
    }
