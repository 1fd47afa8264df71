use Rattle.std.proofs.Common.{List, subst, sym}
use Rattle.std.specs.List.{All}
use Rattle.std.proofs.lemmas.Result.{err_from_is_err_and}
use Rattle.nf_rows.specs.Spelling.{Fits, Raw}
use Rattle.nf_site.specs.Kept.{Kept}
use Rattle.nf_desk.specs.Opened.{AreUnread}
use Rattle.nf_desk.specs.Opening.{AreSpelled}
use Rattle.nf_desk.proofs.Loadings.{are_none, are_some, first_fit, may_have, opens_first, opens_loaded, unbuilt_fault, unread_fault}
use Rattle.nf_desk.proofs.loading.site_over.Goals.{in-Kept, in-Fresh2}
use Rattle.nf_desk.proofs.loading.site_over.Goals as goal

pub returns-then-is_empty-clause-ok : goal.returns-then-is_empty-clause-ok
returns-then-is_empty-clause-ok g c = elim c.match-opening-4.branch [
  | in-Kept w ↦ rw w.result-is tt
  | in-Fresh2 w ↦ rw (w.result-is, w.keeper-is)
      (opens_first c.args.opening (g.K.Keeper.told c.args.keeper.now) (g.K.Keeper.told c.load.new.self) (g.K.Keeper.told w.begin.new.keeper)
      c.in_ok-raws.raws w.in-Fresh.first w.begin.result
      (are_none c.in_ok-raws.raws c.rows.result.now c.is_empty.result c.is_empty.ensures c.rows.ensures c.if-is_empty.true)
      c.in_ok-raws.ensures.rows c.in_ok-raws.ensures.rising c.in_ok-raws.ensures.same w.in-Fresh.is w.begin.ensures.ok w.begin.ensures.made)
]

pub returns-then-is_empty-clause-fit : goal.returns-then-is_empty-clause-fit
returns-then-is_empty-clause-fit g c = elim c.match-opening-4.branch [
  | in-Kept w ↦ rw w.result-is tt
  | in-Fresh2 w ↦ rw w.result-is (first_fit w.in-Fresh.first w.begin.result w.begin.ensures.ok w.begin.ensures.fits)
]

pub returns-clause-ok : goal.returns-clause-ok
returns-clause-ok g c =
    opens_loaded c.args.opening (g.K.Keeper.told c.args.keeper.now) (g.K.Keeper.told c.load.new.self) c.in_ok-raws.raws
    c.in_ok-rows-in-Either.rows c.in_ok-build-in-Either.field-0.kept
    (are_some c.in_ok-raws.raws c.rows.result.now c.is_empty.result c.is_empty.ensures c.rows.ensures c.if-is_empty.false)
    c.in_ok-raws.ensures.rows c.in_ok-raws.ensures.rising c.in_ok-raws.ensures.same (may_have c.args.opening c.in-Either.is)
    (subst (λ (raws : List Raw). AreSpelled raws c.in_ok-rows-in-Either.rows) c.rows-in-Either.ensures c.in_ok-rows-in-Either.ensures)
    c.in_ok-build-in-Either.ensures.1

pub returns-clause-fit : goal.returns-clause-fit
returns-clause-fit g c =
    subst (λ (k : Kept). All Fits k.opening) (sym c.in_ok-build-in-Either.ensures.1) c.in_ok-rows-in-Either.ensures.fit

pub returns-in_err-rows-in-Either-clause-err : goal.returns-in_err-rows-in-Either-clause-err
returns-in_err-rows-in-Either-clause-err g c =
    let p = err_from_is_err_and c.from_residual-in_err-rows-in-Either.result c.from_residual-in_err-rows-in-Either.ensures.1 in
    rw (p.1, p.2)
    (unread_fault c.args.opening (g.K.Keeper.told c.args.keeper.now) c.in_ok-raws.raws c.in_err-rows-in-Either.field-0.0
    (may_have c.args.opening c.in-Either.is) c.in_ok-raws.ensures.rows c.in_ok-raws.ensures.rising
    (subst (λ (raws : List Raw). AreUnread raws c.in_err-rows-in-Either.field-0.0) c.rows-in-Either.ensures c.in_err-rows-in-Either.ensures))

pub returns-in_err-build-in-Either-clause-err : goal.returns-in_err-build-in-Either-clause-err
returns-in_err-build-in-Either-clause-err g c =
    let p = err_from_is_err_and c.from_residual-in_err-build-in-Either.result c.from_residual-in_err-build-in-Either.ensures.1 in
    rw (p.1, p.2)
    (unbuilt_fault c.args.opening (g.K.Keeper.told c.args.keeper.now) c.in_ok-raws.raws c.in_ok-rows-in-Either.rows
    c.in_err-build-in-Either.field-0.0
    (are_some c.in_ok-raws.raws c.rows.result.now c.is_empty.result c.is_empty.ensures c.rows.ensures c.if-is_empty.false)
    (may_have c.args.opening c.in-Either.is) c.in_ok-raws.ensures.rows c.in_ok-raws.ensures.rising
    (subst (λ (raws : List Raw). AreSpelled raws c.in_ok-rows-in-Either.rows) c.rows-in-Either.ensures c.in_ok-rows-in-Either.ensures)
    c.in_err-build-in-Either.ensures)
