use Rattle.std.proofs.Common.{◌≡◌, OnOk, subst}
use Rattle.matchit.specs.Rows.{RowsOf}
use Rattle.matchit.specs.Router.{RouteOf}
use Rattle.nf_routes.specs.Rows.{inserted}
use Rattle.nf_routes.specs.declared.mounts.Mount.{Mount}
use Rattle.nf_routes.proofs.Inserts.{added}
use Rattle.nf_routes.proofs.mounts.add_more.Goals as goal

pub returns : goal.returns
returns c =
    subst (λ (old : RowsOf (RouteOf Mount)). OnOk c.insert.result (c.insert.new.self ≡ inserted c.args.route.now c.args.mount old)) c.in_ok-add_words.ensures
    (added c.insert.result _ _ _ _ c.insert.ensures)
