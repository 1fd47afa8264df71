use Rattle.std.proofs.Common.{◌≡◌, List, ℕ, OnOk, subst}
use Rattle.nf_routes.specs.Rows.{inserted}
use Rattle.nf_routes.proofs.Inserts.{added}
use Rattle.nf_routes.proofs.mounts.add_words.Goals as goal

pub returns : goal.returns
returns c =
    subst (λ (text : List ℕ). OnOk c.insert.result (c.insert.new.self ≡ inserted text c.args.mount c.args.router.now)) c.words.ensures
    (added c.insert.result _ _ _ _ c.insert.ensures)
