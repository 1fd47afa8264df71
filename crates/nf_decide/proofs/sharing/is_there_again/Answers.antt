use Rattle.nf_decide.proofs.Offered.{any_found}
use Rattle.nf_access.specs.Making.{is_again}
use Rattle.std.proofs.Common.{ap, ◌∙◌, is_some, Option, ℕ}
use Rattle.nf_decide.proofs.sharing.is_there_again.Goals as goal

pub returns : goal.returns
returns c =
    c.is_some.ensures ∙ ap (λ (o : Option ℕ). is_some o) c.again.ensures
    ∙ any_found (is_again c.args.row.now c.args.now) c.args.shares.now.rows
