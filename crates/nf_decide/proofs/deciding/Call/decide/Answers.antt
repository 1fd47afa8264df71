use Rattle.std.proofs.Common.{sym, ◌∙◌}
use Rattle.nf_decide.proofs.Late.{allowed_late, few, refused_late}
use Rattle.nf_decide.proofs.deciding.Call.decide.Goals as goal

pub returns-in-Some : goal.returns-in-Some
returns-in-Some c =
    refused_late c.args.self.now c.in-Some.refusal c.in-Ok.ensures.judged (sym c.in-Some.is ∙ c.in_ok-refusal.ensures)

pub allowed-requires-clause-few : goal.allowed-requires-clause-few
allowed-requires-clause-few c = few c.args.self.now (sym c.in-None.is ∙ c.in_ok-refusal.ensures)

pub returns-in_ok-allowed-in-None : goal.returns-in_ok-allowed-in-None
returns-in_ok-allowed-in-None c =
    allowed_late c.args.self.now c.in_ok-allowed-in-None.field-0 c.in-Ok.ensures.judged (sym c.in-None.is ∙ c.in_ok-refusal.ensures)
    c.in_ok-allowed-in-None.ensures
