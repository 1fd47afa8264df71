use Rattle.std.proofs.Common.{sym, ◌∙◌}
use Rattle.nf_decide.proofs.Late.{locked_late, ok_late}
use Rattle.nf_decide.proofs.deciding.Call.late.Goals as goal

pub returns-in-Some : goal.returns-in-Some
returns-in-Some c =
    locked_late c.args.self.now c.args.seen.now.places c.in-Some.refusal c.requires.places (sym c.in-Some.is ∙ c.in_ok-refusal.ensures)

pub returns-in-None : goal.returns-in-None
returns-in-None c =
    ok_late c.args.self.now c.args.seen.now.places c.beyond.result c.requires.places (sym c.in-None.is ∙ c.in_ok-refusal.ensures) c.beyond.ensures
