-- Two acts that are decided on, of which one is.
use Rattle.std.proofs.Common.{◌≡◌, Result, Ok}
use Rattle.nf_words.specs.declared.answer.Allowed.{Allowed}
use Rattle.nf_words.specs.declared.answer.Denial.{Denial}

pub same_act : {a b : Allowed} → ◌≡◌ {A = Result Allowed Denial} (Ok a) (Ok b) → a ≡ b
same_act same = cc
