use Rattle.std.proofs.Common.{◌≡◌, subst, sym, List}
use Rattle.std.specs.Prelude.{Some}
use Rattle.nf_words.proofs.Orders.{first_of, none_of}
use Rattle.nf_words.specs.Rules.{Rule, rules, first_that_holds}
use Rattle.nf_words.proofs.laws.rules_in_order.Goals as goal

pub returns-clause-first : goal.returns-clause-first
returns-clause-first c = λ before rule behind access call refusal is pass refuses.
    subst (λ (all : List Rule). first_that_holds all access call ≡ Some refusal) (sym is) (first_of before rule behind access call refusal pass refuses)

pub returns-clause-none : goal.returns-clause-none
returns-clause-none c = λ access call pass. none_of rules access call pass
