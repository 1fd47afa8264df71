-- The first rule that holds.
use Rattle.std.proofs.Common.{◌≡◌, List, [], ◌∷◌, ◌++◌, refl, ap, ◌∙◌}
use Rattle.std.specs.Prelude.{Option, None, Some}
use Rattle.std.specs.Option.{option_or}
use Rattle.nf_defs.specs.Access.{Access}
use Rattle.nf_words.specs.Prelude.{Call, first_that_holds, Pass, Rule}
use Rattle.nf_words.specs.declared.answer.Denial.{Denial}

pub first_of : (before : List Rule) (rule : Rule) (behind : List Rule) (access : Access) (call : Call) (refusal : Denial)
    → Pass before access call → rule access call ≡ Some refusal → first_that_holds (before ++ rule ∷ behind) access call ≡ Some refusal
first_of [] rule behind access call refusal pass is = ap (λ (o : Option Denial). option_or o (first_that_holds behind access call)) is
first_of (r ∷ before) rule behind access call refusal pass is =
    ap (λ (o : Option Denial). option_or o (first_that_holds (before ++ rule ∷ behind) access call)) pass.0
    ∙ first_of before rule behind access call refusal pass.1 is

pub none_of : (all : List Rule) (access : Access) (call : Call) → Pass all access call → first_that_holds all access call ≡ None
none_of [] access call pass = refl
none_of (r ∷ others) access call pass =
    ap (λ (o : Option Denial). option_or o (first_that_holds others access call)) pass.0 ∙ none_of others access call pass.1
