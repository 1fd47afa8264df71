-- The order of the rules that refuse a request. Adding one is a line here and its definition.
use Rattle.std.specs.Prelude.{List, [], ◌∷◌, ◌++◌, Option, None}
use Rattle.std.specs.Option.{option_or}
use Rattle.nf_defs.specs.Access.{Access}
use Rattle.nf_words.specs.Calls.{Call}
use Rattle.nf_words.specs.Callers.{token_rule, not_you_rule}
use Rattle.nf_words.specs.Places.{forbidden_rule, exists_rule, target_rule, overwrite_rule}
use Rattle.nf_words.specs.Reached.{acts_rule, place_rule, version_rule}
use Rattle.nf_words.specs.Limits.{limit_rule}
use Rattle.nf_words.specs.Sharing.{named_rule, room_rule, sharing_rule}
use Rattle.nf_words.specs.Locks.{locked_rule}
use Rattle.nf_words.specs.Charges.{quota_rule}
use Rattle.nf_words.specs.Uploading.{upload_rule}
use Rattle.nf_words.specs.declared.answer.Denial.{Denial}

-- a test of a call by what shares let their seekers do, which refuses it or passes
abbrev pub Rule : Type 0
Rule = Access → Call → Option Denial

-- the rules of who asks, of names, of places, of what who asks may do there, of sharing, and of uploads
abbrev pub earlier_rules : List Rule
earlier_rules =
    token_rule
    ∷ not_you_rule
    ∷ forbidden_rule
    ∷ place_rule
    ∷ named_rule
    ∷ acts_rule
    ∷ version_rule
    ∷ exists_rule
    ∷ target_rule
    ∷ overwrite_rule
    ∷ sharing_rule
    ∷ upload_rule
    ∷ []

-- those of what others hold, of limits and of quotas
abbrev pub later_rules : List Rule
later_rules = locked_rule ∷ limit_rule ∷ room_rule ∷ quota_rule ∷ []

-- the order in which they are tried
abbrev pub rules : List Rule
rules = earlier_rules ++ later_rules

-- the answer of the first rule that holds
abbrev pub first_that_holds : List Rule → Access → Call → Option Denial
first_that_holds [] access call = None
first_that_holds (rule ∷ others) access call = option_or (rule access call) (first_that_holds others access call)

abbrev pub refusal_of : Access → Call → Option Denial
refusal_of access call = first_that_holds rules access call
