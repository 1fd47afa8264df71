use Rattle.std.proofs.Common.{arith, map}
use Rattle.std.specs.String.{string_bytes}
use Rattle.nf_command.proofs.Listed.{are_listed, two_words}
use Rattle.nf_command.proofs.Words.{two_items}
use Rattle.nf_command.proofs.lists.list_of.Goals as goal

pub returns-in-len2 : goal.returns-in-len2
returns-in-len2 c =
    are_listed (map string_bytes c.args.words.now) _ _ c.numbers_of.result
    (two_items string_bytes _ _ c.args.words.now _ _ c.in-len2.len_at_least c.in-len2.len_below c.seed-item.is c.count-item.is
    c.as_str.ensures.value c.as_str-in-len2.ensures.value)
    c.numbers_of.ensures

pub returns-in_default : goal.returns-in_default
returns-in_default c = λ seed count is. two_words string_bytes c.args.words.now seed count is (λ two. omega arith)
