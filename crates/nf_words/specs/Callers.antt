-- The rules of who asks.
use Rattle.std.specs.Prelude.{ℕ, Bool, false, not, ◌&&◌, ◌||◌, bytes_eq, List, Option, None, Some, is_some, if◌then◌else◌}
use Rattle.std.specs.List.{list_all}
use Rattle.std.specs.Option.{option_map_or}
use Rattle.nf_defs.specs.Access.{Access}
use Rattle.nf_defs.specs.People.{is_admin}
use Rattle.nf_words.specs.Asked.{is_about_files, is_about_people, users_of}
use Rattle.nf_words.specs.Calls.{Call, asked_by, asker_of, caller_row, is_by_link}
use Rattle.nf_words.specs.declared.answer.Denial.{Denial}
use Rattle.nf_words.specs.declared.answer.Denial.TheVariants as denial

-- by a link, files alone are asked about
abbrev pub asks_by_link : Call → Bool
asks_by_link call = is_by_link call.request.caller && is_about_files call.request.wanted

-- `token`: neither a user whose row is there asks nor somebody by a link
unfoldable pub token_rule : Access → Call → Option Denial
token_rule access call = if is_some (caller_row call) || asks_by_link call then None else Some denial.Token

-- the caller has that name
abbrev pub is_caller : Call → List ℕ → Bool
is_caller call name = option_map_or (λ row. bytes_eq row.name name) (caller_row call) false

-- users and groups are asked about by members of the group `admin` alone
abbrev pub may_ask : Call → Bool
may_ask call =
    not (is_about_people call.request.wanted) || is_admin call.state.tables.groups call.state.tables.members (asker_of call)

-- `not-you`: a user in the path isn't the caller, or who asks about users and groups is no administrator
unfoldable pub not_you_rule : Access → Call → Option Denial
not_you_rule access call =
    if list_all (is_caller call) (users_of (asked_by call)) && may_ask call then None else Some denial.NotYou
