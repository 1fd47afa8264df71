-- The user who asks.
use Rattle.std.proofs.Common.{◌≡◌, ℕ, refl, if◌then◌else◌}
use Rattle.std.specs.Option.{option_and_then, option_map_or}
use Rattle.nf_defs.specs.Prelude.{user_row}
use Rattle.nf_defs.specs.declared.Seeker.TheVariants as seeker
use Rattle.nf_reach.specs.Asking.{user_in}
use Rattle.nf_words.specs.Calls.{caller_of}
use Rattle.nf_words.specs.Prelude.{asker_of, Call, is_by_link, linked_of, seeker_of}
use Rattle.nf_words.specs.declared.request.Caller.{Caller}
use Rattle.nf_words.specs.declared.request.Caller.TheVariants as caller

-- by a link none does, and no user has the number 0
pub user_asks : (call : Call) → user_in (seeker_of call) ≡ asker_of call
user_asks call = here call.request.caller
  where
    number : Caller → ℕ
    number who = option_map_or (λ row. row.id) (option_and_then (user_row call.state.tables.users) (caller_of call.state who)) 0

    here : (who : Caller) → user_in (if is_by_link who then seeker.Link (linked_of call) else seeker.User (number who)) ≡ number who
    here caller.Absent = refl
    here (caller.Token digest) = refl
    here (caller.Link token) = refl
