-- What is asked about users and groups (Nextcloud developer manual, User provisioning API).
use Rattle.std.specs.Prelude.{ℕ, List, bytes_eq, codes, Result, Ok, if◌then◌else◌}
use Rattle.nf_words.specs.declared.answer.Denial.{Denial}
use Rattle.nf_words.specs.declared.answer.Parameter.TheVariants as parameter
use Rattle.nf_words.specs.declared.request.PeopleAsk.{PeopleAsk}
use Rattle.nf_words.specs.declared.request.PeopleAsk.TheVariants as ask
use Rattle.nf_ocs.specs.Parameters.{name_of, needed, no_password, quota_of, token_of, unread, user_of}
use Rattle.nf_ocs.specs.Read.{and_then}
use Rattle.nf_ocs.specs.declared.people.Key.{Key}
use Rattle.nf_ocs.specs.declared.people.Key.TheVariants as keys
use Rattle.nf_ocs.specs.declared.sent.Given.{Given}

-- ---- new ones

abbrev pub new_user_of : (List ℕ → Given) → Result PeopleAsk Denial
new_user_of given =
    and_then (no_password (given (codes "password"))) (λ none.
    and_then (name_of parameter.UserId (given (codes "userid"))) (λ name.
    and_then (token_of parameter.Token (given (codes "token"))) (λ token.
    and_then (quota_of parameter.Quota (given (codes "quota"))) (λ quota. Ok (ask.NewUser name token quota)))))

abbrev pub new_group_of : (List ℕ → Given) → Result PeopleAsk Denial
new_group_of given =
    and_then (no_password (given (codes "password"))) (λ none.
    and_then (name_of parameter.GroupId (given (codes "groupid"))) (λ group. Ok (ask.NewGroup group)))

-- ---- members

-- a group for the user in the path
abbrev pub member_of : (List ℕ → List ℕ → PeopleAsk) → List ℕ → (List ℕ → Given) → Result PeopleAsk Denial
member_of asks target given =
    and_then (no_password (given (codes "password"))) (λ none.
    and_then (name_of parameter.GroupId (given (codes "groupid"))) (λ group.
    and_then (user_of target) (λ user. Ok (asks user group))))

abbrev pub add_member_of : List ℕ → (List ℕ → Given) → Result PeopleAsk Denial
add_member_of target given = member_of ask.AddMember target given

abbrev pub drop_member_of : List ℕ → (List ℕ → Given) → Result PeopleAsk Denial
drop_member_of target given = member_of ask.DropMember target given

-- ---- the user in the path

-- `key`: what of a user is to be another
abbrev pub key_in : List ℕ → Result Key Denial
key_in text =
    if bytes_eq text (codes "quota") then Ok keys.Quota
    else if bytes_eq text (codes "token") then Ok keys.Token
    else unread parameter.Key

abbrev pub key_of : Given → Result Key Denial
key_of given = and_then (needed parameter.Key given) key_in

-- `value`: a quota, or a further token
abbrev pub value_for : Key → List ℕ → Given → Result PeopleAsk Denial
value_for keys.Quota target given =
    and_then (quota_of parameter.Value given) (λ quota. and_then (user_of target) (λ user. Ok (ask.SetQuota user quota)))
value_for keys.Token target given =
    and_then (token_of parameter.Value given) (λ token. and_then (user_of target) (λ user. Ok (ask.AddToken user token)))

abbrev pub set_user_of : List ℕ → (List ℕ → Given) → Result PeopleAsk Denial
set_user_of target given =
    and_then (no_password (given (codes "password"))) (λ none.
    and_then (key_of (given (codes "key"))) (λ key. value_for key target (given (codes "value"))))
