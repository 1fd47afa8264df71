-- The parameters of what is asked about shares, users and groups, each of them by what is given for it (Nextcloud developer manual, OCS
-- Share API and User provisioning API).
use Rattle.std.specs.Prelude.{ℕ, Bool, true, ◌&&◌, ◌==◌, nat_le, nat_lt, List, [], length, take, drop, codes, bytes_eq, Option, None, Some, is_some, option_and_then, Result, Ok, Err, if◌then◌else◌}
use Rattle.std.specs.Char.{is_ascii_graphic}
use Rattle.std.specs.List.{list_all, slice_split}
use Rattle.std.specs.Option.{option_map_or}
use Rattle.sha2.specs.Sha256.{sha256}
use Rattle.nf_base.specs.declared.limits.TheConstants.{MAX_QUOTA}
use Rattle.nf_base.specs.Naming.{name_fault, path_fault}
use Rattle.nf_dates.specs.Dates.{end_written}
use Rattle.nf_http.specs.Fields.{length_written}
use Rattle.nf_routes.specs.Targets.{is_slash, share_segment, user_segment, without_slash}
use Rattle.nf_words.specs.declared.answer.Denial.{Denial}
use Rattle.nf_words.specs.declared.answer.Denial.TheVariants.{BadName, BadParameter}
use Rattle.nf_words.specs.declared.answer.Parameter.{Parameter}
use Rattle.nf_words.specs.declared.answer.Parameter.TheVariants as parameter
use Rattle.nf_words.specs.declared.request.Sharee.{Sharee}
use Rattle.nf_words.specs.declared.request.Sharee.TheVariants as sharee
use Rattle.nf_words.specs.declared.request.Spot.{Spot}
use Rattle.nf_words.specs.declared.request.Until.{Until}
use Rattle.nf_words.specs.declared.request.Until.TheVariants as until
use Rattle.nf_ocs.specs.Read.{and_then}
use Rattle.nf_ocs.specs.declared.parameters.ShareType.{ShareType}
use Rattle.nf_ocs.specs.declared.parameters.ShareType.TheVariants.{User, Group, Link}
use Rattle.nf_ocs.specs.declared.sent.Given.{Given}
use Rattle.nf_ocs.specs.declared.sent.Given.TheVariants.{Absent, Text, Other}

abbrev pub unread : {A : Type 0} → Parameter → Result A Denial
unread parameter = Err (BadParameter parameter)

-- ---- texts and numbers

-- a parameter that has to be there
abbrev pub needed : Parameter → Given → Result (List ℕ) Denial
needed parameter Absent = unread parameter
needed parameter (Text text) = Ok text
needed parameter Other = unread parameter

-- one that may be left out
abbrev pub optional : Parameter → Given → Result (Option (List ℕ)) Denial
optional parameter Absent = Ok None
optional parameter (Text text) = Ok (Some text)
optional parameter Other = unread parameter

abbrev pub is_empty : Option (List ℕ) → Bool
is_empty text = option_map_or (λ text. length text == 0) text true

-- a number is 1 to 19 digits, the first of several no zero
abbrev pub begins_with_zero : List ℕ → Bool
begins_with_zero text = nat_lt 1 (length text) && bytes_eq (take 1 text) (codes "0")

abbrev pub number_in : List ℕ → Option ℕ
number_in text = if begins_with_zero text then None else length_written text

-- ---- each parameter

-- the share that the path names
abbrev pub id_of : List ℕ → Result ℕ Denial
id_of target = option_map_or (λ id. Ok id) (number_in (share_segment target)) (unread parameter.Id)

-- the user that the path names
abbrev pub user_of : List ℕ → Result (List ℕ) Denial
user_of target = option_map_or (λ fault. Err (BadName fault)) (name_fault (user_segment target)) (Ok (user_segment target))

-- `path`: a slash at its begin is dropped, and one at its end; what is left has a name between any two slashes, and none where it is empty
abbrev pub without_front : List ℕ → List ℕ
without_front path = if bytes_eq (take 1 path) (codes "/") then drop 1 path else path

abbrev pub names_between : List ℕ → List (List ℕ)
names_between path = if length path == 0 then [] else slice_split is_slash path

abbrev pub names_in : List ℕ → List (List ℕ)
names_in path = names_between (without_slash (without_front path))

-- the place that it leads to, in the files of the caller
abbrev pub spot_of : List ℕ → Result Spot Denial
spot_of path =
    option_map_or (λ fault. Err (BadName fault)) (path_fault (names_in path)) (Ok (record { user = None; path = names_in path }))

abbrev pub spot_in : Option (List ℕ) → Result (Option Spot) Denial
spot_in None = Ok None
spot_in (Some path) = and_then (spot_of path) (λ spot. Ok (Some spot))

-- `shareType`: 0 for a user, 1 for a group, 3 for a link
abbrev pub type_in : List ℕ → Result ShareType Denial
type_in text =
    if bytes_eq text (codes "0") then Ok User
    else if bytes_eq text (codes "1") then Ok Group
    else if bytes_eq text (codes "3") then Ok Link
    else unread parameter.ShareType

abbrev pub type_of : Given → Result ShareType Denial
type_of given = and_then (needed parameter.ShareType given) type_in

-- the name of a user or of a group
abbrev pub name_in : Parameter → List ℕ → Result (List ℕ) Denial
name_in parameter text = if is_some (name_fault text) then unread parameter else Ok text

abbrev pub name_of : Parameter → Given → Result (List ℕ) Denial
name_of parameter given = and_then (needed parameter given) (name_in parameter)

-- `shareWith`: whom a share is for; for a link it isn't looked at
abbrev pub sharee_of : ShareType → Given → Result Sharee Denial
sharee_of User given = and_then (name_of parameter.ShareWith given) (λ name. Ok (sharee.User name))
sharee_of Group given = and_then (name_of parameter.ShareWith given) (λ name. Ok (sharee.Group name))
sharee_of Link given = Ok sharee.Link

-- `permissions`: 1 to 31
abbrev pub permitted : ℕ → Option ℕ
permitted n = if nat_le 1 n && nat_le n 31 then Some n else None

abbrev pub permissions_in : Option (List ℕ) → Result (Option ℕ) Denial
permissions_in None = Ok None
permissions_in (Some text) =
    option_map_or (λ n. Ok (Some n)) (option_and_then permitted (number_in text)) (unread parameter.Permissions)

abbrev pub permissions_of : Given → Result (Option ℕ) Denial
permissions_of given = and_then (optional parameter.Permissions given) permissions_in

-- `expireDate`: the last day before the end, or nothing for no end; without it an end stays
abbrev pub until_in : Option (List ℕ) → Result Until Denial
until_in None = Ok until.Keep
until_in (Some text) =
    if length text == 0 then Ok until.Never
    else option_map_or (λ end. Ok (until.At end)) (end_written text) (unread parameter.ExpireDate)

abbrev pub until_of : Given → Result Until Denial
until_of given = and_then (optional parameter.ExpireDate given) until_in

-- `password`: there is none, and no request sets one
abbrev pub no_password : Given → Result (Unit {0}) Denial
no_password given =
    and_then (optional parameter.Password given) (λ password. if is_empty password then Ok tt else unread parameter.Password)

-- a token: 1 to 128 visible characters of ASCII; it is known by its digest
abbrev pub is_token : List ℕ → Bool
is_token text = nat_le 1 (length text) && nat_le (length text) 128 && list_all is_ascii_graphic text

abbrev pub token_in : Parameter → List ℕ → Result (List ℕ) Denial
token_in parameter text = if is_token text then Ok (sha256 text) else unread parameter

abbrev pub token_of : Parameter → Given → Result (List ℕ) Denial
token_of parameter given = and_then (needed parameter given) (token_in parameter)

-- a quota: a number of bytes, to the largest quota
abbrev pub modest : ℕ → Option ℕ
modest n = if nat_le n MAX_QUOTA then Some n else None

abbrev pub quota_in : Parameter → List ℕ → Result ℕ Denial
quota_in parameter text = option_map_or (λ n. Ok n) (option_and_then modest (number_in text)) (unread parameter)

abbrev pub quota_of : Parameter → Given → Result ℕ Denial
quota_of parameter given = and_then (needed parameter given) (quota_in parameter)
