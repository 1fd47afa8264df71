-- What is asked about shares names no user in its places and ends at a midnight, no quota that is asked for is too large, and nothing is refused
-- for another reason than those of a request.
use Rattle.std.proofs.Common.{◌≡◌, ℕ, ◌≤◌, ◌<◌, ◌%◌, ◌==◌, Bool, true, false, List, Option, None, Some, Result, Ok, Err, codes, if◌then◌else◌, not, length, refl, arith}
use Rattle.std.proofs.lemmas.Bool.Decides.{nat_tests}
use Rattle.std.specs.Prelude.{⊤, IfSome, bytes_eq, is_some, nat_le, nat_lt, option_and_then}
use Rattle.std.specs.Option.{option_map_or}
use Rattle.serde_json.specs.Data.{Data}
use Rattle.nf_base.specs.declared.limits.TheConstants.{MAX_OCS_BODY, MAX_QUOTA}
use Rattle.nf_base.specs.declared.name.NameFault.{NameFault}
use Rattle.nf_base.specs.Naming.{name_fault, path_fault}
use Rattle.nf_http.specs.Head.{Head, length_of}
use Rattle.nf_dates.specs.Dates.{end_written}
use Rattle.nf_dates.proofs.Written.{end_bounds}
use Rattle.nf_routes.specs.Targets.{query_of, share_segment, user_segment}
use Rattle.nf_routes.specs.declared.methods.Method.{Method}
use Rattle.nf_words.specs.Asked.{asked_about}
use Rattle.nf_words.specs.History.{EndsAtDays, IsEnd, IsModest, end_in}
use Rattle.nf_words.specs.Sharing.{is_end_moment}
use Rattle.nf_words.specs.declared.answer.Denial.{Denial}
use Rattle.nf_words.specs.declared.answer.Denial.TheVariants as denial
use Rattle.nf_words.specs.declared.answer.Parameter.{Parameter}
use Rattle.nf_words.specs.declared.answer.Parameter.TheVariants as parameter
use Rattle.nf_words.specs.declared.request.ShareAsk.{ShareAsk}
use Rattle.nf_words.specs.declared.request.ShareAsk.TheVariants as ask
use Rattle.nf_words.specs.declared.request.Sharee.{Sharee}
use Rattle.nf_words.specs.declared.request.Sharee.TheVariants as sharee
use Rattle.nf_words.specs.declared.request.PeopleAsk.{PeopleAsk}
use Rattle.nf_words.specs.declared.request.PeopleAsk.TheVariants as people
use Rattle.nf_words.specs.declared.request.Until.{Until}
use Rattle.nf_words.specs.declared.request.Until.TheVariants as until
use Rattle.nf_words.specs.declared.request.Wanted.{Wanted}
use Rattle.nf_words.specs.declared.request.Wanted.TheVariants as wanted
use Rattle.nf_words.specs.declared.request.Spot.{Spot}
use Rattle.nf_words.specs.declared.route.Route.{Route}
use Rattle.nf_ocs.specs.Asked.{Giving, about_people, about_shares, ask_of, end_of, is_true, list_of, new_of, ocs_request_of, offered, set_of, show_of, topic_of}
use Rattle.nf_ocs.specs.Bodies.{body_of, is_form, is_json, media_type, object_or_refusal, says_ocs}
use Rattle.nf_ocs.specs.Parameters.{id_of, is_empty, is_token, modest, name_in, name_of, names_in, needed, no_password, number_in, optional, permissions_in, permissions_of, permitted, quota_in, quota_of, sharee_of, spot_in, spot_of, token_in, token_of, type_in, type_of, until_in, until_of, user_of}
use Rattle.nf_ocs.specs.People.{add_member_of, drop_member_of, key_in, key_of, member_of, new_group_of, new_user_of, set_user_of, value_for}
use Rattle.nf_ocs.specs.Read.{and_then}
use Rattle.nf_ocs.specs.Sent.{Fields, given_in, object_in}
use Rattle.nf_ocs.specs.declared.asked.Topic.{Topic}
use Rattle.nf_ocs.specs.declared.asked.Topic.TheVariants as topic
use Rattle.nf_ocs.specs.declared.people.Key.{Key}
use Rattle.nf_ocs.specs.declared.people.Key.TheVariants as keys
use Rattle.nf_ocs.specs.declared.parameters.ShareType.{ShareType}
use Rattle.nf_ocs.specs.declared.parameters.ShareType.TheVariants.{User, Group, Link}
use Rattle.nf_ocs.specs.declared.sent.Given.{Given}
use Rattle.nf_ocs.specs.declared.sent.Given.TheVariants.{Absent, Text, Other}

-- what refuses a request about shares before the site is asked
abbrev pub is_of_ocs : Denial → Bool
is_of_ocs denial.OcsHeader = true
is_of_ocs denial.Body = true
is_of_ocs (denial.BadParameter parameter) = true
is_of_ocs (denial.BadName fault) = true
is_of_ocs other = false

-- a part is as it has to be, or is refused for one of those
abbrev pub IsFine : {A : Type 0} → (A → Type 0) → Result A Denial → Type 0
IsFine Is (Ok part) = Is part
IsFine Is (Err refusal) = is_of_ocs refusal ≡ true

abbrev Any : {A : Type 0} → A → Type 0
Any part = ⊤

fine_then : {A B : Type 0} (Is : A → Type 0) (Next : B → Type 0) (r : Result A Denial) (next : A → Result B Denial)
    → IsFine Is r → ((part : A) → Is part → IsFine Next (next part)) → IsFine Next (and_then r next)
fine_then Is Next (Ok part) next one more = more part one
fine_then Is Next (Err refusal) next one more = one

fine_if : {A : Type 0} (Is : A → Type 0) (test : Bool) (one other : Result A Denial) → IsFine Is one → IsFine Is other
    → IsFine Is (if test then one else other)
fine_if Is true one other here there = here
fine_if Is false one other here there = there

-- ---- parameters

fine_needed : (p : Parameter) (given : Given) → IsFine Any (needed p given)
fine_needed p Absent = refl
fine_needed p (Text text) = tt
fine_needed p Other = refl

fine_optional : (p : Parameter) (given : Given) → IsFine Any (optional p given)
fine_optional p Absent = tt
fine_optional p (Text text) = tt
fine_optional p Other = refl

fine_id : (target : List ℕ) → IsFine Any (id_of target)
fine_id target = here (number_in (share_segment target))
  where
    here : (id : Option ℕ) → IsFine Any (option_map_or (λ id. Ok id) id (Err (denial.BadParameter parameter.Id)))
    here None = refl
    here (Some id) = tt

-- a place in the caller's files names no user
abbrev pub NamesNobody : Spot → Type 0
NamesNobody spot = spot.user ≡ None

fine_spot : (path : List ℕ) → IsFine NamesNobody (spot_of path)
fine_spot path = here (path_fault (names_in path))
  where
    here : (fault : Option NameFault)
        → IsFine NamesNobody (option_map_or (λ fault. Err (denial.BadName fault)) fault (Ok (record { user = None; path = names_in path })))
    here None = refl
    here (Some fault) = refl

fine_spot_in : (path : Option (List ℕ)) → IsFine (λ spot. IfSome spot NamesNobody) (spot_in path)
fine_spot_in None = tt
fine_spot_in (Some path) = fine_then NamesNobody (λ spot. IfSome spot NamesNobody) (spot_of path) (λ spot. Ok (Some spot)) (fine_spot path) (λ spot nobody. nobody)

fine_type : (given : Given) → IsFine Any (type_of given)
fine_type given = fine_then Any Any (needed parameter.ShareType given) type_in (fine_needed parameter.ShareType given) (λ text any. here text)
  where
    here : (text : List ℕ) → IsFine Any (type_in text)
    here text =
        fine_if Any (bytes_eq text (codes "0")) _ _ tt
        (fine_if Any (bytes_eq text (codes "1")) _ _ tt (fine_if Any (bytes_eq text (codes "3")) _ _ tt refl))

fine_name : (p : Parameter) (given : Given) → IsFine Any (name_of p given)
fine_name p given = fine_then Any Any (needed p given) (name_in p) (fine_needed p given) (λ text any. fine_if Any (is_some (name_fault text)) _ _ refl tt)

fine_user : (target : List ℕ) → IsFine Any (user_of target)
fine_user target = here (name_fault (user_segment target))
  where
    here : (fault : Option NameFault) → IsFine Any (option_map_or (λ fault. Err (denial.BadName fault)) fault (Ok (user_segment target)))
    here None = tt
    here (Some fault) = refl

fine_sharee : (kind : ShareType) (given : Given) → IsFine Any (sharee_of kind given)
fine_sharee kind given = here kind
  where
    named : (to : List ℕ → Sharee) → IsFine Any (and_then (name_of parameter.ShareWith given) (λ name. Ok (to name)))
    named to = fine_then Any Any (name_of parameter.ShareWith given) (λ name. Ok (to name)) (fine_name parameter.ShareWith given) (λ name any. tt)

    here : (kind : ShareType) → IsFine Any (sharee_of kind given)
    here User = named sharee.User
    here Group = named sharee.Group
    here Link = tt

fine_token : (p : Parameter) (given : Given) → IsFine Any (token_of p given)
fine_token p given = fine_then Any Any (needed p given) (token_in p) (fine_needed p given) (λ text any. fine_if Any (is_token text) _ _ tt refl)

-- a quota that is read isn't too large
abbrev pub IsFew : ℕ → Type 0
IsFew quota = quota ≤ MAX_QUOTA

fine_quota : (p : Parameter) (given : Given) → IsFine IsFew (quota_of p given)
fine_quota p given = fine_then Any IsFew (needed p given) (quota_in p) (fine_needed p given) (λ text any. here (number_in text))
  where
    there : (n : ℕ) (test : Bool) → nat_le n MAX_QUOTA ≡ test
        → IsFine IsFew (option_map_or (λ n. Ok n) (if test then Some n else None) (Err (denial.BadParameter p)))
    there n true e = grind (arith, nat_tests)
    there n false e = refl

    here : (n : Option ℕ) → IsFine IsFew (option_map_or (λ n. Ok n) (option_and_then modest n) (Err (denial.BadParameter p)))
    here None = refl
    here (Some n) = there n (nat_le n MAX_QUOTA) refl

fine_permissions : (given : Given) → IsFine Any (permissions_of given)
fine_permissions given =
    fine_then Any Any (optional parameter.Permissions given) permissions_in (fine_optional parameter.Permissions given) (λ text any. here text)
  where
    there : (n : Option ℕ) → IsFine Any (option_map_or (λ n. Ok (Some n)) n (Err (denial.BadParameter parameter.Permissions)))
    there None = refl
    there (Some n) = tt

    here : (text : Option (List ℕ)) → IsFine Any (permissions_in text)
    here None = tt
    here (Some text) = there (option_and_then permitted (number_in text))

-- an end that is read is a midnight
abbrev pub EndsWell : Until → Type 0
EndsWell asked = IsEnd (end_in asked)

is_midnight : (end : ℕ) → (0 < end) × (end % 86400 ≡ 0) × (end ≤ 253370764800) → is_end_moment end ≡ true
is_midnight end is = grind (arith, nat_tests)

fine_until : (given : Given) → IsFine EndsWell (until_of given)
fine_until given =
    fine_then Any EndsWell (optional parameter.ExpireDate given) until_in (fine_optional parameter.ExpireDate given) (λ text any. here text)
  where
    there : (end : Option ℕ) → IfSome end (λ (end : ℕ). (0 < end) × (end % 86400 ≡ 0) × (end ≤ 253370764800))
        → IsFine EndsWell (option_map_or (λ end. Ok (until.At end)) end (Err (denial.BadParameter parameter.ExpireDate)))
    there None is = refl
    there (Some end) is = is_midnight end is

    here : (text : Option (List ℕ)) → IsFine EndsWell (until_in text)
    here None = tt
    here (Some text) = fine_if EndsWell (length text == 0) _ _ tt (there (end_written text) (end_bounds text))

fine_password : (given : Given) → IsFine Any (no_password given)
fine_password given =
    fine_then Any Any (optional parameter.Password given) (λ password. if is_empty password then Ok tt else Err (denial.BadParameter parameter.Password))
    (fine_optional parameter.Password given) (λ password any. fine_if Any (is_empty password) _ _ tt refl)

-- ---- what is asked

-- the place that is asked about names no user, and an end is a midnight
abbrev pub AsksOwn : ShareAsk → Type 0
AsksOwn asked = EndsAtDays asked × IfSome (asked_about asked).source NamesNobody

-- each parameter is fine, so only what comes last is looked at
abbrev to_password : {A : Type 0} → Giving → Result A Denial → Result A Denial
to_password given last = and_then (no_password (given (codes "password"))) (λ none. last)

fine_last : {A : Type 0} (Is : A → Type 0) (given : Giving) (last : Result A Denial) → IsFine Is last → IsFine Is (to_password given last)
fine_last Is given last fine =
    fine_then Any Is (no_password (given (codes "password"))) (λ none. last) (fine_password (given (codes "password"))) (λ none any. fine)

abbrev to_until : Giving → (Until → Result ShareAsk Denial) → Result ShareAsk Denial
to_until given last = and_then (until_of (given (codes "expireDate"))) (λ until. to_password given (last until))

fine_ended : (given : Giving) (last : Until → Result ShareAsk Denial) → ((until : Until) → EndsWell until → IsFine AsksOwn (last until))
    → IsFine AsksOwn (to_until given last)
fine_ended given last fine =
    fine_then EndsWell AsksOwn (until_of (given (codes "expireDate"))) (λ until. to_password given (last until))
    (fine_until (given (codes "expireDate"))) (λ until well. fine_last AsksOwn given (last until) (fine until well))

abbrev to_permissions : Giving → (Option ℕ → Until → Result ShareAsk Denial) → Result ShareAsk Denial
to_permissions given last = and_then (permissions_of (given (codes "permissions"))) (λ perms. to_until given (last perms))

fine_permitted : (given : Giving) (last : Option ℕ → Until → Result ShareAsk Denial)
    → ((perms : Option ℕ) (until : Until) → EndsWell until → IsFine AsksOwn (last perms until)) → IsFine AsksOwn (to_permissions given last)
fine_permitted given last fine =
    fine_then Any AsksOwn (permissions_of (given (codes "permissions"))) (λ perms. to_until given (last perms))
    (fine_permissions (given (codes "permissions"))) (λ perms any. fine_ended given (last perms) (fine perms))

abbrev offer : List ℕ → Sharee → Option ℕ → Until → Result ShareAsk Denial
offer path to perms until = offered path to perms (end_in until)

fine_offer : (path : List ℕ) (to : Sharee) (perms : Option ℕ) (until : Until) → EndsWell until → IsFine AsksOwn (offer path to perms until)
fine_offer path to perms until well =
    fine_then NamesNobody AsksOwn (spot_of path) (λ spot. Ok (ask.New spot to perms (end_in until))) (fine_spot path)
    (λ spot nobody. (well, nobody))

abbrev to_sharee : Giving → List ℕ → ShareType → Result ShareAsk Denial
to_sharee given path kind = and_then (sharee_of kind (given (codes "shareWith"))) (λ to. to_permissions given (offer path to))

fine_for : (given : Giving) (path : List ℕ) (kind : ShareType) → IsFine AsksOwn (to_sharee given path kind)
fine_for given path kind =
    fine_then Any AsksOwn (sharee_of kind (given (codes "shareWith"))) (λ to. to_permissions given (offer path to))
    (fine_sharee kind (given (codes "shareWith"))) (λ to any. fine_permitted given (offer path to) (fine_offer path to))

abbrev to_type : Giving → List ℕ → Result ShareAsk Denial
to_type given path = and_then (type_of (given (codes "shareType"))) (to_sharee given path)

fine_typed : (given : Giving) (path : List ℕ) → IsFine AsksOwn (to_type given path)
fine_typed given path =
    fine_then Any AsksOwn (type_of (given (codes "shareType"))) (to_sharee given path) (fine_type (given (codes "shareType")))
    (λ kind any. fine_for given path kind)

fine_new : (given : Giving) → IsFine AsksOwn (new_of given)
fine_new given =
    fine_then Any AsksOwn (needed parameter.Path (given (codes "path"))) (to_type given)
    (fine_needed parameter.Path (given (codes "path"))) (λ path any. fine_typed given path)

abbrev listed : Giving → Option (List ℕ) → Result ShareAsk Denial
listed given path = and_then (spot_in path) (λ spot. Ok (ask.List spot (is_true (given (codes "shared_with_me")))))

fine_listed : (given : Giving) (path : Option (List ℕ)) → IsFine AsksOwn (listed given path)
fine_listed given path =
    fine_then (λ spot. IfSome spot NamesNobody) AsksOwn (spot_in path) (λ spot. Ok (ask.List spot (is_true (given (codes "shared_with_me")))))
    (fine_spot_in path) (λ spot nobody. (tt, nobody))

fine_list : (given : Giving) → IsFine AsksOwn (list_of given)
fine_list given =
    fine_then Any AsksOwn (optional parameter.Path (given (codes "path"))) (λ path. to_password given (listed given path))
    (fine_optional parameter.Path (given (codes "path"))) (λ path any. fine_last AsksOwn given (listed given path) (fine_listed given path))

fine_show : (target : List ℕ) (given : Giving) → IsFine AsksOwn (show_of target given)
fine_show target given =
    fine_then Any AsksOwn (id_of target) (λ id. to_password given (Ok (ask.Show id))) (fine_id target)
    (λ id any. fine_last AsksOwn given (Ok (ask.Show id)) (tt, tt))

fine_end : (target : List ℕ) (given : Giving) → IsFine AsksOwn (end_of target given)
fine_end target given =
    fine_then Any AsksOwn (id_of target) (λ id. to_password given (Ok (ask.End id))) (fine_id target)
    (λ id any. fine_last AsksOwn given (Ok (ask.End id)) (tt, tt))

abbrev set_so : ℕ → Option ℕ → Until → Result ShareAsk Denial
set_so id perms until = Ok (ask.Set id perms until)

fine_set : (target : List ℕ) (given : Giving) → IsFine AsksOwn (set_of target given)
fine_set target given =
    fine_then Any AsksOwn (id_of target) (λ id. to_permissions given (set_so id)) (fine_id target)
    (λ id any. fine_permitted given (set_so id) (λ perms until well. (well, tt)))

-- ---- people

fine_new_user : (given : Giving) → IsFine IsModest (new_user_of given)
fine_new_user given =
    fine_last IsModest given (to_name given) (fine_then Any IsModest (name_of parameter.UserId (given (codes "userid"))) (to_token given)
    (fine_name parameter.UserId (given (codes "userid"))) (λ name any.
    fine_then Any IsModest (token_of parameter.Token (given (codes "token"))) (to_quota given name)
    (fine_token parameter.Token (given (codes "token"))) (λ token any.
    fine_then IsFew IsModest (quota_of parameter.Quota (given (codes "quota"))) (λ quota. Ok (people.NewUser name token quota))
    (fine_quota parameter.Quota (given (codes "quota"))) (λ quota few. few))))
  where
    to_quota : Giving → List ℕ → List ℕ → Result PeopleAsk Denial
    to_quota given name token = and_then (quota_of parameter.Quota (given (codes "quota"))) (λ quota. Ok (people.NewUser name token quota))

    to_token : Giving → List ℕ → Result PeopleAsk Denial
    to_token given name = and_then (token_of parameter.Token (given (codes "token"))) (to_quota given name)

    to_name : Giving → Result PeopleAsk Denial
    to_name given = and_then (name_of parameter.UserId (given (codes "userid"))) (to_token given)

fine_new_group : (given : Giving) → IsFine IsModest (new_group_of given)
fine_new_group given =
    fine_last IsModest given (and_then (name_of parameter.GroupId (given (codes "groupid"))) (λ group. Ok (people.NewGroup group)))
    (fine_then Any IsModest (name_of parameter.GroupId (given (codes "groupid"))) (λ group. Ok (people.NewGroup group))
    (fine_name parameter.GroupId (given (codes "groupid"))) (λ group any. tt))

fine_member : (asks : List ℕ → List ℕ → PeopleAsk) (target : List ℕ) (given : Giving) → ((user group : List ℕ) → IsModest (asks user group))
    → IsFine IsModest (member_of asks target given)
fine_member asks target given modest =
    fine_last IsModest given (and_then (name_of parameter.GroupId (given (codes "groupid"))) to_user)
    (fine_then Any IsModest (name_of parameter.GroupId (given (codes "groupid"))) to_user
    (fine_name parameter.GroupId (given (codes "groupid"))) (λ group any.
    fine_then Any IsModest (user_of target) (λ user. Ok (asks user group)) (fine_user target) (λ user any. modest user group)))
  where
    to_user : List ℕ → Result PeopleAsk Denial
    to_user group = and_then (user_of target) (λ user. Ok (asks user group))

fine_key : (given : Given) → IsFine Any (key_of given)
fine_key given = fine_then Any Any (needed parameter.Key given) key_in (fine_needed parameter.Key given) (λ text any.
    fine_if Any (bytes_eq text (codes "quota")) _ _ tt (fine_if Any (bytes_eq text (codes "token")) _ _ tt refl))

fine_value : (key : Key) (target : List ℕ) (given : Given) → IsFine IsModest (value_for key target given)
fine_value keys.Quota target given =
    fine_then IsFew IsModest (quota_of parameter.Value given) (λ quota. and_then (user_of target) (λ user. Ok (people.SetQuota user quota)))
    (fine_quota parameter.Value given) (λ quota few.
    fine_then Any IsModest (user_of target) (λ user. Ok (people.SetQuota user quota)) (fine_user target) (λ user any. few))
fine_value keys.Token target given =
    fine_then Any IsModest (token_of parameter.Value given) (λ token. and_then (user_of target) (λ user. Ok (people.AddToken user token)))
    (fine_token parameter.Value given) (λ token any.
    fine_then Any IsModest (user_of target) (λ user. Ok (people.AddToken user token)) (fine_user target) (λ user any. tt))

fine_set_user : (target : List ℕ) (given : Giving) → IsFine IsModest (set_user_of target given)
fine_set_user target given =
    fine_last IsModest given (and_then (key_of (given (codes "key"))) (λ key. value_for key target (given (codes "value"))))
    (fine_then Any IsModest (key_of (given (codes "key"))) (λ key. value_for key target (given (codes "value")))
    (fine_key (given (codes "key"))) (λ key any. fine_value key target (given (codes "value"))))

-- ---- the request

-- what is asked is about shares or about people, and as it may be
abbrev pub AsksWell : Wanted → Type 0
AsksWell (wanted.Share asked) = AsksOwn asked
AsksWell (wanted.People asked) = IsModest asked
AsksWell other = ⊥

fine_shares : (asked : Result ShareAsk Denial) → IsFine AsksOwn asked → IsFine AsksWell (about_shares asked)
fine_shares asked fine = fine_then AsksOwn AsksWell asked (λ ask. Ok (wanted.Share ask)) fine (λ ask own. own)

fine_people : (asked : Result PeopleAsk Denial) → IsFine IsModest asked → IsFine AsksWell (about_people asked)
fine_people asked fine = fine_then IsModest AsksWell asked (λ ask. Ok (wanted.People ask)) fine (λ ask modest. modest)

fine_ask : (about : Topic) (target : List ℕ) (given : Giving) → IsFine AsksWell (ask_of about target given)
fine_ask topic.List target given = fine_shares (list_of given) (fine_list given)
fine_ask topic.New target given = fine_shares (new_of given) (fine_new given)
fine_ask topic.Show target given = fine_shares (show_of target given) (fine_show target given)
fine_ask topic.Set target given = fine_shares (set_of target given) (fine_set target given)
fine_ask topic.End target given = fine_shares (end_of target given) (fine_end target given)
fine_ask topic.NewUser target given = fine_people (new_user_of given) (fine_new_user given)
fine_ask topic.SetUser target given = fine_people (set_user_of target given) (fine_set_user target given)
fine_ask topic.AddMember target given =
    fine_people (add_member_of target given) (fine_member people.AddMember target given (λ user group. tt))
fine_ask topic.DropMember target given =
    fine_people (drop_member_of target given) (fine_member people.DropMember target given (λ user group. tt))
fine_ask topic.NewGroup target given = fine_people (new_group_of given) (fine_new_group given)

fine_body : (head : Head) (bytes : List ℕ) → IsFine Any (body_of head bytes)
fine_body head bytes =
    fine_if Any (nat_lt MAX_OCS_BODY (length_of head)) _ _ refl
    (fine_if Any (is_form (media_type head) bytes) _ _ tt
    (fine_if Any (is_json (media_type head)) _ _ (here (object_in bytes)) refl))
  where
    here : (object : Option Data) → IsFine Any (object_or_refusal object)
    here None = refl
    here (Some value) = tt

abbrev asked_with : Route → Method → Head → Fields → Result Wanted Denial
asked_with r m head fields = ask_of (topic_of r m) head.target (given_in fields (query_of head.target))

pub fine_request : (r : Route) (m : Method) (head : Head) (body : List ℕ) → IsFine AsksWell (ocs_request_of r m head body)
unfolding ocs_request_of
fine_request r m head body =
    fine_if AsksWell (not (says_ocs head)) (Err denial.OcsHeader) (and_then (body_of head body) (asked_with r m head)) refl
    (fine_then Any AsksWell (body_of head body) (asked_with r m head) (fine_body head body) (λ fields any.
    fine_ask (topic_of r m) head.target (given_in fields (query_of head.target))))
