-- What is asked about shares (Nextcloud developer manual, OCS Share API), and which request a message is.
use Rattle.std.specs.Prelude.{ℕ, Bool, true, false, not, List, bytes_eq, codes, Option, Result, Ok, Err, if◌then◌else◌}
use Rattle.nf_http.specs.Head.{Head}
use Rattle.nf_routes.specs.Targets.{query_of}
use Rattle.nf_routes.specs.declared.methods.Method.{Method}
use Rattle.nf_routes.specs.declared.methods.Method.TheVariants as method
use Rattle.nf_words.specs.History.{end_in}
use Rattle.nf_words.specs.declared.answer.Denial.{Denial}
use Rattle.nf_words.specs.declared.answer.Denial.TheVariants as denial
use Rattle.nf_words.specs.declared.answer.Parameter.TheVariants as parameter
use Rattle.nf_words.specs.declared.request.ShareAsk.{ShareAsk}
use Rattle.nf_words.specs.declared.request.ShareAsk.TheVariants as ask
use Rattle.nf_words.specs.declared.request.Sharee.{Sharee}
use Rattle.nf_words.specs.declared.request.PeopleAsk.{PeopleAsk}
use Rattle.nf_words.specs.declared.request.Wanted.{Wanted}
use Rattle.nf_words.specs.declared.request.Wanted.TheVariants as wanted
use Rattle.nf_words.specs.declared.route.Route.{Route}
use Rattle.nf_words.specs.declared.route.Route.TheVariants as route
use Rattle.nf_ocs.specs.Bodies.{body_of, says_ocs}
use Rattle.nf_ocs.specs.Parameters.{id_of, needed, no_password, optional, permissions_of, sharee_of, spot_in, spot_of, type_of, until_of}
use Rattle.nf_ocs.specs.People.{add_member_of, drop_member_of, new_group_of, new_user_of, set_user_of}
use Rattle.nf_ocs.specs.Read.{and_then}
use Rattle.nf_ocs.specs.Sent.{given_in}
use Rattle.nf_ocs.specs.declared.asked.Topic.{Topic}
use Rattle.nf_ocs.specs.declared.asked.Topic.TheVariants as topic
use Rattle.nf_ocs.specs.declared.sent.Given.{Given}
use Rattle.nf_ocs.specs.declared.sent.Given.TheVariants.{Text}

-- what is given for each name
abbrev pub Giving : Type 0
Giving = List ℕ → Given

-- ---- a new share

abbrev pub offered : List ℕ → Sharee → Option ℕ → Option ℕ → Result ShareAsk Denial
offered path to perms until = and_then (spot_of path) (λ spot. Ok (ask.New spot to perms until))

abbrev pub new_of : Giving → Result ShareAsk Denial
new_of given =
    and_then (needed parameter.Path (given (codes "path"))) (λ path.
    and_then (type_of (given (codes "shareType"))) (λ kind.
    and_then (sharee_of kind (given (codes "shareWith"))) (λ to.
    and_then (permissions_of (given (codes "permissions"))) (λ perms.
    and_then (until_of (given (codes "expireDate"))) (λ until.
    and_then (no_password (given (codes "password"))) (λ none. offered path to perms (end_in until)))))))

-- ---- shares that are there

-- `shared_with_me`: the text `true`
abbrev pub is_true : Given → Bool
is_true (Text text) = bytes_eq text (codes "true")
is_true unlike = false

abbrev pub list_of : Giving → Result ShareAsk Denial
list_of given =
    and_then (optional parameter.Path (given (codes "path"))) (λ path.
    and_then (no_password (given (codes "password"))) (λ none.
    and_then (spot_in path) (λ spot. Ok (ask.List spot (is_true (given (codes "shared_with_me")))))))

abbrev pub show_of : List ℕ → Giving → Result ShareAsk Denial
show_of target given = and_then (id_of target) (λ id. and_then (no_password (given (codes "password"))) (λ none. Ok (ask.Show id)))

abbrev pub set_of : List ℕ → Giving → Result ShareAsk Denial
set_of target given =
    and_then (id_of target) (λ id.
    and_then (permissions_of (given (codes "permissions"))) (λ perms.
    and_then (until_of (given (codes "expireDate"))) (λ until.
    and_then (no_password (given (codes "password"))) (λ none. Ok (ask.Set id perms until)))))

abbrev pub end_of : List ℕ → Giving → Result ShareAsk Denial
end_of target given = and_then (id_of target) (λ id. and_then (no_password (given (codes "password"))) (λ none. Ok (ask.End id)))

-- ---- the request

-- whether a route is of the OCS API
abbrev pub is_ocs_route : Route → Bool
is_ocs_route route.Shares = true
is_ocs_route route.Share = true
is_ocs_route route.Users = true
is_ocs_route route.User = true
is_ocs_route route.Memberships = true
is_ocs_route route.Groups = true
is_ocs_route other = false

-- what a method asks of a route that has it; the route of groups has one alone
abbrev pub topic_of : Route → Method → Topic
topic_of route.Shares method.Get = topic.List
topic_of route.Shares method.Post = topic.New
topic_of route.Share method.Get = topic.Show
topic_of route.Share method.Put = topic.Set
topic_of route.Share method.Delete = topic.End
topic_of route.Users method.Post = topic.NewUser
topic_of route.User method.Put = topic.SetUser
topic_of route.Memberships method.Post = topic.AddMember
topic_of route.Memberships method.Delete = topic.DropMember
topic_of route m = topic.NewGroup

abbrev pub about_shares : Result ShareAsk Denial → Result Wanted Denial
about_shares asked = and_then asked (λ ask. Ok (wanted.Share ask))

abbrev pub about_people : Result PeopleAsk Denial → Result Wanted Denial
about_people asked = and_then asked (λ ask. Ok (wanted.People ask))

abbrev pub ask_of : Topic → List ℕ → Giving → Result Wanted Denial
ask_of topic.List target given = about_shares (list_of given)
ask_of topic.New target given = about_shares (new_of given)
ask_of topic.Show target given = about_shares (show_of target given)
ask_of topic.Set target given = about_shares (set_of target given)
ask_of topic.End target given = about_shares (end_of target given)
ask_of topic.NewUser target given = about_people (new_user_of given)
ask_of topic.SetUser target given = about_people (set_user_of target given)
ask_of topic.AddMember target given = about_people (add_member_of target given)
ask_of topic.DropMember target given = about_people (drop_member_of target given)
ask_of topic.NewGroup target given = about_people (new_group_of given)

-- what is asked by the head and the body of a message on a route; or its first refusal: `ocs-header`, `body`, `bad-parameter`, `bad-name`
unfoldable pub ocs_request_of : Route → Method → Head → List ℕ → Result Wanted Denial
ocs_request_of route m head body =
    if not (says_ocs head) then Err denial.OcsHeader
    else and_then (body_of head body) (λ fields. ask_of (topic_of route m) head.target (given_in fields (query_of head.target)))
