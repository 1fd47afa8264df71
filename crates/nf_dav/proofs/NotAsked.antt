-- The refusals of a request that isn't asked.
use Rattle.std.proofs.Common.{◌≡◌, ◌==◌, List, ℕ, Bool, true, false, not, if◌then◌else◌, Option, None, Some, Result, Ok, Err, codes, option_map, refl, subst}
use Rattle.std.specs.Prelude.{IfSome, is_some, option_and_then}
use Rattle.std.specs.Option.{option_map_or, option_or}
use Rattle.nf_base.specs.declared.name.NameFault.{NameFault}
use Rattle.nf_http.specs.Head.{Head, length_of}
use Rattle.nf_routes.specs.Methods.{method_of, takes}
use Rattle.nf_routes.specs.Mounts.{route_of}
use Rattle.nf_routes.specs.declared.methods.Method.{Method}
use Rattle.nf_routes.specs.declared.methods.Method.TheVariants as method
use Rattle.nf_words.specs.declared.answer.Denial.{Denial}
use Rattle.nf_words.specs.declared.answer.Denial.TheVariants as denial
use Rattle.nf_words.specs.declared.answer.Parameter.{Parameter}
use Rattle.nf_words.specs.declared.answer.Parameter.TheVariants as parameter
use Rattle.nf_words.specs.declared.request.Request.{Request}
use Rattle.nf_words.specs.declared.request.Wanted.{Wanted}
use Rattle.nf_words.specs.declared.route.Route.{Route}
use Rattle.nf_words.specs.declared.route.Route.TheVariants as route
use Rattle.nf_ocs.specs.Asked.{is_ocs_route, ocs_request_of}
use Rattle.nf_ocs.specs.Parameters.{number_in}
use Rattle.nf_ocs.specs.Read.{and_then}
use Rattle.nf_ocs.proofs.Asks.{AsksWell, IsFine, fine_request, is_of_ocs}
use Rattle.nf_dav.specs.Asked as dav
use Rattle.nf_dav.specs.Asked.{request_of}
use Rattle.nf_dav.specs.declared.fronts.Front.{Front}

-- what refuses a request before the site is asked
abbrev pub is_of_request : Denial → Bool
is_of_request denial.NotFound = true
is_of_request (denial.Method r) = true
is_of_request denial.OcsHeader = true
is_of_request denial.Body = true
is_of_request (denial.BadParameter p) = true
is_of_request (denial.BadName fault) = true
is_of_request other = false

abbrev AreOfRequest : Option Denial → Type 0
AreOfRequest refusal = IfSome refusal (λ d. is_of_request d ≡ true)

abbrev IsOfRequest : Result Request Denial → Type 0
IsOfRequest (Ok request) = Unit {0}
IsOfRequest (Err refusal) = is_of_request refusal ≡ true

-- ---- refusals that may be there

or_else : (first more : Option Denial) → AreOfRequest first → AreOfRequest more → AreOfRequest (option_or first more)
or_else None more one other = other
or_else (Some refusal) more one other = one

unless : (test : Bool) (refusal : Denial) → is_of_request refusal ≡ true → AreOfRequest (if test then None else Some refusal)
unless true refusal is = tt
unless false refusal is = is

unread_field : (p : Parameter) (test : List ℕ → Bool) (value : Option (List ℕ)) → AreOfRequest (dav.unread p test value)
unread_field p test None = tt
unread_field p test (Some value) = unless (test value) (denial.BadParameter p) refl

transfer : (front : Front) (head : Head) → AreOfRequest (dav.transfer_refusal front head)
transfer front head =
    or_else _ _ (unless (is_some (dav.destination_of front head)) (denial.BadParameter parameter.Destination) refl)
    (or_else _ _ (unread_field parameter.Overwrite dav.is_overwrite (dav.field (codes "Overwrite") head))
    (unread_field parameter.Depth dav.is_infinite (dav.field (codes "Depth") head)))

parameters : (front : Front) (m : Method) (head : Head) → AreOfRequest (dav.parameter_refusal front m head)
parameters front method.Get head = tt
parameters front method.Put head = tt
parameters front method.Mkcol head = tt
parameters front method.Delete head = unread_field parameter.Depth dav.is_infinite (dav.field (codes "Depth") head)
parameters front method.Move head = transfer front head
parameters front method.Copy head = transfer front head
parameters front method.Post head = tt

body : (m : Method) (n : ℕ) → AreOfRequest (dav.body_refusal m n)
body method.Get n = tt
body method.Put n = tt
body method.Mkcol n = unless (n == 0) denial.Body refl
body method.Delete n = tt
body method.Move n = tt
body method.Copy n = tt
body method.Post n = tt

names : (fault : Option NameFault) → AreOfRequest (option_map denial.BadName fault)
names None = tt
names (Some fault) = refl

-- ---- requests

checked : (test : Bool) (one other : Result Request Denial) → IsOfRequest one → IsOfRequest other → IsOfRequest (if test then one else other)
checked true one other here there = here
checked false one other here there = there

unless_any : (refusal : Option Denial) (request : Request) → AreOfRequest refusal → IsOfRequest (dav.unless_refused refusal request)
unless_any None request is = tt
unless_any (Some refusal) request is = is

on_files : (front : Front) (m : Method) (head : Head) → IsOfRequest (dav.files_request front m head)
on_files front m head =
    unless_any (dav.files_refusal front m head) _ (or_else _ _ (body m (length_of head)) (or_else _ _ (parameters front m head) (names _)))

-- the refusals of a request about shares, users and groups are among them
ocs_too : (refusal : Denial) → is_of_ocs refusal ≡ true → is_of_request refusal ≡ true
ocs_too denial.OcsHeader is = refl
ocs_too denial.Body is = refl
ocs_too (denial.BadParameter p) is = refl
ocs_too (denial.BadName fault) is = refl
ocs_too other is = absurd (cc)

on_ocs : (r : Route) (m : Method) (head : Head) (body : List ℕ) → IsOfRequest (dav.ocs_request r m head body)
on_ocs r m head body = here (ocs_request_of r m head body) (fine_request r m head body)
  where
    here : (asked : Result Wanted Denial) → IsFine AsksWell asked
        → IsOfRequest (and_then asked (λ wanted. Ok (record { caller = dav.caller_of head; wanted = wanted })))
    here (Ok wanted) well = tt
    here (Err refusal) is = ocs_too refusal is

back : (head : Head) → AreOfRequest (dav.back_refusal head)
back head =
    or_else _ _
    (unless (option_map_or (dav.is_back (dav.trash_user head)) (dav.field (codes "Destination") head) false) (denial.BadParameter parameter.Destination) refl)
    (or_else _ _ (unread_field parameter.Overwrite dav.is_overwrite (dav.field (codes "Overwrite") head))
    (unread_field parameter.Depth dav.is_infinite (dav.field (codes "Depth") head)))

item : (head : Head) → AreOfRequest (dav.item_refusal head)
item head = unless (is_some (dav.trash_item head)) (denial.BadParameter parameter.Id) refl

depth : (head : Head) → AreOfRequest (dav.depth_refusal head)
depth head = unread_field parameter.Depth dav.is_infinite (dav.field (codes "Depth") head)

trash_parameters : (r : Route) (m : Method) (head : Head) → AreOfRequest (dav.trash_parameter_refusal r m head)
trash_parameters route.Trash method.Delete head = depth head
trash_parameters route.TrashItem method.Delete head = or_else _ _ (depth head) (item head)
trash_parameters route.TrashItem method.Move head = or_else _ _ (back head) (item head)
trash_parameters r m head = tt

on_trash : (r : Route) (m : Method) (head : Head) → IsOfRequest (dav.trash_request r m head)
on_trash r m head = unless_any (dav.trash_refusal r m head) _ (or_else _ _ (trash_parameters r m head) (names _))

version_back : (head : Head) (numbers : Option Denial) → AreOfRequest numbers
    → AreOfRequest (dav.version_parameter_refusal method.Move head numbers)
version_back head numbers are =
    or_else _ _ (unless (dav.version_back head) (denial.BadParameter parameter.Destination) refl) (or_else _ _ (depth head) are)

version_parameters : (m : Method) (head : Head) (numbers : Option Denial) → AreOfRequest numbers
    → AreOfRequest (dav.version_parameter_refusal m head numbers)
version_parameters method.Move head numbers are = version_back head numbers are
version_parameters m head numbers are = are

moment : (r : Route) (at : Option ℕ) → AreOfRequest (dav.moment_refusal r at)
moment route.Version at = unless (is_some at) (denial.BadParameter parameter.At) refl
moment r at = tt

numbers : (r : Route) (node at : Option ℕ) → AreOfRequest (dav.numbers_refusal r node at)
numbers r node at = or_else _ _ (unless (is_some node) (denial.BadParameter parameter.Id) refl) (moment r at)

on_versions : (r : Route) (m : Method) (head : Head) → IsOfRequest (dav.version_request r m head)
on_versions r m head =
    unless_any (dav.version_refusal r m head) _
    (or_else _ _ (version_parameters m head _ (numbers r (dav.version_node head) (dav.version_moment head))) (names _))

intended : (head : Head) → AreOfRequest (dav.intended_refusal head)
intended head = unless (is_some (dav.intended_of head)) (denial.BadParameter parameter.Destination) refl

where_told : (value : Option (List ℕ)) (refusal : Option Denial) → AreOfRequest refusal → AreOfRequest (option_and_then (λ (_ : List ℕ). refusal) value)
where_told None refusal are = tt
where_told (Some value) refusal are = are

upload_parameters : (m : Method) (head : Head) → AreOfRequest (dav.upload_parameter_refusal m head)
upload_parameters method.Get head = depth head
upload_parameters method.Put head = where_told (dav.field (codes "Destination") head) _ (intended head)
upload_parameters method.Mkcol head = intended head
upload_parameters method.Delete head = depth head
upload_parameters method.Move head =
    or_else _ _ (intended head)
    (or_else _ _ (depth head) (unread_field parameter.Total (λ value. is_some (number_in value)) (dav.field (codes "OC-Total-Length") head)))
upload_parameters method.Copy head = depth head
upload_parameters method.Post head = depth head

on_uploads : (m : Method) (head : Head) → IsOfRequest (dav.upload_request m head)
on_uploads m head =
    unless_any (dav.upload_refusal m head) _ (or_else _ _ (body m (length_of head)) (or_else _ _ (upload_parameters m head) (names _)))

by : (r : Route) (m : Option Method) (head : Head) (body : List ℕ)
    → IsOfRequest (option_map_or (λ m. dav.routed r m head body) m (Err (denial.Method r)))
by r None head body = refl
by r (Some m) head body =
    checked (not (takes r m)) _ _ refl
    (there (dav.front_on r) (checked (is_ocs_route r) _ _ (on_ocs r m head body) (checked (dav.is_trash_route r) _ _ (on_trash r m head)
    (checked (dav.is_version_route r) _ _ (on_versions r m head) (on_uploads m head)))))
  where
    there : (front : Option Front) → IsOfRequest (dav.other_request r m head body)
        → IsOfRequest (option_map_or (λ front. dav.files_request front m head) front (dav.other_request r m head body))
    there None other = other
    there (Some front) other = on_files front m head

-- no other refusal comes before the site is asked
pub unasked_refusal : (head : Head) (body : List ℕ) (refusal : Denial) → request_of head body ≡ Err refusal → is_of_request refusal ≡ true
unfolding request_of
unasked_refusal head body refusal is = subst IsOfRequest is (on (route_of head.target))
  where
    on : (r : Option Route) → IsOfRequest (option_map_or (λ r. dav.on_route r (method_of head.method) head body) r (Err denial.NotFound))
    on None = refl
    on (Some r) = checked (dav.is_stray r (method_of head.method)) _ _ refl (by r (method_of head.method) head body)
