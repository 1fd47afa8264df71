-- The request of a message: GET, PUT and DELETE (RFC 9110, section 9.3), MKCOL, COPY and MOVE (RFC 4918, sections 9.3, 9.8 and 9.9) in
-- a user's files and in what a link shares, what is asked about the trash bin, about versions and about uploads in chunks (Nextcloud developer manual, Trashbin, Versions and
-- Chunked file upload), and what is asked about shares, users and groups (the same, OCS Share API and User provisioning API), by the holder of a token (RFC 6750, section 2.1) or
-- by whoever knows a link.
use Rattle.std.specs.Prelude.{◌≡◌, ⊤, ℕ, Bool, true, false, ◌||◌, ◌&&◌, ◌==◌, nat_le, not, if◌then◌else◌, List, [], ◌∷◌, length, take, drop, codes, bytes_eq, Option, None, Some, is_some, Result, Ok, Err, option_map, option_and_then, slice_get, unwrap_or}
use Rattle.std.specs.List.{list_any}
use Rattle.std.specs.Option.{option_map_or, option_or}
use Rattle.sha2.specs.Sha256.{sha256}
use Rattle.nf_base.specs.declared.limits.TheConstants.{MAX_OCS_BODY}
use Rattle.nf_base.specs.Naming.{name_fault, path_fault, same_ignoring_case}
use Rattle.nf_base.specs.declared.name.NameFault.{NameFault}
use Rattle.nf_http.specs.Fields.{first_value}
use Rattle.nf_http.specs.Head.{Head, length_of}
use Rattle.nf_routes.specs.Methods.{method_of, takes}
use Rattle.nf_routes.specs.Mounts.{route_of}
use Rattle.nf_routes.specs.Targets.{is_ocs, restores, restores_version, segments_of, trash_segments, upload_segments, version_segments}
use Rattle.nf_routes.specs.declared.methods.Method.{Method}
use Rattle.nf_routes.specs.declared.methods.Method.TheVariants as method
use Rattle.nf_words.specs.declared.answer.Denial.{Denial}
use Rattle.nf_words.specs.declared.answer.Denial.TheVariants as denial
use Rattle.nf_words.specs.declared.answer.Parameter.{Parameter}
use Rattle.nf_words.specs.declared.answer.Parameter.TheVariants as parameter
use Rattle.nf_words.specs.declared.route.Route.{Route}
use Rattle.nf_words.specs.declared.route.Route.TheVariants as route
use Rattle.nf_words.specs.declared.request.Caller.{Caller}
use Rattle.nf_words.specs.declared.request.Caller.TheVariants.{Absent, Token, Link}
use Rattle.nf_words.specs.declared.request.Request.{Request}
use Rattle.nf_words.specs.declared.request.Spot.{Spot}
use Rattle.nf_words.specs.declared.request.TrashAsk.TheVariants as trash
use Rattle.nf_words.specs.declared.request.Wanted.{Wanted}
use Rattle.nf_words.specs.declared.request.Wanted.TheVariants as wanted
use Rattle.nf_ocs.specs.Asked.{is_ocs_route, ocs_request_of}
use Rattle.nf_ocs.specs.Read.{and_then}
use Rattle.nf_dav.specs.declared.fronts.Front.{Front}
use Rattle.nf_dav.specs.declared.fronts.Front.TheVariants as fronts
use Rattle.nf_dav.specs.declared.requests.Unasked.{Unasked}
use Rattle.nf_dav.specs.declared.requests.Unasked.TheVariants.{Refused, Memory}
use Rattle.nf_ocs.specs.Parameters.{number_in}
use Rattle.nf_words.specs.declared.request.TrashAsk.{TrashAsk}
use Rattle.nf_words.specs.declared.request.UploadAsk.{UploadAsk}
use Rattle.nf_words.specs.declared.request.UploadAsk.TheVariants as upload
use Rattle.nf_words.specs.declared.request.VersionAsk.{VersionAsk}
use Rattle.nf_words.specs.declared.request.VersionAsk.TheVariants as version

-- ---- the routes to files

-- what the first segment of a path to files is: on the files route the name of a user, on the public route the token of a link
abbrev pub front_on : Route → Option Front
front_on route.Files = Some fronts.User
front_on route.Public = Some fronts.Link
front_on other = None

-- ---- the caller

-- the caller of an Authorization: "Bearer" in any case, one space, and 1 to 128 bytes
abbrev pub caller_of_value : Option (List ℕ) → Caller
caller_of_value None = Absent
caller_of_value (Some value) =
    if nat_le 8 (length value) && nat_le (length value) 135 && same_ignoring_case (take 7 value) (codes "Bearer ")
    then Token (sha256 (drop 7 value)) else Absent

abbrev pub caller_of : Head → Caller
caller_of head = caller_of_value (first_value (codes "Authorization") head.fields)

-- the first of the segments
abbrev pub first_of : List (List ℕ) → List ℕ
first_of [] = []
first_of (first ∷ names) = first

-- the caller of a request for files: by a link, whatever the Authorization says
abbrev pub caller_by : Front → Head → Caller
caller_by fronts.User head = caller_of head
caller_by fronts.Link head = Link (first_of (segments_of head.target))

-- ---- the place

-- the user whose name is in front; a link's token names none
abbrev pub user_by : Front → List ℕ → Option (List ℕ)
user_by fronts.User name = Some name
user_by fronts.Link token = None

-- the place of segments: the user in front, and the names of the path
abbrev pub spot_at : Front → List (List ℕ) → Spot
spot_at front [] = record { user = None; path = [] }
spot_at front (first ∷ names) = record { user = user_by front first; path = names }

-- the first bad name of the segments: that in front, where a token is read as a name too, or else one of the path
abbrev pub segments_fault : List (List ℕ) → Option NameFault
segments_fault [] = None
segments_fault (first ∷ names) = option_or (name_fault first) (path_fault names)

abbrev pub target_spot : Front → Head → Spot
target_spot front head = spot_at front (segments_of head.target)

-- ---- fields (RFC 4918, sections 10.2, 10.3 and 10.6)

abbrev pub field : List ℕ → Head → Option (List ℕ)
field name head = first_value name head.fields

-- the same link is in front of both
abbrev pub is_same_link : List ℕ → List ℕ → Bool
is_same_link target value = bytes_eq (first_of (segments_of target)) (first_of (segments_of value))

-- a value that is a target leads to files as the target does: to those of some user, or to what the same link shares
abbrev pub leads_alike : Front → List ℕ → List ℕ → Option Front → Bool
leads_alike fronts.User target value (Some fronts.User) = true
leads_alike fronts.Link target value (Some fronts.Link) = is_same_link target value
leads_alike one target value other = false

-- a destination is such a value, without a query
abbrev pub is_destination : Front → List ℕ → List ℕ → Bool
is_destination front target value =
    not (list_any (λ b. b == 63) value) && leads_alike front target value (option_and_then front_on (route_of value))

-- the segments of the destination, where it can be read
abbrev pub destination_of : Front → Head → Option (List (List ℕ))
destination_of front head =
    option_and_then (λ value. if is_destination front head.target value then Some (segments_of value) else None)
    (field (codes "Destination") head)

-- `T`, which is the default, or `F`
abbrev pub is_overwrite : List ℕ → Bool
is_overwrite value = bytes_eq value (codes "T") || bytes_eq value (codes "F")

abbrev pub overwrites : Head → Bool
overwrites head = option_map_or (λ value. bytes_eq value (codes "T")) (field (codes "Overwrite") head) true

-- `infinity`, which is the default, in any case: nothing less deep is moved, copied or removed
abbrev pub is_infinite : List ℕ → Bool
is_infinite value = same_ignoring_case value (codes "infinity")

-- the refusal of a field that is there and can't be read
abbrev pub unread : Parameter → (List ℕ → Bool) → Option (List ℕ) → Option Denial
unread parameter test value = option_and_then (λ value. if test value then None else Some (denial.BadParameter parameter)) value

abbrev pub depth_refusal : Head → Option Denial
depth_refusal head = unread parameter.Depth is_infinite (field (codes "Depth") head)

-- those of what has two places: `destination`, `overwrite`, `depth`
abbrev pub transfer_refusal : Front → Head → Option Denial
transfer_refusal front head =
    option_or (if is_some (destination_of front head) then None else Some (denial.BadParameter parameter.Destination))
    (option_or (unread parameter.Overwrite is_overwrite (field (codes "Overwrite") head)) (depth_refusal head))

abbrev pub parameter_refusal : Front → Method → Head → Option Denial
parameter_refusal front method.Move head = transfer_refusal front head
parameter_refusal front method.Copy head = transfer_refusal front head
parameter_refusal front method.Delete head = depth_refusal head
parameter_refusal front other head = None

-- ---- a body that is taken before the request is looked for

-- the longest: the parameters of an OCS request may stand in its body
abbrev pub wants_body : Head → ℕ
wants_body head = if is_ocs head.target then MAX_OCS_BODY else 0

-- ---- the request

-- `body`: MKCOL takes none
abbrev pub body_refusal : Method → ℕ → Option Denial
body_refusal method.Mkcol n = if n == 0 then None else Some denial.Body
body_refusal other n = None

-- the segments of the second place, where there is one
abbrev pub second_segments : Front → Method → Head → List (List ℕ)
second_segments front method.Move head = option_map_or (λ segments. segments) (destination_of front head) []
second_segments front method.Copy head = option_map_or (λ segments. segments) (destination_of front head) []
second_segments front other head = []

abbrev pub second_spot : Front → Method → Head → Spot
second_spot front m head = spot_at front (second_segments front m head)

-- `bad-name`: the first in the target, or else in the destination
abbrev pub name_refusal : Front → Method → Head → Option Denial
name_refusal front m head =
    option_map denial.BadName (option_or (segments_fault (segments_of head.target)) (segments_fault (second_segments front m head)))

-- what a method wants; the routes to files have no other
abbrev pub wanted_of : Front → Method → Head → Wanted
wanted_of front method.Get head = wanted.Get (target_spot front head)
wanted_of front method.Put head = wanted.Put (target_spot front head) (length_of head)
wanted_of front method.Mkcol head = wanted.Mkcol (target_spot front head)
wanted_of front method.Delete head = wanted.Delete (target_spot front head)
wanted_of front method.Move head = wanted.Move (target_spot front head) (second_spot front method.Move head) (overwrites head)
wanted_of front method.Copy head = wanted.Copy (target_spot front head) (second_spot front method.Copy head) (overwrites head)
wanted_of front method.Post head = wanted.Get (target_spot front head)

abbrev pub unless_refused : Option Denial → Request → Result Request Denial
unless_refused None request = Ok request
unless_refused (Some refusal) request = Err refusal

-- `body`, `bad-parameter`, `bad-name`
abbrev pub files_refusal : Front → Method → Head → Option Denial
files_refusal front m head =
    option_or (body_refusal m (length_of head)) (option_or (parameter_refusal front m head) (name_refusal front m head))

-- a request for files
abbrev pub files_request : Front → Method → Head → Result Request Denial
files_request front m head =
    unless_refused (files_refusal front m head) (record { caller = caller_by front head; wanted = wanted_of front m head })

-- a request about shares, users and groups
abbrev pub ocs_request : Route → Method → Head → List ℕ → Result Request Denial
ocs_request route m head body =
    and_then (ocs_request_of route m head body) (λ wanted. Ok (record { caller = caller_of head; wanted = wanted }))

-- ---- the trash bin

abbrev pub is_trash_route : Route → Bool
is_trash_route route.Trash = true
is_trash_route route.TrashItem = true
is_trash_route other = false

-- the user whose trash it is
abbrev pub trash_user : Head → List ℕ
trash_user head = first_of (trash_segments head.target)

-- the number of an item
abbrev pub trash_item : Head → Option ℕ
trash_item head = option_and_then number_in (slice_get (trash_segments head.target) 2)

-- a destination is where the user's items come back to, whatever it names there, without a query
abbrev pub is_back : List ℕ → List ℕ → Bool
is_back user value = not (list_any (λ b. b == 63) value) && restores user value

abbrev pub item_refusal : Head → Option Denial
item_refusal head = if is_some (trash_item head) then None else Some (denial.BadParameter parameter.Id)

-- `destination`, `overwrite`, `depth`
abbrev pub back_refusal : Head → Option Denial
back_refusal head =
    option_or (if option_map_or (is_back (trash_user head)) (field (codes "Destination") head) false then None
    else Some (denial.BadParameter parameter.Destination))
    (option_or (unread parameter.Overwrite is_overwrite (field (codes "Overwrite") head)) (depth_refusal head))

-- of the fields that a method reads there, and the number
abbrev pub trash_parameter_refusal : Route → Method → Head → Option Denial
trash_parameter_refusal route.Trash method.Delete head = depth_refusal head
trash_parameter_refusal route.TrashItem method.Delete head = option_or (depth_refusal head) (item_refusal head)
trash_parameter_refusal route.TrashItem method.Move head = option_or (back_refusal head) (item_refusal head)
trash_parameter_refusal route m head = None

abbrev pub trash_refusal : Route → Method → Head → Option Denial
trash_refusal route m head = option_or (trash_parameter_refusal route m head) (option_map denial.BadName (name_fault (trash_user head)))

-- what is asked about it
abbrev pub trash_ask : Route → Method → List ℕ → ℕ → TrashAsk
trash_ask route.Trash method.Delete user item = trash.Empty user
trash_ask route.TrashItem method.Delete user item = trash.Drop user item
trash_ask route.TrashItem method.Move user item = trash.Restore user item
trash_ask route m user item = trash.List user

abbrev pub trash_asked : Route → Method → Head → TrashAsk
trash_asked route m head = trash_ask route m (trash_user head) (unwrap_or (trash_item head) 0)

abbrev pub trash_request : Route → Method → Head → Result Request Denial
trash_request route m head =
    unless_refused (trash_refusal route m head) (record { caller = caller_of head; wanted = wanted.Trash (trash_asked route m head) })

-- ---- versions

abbrev pub is_version_route : Route → Bool
is_version_route route.Versions = true
is_version_route route.Version = true
is_version_route other = false

-- the user who asks
abbrev pub version_user : Head → List ℕ
version_user head = first_of (version_segments head.target)

-- the number of the file, and the moment of a version
abbrev pub version_node : Head → Option ℕ
version_node head = option_and_then number_in (slice_get (version_segments head.target) 2)

abbrev pub version_moment : Head → Option ℕ
version_moment head = option_and_then number_in (slice_get (version_segments head.target) 3)

-- a destination is where versions come back to by the user, whatever it names there, without a query
abbrev pub is_version_back : List ℕ → List ℕ → Bool
is_version_back user value = not (list_any (λ b. b == 63) value) && restores_version user value

abbrev pub version_back : Head → Bool
version_back head = option_map_or (is_version_back (version_user head)) (field (codes "Destination") head) false

-- of the numbers that a route has: `id`, `at`
abbrev pub moment_refusal : Route → Option ℕ → Option Denial
moment_refusal route.Version moment = if is_some moment then None else Some (denial.BadParameter parameter.At)
moment_refusal other moment = None

abbrev pub numbers_refusal : Route → Option ℕ → Option ℕ → Option Denial
numbers_refusal route node moment =
    option_or (if is_some node then None else Some (denial.BadParameter parameter.Id)) (moment_refusal route moment)

-- of the fields that a method reads there, before the numbers: `destination`, `depth`. What is there is always replaced, so no Overwrite is read
abbrev pub version_parameter_refusal : Method → Head → Option Denial → Option Denial
version_parameter_refusal method.Move head numbers =
    option_or (if version_back head then None else Some (denial.BadParameter parameter.Destination)) (option_or (depth_refusal head) numbers)
version_parameter_refusal other head numbers = numbers

abbrev pub version_refusal : Route → Method → Head → Option Denial
version_refusal route m head =
    option_or (version_parameter_refusal m head (numbers_refusal route (version_node head) (version_moment head)))
    (option_map denial.BadName (name_fault (version_user head)))

-- what is asked about them
abbrev pub version_ask : Route → Method → List ℕ → ℕ → ℕ → VersionAsk
version_ask route.Version method.Get user node at = version.Get user node at
version_ask route.Version method.Move user node at = version.Restore user node at
version_ask route m user node at = version.List user node

abbrev pub version_asked : Route → Method → Head → VersionAsk
version_asked route m head =
    version_ask route m (version_user head) (unwrap_or (version_node head) 0) (unwrap_or (version_moment head) 0)

abbrev pub version_request : Route → Method → Head → Result Request Denial
version_request route m head =
    unless_refused (version_refusal route m head) (record { caller = caller_of head; wanted = wanted.Version (version_asked route m head) })

-- ---- uploads in chunks

-- all of the segments behind the first
abbrev pub names_of : List (List ℕ) → List (List ℕ)
names_of [] = []
names_of (first ∷ names) = names

-- the names of the user, of the upload and of a chunk
abbrev pub upload_user : Head → List ℕ
upload_user head = first_of (upload_segments head.target)

abbrev pub upload_dir : Head → List ℕ
upload_dir head = unwrap_or (slice_get (upload_segments head.target) 1) []

abbrev pub upload_chunk : Head → List ℕ
upload_chunk head = unwrap_or (slice_get (upload_segments head.target) 2) []

-- the segments of a destination in the files of that user
abbrev pub intended_of : Head → Option (List (List ℕ))
intended_of head =
    option_and_then (λ segments. if bytes_eq (first_of segments) (upload_user head) then Some segments else None) (destination_of fronts.User head)

-- where the method reads one
abbrev pub told_by : Method → Head → Option (List (List ℕ))
told_by method.Mkcol head = intended_of head
told_by method.Put head = intended_of head
told_by method.Move head = intended_of head
told_by other head = None

-- the names of its path
abbrev pub names_behind : Option (List (List ℕ)) → List (List ℕ)
names_behind told = option_map_or names_of told []

-- the number of bytes that an upload is said to have
abbrev pub total_of : Head → Option ℕ
total_of head = option_and_then number_in (field (codes "OC-Total-Length") head)

abbrev pub intended_refusal : Head → Option Denial
intended_refusal head = if is_some (intended_of head) then None else Some (denial.BadParameter parameter.Destination)

-- of the fields that a method reads there: `destination`, which only a chunk may leave out, `depth`, `total`. No Overwrite is read
abbrev pub upload_parameter_refusal : Method → Head → Option Denial
upload_parameter_refusal method.Mkcol head = intended_refusal head
upload_parameter_refusal method.Put head = option_and_then (λ value. intended_refusal head) (field (codes "Destination") head)
upload_parameter_refusal method.Move head =
    option_or (intended_refusal head)
    (option_or (depth_refusal head) (unread parameter.Total (λ value. is_some (number_in value)) (field (codes "OC-Total-Length") head)))
upload_parameter_refusal other head = depth_refusal head

-- the first bad name: of those in the target, the chunk's where it is sent, or else of the path in the destination
abbrev pub chunk_fault : Method → List ℕ → Option NameFault
chunk_fault method.Put name = name_fault name
chunk_fault other name = None

abbrev pub upload_fault : Method → Head → Option NameFault
upload_fault m head =
    option_or (name_fault (upload_user head))
    (option_or (name_fault (upload_dir head)) (option_or (chunk_fault m (upload_chunk head)) (path_fault (names_behind (told_by m head)))))

-- `body`, `bad-parameter`, `bad-name`
abbrev pub upload_refusal : Method → Head → Option Denial
upload_refusal m head =
    option_or (body_refusal m (length_of head)) (option_or (upload_parameter_refusal m head) (option_map denial.BadName (upload_fault m head)))

-- what is asked about one, by the methods of its routes
abbrev pub upload_asked : Method → Head → UploadAsk
upload_asked method.Mkcol head = upload.New (upload_user head) (upload_dir head) (names_behind (told_by method.Mkcol head))
upload_asked method.Put head =
    upload.Chunk (upload_user head) (upload_dir head) (upload_chunk head) (option_map names_of (told_by method.Put head)) (length_of head)
upload_asked method.Move head =
    upload.Join (upload_dir head) (record { user = Some (upload_user head); path = names_behind (told_by method.Move head) }) (total_of head)
upload_asked other head = upload.Drop (upload_user head) (upload_dir head)

abbrev pub upload_request : Method → Head → Result Request Denial
upload_request m head =
    unless_refused (upload_refusal m head) (record { caller = caller_of head; wanted = wanted.Upload (upload_asked m head) })

-- ---- all of them

-- a request on a route where no files are
abbrev pub other_request : Route → Method → Head → List ℕ → Result Request Denial
other_request route m head body =
    if is_ocs_route route then ocs_request route m head body
    else if is_trash_route route then trash_request route m head
    else if is_version_route route then version_request route m head
    else upload_request m head

abbrev pub routed : Route → Method → Head → List ℕ → Result Request Denial
routed route m head body =
    if not (takes route m) then Err (denial.Method route)
    else option_map_or (λ front. files_request front m head) (front_on route) (other_request route m head body)

-- the only chunk that is moved is all of them
abbrev pub is_stray : Route → Option Method → Bool
is_stray route.Chunk (Some method.Move) = true
is_stray route other = false

abbrev pub on_route : Route → Option Method → Head → List ℕ → Result Request Denial
on_route route m head body =
    if is_stray route m then Err denial.NotFound
    else option_map_or (λ m. routed route m head body) m (Err (denial.Method route))

-- the request of a head and of a body, as far as that is taken; or its first refusal: `not-found`, `method`, then those of its route
unfoldable pub request_of : Head → List ℕ → Result Request Denial
request_of head body =
    option_map_or (λ route. on_route route (method_of head.method) head body) (route_of head.target) (Err denial.NotFound)

-- what reading a request gives: it, or its refusal; want of memory is free
abbrev pub IsGiven : Result Request Denial → Result Request Unasked → Type 0
IsGiven due (Ok request) = due ≡ Ok request
IsGiven due (Err (Refused denial)) = due ≡ Err denial
IsGiven due (Err Memory) = ⊤

abbrev pub GivesRequest : Head → List ℕ → Result Request Unasked → Type 0
GivesRequest head body result = IsGiven (request_of head body) result

-- a refusal is told; want of memory is free
abbrev pub Tells : Option Denial → Unasked → Type 0
Tells refusal (Refused denial) = refusal ≡ Some denial
Tells refusal Memory = ⊤

-- what reading a part of a request gives: what it has to be, unless it is refused
abbrev pub Gives : {A : Type 0} → Option Denial → (A → Type 0) → Result A Unasked → Type 0
Gives refusal Is (Ok part) = (refusal ≡ None) × Is part
Gives refusal Is (Err why) = Tells refusal why

-- the same of what is refused for a name
abbrev pub GivesNamed : {A : Type 0} → Option NameFault → A → Result A Unasked → Type 0
GivesNamed fault named (Ok given) = (fault ≡ None) × (given ≡ named)
GivesNamed fault named (Err why) = Tells (option_map denial.BadName fault) why
