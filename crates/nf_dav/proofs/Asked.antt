-- What is asked is asked of a route to files, by one of its methods, in the files of some user or by a link; or about shares, users and
-- groups.
use Rattle.std.proofs.Common.{◌≡◌, ◌∙◌, ◌⊎◌, inl, inr, ℕ, ◌+◌, ◌-◌, ◌≤◌, List, [], ◌∷◌, length, map, take, drop, Bool, true, false, ◌&&◌, not, if◌then◌else◌, Option, None, Some, Result, Ok, Err, codes, bytes_eq, option_map, refl, sym, ap, subst, arith, lit≤}
use Rattle.std.specs.Prelude.{IsSome, IfOk, is_some, option_and_then}
use Rattle.std.specs.List.{slice_split}
use Rattle.std.specs.Option.{option_map_or, option_or}
use Rattle.std.proofs.lemmas.Bool.{false≢true}
use Rattle.std.proofs.lemmas.List.{length-take, take-take}
use Rattle.std.proofs.lemmas.List.Splits.{length-slice_split}
use Rattle.std.proofs.lemmas.Option.{none-some, option_and_then_some, same_Some}
use Rattle.std.proofs.lemmas.Slice.Eq.{bytes_eq-Decides}
use Rattle.sha2.specs.Sha256.{sha256}
use Rattle.nf_base.specs.declared.limits.TheConstants.{MAX_BODY}
use Rattle.nf_base.specs.Naming.{name_fault, path_fault}
use Rattle.nf_http.specs.Head.{Head, length_of}
use Rattle.nf_routes.specs.Methods.{method_of, takes}
use Rattle.nf_routes.specs.Mounts.{mount_of, route_at, route_below, route_in, route_of, words}
use Rattle.nf_routes.specs.Targets.{behind, behind_files, decoded_segments, is_ocs, is_slash, segments_of, target_path, whole_path, without_slash}
use Rattle.nf_routes.specs.declared.methods.Method.{Method}
use Rattle.nf_routes.specs.declared.methods.Method.TheVariants as method
use Rattle.nf_routes.specs.declared.mounts.Mount.{Mount}
use Rattle.nf_routes.specs.declared.mounts.Mount.TheVariants as mount
use Rattle.nf_words.specs.Asked.{is_about_files, is_about_shares}
use Rattle.nf_words.specs.Calls.{is_by_link}
use Rattle.nf_words.specs.History.{MayWant, NamesUser}
use Rattle.nf_words.specs.declared.answer.Denial.{Denial}
use Rattle.nf_words.specs.declared.answer.Denial.TheVariants as denial
use Rattle.nf_words.specs.declared.answer.Parameter.TheVariants as parameter
use Rattle.nf_words.specs.declared.request.Caller.{Caller}
use Rattle.nf_words.specs.declared.request.Caller.TheVariants.{Absent, Token, Link}
use Rattle.nf_words.specs.declared.request.Request.{Request}
use Rattle.nf_words.specs.declared.request.ShareAsk.{ShareAsk}
use Rattle.nf_words.specs.declared.request.ShareAsk.TheVariants as ask
use Rattle.nf_words.specs.declared.request.Spot.{Spot}
use Rattle.nf_words.specs.declared.request.Wanted.{Wanted}
use Rattle.nf_words.specs.declared.request.Wanted.TheVariants as wanted
use Rattle.nf_words.specs.declared.route.Route.{Route}
use Rattle.nf_words.specs.declared.route.Route.TheVariants as route
use Rattle.nf_ocs.specs.Asked.{is_ocs_route, ocs_request_of}
use Rattle.nf_ocs.specs.Read.{and_then}
use Rattle.nf_ocs.proofs.Asks.{AsksOwn, AsksWell, IsFine, NamesNobody, fine_request}
use Rattle.nf_dav.specs.Asked.{caller_by, caller_of, caller_of_value, destination_of, field, files_refusal, files_request, first_of, front_on, Gives, is_destination, is_stray, is_trash_route, is_version_route, leads_alike, ocs_request, on_route, other_request, request_of, routed, second_segments, second_spot, segments_fault, spot_at, target_spot, transfer_refusal, trash_asked, trash_refusal, trash_request, unless_refused, upload_asked, upload_refusal, upload_request, version_asked, version_refusal, version_request, wanted_of}
use Rattle.nf_dav.specs.declared.fronts.Front.{Front}
use Rattle.nf_dav.specs.declared.fronts.Front.TheVariants as fronts
use Rattle.nf_dav.specs.declared.requests.Unasked.{Unasked}
use Rattle.nf_words.specs.declared.request.TrashAsk.{TrashAsk}
use Rattle.nf_words.specs.declared.request.TrashAsk.TheVariants as trash
use Rattle.nf_words.specs.declared.request.UploadAsk.{UploadAsk}
use Rattle.nf_words.specs.declared.request.VersionAsk.{VersionAsk}
use Rattle.nf_words.specs.declared.request.VersionAsk.TheVariants as version

-- ---- the route and the method

-- what is asked of a route to files by a method
pub record IsAskedThere (head : Head) (request : Request) : Type 0 where
  pub front : Front
  pub place : option_and_then front_on (route_of head.target) ≡ Some front
  pub method : Method
  pub named : method_of head.method ≡ Some method
  pub asked : files_request front method head ≡ Ok request

unrefused : (test : Bool) (refusal : Denial) (more : Result Request Denial) (request : Request)
    → (if test then Err refusal else more) ≡ Ok request → (test ≡ false) × (more ≡ Ok request)
unrefused true refusal more request is = absurd (cc)
unrefused false refusal more request is = (refl, is)

granted : (test : Bool) (refusal : Denial) (more : Result Request Denial) (request : Request)
    → (if test then more else Err refusal) ≡ Ok request → (test ≡ true) × (more ≡ Ok request)
granted true refusal more request is = (refl, is)
granted false refusal more request is = absurd (cc)

either_of : (test : Bool) (one other : Result Request Denial) (request : Request) → (if test then one else other) ≡ Ok request
    → (one ≡ Ok request) ⊎ (other ≡ Ok request)
either_of true one other request is = inl is
either_of false one other request is = inr is

-- what is asked about shares, users and groups by a method of a route
pub record IsAskedOfOcs (head : Head) (body : List ℕ) (request : Request) : Type 0 where
  pub route : Route
  pub method : Method
  pub named : method_of head.method ≡ Some method
  pub asked : ocs_request route method head body ≡ Ok request

-- what is asked about the trash bin by a method of a route
pub record IsAskedOfTrash (head : Head) (request : Request) : Type 0 where
  pub route : Route
  pub method : Method
  pub named : method_of head.method ≡ Some method
  pub asked : trash_request route method head ≡ Ok request

-- what is asked about versions by a method of a route
pub record IsAskedOfVersions (head : Head) (request : Request) : Type 0 where
  pub route : Route
  pub method : Method
  pub named : method_of head.method ≡ Some method
  pub asked : version_request route method head ≡ Ok request

-- what is asked about an upload by a method
pub record IsAskedOfUploads (head : Head) (request : Request) : Type 0 where
  pub method : Method
  pub named : method_of head.method ≡ Some method
  pub asked : upload_request method head ≡ Ok request

-- what is asked of the trash bin, about versions or about an upload
abbrev pub IsAskedBeside : Head → Request → Type 0
IsAskedBeside head request = IsAskedOfTrash head request ⊎ (IsAskedOfVersions head request ⊎ IsAskedOfUploads head request)

-- what is asked of no route to files
abbrev pub IsAskedElsewhere : Head → List ℕ → Request → Type 0
IsAskedElsewhere head body request = IsAskedOfOcs head body request ⊎ IsAskedBeside head request

pub asked_there : (head : Head) (body : List ℕ) (request : Request) → request_of head body ≡ Ok request
    → IsAskedThere head request ⊎ IsAskedElsewhere head body request
unfolding request_of
asked_there head body request is = on (route_of head.target) refl is
  where
    beside : (r : Route) (m : Method) → method_of head.method ≡ Some m
        → (if is_trash_route r then trash_request r m head else if is_version_route r then version_request r m head else upload_request m head) ≡ Ok request
        → IsAskedBeside head request
    beside r m named is =
        elim (either_of (is_trash_route r) (trash_request r m head) _ request is) [
          | inl asked ↦ inl (record { route = r; method = m; named = named; asked = asked })
          | inr other ↦
              elim (either_of (is_version_route r) (version_request r m head) (upload_request m head) request other) [
                | inl asked ↦ inr (inl (record { route = r; method = m; named = named; asked = asked }))
                | inr asked ↦ inr (inr (record { method = m; named = named; asked = asked }))
              ]
        ]

    which : (r : Route) (m : Method) → route_of head.target ≡ Some r → method_of head.method ≡ Some m
        → (front : Option Front) → front_on r ≡ front
        → option_map_or (λ front. files_request front m head) front (other_request r m head body) ≡ Ok request
        → IsAskedThere head request ⊎ IsAskedElsewhere head body request
    which r m at named (Some front) on is =
        inl (record { front = front; place = ap (option_and_then front_on) at ∙ on; method = m; named = named; asked = is })
    which r m at named None on is =
        elim (either_of (is_ocs_route r) (ocs_request r m head body) _ request is) [
          | inl asked ↦ inr (inl (record { route = r; method = m; named = named; asked = asked }))
          | inr other ↦ inr (inr (beside r m named other))
        ]

    by : (r : Route) → route_of head.target ≡ Some r → (m : Option Method) → method_of head.method ≡ m
        → option_map_or (λ m. routed r m head body) m (Err (denial.Method r)) ≡ Ok request
        → IsAskedThere head request ⊎ IsAskedElsewhere head body request
    by r at None named is = absurd (cc)
    by r at (Some m) named is =
        which r m at named (front_on r) refl (unrefused (not (takes r m)) (denial.Method r) _ request is).1

    on : (r : Option Route) → route_of head.target ≡ r
        → option_map_or (λ r. on_route r (method_of head.method) head body) r (Err denial.NotFound) ≡ Ok request
        → IsAskedThere head request ⊎ IsAskedElsewhere head body request
    on None at is = absurd (cc)
    on (Some r) at is =
        by r at (method_of head.method) refl (unrefused (is_stray r (method_of head.method)) denial.NotFound _ request is).1

-- ---- paths to files

-- the mounts where files are
abbrev is_of_files : Mount → Bool
is_of_files mount.Files = true
is_of_files mount.Public = true
is_of_files other = false

-- no other mount leads to files
elsewhere : (test : Bool) (r : Route) (front : Front) → front_on r ≡ None → option_and_then front_on (if test then Some r else None) ≡ Some front → ⊥
elsewhere true r front other is = none-some front (sym other ∙ is)
elsewhere false r front other is = cc

chunk_elsewhere : (test : Bool) (front : Front) → front_on (if test then route.Assembly else route.Chunk) ≡ Some front → ⊥
chunk_elsewhere true front is = cc
chunk_elsewhere false front is = cc

files_below : (m : Mount) (segments : List (List ℕ)) (front : Front) → option_and_then front_on (route_below m segments) ≡ Some front
    → is_of_files m ≡ true
files_below mount.Files segments front is = refl
files_below mount.Public segments front is = refl
files_below mount.Uploads [] front is = absurd (cc)
files_below mount.Uploads (a ∷ []) front is = absurd (cc)
files_below mount.Uploads (a ∷ b ∷ []) front is = absurd (cc)
files_below mount.Uploads (a ∷ b ∷ c ∷ []) front is = absurd (chunk_elsewhere _ front is)
files_below mount.Uploads (a ∷ b ∷ c ∷ d ∷ more) front is = absurd (cc)
files_below mount.Trashbin [] front is = absurd (cc)
files_below mount.Trashbin (a ∷ []) front is = absurd (cc)
files_below mount.Trashbin (a ∷ b ∷ []) front is = absurd (elsewhere _ _ front refl is)
files_below mount.Trashbin (a ∷ b ∷ c ∷ []) front is = absurd (elsewhere _ _ front refl is)
files_below mount.Trashbin (a ∷ b ∷ c ∷ d ∷ more) front is = absurd (cc)
files_below mount.Versions [] front is = absurd (cc)
files_below mount.Versions (a ∷ []) front is = absurd (cc)
files_below mount.Versions (a ∷ b ∷ []) front is = absurd (cc)
files_below mount.Versions (a ∷ b ∷ c ∷ []) front is = absurd (elsewhere _ _ front refl is)
files_below mount.Versions (a ∷ b ∷ c ∷ d ∷ []) front is = absurd (elsewhere _ _ front refl is)
files_below mount.Versions (a ∷ b ∷ c ∷ d ∷ e ∷ more) front is = absurd (cc)
files_below mount.Shares segments front is = absurd (cc)
files_below mount.Share [] front is = absurd (cc)
files_below mount.Share (a ∷ []) front is = absurd (cc)
files_below mount.Share (a ∷ b ∷ more) front is = absurd (cc)
files_below mount.Users segments front is = absurd (cc)
files_below mount.User [] front is = absurd (cc)
files_below mount.User (a ∷ []) front is = absurd (cc)
files_below mount.User (a ∷ b ∷ []) front is = absurd (elsewhere _ _ front refl is)
files_below mount.User (a ∷ b ∷ c ∷ more) front is = absurd (cc)
files_below mount.Groups segments front is = absurd (cc)

-- a target whose path begins with the words of a mount where files are
record IsInFiles (target : List ℕ) : Type 0 where
  path : List ℕ
  at : target_path target ≡ Some path
  below : IsSome (behind_files path)

first_some : {A : Type 0} (first second : Option A) → IsSome first → IsSome (option_or first second)
first_some (Some part) second is = refl
first_some None second is = absurd (false≢true is)

second_some : {A : Type 0} (first second : Option A) → IsSome second → IsSome (option_or first second)
second_some (Some part) second is = refl
second_some None second is = is

behind_some : (m : Mount) (path : List ℕ) → is_of_files m ≡ true → IsSome (behind (words m) path) → IsSome (behind_files path)
behind_some mount.Files path is below = first_some (behind (words mount.Files) path) (behind (words mount.Public) path) below
behind_some mount.Public path is below = second_some (behind (words mount.Files) path) (behind (words mount.Public) path) below
behind_some other path is below = absurd (false≢true is)

in_files : (target : List ℕ) (front : Front) → option_and_then front_on (route_of target) ≡ Some front → IsInFiles target
in_files target front is =
    option_and_then_some front_on (route_of target) front is (λ r at is_on.
    option_and_then_some route_at (target_path target) r at (λ path at is.
    option_and_then_some (λ m. route_in m path) (mount_of path) r is (λ m in_it is.
    option_and_then_some (λ rest. route_below m (slice_split is_slash rest)) (behind (words m) path) r is (λ rest below is.
    record {
      path = path;
      at = at;
      below = behind_some m path (files_below m (slice_split is_slash rest) front (ap (option_and_then front_on) is ∙ is_on)) (ap is_some below);
    }))))

-- what is cut behind a front begins with it
begins : (front path : List ℕ) → IsSome (behind front path) → take (length front) path ≡ front
begins front path is = (bytes_eq-Decides (take (length front) path) front).0 (here (bytes_eq (take (length front) path) front) is)
  where
    here : (test : Bool) → IsSome (if test then Some (drop (length front) path) else None) → test ≡ true
    here true is = refl
    here false is = is

either_some : {A : Type 0} (first second : Option A) → IsSome (option_or first second) → IsSome first ⊎ IsSome second
either_some (Some part) second is = inl refl
either_some None second is = inr is

-- without its last slash a path begins as before
front_kept : (n : ℕ) (path front : List ℕ) → take n (without_slash path) ≡ front → length front ≡ n → take n path ≡ front
front_kept n path front is long = here (bytes_eq (drop (length path - 1) path) (codes "/")) is
  where
    here : (test : Bool) → take n (if test then take (length path - 1) path else path) ≡ front → take n path ≡ front
    here true is =
        let shorter : n ≤ length path - 1 = omega (arith, long, ap length is, length-take n (take (length path - 1) path), length-take (length path - 1) path) in
        sym (take-take n (length path - 1) path shorter) ∙ is
    here false is = is

-- a path that begins otherwise is of no OCS request
no_ocs_path : (path front : List ℕ) → take 12 (without_slash path) ≡ front → length front ≡ 12 → bytes_eq front (codes "/ocs/v2.php/") ≡ false
    → is_some (behind (codes "/ocs/v2.php/") path) ≡ false
no_ocs_path path front is long other =
    ap (λ bytes. is_some (if bytes_eq bytes (codes "/ocs/v2.php/") then Some (drop 12 path) else None)) (front_kept 12 path front is long)
    ∙ ap (λ test. is_some (if test then Some (drop 12 path) else None)) other

-- a target that leads to files is of no OCS request
files_no_ocs : (head : Head) (front : Front) → option_and_then front_on (route_of head.target) ≡ Some front → is_ocs head.target ≡ false
files_no_ocs head front place = here (whole_path head.target) refl
  where
    there : IsInFiles head.target
    there = in_files head.target front place

    front_of : (words : List ℕ) → length words ≡ 22 → IsSome (behind words there.path) → take 12 there.path ≡ take 12 words
    front_of words long is =
        sym (take-take 12 22 there.path (lit≤ tt)) ∙ ap (take 12) (ap (λ n. take n there.path) (sym long) ∙ begins words there.path is)

    by : (path : List ℕ) → without_slash path ≡ there.path
        → IsSome (behind (words mount.Files) there.path) ⊎ IsSome (behind (words mount.Public) there.path)
        → is_some (behind (codes "/ocs/v2.php/") path) ≡ false
    by path same (inl is) = no_ocs_path path (codes "/remote.php/") (ap (take 12) same ∙ front_of (words mount.Files) refl is) refl refl
    by path same (inr is) = no_ocs_path path (codes "/public.php/") (ap (take 12) same ∙ front_of (words mount.Public) refl is) refl refl

    here : (sent : Option (List ℕ)) → whole_path head.target ≡ sent → is_ocs head.target ≡ false
    here None e = absurd (none-some there.path (ap (option_map without_slash) (sym e) ∙ there.at))
    here (Some path) e =
        rw e (by path (same_Some _ _ (ap (option_map without_slash) (sym e) ∙ there.at))
        (either_some (behind (words mount.Files) there.path) (behind (words mount.Public) there.path) there.below))

well_of_ocs : (asked : Wanted) → AsksWell asked → is_about_files asked ≡ false
well_of_ocs (wanted.Share asked) well = refl
well_of_ocs (wanted.People asked) well = refl
well_of_ocs other well = absurd well

-- what is asked of an OCS route isn't anything else
ocs_only : (asked : Result Wanted Denial) (caller : Caller) (request : Request) → IsFine AsksWell asked
    → and_then asked (λ wanted. Ok (record { caller = caller; wanted = wanted })) ≡ Ok request → is_about_files request.wanted ≡ false
ocs_only (Ok asked) caller request well is =
    let same : record { caller = caller; wanted = asked } ≡ request = cc in
    ap (λ (request : Request). is_about_files request.wanted) (sym same) ∙ well_of_ocs asked well
ocs_only (Err refusal) caller request well is = absurd (cc)

-- nor is what is asked of the trash bin, about versions or about an upload
beside_only : (refusal : Option Denial) (caller : Caller) (asked : Wanted) (request : Request) → is_about_files asked ≡ false
    → unless_refused refusal (record { caller = caller; wanted = asked }) ≡ Ok request → is_about_files request.wanted ≡ false
beside_only None caller asked request other is =
    let same : record { caller = caller; wanted = asked } ≡ request = cc in
    ap (λ (request : Request). is_about_files request.wanted) (sym same) ∙ other
beside_only (Some refusal) caller asked request other is = absurd (cc)

-- what is asked about files is asked elsewhere
pub asked_no_ocs : (head : Head) (body : List ℕ) (request : Request) → request_of head body ≡ Ok request → is_about_files request.wanted ≡ true
    → is_ocs head.target ≡ false
asked_no_ocs head body request is other = here (asked_there head body request is)
  where
    here : IsAskedThere head request ⊎ IsAskedElsewhere head body request → is_ocs head.target ≡ false
    here (inl there) = files_no_ocs head there.front there.place
    here (inr (inl there)) =
        absurd (false≢true (sym (ocs_only (ocs_request_of there.route there.method head body) (caller_of head) request
        (fine_request there.route there.method head body) there.asked) ∙ other))
    here (inr (inr (inl there))) =
        absurd (false≢true (sym (beside_only (trash_refusal there.route there.method head) (caller_of head)
        (wanted.Trash (trash_asked there.route there.method head)) request refl there.asked) ∙ other))
    here (inr (inr (inr (inl there)))) =
        absurd (false≢true (sym (beside_only (version_refusal there.route there.method head) (caller_of head)
        (wanted.Version (version_asked there.route there.method head)) request refl there.asked) ∙ other))
    here (inr (inr (inr (inr there)))) =
        absurd (false≢true (sym (beside_only (upload_refusal there.method head) (caller_of head)
        (wanted.Upload (upload_asked there.method head)) request refl there.asked) ∙ other))

pub asked_no_head : (head : Head) (body : List ℕ) (request : Request) → request_of head body ≡ Ok request → bytes_eq head.method (codes "HEAD") ≡ false
asked_no_head head body request is = by (asked_there head body request is)
  where
    here : (m : Method) → method_of head.method ≡ Some m → (test : Bool) → bytes_eq head.method (codes "HEAD") ≡ test → test ≡ false
    here m named true e = absurd (none-some m (sym (ap method_of ((bytes_eq-Decides head.method (codes "HEAD")).0 e)) ∙ named))
    here m named false e = refl

    by : IsAskedThere head request ⊎ IsAskedElsewhere head body request → bytes_eq head.method (codes "HEAD") ≡ false
    by (inl there) = here there.method there.named (bytes_eq head.method (codes "HEAD")) refl
    by (inr (inl there)) = here there.method there.named (bytes_eq head.method (codes "HEAD")) refl
    by (inr (inr (inl there))) = here there.method there.named (bytes_eq head.method (codes "HEAD")) refl
    by (inr (inr (inr (inl there)))) = here there.method there.named (bytes_eq head.method (codes "HEAD")) refl
    by (inr (inr (inr (inr there)))) = here there.method there.named (bytes_eq head.method (codes "HEAD")) refl

-- ---- what may be asked

-- there is a segment, which is the user's
some_user : (decode : List ℕ → List ℕ) (parts : List (List ℕ)) (n : ℕ) → length parts ≡ n + 1 → IsSome (spot_at fronts.User (map decode parts)).user
some_user decode [] n is = absurd (omega arith)
some_user decode (part ∷ parts) n is = refl

names_user : (target : List ℕ) → IsInFiles target → IsSome (spot_at fronts.User (segments_of target)).user
names_user target there = rw there.at (here (behind_files there.path) there.below)
  where
    here : (rest : Option (List ℕ)) → IsSome rest → IsSome (spot_at fronts.User (option_map_or decoded_segments rest [])).user
    here None is = absurd (false≢true is)
    here (Some rest) is = some_user _ (slice_split is_slash rest) _ (length-slice_split is_slash rest)

first_none : {A : Type 0} (first more : Option A) → option_or first more ≡ None → first ≡ None
first_none None more is = refl
first_none (Some refusal) more is = absurd (cc)

-- where no segment is bad, the first is none
pub fine_first : (head : Head) (front : Front) → option_and_then front_on (route_of head.target) ≡ Some front
    → segments_fault (segments_of head.target) ≡ None → name_fault (first_of (segments_of head.target)) ≡ None
fine_first head front place = here (segments_of head.target) (names_user head.target (in_files head.target front place))
  where
    here : (segments : List (List ℕ)) → IsSome (spot_at fronts.User segments).user → segments_fault segments ≡ None
        → name_fault (first_of segments) ≡ None
    here [] is fine = absurd (false≢true is)
    here (first ∷ names) is fine = first_none (name_fault first) (path_fault names) fine

-- nobody asks by a link with an Authorization
pub no_link : (value : Option (List ℕ)) → is_by_link (caller_of_value value) ≡ false
no_link None = refl
no_link (Some value) = there _ (sha256 (drop 7 value))
  where
    there : (test : Bool) (digest : List ℕ) → is_by_link (if test then Token digest else Absent) ≡ false
    there true digest = refl
    there false digest = refl

-- nobody asks by a link in some user's files, and whoever does names no user
names_well : (front : Front) (head : Head) (wanted : Wanted) (segments : List (List ℕ)) → is_about_shares wanted ≡ false
    → (front ≡ fronts.User → IsSome (spot_at fronts.User segments).user)
    → NamesUser (record { caller = caller_by front head; wanted = wanted }) (spot_at front segments)
names_well fronts.User head wanted segments other user = here (caller_of head) (no_link (field (codes "Authorization") head))
  where
    here : (caller : Caller) → is_by_link caller ≡ false → NamesUser (record { caller = caller; wanted = wanted }) (spot_at fronts.User segments)
    here caller none = user refl ∙ sym (ap (λ by_link. not by_link && not (is_about_shares wanted)) none ∙ ap not other)
names_well fronts.Link head wanted [] other user = refl
names_well fronts.Link head wanted (first ∷ names) other user = refl

-- a destination that can be read is in the files of a user where the target is
leads_to_user : (target value : List ℕ) (other : Option Front) → leads_alike fronts.User target value other ≡ true → other ≡ Some fronts.User
leads_to_user target value (Some fronts.User) is = refl
leads_to_user target value (Some fronts.Link) is = absurd (false≢true is)
leads_to_user target value None is = absurd (false≢true is)

both_so : (one other : Bool) → (one && other) ≡ true → other ≡ true
both_so true other is = is
both_so false other is = absurd (false≢true is)

is_there : (target value : List ℕ) → is_destination fronts.User target value ≡ true → IsInFiles value
is_there target value is = in_files value fronts.User (leads_to_user target value _ (both_so _ _ is))

second_user : (head : Head) → transfer_refusal fronts.User head ≡ None
    → IsSome (spot_at fronts.User (option_map_or (λ segments. segments) (destination_of fronts.User head) [])).user
second_user head none = here (field (codes "Destination") head) (first_none _ _ none)
  where
    refusal : Denial
    refusal = denial.BadParameter parameter.Destination

    read : List ℕ → Bool → Option (List (List ℕ))
    read value test = if test then Some (segments_of value) else None

    there : (value : List ℕ) (test : Bool) → is_destination fronts.User head.target value ≡ test
        → (if is_some (read value test) then None else Some refusal) ≡ None
        → IsSome (spot_at fronts.User (option_map_or (λ segments. segments) (read value test) [])).user
    there value true e is = names_user value (is_there head.target value e)
    there value false e is = absurd (cc)

    read_in : Option (List ℕ) → Option (List (List ℕ))
    read_in value = option_and_then (λ value. read value (is_destination fronts.User head.target value)) value

    here : (value : Option (List ℕ)) → (if is_some (read_in value) then None else Some refusal) ≡ None
        → IsSome (spot_at fronts.User (option_map_or (λ segments. segments) (read_in value) [])).user
    here None is = absurd (cc)
    here (Some value) is = there value (is_destination fronts.User head.target value) refl is

unrefused_request : (refusal : Option Denial) (given request : Request) → unless_refused refusal given ≡ Ok request → (refusal ≡ None) × (given ≡ request)
unrefused_request None given request is = (refl, cc)
unrefused_request (Some refusal) given request is = absurd (cc)

may_want_there : (head : Head) (front : Front) (m : Method) → length_of head ≤ MAX_BODY
    → option_and_then front_on (route_of head.target) ≡ Some front → files_refusal front m head ≡ None
    → MayWant (record { caller = caller_by front head; wanted = wanted_of front m head })
may_want_there head front m short at none = here m none
  where
    asks : Wanted → Request
    asks wanted = record { caller = caller_by front head; wanted = wanted }

    source : (wanted : Wanted) → is_about_shares wanted ≡ false → NamesUser (asks wanted) (target_spot front head)
    source wanted other =
        names_well front head wanted (segments_of head.target) other (λ user. names_user head.target (in_files head.target front at))

    target : (wanted : Wanted) → is_about_shares wanted ≡ false → transfer_refusal front head ≡ None
        → NamesUser (asks wanted) (second_spot front method.Move head)
    target wanted other none =
        names_well front head wanted (second_segments front method.Move head) other
        (λ user. subst (λ at. IsSome (spot_at fronts.User (second_segments at method.Move head)).user) (sym user)
        (second_user head (subst (λ at. transfer_refusal at head ≡ None) user none)))

    here : (m : Method) → files_refusal front m head ≡ None → MayWant (asks (wanted_of front m head))
    here method.Get none = record { bounds = tt; short = tt; source = source (wanted_of front method.Get head) refl; target = tt }
    here method.Put none = record { bounds = tt; short = short; source = tt; target = source (wanted_of front method.Put head) refl }
    here method.Mkcol none = record { bounds = tt; short = tt; source = tt; target = source (wanted_of front method.Mkcol head) refl }
    here method.Delete none = record { bounds = tt; short = tt; source = source (wanted_of front method.Delete head) refl; target = tt }
    here method.Move none = record {
      bounds = tt;
      short = tt;
      source = source (wanted_of front method.Move head) refl;
      target = target (wanted_of front method.Move head) refl (first_none _ _ none);
    }
    here method.Copy none = record {
      bounds = tt;
      short = tt;
      source = source (wanted_of front method.Copy head) refl;
      target = target (wanted_of front method.Copy head) refl (first_none _ _ none);
    }
    here method.Post none = record { bounds = tt; short = tt; source = source (wanted_of front method.Post head) refl; target = tt }

-- what is asked about shares names nobody
nobody : (caller : Caller) (ask : ShareAsk) (spot : Spot) → NamesNobody spot → NamesUser (record { caller = caller; wanted = wanted.Share ask }) spot
nobody Absent ask spot none = ap is_some none
nobody (Token digest) ask spot none = ap is_some none
nobody (Link token) ask spot none = ap is_some none

may_ask : (caller : Caller) (ask : ShareAsk) → AsksOwn ask → MayWant (record { caller = caller; wanted = wanted.Share ask })
may_ask caller (ask.New spot to perms until) own =
    record { bounds = own.0; short = tt; source = nobody caller (ask.New spot to perms until) spot own.1; target = tt }
may_ask caller (ask.List (Some spot) with_me) own =
    record { bounds = tt; short = tt; source = nobody caller (ask.List (Some spot) with_me) spot own.1; target = tt }
may_ask caller (ask.List None with_me) own = record { bounds = tt; short = tt; source = tt; target = tt }
may_ask caller (ask.Show share) own = record { bounds = tt; short = tt; source = tt; target = tt }
may_ask caller (ask.Set share perms until) own = record { bounds = own.0; short = tt; source = tt; target = tt }
may_ask caller (ask.End share) own = record { bounds = tt; short = tt; source = tt; target = tt }

may_ask_well : (caller : Caller) (asked : Wanted) → AsksWell asked → MayWant (record { caller = caller; wanted = asked })
may_ask_well caller (wanted.Share asked) well = may_ask caller asked well
may_ask_well caller (wanted.People asked) well = record { bounds = well; short = tt; source = tt; target = tt }
may_ask_well caller other well = absurd well

-- nor does what is asked about the trash
may_ask_trash : (caller : Caller) (asked : TrashAsk) → MayWant (record { caller = caller; wanted = wanted.Trash asked })
may_ask_trash caller (trash.List user) = record { bounds = tt; short = tt; source = tt; target = tt }
may_ask_trash caller (trash.Drop user item) = record { bounds = tt; short = tt; source = tt; target = tt }
may_ask_trash caller (trash.Empty user) = record { bounds = tt; short = tt; source = tt; target = tt }
may_ask_trash caller (trash.Restore user item) = record { bounds = tt; short = tt; source = tt; target = tt }

pub trash_may_want : (r : Route) (m : Method) (head : Head) (request : Request) → trash_request r m head ≡ Ok request → MayWant request
trash_may_want r m head request is =
    subst MayWant (unrefused_request (trash_refusal r m head) _ request is).1 (may_ask_trash (caller_of head) (trash_asked r m head))

-- nor what is asked about versions
may_ask_version : (caller : Caller) (asked : VersionAsk) → MayWant (record { caller = caller; wanted = wanted.Version asked })
may_ask_version caller (version.List user node) = record { bounds = tt; short = tt; source = tt; target = tt }
may_ask_version caller (version.Get user node at) = record { bounds = tt; short = tt; source = tt; target = tt }
may_ask_version caller (version.Restore user node at) = record { bounds = tt; short = tt; source = tt; target = tt }

pub version_may_want : (r : Route) (m : Method) (head : Head) (request : Request) → version_request r m head ≡ Ok request → MayWant request
version_may_want r m head request is =
    subst MayWant (unrefused_request (version_refusal r m head) _ request is).1 (may_ask_version (caller_of head) (version_asked r m head))

-- what is asked about an upload names the user in the target, by no link, and its chunks aren't too long
pub upload_may_want : (m : Method) (head : Head) (caller : Caller) (asked : UploadAsk) → length_of head ≤ MAX_BODY → is_by_link caller ≡ false
    → asked ≡ upload_asked m head → MayWant (record { caller = caller; wanted = wanted.Upload asked })
upload_may_want m head caller asked short by is =
    subst (λ (ask : UploadAsk). MayWant (record { caller = caller; wanted = wanted.Upload ask })) (sym is) (here m)
  where
    here : (m : Method) → MayWant (record { caller = caller; wanted = wanted.Upload (upload_asked m head) })
    here method.Get = record { bounds = tt; short = tt; source = tt; target = tt }
    here method.Put = record { bounds = short; short = tt; source = tt; target = tt }
    here method.Mkcol = record { bounds = tt; short = tt; source = tt; target = tt }
    here method.Delete = record { bounds = tt; short = tt; source = tt; target = tt }
    here method.Move = record { bounds = tt; short = tt; source = tt; target = sym (ap (λ by_link. not by_link && true) by) }
    here method.Copy = record { bounds = tt; short = tt; source = tt; target = tt }
    here method.Post = record { bounds = tt; short = tt; source = tt; target = tt }

pub may_ask_so : (r : Route) (m : Method) (head : Head) (body : List ℕ) (caller : Caller) (asked : Wanted)
    → ocs_request_of r m head body ≡ Ok asked → MayWant (record { caller = caller; wanted = asked })
may_ask_so r m head body caller asked is = may_ask_well caller asked (subst (IsFine AsksWell) is (fine_request r m head body))

pub may_want : (head : Head) (front : Front) (m : Method) (result : Result Request Unasked) → length_of head ≤ MAX_BODY
    → option_and_then front_on (route_of head.target) ≡ Some front
    → Gives (files_refusal front m head) (λ request. files_request front m head ≡ Ok request) result → IfOk result MayWant
may_want head front m (Ok request) short place gives =
    subst MayWant (unrefused_request (files_refusal front m head) _ request gives.1).1 (may_want_there head front m short place gives.0)
may_want head front m (Err why) short place gives = tt
