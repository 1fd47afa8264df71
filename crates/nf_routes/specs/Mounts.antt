-- Which route a target names: the mount that its path is in, and the segments behind the words of the mount.
use Rattle.std.specs.Prelude.{ℕ, Bool, true, false, if◌then◌else◌, List, [], ◌∷◌, length, take, codes, bytes_eq, Option, None, Some, option_and_then}
use Rattle.std.specs.List.{find, slice_split}
use Rattle.percent_encoding.specs.Percent.{percent_decode}
use Rattle.nf_words.specs.declared.route.Route.{Route}
use Rattle.nf_words.specs.declared.route.Route.TheVariants as route
use Rattle.nf_routes.specs.declared.mounts.Mount.{Mount}
use Rattle.nf_routes.specs.declared.mounts.Mount.TheVariants.{Files, Public, Uploads, Trashbin, Versions, Shares, Share, Users, User, Groups}
use Rattle.nf_routes.specs.Targets.{behind, is_slash, target_path}

-- ---- the mount of a path

-- the fixed words of a mount
abbrev pub words : Mount → List ℕ
words Files = codes "/remote.php/dav/files/"
words Public = codes "/public.php/dav/files/"
words Uploads = codes "/remote.php/dav/uploads/"
words Trashbin = codes "/remote.php/dav/trashbin/"
words Versions = codes "/remote.php/dav/versions/"
words Shares = codes "/ocs/v2.php/apps/files_sharing/api/v1/shares"
words Share = codes "/ocs/v2.php/apps/files_sharing/api/v1/shares/"
words Users = codes "/ocs/v2.php/cloud/users"
words User = codes "/ocs/v2.php/cloud/users/"
words Groups = codes "/ocs/v2.php/cloud/groups"

-- whether something may stand behind them
abbrev pub has_more : Mount → Bool
has_more Shares = false
has_more Users = false
has_more Groups = false
has_more _ = true

-- the words, as they were sent, are the front of a path in the mount, and all of it where nothing stands behind them
abbrev pub is_in : Mount → List ℕ → Bool
is_in mount path = bytes_eq (if has_more mount then take (length (words mount)) path else path) (words mount)

-- by their words; no path is in two of them
abbrev pub mounts : List Mount
mounts = Share ∷ Shares ∷ Groups ∷ User ∷ Users ∷ Public ∷ Files ∷ Trashbin ∷ Uploads ∷ Versions ∷ []

-- the mount of a path, whatever bytes stand behind the words
unfoldable pub mount_of : List ℕ → Option Mount
mount_of path = find (λ mount. is_in mount path) mounts

-- ---- the segments behind it

-- the chunk `.file`, however it is escaped, is the whole file
abbrev pub chunk_route : List ℕ → Route
chunk_route chunk = if bytes_eq (percent_decode chunk) (codes ".file") then route.Assembly else route.Chunk

abbrev pub upload_route : List (List ℕ) → Option Route
upload_route (user ∷ folder ∷ []) = Some route.Upload
upload_route (user ∷ folder ∷ chunk ∷ []) = Some (chunk_route chunk)
upload_route _ = None

abbrev pub trash_route : List (List ℕ) → Option Route
trash_route (user ∷ word ∷ []) = if bytes_eq word (codes "trash") then Some route.Trash else None
trash_route (user ∷ word ∷ node ∷ []) = if bytes_eq word (codes "trash") then Some route.TrashItem else None
trash_route _ = None

abbrev pub version_route : List (List ℕ) → Option Route
version_route (user ∷ word ∷ node ∷ []) = if bytes_eq word (codes "versions") then Some route.Versions else None
version_route (user ∷ word ∷ node ∷ moment ∷ []) = if bytes_eq word (codes "versions") then Some route.Version else None
version_route _ = None

abbrev pub share_route : List (List ℕ) → Option Route
share_route (share ∷ []) = Some route.Share
share_route _ = None

abbrev pub user_route : List (List ℕ) → Option Route
user_route (user ∷ []) = Some route.User
user_route (user ∷ word ∷ []) = if bytes_eq word (codes "groups") then Some route.Memberships else None
user_route _ = None

-- the route of a mount and the segments behind its words
abbrev pub route_below : Mount → List (List ℕ) → Option Route
route_below Files segments = Some route.Files
route_below Public segments = Some route.Public
route_below Uploads segments = upload_route segments
route_below Trashbin segments = trash_route segments
route_below Versions segments = version_route segments
route_below Shares segments = Some route.Shares
route_below Share segments = share_route segments
route_below Users segments = Some route.Users
route_below User segments = user_route segments
route_below Groups segments = Some route.Groups

-- ---- the route

abbrev pub route_in : Mount → List ℕ → Option Route
route_in mount path = option_and_then (λ rest. route_below mount (slice_split is_slash rest)) (behind (words mount) path)

abbrev pub route_at : List ℕ → Option Route
route_at path = option_and_then (λ mount. route_in mount path) (mount_of path)

-- the route that a target names
abbrev pub route_of : List ℕ → Option Route
route_of target = option_and_then route_at (target_path target)
