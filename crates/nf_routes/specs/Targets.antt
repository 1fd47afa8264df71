-- The path of a target and its segments (RFC 3986, sections 2.1, 3.3 and 3.4; RFC 9112, section 3.2).
use Rattle.std.specs.Prelude.{ℕ, ◌+◌, ◌-◌, Bool, ◌==◌, if◌then◌else◌, List, [], length, map, take, drop, codes, bytes_eq, position, Option, None, Some, is_some, option_map, option_and_then, ◌∷◌, ◌&&◌, false}
use Rattle.std.specs.List.{before_first, slice_split}
use Rattle.std.specs.Option.{option_map_or, option_or}
use Rattle.percent_encoding.specs.Percent.{percent_decode}

abbrev pub is_slash : ℕ → Bool
is_slash b = b == 47

abbrev pub is_question : ℕ → Bool
is_question b = b == 63

-- what is behind a front
abbrev pub behind : List ℕ → List ℕ → Option (List ℕ)
behind front bytes = if bytes_eq (take (length front) bytes) front then Some (drop (length front) bytes) else None

-- from the first slash on, which ends a host
abbrev pub from_slash : List ℕ → Option (List ℕ)
from_slash bytes = option_map (λ at. drop at bytes) (position is_slash bytes)

-- without the scheme and the host that may stand before a path (RFC 9112, section 3.2.2)
abbrev pub path_in : List ℕ → Option (List ℕ)
path_in target =
    option_map_or from_slash (option_or (behind (codes "http://") target) (behind (codes "https://") target)) (Some target)

-- without one slash at its end
abbrev pub without_slash : List ℕ → List ℕ
without_slash path = if bytes_eq (drop (length path - 1) path) (codes "/") then take (length path - 1) path else path

-- the path of a target as it was sent: before its query, behind its scheme and host; none where a host has no path
abbrev pub whole_path : List ℕ → Option (List ℕ)
whole_path target = path_in (before_first is_question target)

-- without one slash at its end: what is looked up
abbrev pub target_path : List ℕ → Option (List ℕ)
target_path target = option_map without_slash (whole_path target)

-- a path is cut at its slashes first, and each segment is decoded then: an escaped slash cuts nothing
abbrev pub decoded_segments : List ℕ → List (List ℕ)
decoded_segments path = map percent_decode (slice_split is_slash path)

-- what is behind the words of the two mounts where files are
abbrev pub behind_files : List ℕ → Option (List ℕ)
behind_files path = option_or (behind (codes "/remote.php/dav/files/") path) (behind (codes "/public.php/dav/files/") path)

-- the decoded segments of the path of a file, the name of a user or the token of a link first; none of any other target
abbrev pub segments_of : List ℕ → List (List ℕ)
segments_of target = option_map_or decoded_segments (option_and_then behind_files (target_path target)) []

-- whether the path of a target, as it was sent, is in the part of the site that speaks of shares and people
abbrev pub is_ocs : List ℕ → Bool
is_ocs target = is_some (option_and_then (behind (codes "/ocs/v2.php/")) (whole_path target))

-- what stands for the number of a share, decoded: what is behind the words of the mount of shares; nothing in any other target
abbrev pub share_segment : List ℕ → List ℕ
share_segment target =
    option_map_or percent_decode
    (option_and_then (behind (codes "/ocs/v2.php/apps/files_sharing/api/v1/shares/")) (target_path target)) []

-- what stands for the name of a user, decoded: what is behind the words of the mount of users, up to a slash; nothing in any other target
abbrev pub user_segment : List ℕ → List ℕ
user_segment target =
    option_map_or (λ rest. percent_decode (before_first is_slash rest))
    (option_and_then (behind (codes "/ocs/v2.php/cloud/users/")) (target_path target)) []

-- what is behind the words of the trash bin
abbrev pub behind_trashbin : List ℕ → Option (List ℕ)
behind_trashbin target = option_and_then (behind (codes "/remote.php/dav/trashbin/")) (target_path target)

-- the decoded segments there: the name of a user, a word, and the number of an item; none of any other target
abbrev pub trash_segments : List ℕ → List (List ℕ)
trash_segments target = option_map_or decoded_segments (behind_trashbin target) []

-- what is behind the words of the versions, and the decoded segments there: the name of a user, a word, the number of a file, and a moment
abbrev pub behind_versions : List ℕ → Option (List ℕ)
behind_versions target = option_and_then (behind (codes "/remote.php/dav/versions/")) (target_path target)

abbrev pub version_segments : List ℕ → List (List ℕ)
version_segments target = option_map_or decoded_segments (behind_versions target) []

-- what is behind the words of the uploads, and the decoded segments there: the names of a user, of an upload and of a chunk
abbrev pub behind_uploads : List ℕ → Option (List ℕ)
behind_uploads target = option_and_then (behind (codes "/remote.php/dav/uploads/")) (target_path target)

abbrev pub upload_segments : List ℕ → List (List ℕ)
upload_segments target = option_map_or decoded_segments (behind_uploads target) []

-- the segments in either of what comes back by a user: the name, a word as it was sent, and whatever else
abbrev pub is_restore_of : List ℕ → List (List ℕ) → Bool
is_restore_of user (name ∷ word ∷ any ∷ []) = bytes_eq word (codes "restore") && bytes_eq (percent_decode name) user
is_restore_of user other = false

abbrev pub restores : List ℕ → List ℕ → Bool
restores user target = option_map_or (λ rest. is_restore_of user (slice_split is_slash rest)) (behind_trashbin target) false

abbrev pub restores_version : List ℕ → List ℕ → Bool
restores_version user target = option_map_or (λ rest. is_restore_of user (slice_split is_slash rest)) (behind_versions target) false

-- the query: what is behind the first `?` (RFC 3986, section 3.4)
abbrev pub query_of : List ℕ → List ℕ
query_of target = option_map_or (λ at. drop (at + 1) target) (position is_question target) []
