-- The limits of the site, and the rule that none is passed.
use Rattle.std.specs.Prelude.{ℕ, ◌+◌, ◌-◌, ◌==◌, ◌||◌, nat_lt, max, List, [], ◌∷◌, filter, length, sum_by, Option, None, Some, is_none, option_map, option_and_then, if◌then◌else◌}
use Rattle.std.specs.Option.{option_map_or}
use Rattle.nf_access.specs.Mounts.{mount_row}
use Rattle.nf_defs.specs.Prelude.{Access, content_of, depth, item_row, node_row, Tables, walk_of}
use Rattle.nf_base.specs.declared.limits.TheConstants.{MAX_DEPTH, MAX_GROUPS, MAX_MEMBERS, MAX_MOUNTS, MAX_NODES, MAX_SHARES, MAX_STORED_PIECES, MAX_TOKENS, MAX_USERS, MAX_VERSIONS}
use Rattle.nf_base.specs.declared.rows.MountRow.{MountRow}
use Rattle.nf_base.specs.declared.rows.NodeRow.{NodeRow}
use Rattle.nf_defs.specs.declared.Found.{Found}
use Rattle.nf_defs.specs.declared.Found.TheVariants.{At, Free, Missing}
use Rattle.nf_words.specs.Calls.{Call, asked_by, places_of}
use Rattle.nf_words.specs.Contents.{stored_pieces}
use Rattle.nf_words.specs.Places.{crosses, transfer_of}
use Rattle.nf_words.specs.declared.request.Making.{Making}
use Rattle.nf_words.specs.declared.request.Making.TheVariants as making
use Rattle.nf_words.specs.declared.request.Places.{Places}
use Rattle.nf_words.specs.declared.request.Transfer.{Transfer}
use Rattle.nf_words.specs.declared.answer.Denial.{Denial}
use Rattle.nf_words.specs.declared.answer.Denial.TheVariants as denial
use Rattle.nf_words.specs.declared.answer.Limit.{Limit}
use Rattle.nf_words.specs.declared.answer.Limit.TheVariants as limit
use Rattle.nf_base.specs.declared.rows.ItemRow.{ItemRow}
use Rattle.nf_words.specs.Homes.{home_of}
use Rattle.nf_base.specs.declared.rows.VersionRow.{VersionRow}
use Rattle.nf_words.specs.Versions.{becomes_version, version_row}
use Rattle.nf_words.specs.declared.limits.TheConstants.{MAX_PENDING, MAX_UPLOADS}

-- the number of a limit
abbrev pub count_of : Limit → ℕ
count_of limit.Users = MAX_USERS
count_of limit.Groups = MAX_GROUPS
count_of limit.Tokens = MAX_TOKENS
count_of limit.Members = MAX_MEMBERS
count_of limit.Nodes = MAX_NODES
count_of limit.Depth = MAX_DEPTH
count_of limit.Shares = MAX_SHARES
count_of limit.Mounts = MAX_MOUNTS
count_of limit.Versions = MAX_VERSIONS
count_of limit.Pieces = MAX_STORED_PIECES
count_of limit.Uploads = MAX_UPLOADS
count_of limit.Pending = MAX_PENDING

-- the greatest number that a counter holds, of nodes, shares and blobs, and of users and groups
abbrev pub last_number : ℕ
last_number = 18446744073709551615

abbrev pub last_short : ℕ
last_short = 4294967295

-- the first limit that is passed by so many nodes more, the deepest of them so deep, so many versions and pieces more, and so many new
-- blobs
abbrev pub limit_passed : Tables → ℕ → ℕ → ℕ → ℕ → ℕ → Option Limit
limit_passed t nodes deep versions pieces blobs =
    if nat_lt (count_of limit.Nodes) (length t.nodes + nodes) || nat_lt last_number (t.meta.next_node + nodes) then Some limit.Nodes
    else if nat_lt (count_of limit.Depth) deep then Some limit.Depth
    else if nat_lt (count_of limit.Versions) (length t.versions + versions) then Some limit.Versions
    else if nat_lt (count_of limit.Pieces) (stored_pieces t + pieces) || nat_lt last_number (t.meta.next_blob + blobs) then Some limit.Pieces
    else None

-- the limit that is passed by some rows of mounts; one that was left has its row already
abbrev pub mount_limit : List MountRow → List MountRow → Option Limit
mount_limit mounts rows =
    if nat_lt MAX_MOUNTS (length mounts + length (filter (λ row. is_none (mount_row mounts row.user row.node)) rows)) then Some limit.Mounts
    else None

-- the pieces of a body: an empty one has none
abbrev pub pieces_of : ℕ → ℕ
pieces_of length = if length == 0 then 0 else 1

-- how many versions there are more where the content of a file becomes another
abbrev pub versions_added : Tables → ℕ → Option ℕ → ℕ
versions_added t node back =
    option_map_or (λ row. if becomes_version t.versions back row then 1 else 0) (node_row t.nodes node) 0

-- the limit that is passed where a content of so many pieces, of which so many are in new blobs, is put there; what it replaces still counts
abbrev pub limit_with : Tables → ℕ → ℕ → Found → Option Limit
limit_with t pieces blobs (At node) = limit_passed t 0 0 (versions_added t node None) pieces blobs
limit_with t pieces blobs (Free folder) = limit_passed t 1 (depth t.nodes folder + 1) 0 pieces blobs
limit_with t pieces blobs (Missing found) = None

-- and where all of them are
abbrev pub limit_at : Tables → ℕ → Found → Option Limit
limit_at t pieces place = limit_with t pieces pieces place

-- how deep the deepest of some nodes is
abbrev pub deepest : List NodeRow → List ℕ → ℕ
deepest rows [] = 0
deepest rows (node ∷ nodes) = max (depth rows node) (deepest rows nodes)

-- how deep the deepest under a node would be with that in a folder
abbrev pub deepest_in : List NodeRow → ℕ → ℕ → ℕ
deepest_in rows node folder = depth rows folder + 1 + (deepest rows (walk_of rows node) - depth rows node)

-- how many pieces some nodes name, with repeats
abbrev pub pieces_in : List NodeRow → List ℕ → ℕ
pieces_in rows nodes = sum_by (λ node. length (content_of rows node)) nodes

-- the limit that a move passes, and a copy; what they replace still counts
abbrev pub move_limit : Tables → Transfer → Option Limit
move_limit t transfer = limit_passed t 0 (deepest_in t.nodes transfer.node transfer.folder) 0 0 0

abbrev pub copy_limit : Tables → Transfer → Option Limit
copy_limit t transfer =
    let nodes = walk_of t.nodes transfer.node in
    limit_passed t (length nodes) (deepest_in t.nodes transfer.node transfer.folder) 0 (pieces_in t.nodes nodes) 0

-- the limit that is passed by what is moved: to another owner it is copied, and what goes then still counts
abbrev pub carry_limit : Tables → Transfer → Option Limit
carry_limit t transfer = if crosses t.nodes transfer then copy_limit t transfer else move_limit t transfer

-- the limit that is passed by what comes back
abbrev pub restore_limit : Tables → ItemRow → Option Limit
restore_limit t item = limit_passed t 0 (deepest_in t.nodes item.node (home_of t item)) 0 0 0

-- and by a version that is its file's content again; it still counts as a version
abbrev pub back_limit : Tables → ℕ → VersionRow → Option Limit
back_limit t node version = limit_passed t 0 0 (versions_added t node (Some version.at)) (length version.content) 0

-- the limit that is passed by what is made
abbrev pub limited : Tables → Places → Making → Option Limit
limited t places making.Nothing = None
limited t places (making.File length) = option_and_then (limit_at t (pieces_of length)) places.target
limited t places making.Folder = option_and_then (limit_at t 0) places.target
limited t places making.Moved = option_and_then (carry_limit t) (transfer_of t.nodes places)
limited t places making.Copied = option_and_then (copy_limit t) (transfer_of t.nodes places)
limited t places making.Shared = None
limited t places making.Told = None
limited t places (making.Restored item) = option_and_then (restore_limit t) (item_row t.items item)
limited t places (making.Sent node) = None
limited t places (making.Refilled node at) = option_and_then (back_limit t node) (version_row t.versions node at)
limited t places making.Assembled = None

-- `limit`: the step would pass a limit
unfoldable pub limit_rule : Access → Call → Option Denial
limit_rule access call = option_map denial.Limit (limited call.state.tables (places_of call) (asked_by call).makes)
