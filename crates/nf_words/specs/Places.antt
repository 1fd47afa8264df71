-- The rules of the paths and of what they lead to.
use Rattle.std.specs.Prelude.{ℕ, ◌==◌, ◌||◌, ◌&&◌, Bool, false, not, Option, None, Some, is_some, option_map, option_and_then, List, if◌then◌else◌}
use Rattle.std.specs.List.{list_any}
use Rattle.std.specs.Option.{option_map_or, option_or}
use Rattle.nf_base.specs.Naming.{is_forbidden}
use Rattle.nf_base.specs.declared.rows.NodeRow.{NodeRow}
use Rattle.nf_defs.specs.Prelude.{Access, is_folder, is_root, is_under, owner_of, parent_of}
use Rattle.nf_defs.specs.declared.Found.{Found}
use Rattle.nf_defs.specs.declared.Found.TheVariants.{At, Free, Missing}
use Rattle.nf_words.specs.Asked.{Asked, is_transfer, paths_of}
use Rattle.nf_words.specs.Calls.{Call, Way, Ways, asked_by, asker_of, is_mount_asked, place_at, places_of, root_of, ways_of}
use Rattle.nf_words.specs.declared.request.Making.{Making}
use Rattle.nf_words.specs.declared.request.Making.TheVariants as making
use Rattle.nf_words.specs.declared.request.Places.{Places}
use Rattle.nf_words.specs.declared.request.Transfer.{Transfer}
use Rattle.nf_words.specs.declared.request.UploadAsk.TheVariants as upload
use Rattle.nf_words.specs.declared.request.Wanted.{Wanted}
use Rattle.nf_words.specs.declared.request.Wanted.TheVariants as wanted
use Rattle.nf_words.specs.Uploads.{upload_row}
use Rattle.nf_words.specs.declared.answer.Denial.{Denial}
use Rattle.nf_words.specs.declared.answer.Denial.TheVariants as denial
use Rattle.nf_words.specs.declared.answer.TargetFault.{TargetFault}
use Rattle.nf_words.specs.declared.answer.TargetFault.TheVariants as target
use Rattle.nf_words.specs.declared.route.Route.TheVariants.{Assembly, Files, Upload}

-- a name of the path is `.htaccess`
abbrev pub has_forbidden : List (List ℕ) → Bool
has_forbidden path = list_any is_forbidden path

-- `forbidden-name`
unfoldable pub forbidden_rule : Access → Call → Option Denial
forbidden_rule access call = if list_any has_forbidden (paths_of (asked_by call)) then Some denial.ForbiddenName else None

-- ---- what isn't there

-- what is acted upon has to be there
abbrev pub source_lost : Found → Option Denial
source_lost (At node) = None
source_lost (Free folder) = Some denial.NotFound
source_lost (Missing depth) = Some denial.NotFound

-- the folder of what is made has to be there
abbrev pub target_lost : Found → Option Denial
target_lost (At node) = None
target_lost (Free folder) = None
target_lost (Missing depth) = Some denial.NoParent

abbrev pub lost : Places → Option Denial
lost places = option_or (option_and_then source_lost places.source) (option_and_then target_lost places.target)

-- ---- what is there

-- the node at a place, if one is there
abbrev pub node_found : Found → Option ℕ
node_found (At node) = Some node
node_found (Free folder) = None
node_found (Missing depth) = None

abbrev pub node_at : Option Found → Option ℕ
node_at place = option_and_then node_found place

-- the node there passes a test
abbrev pub is_there : (ℕ → Bool) → Option Found → Bool
is_there test place = option_map_or test (node_at place) false

-- something is where a folder is to be made, or a folder where a file is to be stored
abbrev pub taken : List NodeRow → Places → Making → Option Denial
taken rows places making.Nothing = None
taken rows places (making.File length) = if is_there (is_folder rows) places.target then Some (denial.Exists Files) else None
taken rows places making.Folder = if is_some (node_at places.target) then Some (denial.Exists Files) else None
taken rows places making.Moved = None
taken rows places making.Copied = None
taken rows places making.Shared = None
taken rows places making.Told = None
taken rows places (making.Restored item) = None
taken rows places (making.Sent node) = None
taken rows places (making.Refilled node at) = None
taken rows places making.Assembled = if is_there (is_folder rows) places.target then Some (denial.Exists Assembly) else None

-- the caller has an upload of that name
abbrev pub is_open : Call → List ℕ → Bool
is_open call dir = is_some (upload_row call.state.tables.uploads (asker_of call) dir)

-- one is to be made that is there
abbrev pub opened_by : Call → Wanted → Option Denial
opened_by call (wanted.Upload (upload.New user dir to)) = if is_open call dir then Some (denial.Exists Upload) else None
opened_by call other = None

-- `exists`
unfoldable pub exists_rule : Access → Call → Option Denial
exists_rule access call =
    option_or (taken call.state.tables.nodes (places_of call) (asked_by call).makes) (opened_by call call.request.wanted)

-- ---- what is moved or copied, and where to

-- the folder of what is put at a place
abbrev pub folder_at : List NodeRow → Found → Option ℕ
folder_at rows (At node) = parent_of rows node
folder_at rows (Free folder) = Some folder
folder_at rows (Missing depth) = None

-- what a place has is what the paths lead from
abbrev pub is_start : ℕ → Found → Bool
is_start root (At node) = node == root
is_start root (Free folder) = false
is_start root (Missing depth) = false

-- the folder at a place, as who asks sees it: what the paths lead from is in none
abbrev pub folder_seen : List NodeRow → ℕ → Found → Option ℕ
folder_seen rows root place = if is_start root place then None else folder_at rows place

-- from a node to a place that is in a folder
abbrev pub transfer_to : List NodeRow → ℕ → Found → Option Transfer
transfer_to rows node place =
    option_map (λ folder. record { node = node; folder = folder; replaced = node_found place }) (folder_at rows place)

abbrev pub transfer_of : List NodeRow → Places → Option Transfer
transfer_of rows places =
    option_and_then (λ node. option_and_then (transfer_to rows node) places.target) (node_at places.source)

-- what is there and has to go is the node itself
abbrev pub is_same : Transfer → Bool
is_same transfer = option_map_or (λ node. node == transfer.node) transfer.replaced false

-- the folder is under the node, or the node under what has to go
abbrev pub is_inside : List NodeRow → Transfer → Bool
is_inside rows transfer =
    is_under rows transfer.folder transfer.node
    || option_map_or (λ node. is_under rows transfer.node node) transfer.replaced false

abbrev pub misplaced : List NodeRow → Transfer → Option TargetFault
misplaced rows transfer = if is_same transfer then Some target.Same else if is_inside rows transfer then Some target.Inside else None

-- the folder of what is at the end of a way or is put there: a mount is in the root of its user
abbrev pub folder_in : List NodeRow → ℕ → Way → Option ℕ
folder_in rows root way = if way.itself then Some root else folder_seen rows root way.place

-- from a node to the end of a way that is in a folder
abbrev pub transfer_by : List NodeRow → ℕ → ℕ → Way → Option Transfer
transfer_by rows root node way =
    option_map (λ folder. record { node = node; folder = folder; replaced = node_found way.place }) (folder_in rows root way)

abbrev pub transfer_between : List NodeRow → ℕ → Ways → Option Transfer
transfer_between rows root ways =
    option_and_then (λ node. option_and_then (transfer_by rows root node) ways.target) (node_at (place_at ways.source))

-- a free name in that folder
abbrev pub is_free_in : ℕ → Found → Bool
is_free_in folder (At node) = false
is_free_in folder (Free other) = other == folder
is_free_in folder (Missing depth) = false

-- a mount isn't replaced, and where it is renamed it stays in its root, under a free name
abbrev pub is_off_mount : ℕ → Bool → Way → Bool
is_off_mount root renames way = if renames then not (is_free_in root way.place) else way.itself

abbrev pub misplaced_by : List NodeRow → Bool → Transfer → Option TargetFault
misplaced_by rows off transfer = option_or (misplaced rows transfer) (if off then Some target.Mount else None)

-- a user's root, or what the paths lead from
abbrev pub is_root_at : List NodeRow → ℕ → Option Way → Bool
is_root_at rows root way = is_there (λ node. node == root || is_root rows node) (place_at way)

-- what may not be done between two places: the first of root, same, inside and mount. What is there but in no folder is a root
abbrev pub unfit_between : List NodeRow → ℕ → Bool → Ways → Option TargetFault
unfit_between rows root renames ways =
    if not renames && is_root_at rows root ways.source then Some target.Root
    else option_map_or (misplaced_by rows (option_map_or (is_off_mount root renames) ways.target false)) (transfer_between rows root ways)
    (Some target.Root)

-- what may not be done: a transfer that doesn't fit, or the removal of a root
abbrev pub unfit : List NodeRow → ℕ → Asked → Ways → Option TargetFault
unfit rows root asked ways =
    let renames = is_mount_asked asked ways.source in
    if is_transfer asked.makes then unfit_between rows root renames ways
    else if asked.removes && not renames && is_root_at rows root ways.source then Some target.Root
    else None

-- `bad-target`
unfoldable pub target_rule : Access → Call → Option Denial
target_rule access call =
    option_map denial.BadTarget (unfit call.state.tables.nodes (root_of call) (asked_by call) (ways_of call))

-- the node and the folder that it is put into are of two owners
abbrev pub crosses : List NodeRow → Transfer → Bool
crosses rows transfer = not (owner_of rows transfer.node == owner_of rows transfer.folder)

-- something is at the target and isn't to be replaced
abbrev pub is_kept : Bool → Places → Bool
is_kept overwrites places = not overwrites && is_some (node_at places.target)

abbrev pub unreplaced : Asked → Places → Option Denial
unreplaced asked places = if is_transfer asked.makes && is_kept asked.overwrites places then Some denial.Overwrite else None

-- `overwrite`
unfoldable pub overwrite_rule : Access → Call → Option Denial
overwrite_rule access call = unreplaced (asked_by call) (places_of call)
