-- The acts that a request needs, each at its node by the mount of its path, and whether who asks may do them.
use Rattle.std.specs.Prelude.{ℕ, zero, suc, ◌==◌, ◌&&◌, ◌||◌, not, Bool, false, List, [], ◌∷◌, ◌++◌, Option, None, Some, is_some, option_map, option_and_then, if◌then◌else◌}
use Rattle.std.specs.List.{list_any}
use Rattle.std.specs.Option.{option_map_or, option_or}
use Rattle.nf_access.specs.Access.{allows}
use Rattle.nf_access.specs.Mounts.{is_mounted}
use Rattle.nf_base.specs.declared.limits.TheConstants.{MAX_DEPTH}
use Rattle.nf_base.specs.declared.rows.MountRow.{MountRow}
use Rattle.nf_base.specs.declared.perms.Act.{Act}
use Rattle.nf_base.specs.declared.perms.Act.TheVariants.{Read, Update, Create, Delete, Share}
use Rattle.nf_base.specs.declared.rows.NodeRow.{NodeRow}
use Rattle.nf_defs.specs.Prelude.{Access, node_row, parent_of}
use Rattle.nf_defs.specs.declared.Seeker.{Seeker}
use Rattle.nf_defs.specs.declared.Seeker.TheVariants.{User, Link}
use Rattle.nf_words.specs.Asked.{Asked}
use Rattle.nf_words.specs.Calls.{Call, Way, asked_by, asker_of, is_mount_asked, root_of, seeker_of, way_of}
use Rattle.nf_words.specs.Places.{folder_seen, node_found}
use Rattle.nf_words.specs.declared.answer.By.{By}
use Rattle.nf_words.specs.declared.answer.LockKey.{LockKey}
use Rattle.nf_words.specs.declared.answer.LockKey.TheVariants.{Node, Slot}
use Rattle.nf_words.specs.declared.request.Making.{Making}
use Rattle.nf_words.specs.declared.request.Making.TheVariants as making
use Rattle.nf_words.specs.declared.request.VersionAsk.{VersionAsk}
use Rattle.nf_words.specs.declared.request.VersionAsk.TheVariants as version
use Rattle.nf_words.specs.declared.request.Wanted.{Wanted}
use Rattle.nf_words.specs.declared.request.Wanted.TheVariants as wanted

-- ---- who may do what

-- the seeker is a user who owns the node
abbrev pub is_owner : List NodeRow → Seeker → ℕ → Bool
is_owner rows (User user) node = option_map_or (λ row. row.owner == user) (node_row rows node) false
is_owner rows (Link share) node = false

-- the seeker may do the act at the node: as its owner, or by a grant on the node of the mount that the path goes by
abbrev pub may_by : Access → List NodeRow → Seeker → ℕ → Act → ℕ → Option ℕ → Bool
may_by access rows seeker now act node mount =
    is_owner rows seeker node || option_map_or (λ shared. list_any (allows now act) (access seeker shared)) mount false

-- ---- what is needed

-- an act at a node, by the mount of the path that names it
pub record Need : Type 0 where
  pub act : Act
  pub node : ℕ
  pub mount : Option ℕ

-- the act at that node, if there is one
abbrev pub needs : Act → Option ℕ → Option ℕ → List Need
needs act None mount = []
needs act (Some node) mount = record { act = act; node = node; mount = mount } ∷ []

-- the act at the node to which a way leads
abbrev pub needs_at : Act → Way → List Need
needs_at act way = needs act (node_found way.place) way.mount

-- the folder of what is at a place or is put there: a root stands for its own, and so does what the paths lead from; a mount is in the
-- caller's root
abbrev pub folder_for : List NodeRow → ℕ → Way → Option ℕ
folder_for rows root way = if way.itself then Some root else option_or (folder_seen rows root way.place) (node_found way.place)

-- that something is made there; the mount of a path that is the mount's own isn't on the way
abbrev pub needs_in : List NodeRow → ℕ → Way → List Need
needs_in rows root way = needs Create (folder_for rows root way) (if way.itself then None else way.mount)

-- the target's folder is that of the source
abbrev pub is_within : List NodeRow → ℕ → Option Way → Option Way → Bool
is_within rows root source target =
    let from = option_and_then (folder_for rows root) source in
    option_map_or (λ to. option_map_or (λ folder. folder == to) from false) (option_and_then (folder_for rows root) target) false

-- what is acted upon is read where it stays, and else deleted, or updated if it stays in its folder
abbrev pub source_act : Bool → Bool → Act
source_act removes within = if not removes then Read else if within then Update else Delete

-- what is shared has to be shareable; where shares of it are told, nothing is needed
abbrev pub source_needs : Making → Bool → Bool → Way → List Need
source_needs making.Shared removes within way = needs_at Share way
source_needs making.Told removes within way = []
source_needs other removes within way = needs_at (source_act removes within) way

-- what is there is updated by a body, and has to go at a transfer; what wasn't in the folder is created in it
abbrev pub target_needs : Making → List NodeRow → ℕ → Bool → Way → List Need
target_needs making.Nothing rows root within way = []
target_needs (making.File length) rows root within way =
    if is_some (node_found way.place) then needs_at Update way else needs_in rows root way
target_needs making.Folder rows root within way = needs_in rows root way
target_needs making.Moved rows root within way = (if within then [] else needs_in rows root way) ++ needs_at Delete way
target_needs making.Copied rows root within way = needs_in rows root way ++ needs_at Delete way
target_needs making.Shared rows root within way = []
target_needs making.Told rows root within way = []
target_needs (making.Restored item) rows root within way = []
target_needs (making.Sent node) rows root within way = []
target_needs (making.Refilled node at) rows root within way = []
target_needs making.Assembled rows root within way =
    if is_some (node_found way.place) then needs_at Update way else needs_in rows root way

-- leaving or renaming one's own mount needs nothing
abbrev pub needs_between : List NodeRow → ℕ → Asked → Option Way → Option Way → List Need
needs_between rows root asked source target =
    let within = is_within rows root source target in
    if is_mount_asked asked source then []
    else
    option_map_or (source_needs asked.makes asked.removes within) source []
    ++ option_map_or (target_needs asked.makes rows root within) target []

-- what a request needs
abbrev pub needed : Call → List Need
needed call =
    let asked = asked_by call in
    needs_between call.state.tables.nodes (root_of call) asked (option_map (way_of call) asked.source) (option_map (way_of call) asked.target)

-- ---- versions, whose routes name a node by its number

-- of a node and the folders above it, so many at most, the nearest that passes a test
abbrev pub nearest : ℕ → List NodeRow → (ℕ → Bool) → ℕ → Option ℕ
nearest zero rows passes node = if passes node then Some node else None
nearest (suc k) rows passes node =
    if passes node then Some node else option_and_then (nearest k rows passes) (parent_of rows node)

-- the node of the user's nearest mount, counted upwards from a node
abbrev pub mount_above : List NodeRow → List MountRow → ℕ → ℕ → Option ℕ
mount_above rows mounts user node = nearest MAX_DEPTH rows (is_mounted mounts user) node

-- the user has a mount of the node that lets who seeks access do the act
abbrev pub is_granting : Access → List MountRow → Seeker → ℕ → ℕ → Act → ℕ → Bool
is_granting access mounts seeker user now act node = is_mounted mounts user node && list_any (allows now act) (access seeker node)

-- the node of the nearest such mount
abbrev pub granting_above : Access → List NodeRow → List MountRow → Seeker → ℕ → ℕ → Act → ℕ → Option ℕ
granting_above access rows mounts seeker user now act node = nearest MAX_DEPTH rows (is_granting access mounts seeker user now act) node

-- the one by which an act is judged: the nearest that allows it, or else the nearest
abbrev pub mount_by : Access → List NodeRow → List MountRow → Seeker → ℕ → ℕ → Act → ℕ → Option ℕ
mount_by access rows mounts seeker user now act node =
    option_or (granting_above access rows mounts seeker user now act node) (mount_above rows mounts user node)

-- versions are read, and are restored by who may update the file
abbrev pub act_asked : VersionAsk → Act
act_asked (version.List user node) = Read
act_asked (version.Get user node at) = Read
act_asked (version.Restore user node at) = Update

abbrev pub node_asked : VersionAsk → ℕ
node_asked (version.List user node) = node
node_asked (version.Get user node at) = node
node_asked (version.Restore user node at) = node

abbrev pub version_needs : Access → Call → VersionAsk → List Need
version_needs access call ask =
    let t = call.state.tables in
    needs (act_asked ask) (Some (node_asked ask))
    (mount_by access t.nodes t.mounts (seeker_of call) (asker_of call) call.now (act_asked ask) (node_asked ask))

-- what is needed where versions are asked about
abbrev pub needed_for : Access → Call → Wanted → List Need
needed_for access call (wanted.Version ask) = version_needs access call ask
needed_for access call other = []

-- what the End of a PUT needs: that the file is updated, or that one is created in the folder
abbrev pub needed_by : By → LockKey → List Need
needed_by by (Node node) = needs Update (Some node) by.mount
needed_by by (Slot folder name) = needs Create (Some folder) by.mount
