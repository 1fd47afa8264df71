-- A request as the rules see it: who asks, what it names, and where its paths lead.
use Rattle.std.specs.Prelude.{ℕ, ◌-◌, ◌&&◌, Bool, true, false, List, [], ◌∷◌, drop, length, Option, None, Some, is_some, option_map, option_and_then, slice_get, unwrap_or, if◌then◌else◌}
use Rattle.std.specs.Option.{option_map_or}
use Rattle.nf_access.specs.Mounts.{mount_at}
use Rattle.nf_access.specs.Shares.{link_row}
use Rattle.nf_base.specs.declared.rows.MountRow.{MountRow}
use Rattle.nf_base.specs.declared.rows.NodeRow.{NodeRow}
use Rattle.nf_base.specs.declared.rows.ShareRow.{ShareRow}
use Rattle.nf_base.specs.declared.rows.UserRow.{UserRow}
use Rattle.nf_defs.specs.Prelude.{child_of, found_from, holder_of, user_row}
use Rattle.nf_defs.specs.declared.Found.{Found}
use Rattle.nf_defs.specs.declared.Seeker.{Seeker}
use Rattle.nf_defs.specs.declared.Seeker.TheVariants as seeker
use Rattle.nf_words.specs.Asked.{Asked, asked_of}
use Rattle.nf_words.specs.State.{State}
use Rattle.nf_words.specs.declared.request.Caller.{Caller}
use Rattle.nf_words.specs.declared.request.Caller.TheVariants.{Absent, Token, Link}
use Rattle.nf_words.specs.declared.request.Places.{Places}
use Rattle.nf_words.specs.declared.request.Request.{Request}
use Rattle.nf_words.specs.declared.request.Spot.{Spot}
use Rattle.nf_words.specs.declared.request.Words.{Words}

-- a Begin in its state
pub record Call : Type 0 where
  pub state : State
  pub seat : ℕ
  pub now : ℕ
  pub words : Words
  pub request : Request

-- what it asks for
abbrev pub asked_by : Call → Asked
asked_by call = asked_of call.request.wanted

-- the last name of a place's path
abbrev pub last_name : Spot → List ℕ
last_name spot = unwrap_or (slice_get spot.path (length spot.path - 1)) []

-- ---- who asks

-- the user whose token the caller shows
abbrev pub caller_of : State → Caller → Option ℕ
caller_of s Absent = None
caller_of s (Token digest) = holder_of s.tables.tokens digest
caller_of s (Link token) = None

abbrev pub user_of : Call → Option ℕ
user_of call = caller_of call.state call.request.caller

abbrev pub caller_row : Call → Option UserRow
caller_row call = option_and_then (user_row call.state.tables.users) (user_of call)

-- the number of the user who asks
abbrev pub asker_of : Call → ℕ
asker_of call = option_map_or (λ row. row.id) (caller_row call) 0

-- who asks comes by a link, whether or not there is one of that token
abbrev pub is_by_link : Caller → Bool
is_by_link Absent = false
is_by_link (Token digest) = false
is_by_link (Link token) = true

-- the share whose token the caller shows
abbrev pub link_by : State → Caller → Option ShareRow
link_by s Absent = None
link_by s (Token digest) = None
link_by s (Link token) = link_row s.tables.shares token

abbrev pub link_of : Call → Option ShareRow
link_of call = link_by call.state call.request.caller

-- the number of the share by whose link somebody asks
abbrev pub linked_of : Call → ℕ
linked_of call = option_map_or (λ row. row.id) (link_of call) 0

-- who seeks access: a user, or whoever knows a link
abbrev pub seeker_of : Call → Seeker
seeker_of call = if is_by_link call.request.caller then seeker.Link (linked_of call) else seeker.User (asker_of call)

-- what the caller's paths lead from: the root folder of a user, and what a link is of
abbrev pub root_of : Call → ℕ
root_of call = option_map_or (λ row. row.node) (link_of call) (option_map_or (λ row. row.root) (caller_row call) 0)

-- ---- where its paths lead

-- where a path leads, the node of the mount that it goes by, if it goes by one, and whether it is the path of the mount itself
pub record Way : Type 0 where
  pub mount : Option ℕ
  pub itself : Bool
  pub place : Found

-- there is one name
abbrev pub is_one : List (List ℕ) → Bool
is_one [] = false
is_one (name ∷ []) = true
is_one (name ∷ other ∷ names) = false

-- the node of the user's mount by which names lead on from the root: that of the first name, where no child of the root has it
abbrev pub mounted : List NodeRow → List MountRow → ℕ → ℕ → List (List ℕ) → Option ℕ
mounted rows mounts user root [] = None
mounted rows mounts user root (name ∷ names) = if is_some (child_of rows root name) then None else mount_at mounts user name

-- the same for whoever seeks access; all paths of a link go by what it is of
abbrev pub mount_for : List NodeRow → List MountRow → Seeker → ℕ → List (List ℕ) → Option ℕ
mount_for rows mounts (seeker.User user) root names = mounted rows mounts user root names
mount_for rows mounts (seeker.Link share) root names = Some root

-- the node of the mount that a place's path goes by
abbrev pub mount_of : Call → Spot → Option ℕ
mount_of call spot = mount_for call.state.tables.nodes call.state.tables.mounts (seeker_of call) (root_of call) spot.path

-- the names behind the mount that a path goes by: a user's path names its mount first, and that of a link names none
abbrev pub behind : Seeker → List (List ℕ) → List (List ℕ)
behind (seeker.User user) names = drop 1 names
behind (seeker.Link share) names = names

-- the path is that of the mount itself
abbrev pub is_itself : Seeker → List (List ℕ) → Bool
is_itself (seeker.User user) names = is_one names
is_itself (seeker.Link share) names = false

-- names lead from a root, or from the node of a mount
abbrev pub way_by : List NodeRow → Seeker → ℕ → List (List ℕ) → Option ℕ → Way
way_by rows seeker root names None = record { mount = None; itself = false; place = found_from rows 0 root names }
way_by rows seeker root names (Some node) =
    record { mount = Some node; itself = is_itself seeker names; place = found_from rows 0 node (behind seeker names) }

abbrev pub way_of : Call → Spot → Way
way_of call spot = way_by call.state.tables.nodes (seeker_of call) (root_of call) spot.path (mount_of call spot)

-- what a place's path leads to
abbrev pub found : Call → Spot → Found
found call spot = (way_of call spot).place

-- the ways of a request's paths
pub record Ways : Type 0 where
  pub source : Option Way
  pub target : Option Way

abbrev pub ways_for : Call → Asked → Ways
ways_for call asked = record { source = option_map (way_of call) asked.source; target = option_map (way_of call) asked.target }

abbrev pub ways_of : Call → Ways
ways_of call = ways_for call (asked_by call)

-- a mount that is to be left or to have another name: its own path is that of what wouldn't stay
abbrev pub is_mount_asked : Asked → Option Way → Bool
is_mount_asked asked source = asked.removes && option_map_or (λ way. way.itself) source false

abbrev pub place_at : Option Way → Option Found
place_at way = option_map (λ way. way.place) way

-- the places at which something is acted upon: where a mount is left or renamed itself, nothing is
abbrev pub places_by : Asked → Ways → Places
places_by asked ways =
    if is_mount_asked asked ways.source then record { source = None; target = None }
    else record { source = place_at ways.source; target = place_at ways.target }

abbrev pub places_of : Call → Places
places_of call = places_by (asked_by call) (ways_of call)
