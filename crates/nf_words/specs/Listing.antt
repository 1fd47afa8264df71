-- What is listed of a folder.
use Rattle.std.specs.Prelude.{ℕ, ◌==◌, min, Bool, false, List, [], ◌∷◌, Option, sum_by, filter_map, option_map, option_and_then, if◌then◌else◌}
use Rattle.std.specs.Cmp.Lexicographic.{slice_cmp}
use Rattle.std.specs.List.{list_any}
use Rattle.std.specs.Option.{option_map_or}
use Rattle.std.specs.Ordering.{is_lt, nat_cmp}
use Rattle.nf_access.specs.Access.{allows}
use Rattle.nf_access.specs.Mounts.{listed}
use Rattle.nf_base.specs.Perms.{bit_of}
use Rattle.nf_base.specs.declared.perms.Act.{Act}
use Rattle.nf_base.specs.declared.perms.Act.TheVariants.{Read, Update, Create, Delete, Share}
use Rattle.nf_base.specs.declared.rows.MountRow.{MountRow}
use Rattle.nf_base.specs.declared.rows.NodeRow.{NodeRow}
use Rattle.nf_defs.specs.Prelude.{Access, children_of, content_of, node_row, Tables, user_row, walk_of}
use Rattle.nf_defs.specs.declared.Grant.{Grant}
use Rattle.nf_defs.specs.declared.Seeker.{Seeker}
use Rattle.nf_defs.specs.declared.Seeker.TheVariants.{User, Link}
use Rattle.nf_words.specs.Calls.{Call, root_of, seeker_of}
use Rattle.nf_words.specs.Limits.{last_number}
use Rattle.nf_words.specs.declared.listing.ListingLine.{ListingLine}

-- the bytes of a node's own content
abbrev pub bytes_of : List NodeRow → ℕ → ℕ
bytes_of rows node = sum_by (λ piece. piece.size) (content_of rows node)

-- the bytes of a file, or of all files under a folder, as far as they can be told
abbrev pub size_of : List NodeRow → ℕ → ℕ
size_of rows node = min (sum_by (bytes_of rows) (walk_of rows node)) last_number

-- ---- what may be done

-- an owner may do everything: read, update, create, delete and share
abbrev pub all_permissions : ℕ
all_permissions = 31

-- the bit of an act that one of some grants allows
abbrev pub bit_by : ℕ → List Grant → Act → ℕ
bit_by now grants act = if list_any (allows now act) grants then bit_of act else 0

-- the sum of the bits of the acts that some grants allow
abbrev pub bits_by : ℕ → List Grant → ℕ
bits_by now grants = sum_by (bit_by now grants) (Read ∷ Update ∷ Create ∷ Delete ∷ Share ∷ [])

-- what a seeker who doesn't own what is at a path may do there, by the mount that it goes by
abbrev pub granted_by : Access → Seeker → ℕ → Option ℕ → ℕ
granted_by access seeker now mount = option_map_or (λ shared. bits_by now (access seeker shared)) mount 0

-- ---- lines

-- the node is the seeker's own
abbrev pub is_ones_own : Seeker → NodeRow → Bool
is_ones_own (User user) row = row.owner == user
is_ones_own (Link share) row = false

-- what is told of a node whose owner is there, under that name, to a seeker who may do so much with what others own
abbrev pub line_of : Tables → Seeker → ℕ → List ℕ → NodeRow → Option ListingLine
line_of t seeker granted name row =
    option_map (λ owner. record {
      changed = row.changed;
      id = row.id;
      kind = row.kind;
      name = name;
      owner = owner.name;
      permissions = if is_ones_own seeker row then all_permissions else granted;
      size = size_of t.nodes row.id;
    }) (user_row t.users row.owner)

-- those of a folder's children, by name
abbrev pub child_line : Tables → Seeker → ℕ → ℕ → Option ListingLine
child_line t seeker granted node = option_and_then (λ row. line_of t seeker granted row.name row) (node_row t.nodes node)

abbrev pub child_lines : Tables → Seeker → ℕ → ℕ → List ListingLine
child_lines t seeker granted folder = filter_map (child_line t seeker granted) (children_of t.nodes folder)

-- that of a mount, under the name of the mount
abbrev pub mount_line : Access → Tables → ℕ → MountRow → Option ListingLine
mount_line access t now mount =
    option_and_then (line_of t (User mount.user) (bits_by now (access (User mount.user) mount.node)) mount.name) (node_row t.nodes mount.node)

-- those of a user's mounts; a link has none
abbrev pub mount_lines : Access → Tables → ℕ → Seeker → List ListingLine
mount_lines access t now (User user) = filter_map (mount_line access t now) (listed access now t.mounts user)
mount_lines access t now (Link share) = []

-- a line comes before another by its name
abbrev pub is_line_before : ListingLine → ListingLine → Bool
is_line_before a b = is_lt (slice_cmp nat_cmp a.name b.name)

-- a line at its place among others by name
abbrev pub put_line : ListingLine → List ListingLine → List ListingLine
put_line line [] = line ∷ []
put_line line (first ∷ lines) = if is_line_before first line then first ∷ put_line line lines else line ∷ first ∷ lines

abbrev pub put_lines : List ListingLine → List ListingLine → List ListingLine
put_lines [] lines = lines
put_lines (line ∷ others) lines = put_lines others (put_line line lines)

-- what is in a folder to which a path leads by a mount, if it goes by one. In the caller's root the mounts stand among the children
abbrev pub listing_of : Access → Call → Option ℕ → ℕ → List ListingLine
listing_of access call mount folder =
    let t = call.state.tables in
    let seeker = seeker_of call in
    put_lines (if folder == root_of call then mount_lines access t call.now seeker else [])
    (child_lines t seeker (granted_by access seeker call.now mount) folder)
