-- What a listing has: a line for each node in the folder, and in a user's root one for each mount, by name. What may be done with each.
use Rattle.std.specs.Prelude.{◌≡◌, ◌↔◌, ◌⊎◌, ℕ, false, All, AllPairs, Contains, List, map, Option, Some}
use Rattle.std.specs.Cmp.Lexicographic.{slice_cmp}
use Rattle.std.specs.Ordering.{nat_cmp}
use Rattle.std.specs.declared.cmp.Ordering.TheVariants.{Less}
use Rattle.nf_access.specs.Access.{Reaches}
use Rattle.nf_access.specs.Mounts.{listed}
use Rattle.nf_access.specs.Shares.{ground_of}
use Rattle.nf_base.specs.Perms.{has}
use Rattle.nf_base.specs.declared.perms.Act.{Act}
use Rattle.nf_base.specs.declared.rows.MountRow.{MountRow}
use Rattle.nf_base.specs.declared.rows.ShareRow.{ShareRow}
use Rattle.nf_defs.specs.Prelude.{Access, children_of, Tables}
use Rattle.nf_defs.specs.declared.Seeker.{Seeker}
use Rattle.nf_defs.specs.declared.Seeker.TheVariants.{User}
use Rattle.nf_words.specs.Prelude.{access_of, AreSound, Call, child_lines, granted_by, IsSound, listing_of, may_by, mount_lines, root_of, seeker_of, State}
use Rattle.nf_words.specs.declared.listing.ListingLine.{ListingLine}

-- ---- the lines

-- a line for each node that is in a folder, and for no other
abbrev pub ChildrenAreListed : Type 0
ChildrenAreListed =
    (t : Tables) (seeker : Seeker) (granted folder : ℕ) → AreSound t
    → map (λ line. line.id) (child_lines t seeker granted folder) ≡ children_of t.nodes folder

-- a mount of the user's that wasn't left, and on whose node a chain of live shares reaches the user
pub record IsMountShown (s : State) (now user : ℕ) (row : MountRow) : Type 0 where
  pub among : Contains s.tables.mounts row
  pub of_user : row.user ≡ user
  pub shown : row.left ≡ false
  pub share : ShareRow
  pub up : List ShareRow
  pub reaches : Reaches (ground_of s.tables) now (User user) row.node share up

-- in a sound state the lines of a user's mounts are, one for one, those of such mounts and of no others: each has the mount's name and
-- the node that it is of
pub record MountsAreListed : Type 0 where
  pub those : (s : State) (now user : ℕ) (row : MountRow) → IsSound s
      → Contains (listed (access_of s) now s.tables.mounts user) row ↔ IsMountShown s now user row
  pub names : (s : State) (now user : ℕ) → IsSound s
      → map (λ line. line.name) (mount_lines (access_of s) s.tables now (User user))
      ≡ map (λ row. row.name) (listed (access_of s) now s.tables.mounts user)
  pub nodes : (s : State) (now user : ℕ) → IsSound s
      → map (λ line. line.id) (mount_lines (access_of s) s.tables now (User user))
      ≡ map (λ row. row.node) (listed (access_of s) now s.tables.mounts user)

-- a listing has the lines of what is in the folder, and in the caller's root those of the caller's mounts, and no other
abbrev pub LinesAreThese : Type 0
LinesAreThese =
    (access : Access) (call : Call) (mount : Option ℕ) (folder : ℕ) (line : ListingLine)
    → Contains (listing_of access call mount folder) line
    ↔ (Contains (child_lines call.state.tables (seeker_of call) (granted_by access (seeker_of call) call.now mount) folder) line
    ⊎ ((folder ≡ root_of call) × Contains (mount_lines access call.state.tables call.now (seeker_of call)) line))

-- each line's name comes before those of the lines behind it, so that no name is there twice
abbrev pub LinesAreByName : Type 0
LinesAreByName =
    (call : Call) (mount : Option ℕ) (folder : ℕ) → IsSound call.state
    → AllPairs (λ (a b : ListingLine). slice_cmp nat_cmp a.name b.name ≡ Less) (listing_of (access_of call.state) call mount folder)

-- ---- what may be done

-- the permissions of a line have an act exactly where the seeker may do it at the line's node: by the mount of the path where the node is
-- in the folder, and else by the line's own mount
pub record PermissionsAreActs : Type 0 where
  pub children : (access : Access) (t : Tables) (seeker : Seeker) (now folder : ℕ) (mount : Option ℕ) (act : Act)
      → All (λ (line : ListingLine). has line.permissions act ≡ may_by access t.nodes seeker now act line.id mount)
      (child_lines t seeker (granted_by access seeker now mount) folder)
  pub mounts : (access : Access) (t : Tables) (seeker : Seeker) (now : ℕ) (act : Act)
      → All (λ (line : ListingLine). has line.permissions act ≡ may_by access t.nodes seeker now act line.id (Some line.id))
      (mount_lines access t now seeker)
