-- What a call leaves of the bytes that are used, and when it fails.
use Rattle.std.specs.Prelude.{◌≡◌, ◌⊎◌, ◌<◌, ℕ, Bool, false, not, IsTrue, List, length, slice_index, take, drop}
use Rattle.sqlite_disk.specs.Disk.{Follows, MoreFaults}
use Rattle.nf_extents.specs.declared.gaps.Extent.{Extent}
use Rattle.nf_extents.specs.Room.{Room, is_free}

-- a disk, and what is free of it
pub record Store (D : Type 0) : Type 0 where
  pub disk : D
  pub room : Room

-- each byte that isn't free is as it was
pub record Keeps (room : Room) (old new : List ℕ) : Type 0 where
  pub each : (byte : ℕ) → is_free room byte ≡ false → byte < length old → (byte < length new) × (slice_index new byte ≡ slice_index old byte)

-- nothing becomes free, and what isn't free stays, of what is seen and in whatever a crash leaves
pub record Spares (old new : Room) (seen seen_after : List ℕ) (leaves leaves_after : List ℕ → Type 0) : Type 0 where
  pub kept : Keeps old seen seen_after
  pub crash : Follows (Keeps old) leaves leaves_after
  pub frees_none : (byte : ℕ) → IsTrue (is_free new byte) → IsTrue (is_free old byte)

-- the same of a disk, by what is seen of it and what a crash may leave
abbrev pub SparesUsed : {D : Type 0} → (D → List ℕ) → (D → List ℕ → Type 0) → Store D → Store D → Type 0
SparesUsed seen may_leave old new = Spares old.room new.room (seen old.disk) (seen new.disk) (may_leave old.disk) (may_leave new.disk)

-- what the file has of the extent
abbrev pub body_at : List ℕ → Extent → List ℕ
body_at file extent = take extent.size (drop extent.place file)

-- the disk may not be used any more, or has counted a fault
abbrev pub HasCause : Bool → ℕ → ℕ → Type 0
HasCause is_usable old new = IsTrue (not is_usable) ⊎ MoreFaults old new
