-- Which bytes of a file are used, and which are free.
use Rattle.std.specs.Prelude.{◌≡◌, ℕ, ◌+◌, ◌*◌, ◌/◌, ◌^◌, ◌<◌, ◌≤◌, nat_lt, nat_le, Bool, not, ◌&&◌, ◌||◌, IsTrue, List, [], ◌∷◌, filter, All, ◌⊎◌}
use Rattle.std.specs.List.{list_any}
use Rattle.nf_extents.specs.declared.gaps.Extent.{Extent}

-- the byte is one of the extent's
abbrev pub is_in : Extent → ℕ → Bool
is_in extent byte = nat_le extent.place byte && nat_lt byte (extent.place + extent.size)

-- the byte is one of theirs
abbrev pub is_used : List Extent → ℕ → Bool
is_used extents byte = list_any (λ extent. is_in extent byte) extents

-- an extent of no bytes uses none, wherever it stands
abbrev pub with_bytes : List Extent → List Extent
with_bytes extents = filter (λ extent. nat_lt 0 extent.size) extents

-- each has bytes and begins where the one before ends or behind it, the first at `from` or behind it, and the last ends at `end` at most
abbrev pub AreApart : ℕ → List Extent → ℕ → Type 0
AreApart from [] end = from ≤ end
AreApart from (extent ∷ extents) end = (from ≤ extent.place) × (0 < extent.size) × AreApart (extent.place + extent.size) extents end

-- gaps, and an end behind which all is free
pub record Room : Type 0 where
  pub gaps : List Extent
  pub end : ℕ

abbrev pub is_free : Room → ℕ → Bool
is_free room byte = is_used room.gaps byte || nat_le room.end byte

-- each of the extent's bytes is free
abbrev pub IsAllFree : Room → Extent → Type 0
IsAllFree room extent = (byte : ℕ) → IsTrue (is_in extent byte) → IsTrue (is_free room byte)

-- free is what these don't use
abbrev pub IsRestOf : List Extent → Room → Type 0
IsRestOf used room = (byte : ℕ) → is_free room byte ≡ not (is_used used byte)

-- free is what was free and isn't the extent's
abbrev pub Takes : Extent → Room → Room → Type 0
Takes extent old new = (byte : ℕ) → is_free new byte ≡ (is_free old byte && not (is_in extent byte))

-- it takes so many bytes from somewhere on
abbrev pub TakesSome : ℕ → Room → Room → Type 0
TakesSome size old new = (place : ℕ) × Takes (record { place = place; size = size }) old new

-- each gap is smaller, and at the end the file would be longer than it may be
abbrev pub LacksRoom : Room → ℕ → Type 0
LacksRoom room size = All (λ gap. gap.size < size) room.gaps × (2 ^ 62 < room.end + size)

-- so many bytes in whole sectors
abbrev pub in_sectors : ℕ → ℕ
in_sectors size = (size + 4095) / 4096 * 4096

-- a body of so many bytes has no place
abbrev pub LacksPlace : Room → ℕ → Type 0
LacksPlace room size = (2 ^ 62 < size) ⊎ LacksRoom room (in_sectors size)

-- the sectors that a body's extent reaches into
abbrev pub sectors_of : Extent → Extent
sectors_of extent = record { place = extent.place; size = in_sectors extent.size }
