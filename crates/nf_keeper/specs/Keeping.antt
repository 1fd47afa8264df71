-- What the calls of a keeper give and change.
use Rattle.std.specs.Prelude.{◌≡◌, ℕ, ◌+◌, ◌-◌, ◌^◌, ◌≤◌, ◌==◌, Bool, List, filter, min, Option, None, Some, option_map, Result, Ok, Err}
use Rattle.std.specs.List.{list_any}
use Rattle.nf_base.specs.declared.changes.Change.{Change}
use Rattle.nf_defs.specs.Blobs.{Blobs, blob_at, put_blob}
use Rattle.nf_outside.specs.Causes.{Rose}
use Rattle.nf_rows.specs.Spelling.{Raw}
use Rattle.nf_told.specs.Told.{Told, told_all}
use Rattle.nf_keeper.specs.declared.keeper.KeepFault.{KeepFault}
use Rattle.nf_keeper.specs.declared.keeper.KeepFault.TheVariants.{Failed, Memory}

-- the count of faults rises by one where a call failed, and at no other time. It never falls, whatever it began with
abbrev pub Counts : {T : Type 0} → ℕ → ℕ → Result T KeepFault → Type 0
Counts before now (Ok value) = now ≡ before
Counts before now (Err Failed) = Rose before now × (before ≤ now)
Counts before now (Err Memory) = now ≡ before

-- one call more was made of it, where calls are counted; at most 2^64 - 1 are
abbrev pub one_more : Option ℕ → Option ℕ
one_more calls = option_map (λ (n : ℕ). min (n + 1) (2 ^ 64 - 1)) calls

-- a blob that a step stores: its number and its bytes
pub record Stored : Type 0 where
  pub id : ℕ
  pub bytes : List ℕ

abbrev pub with_stored : Blobs → Option Stored → Blobs
with_stored blobs None = blobs
with_stored blobs (Some stored) = put_blob blobs stored.id stored.bytes

-- what is told after some changes and a blob
abbrev pub applied : List Change → Option Stored → Told → Told
applied changes blob told = record { rows = told_all told.rows changes; blobs = with_stored told.blobs blob }

-- the blob is among these
abbrev pub is_kept : List ℕ → ℕ × List ℕ → Bool
is_kept keep blob = list_any (λ id. id == blob.0) keep

-- what is told when the blobs that aren't among these are dropped
abbrev pub swept : List ℕ → Told → Told
swept keep told = record told { blobs = filter (is_kept keep) told.blobs }

-- these are the rows that are told, where they are
abbrev pub AreTold : Option Told → List Raw → Type 0
AreTold None raws = Unit {0}
AreTold (Some told) raws = raws ≡ told.rows

-- these are the bytes that are told under the number, where they are
abbrev pub IsTold : Option Told → ℕ → Option (List ℕ) → Type 0
IsTold None id bytes = Unit {0}
IsTold (Some told) id bytes = bytes ≡ blob_at told.blobs id
