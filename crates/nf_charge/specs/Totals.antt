-- What all nodes of each owner have, in bytes, and totals that say so.
use Rattle.std.specs.Prelude.{ℕ, ◌+◌, ◌==◌, ◌≡◌, Bool, List, true, find, sum_by, if◌then◌else◌}
use Rattle.std.specs.Option.{option_map_or}
use Rattle.nf_base.specs.Content.{size_of}
use Rattle.nf_base.specs.declared.rows.NodeRow.{NodeRow}
use Rattle.nf_charge.specs.declared.totals.Total.{Total}

-- the bytes of a row that count for an owner: those of what is the owner's
abbrev pub owned_part : ℕ → NodeRow → ℕ
owned_part owner row = if row.owner == owner then size_of row.content else 0

-- how many bytes all rows of an owner have together
unfoldable pub bytes_owned : List NodeRow → ℕ → ℕ
bytes_owned rows owner = sum_by (owned_part owner) rows

-- ---- totals

-- the total of each owner, as far as they are known
pub record HeldTotals : Type 0 where
  pub totals : List Total
  pub known : Bool

-- the total of an owner, and nothing where there is none
abbrev pub total_of : List Total → ℕ → ℕ
total_of totals owner = option_map_or (λ total. total.bytes) (find (λ total. total.owner == owner) totals) 0

-- if they are known they are those of these rows
abbrev pub AreTotals : List NodeRow → HeldTotals → Type 0
AreTotals rows held = held.known ≡ true → (owner : ℕ) → total_of held.totals owner ≡ bytes_owned rows owner

-- ---- changes

-- what is known now was known, and an owner has so many bytes more
abbrev pub IsAdded : HeldTotals → ℕ → ℕ → HeldTotals → Type 0
IsAdded old owner bytes new =
    new.known ≡ true → (old.known ≡ true) × ((user : ℕ) → total_of new.totals user ≡ total_of old.totals user + (if owner == user then bytes else 0))

-- or so many less
abbrev pub IsTaken : HeldTotals → ℕ → ℕ → HeldTotals → Type 0
IsTaken old owner bytes new =
    new.known ≡ true → (old.known ≡ true) × ((user : ℕ) → total_of new.totals user + (if owner == user then bytes else 0) ≡ total_of old.totals user)

-- or so many in the place of others
abbrev pub IsReplaced : HeldTotals → ℕ → ℕ → ℕ → HeldTotals → Type 0
IsReplaced old owner bytes other new =
    new.known ≡ true
    → (old.known ≡ true)
    × ((user : ℕ) → total_of new.totals user + (if owner == user then bytes else 0) ≡ total_of old.totals user + (if owner == user then other else 0))
