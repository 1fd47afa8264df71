-- The shares as the program holds them.
use Rattle.std.specs.Prelude.{◌≡◌, ℕ, Bool, true, false, ◌==◌, ◌+◌, ◌-◌, ◌≤◌, List, [], ◌∷◌, ◌++◌, drop, filter, length, map, max, min, take, Option, None, Some, if◌then◌else◌}
use Rattle.std.specs.Int.{from_be_bytes, w64}
use Rattle.std.specs.Option.{option_map_or}
use Rattle.nf_access.specs.Shares.{share_row}
use Rattle.nf_base.specs.declared.rows.ShareRow.{ShareRow}
use Rattle.nf_defs.specs.Prelude.{IsRising, put, share_key}
use Rattle.nf_base.specs.declared.rows.ShareKind.{ShareKind}
use Rattle.nf_base.specs.declared.rows.ShareKind.TheVariants as kind
use Rattle.nf_shares.specs.declared.entries.Entry.{Entry}
use Rattle.nf_table.specs.Rows.{TableValue}

-- the rows of shares, and how many fit without more memory
pub record KeptShares : Type 0 where
  pub rows : List ShareRow
  pub room : ℕ

-- one share more fits
abbrev pub FitsShare : KeptShares → Type 0
FitsShare shares = length shares.rows + 1 ≤ shares.room

-- the numbers of the rows that pass a test
abbrev pub ids_of : (ShareRow → Bool) → List ShareRow → List ℕ
ids_of test rows = map (λ row. row.id) (filter test rows)

abbrev pub is_child_of : ℕ → Option ℕ → Bool
is_child_of id None = false
is_child_of id (Some parent) = parent == id

-- the rows where the share of that number is what a function makes of it
abbrev pub changed : (ShareRow → ShareRow) → ℕ → List ShareRow → List ShareRow
changed f id rows = option_map_or (λ row. put share_key (f row) rows) (share_row rows id) rows

-- the row of a share that ended
abbrev pub ended : ShareRow → ShareRow
ended row = record row { ended = true }

-- the rows where those that pass a test are ended
abbrev pub ended_where : (ShareRow → Bool) → List ShareRow → List ShareRow
ended_where test rows = map (λ row. if test row then ended row else row) rows

-- the same share, of the same node and of the same kind
abbrev pub StaysInPlace : ShareRow → ShareRow → Type 0
StaysInPlace row row' = (row'.id ≡ row.id) × (row'.node ≡ row.node) × (row'.kind ≡ row.kind)

-- ---- shares by a number that each row has

abbrev pub entry_key : {K : Type 0} → (K → ℕ) → Entry K → List ℕ
entry_key number entry = number entry.by ∷ entry.share ∷ []

-- the entry of a row
abbrev pub entry_of : {K : Type 0} → (ShareRow → K) → ShareRow → Entry K
entry_of of_row row = record { by = of_row row; share = row.id }

-- both are by rising key; and of each number, the entries have the shares of the rows, in their order
pub record IsIndex {K : Type 0} (number : K → ℕ) (of_row : ShareRow → K) (index : List (Entry K)) (rows : List ShareRow) : Type 0 where
  pub entries_rise : IsRising (entry_key number) index
  pub rows_rise : IsRising share_key rows
  pub numbers : (n : ℕ) → map (λ entry. entry.share) (filter (λ entry. number entry.by == n) index) ≡ ids_of (λ row. number (of_row row) == n) rows

-- ---- links by the fronts of their tokens

-- the first bytes as one number, followed by zeros where they are fewer than eight; no front is 0
unfoldable pub front_of : List ℕ → ℕ
front_of token =
    max 1 (from_be_bytes w64 (take (min (length token) 8) token ++ drop (min (length token) 8) (0 ∷ 0 ∷ 0 ∷ 0 ∷ 0 ∷ 0 ∷ 0 ∷ 0 ∷ [])))

abbrev pub front_of_kind : ShareKind → ℕ
front_of_kind (kind.User user) = 0
front_of_kind (kind.Group group) = 0
front_of_kind (kind.Link token) = front_of token

-- ---- the indexes of the site's shares

-- how many more rows fit
abbrev free : {R : Type 0} → TableValue R → ℕ
free table = table.room - length table.rows

-- how many rows fit, if each has an entry in each index
abbrev pub room_of : {A B : Type 0} → TableValue ShareRow → TableValue A → TableValue B → ℕ
room_of rows by_node by_token = length rows.rows + min (free rows) (min (free by_node) (free by_token))

-- the indexes by node and by token are those of the rows
pub record AreIndexed (rows : List ShareRow) (by_node : List (Entry ℕ)) (by_token : List (Entry ℕ)) : Type 0 where
  pub nodes : IsIndex (λ node. node) (λ row. row.node) by_node rows
  pub tokens : IsIndex (λ front. front) (λ row. front_of_kind row.kind) by_token rows
