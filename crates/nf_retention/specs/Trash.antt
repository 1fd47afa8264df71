-- What stays in a user's trash.
use Rattle.std.specs.Prelude.{◌≡◌, ◌<◌, ◌≤◌, ◌⊎◌, ℕ, ◌+◌, Bool, ◌&&◌, ◌||◌, ◌==◌, List, [], ◌∷◌, drop, filter, if◌then◌else◌, map, nat_lt, AllPairs}
use Rattle.nf_base.specs.declared.rows.ItemRow.{ItemRow}
use Rattle.nf_retention.specs.Budget.{fitting}
use Rattle.nf_retention.specs.declared.trash.Trashed.{Trashed}

-- an item came to the trash after another; of one moment that of the higher number counts as newer
abbrev pub is_newer : ItemRow → ItemRow → Bool
is_newer a b = nat_lt b.at a.at || a.at == b.at && nat_lt b.node a.node

abbrev pub put_newest : ItemRow → List ItemRow → List ItemRow
put_newest item [] = item ∷ []
put_newest item (first ∷ items) = if is_newer first item then first ∷ put_newest item items else item ∷ first ∷ items

abbrev pub newest_first : List ItemRow → List ItemRow
newest_first [] = []
newest_first (item ∷ items) = put_newest item (newest_first items)

-- the newest stands first, and of one moment that of the highest number
abbrev pub AreNewestFirst : List ItemRow → Type 0
AreNewestFirst items = AllPairs (λ newer older. (older.at < newer.at) ⊎ ((older.at ≡ newer.at) × (older.node ≤ newer.node))) items

-- it hasn't been there for 30 days
abbrev pub is_young : ℕ → ItemRow → Bool
is_young now item = nat_lt now (item.at + 2592000)

-- how many of some items, newest first, stay: the longest front of the young ones whose sizes are within the bound
abbrev pub staying : (ItemRow → ℕ) → ℕ → ℕ → List ItemRow → ℕ
staying size now bound items = fitting bound (map size (filter (is_young now) items))

-- and those that go for good
abbrev pub going : (ItemRow → ℕ) → ℕ → ℕ → List ItemRow → List ItemRow
going size now bound items = drop (staying size now bound items) items

-- ---- what is carried of an item

abbrev pub trashed : (ItemRow → ℕ) → ItemRow → Trashed
trashed size item = record { node = item.node; at = item.at; size = size item }

-- the sizes of those that are young
abbrev pub young_sizes : ℕ → List Trashed → List ℕ
young_sizes now carried = map (λ (one : Trashed). one.size) (filter (λ (one : Trashed). nat_lt now (one.at + 2592000)) carried)

-- of whatever items the first are carried, the others are those of the same, newest first
abbrev pub AreSorted : List Trashed → List Trashed → Type 0
AreSorted before after =
    (size : ItemRow → ℕ) (items : List ItemRow) → before ≡ map (trashed size) items → after ≡ map (trashed size) (newest_first items)

-- of whatever items these are carried, those of them that go have these nodes
abbrev pub AreGoing : ℕ → ℕ → List Trashed → List ℕ → Type 0
AreGoing now bound carried nodes =
    (size : ItemRow → ℕ) (items : List ItemRow) → carried ≡ map (trashed size) items
    → nodes ≡ map (λ (item : ItemRow). item.node) (going size now bound items)
