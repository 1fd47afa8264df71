-- Items of the trash by their owners and their age.
use Rattle.std.specs.Prelude.{◌≡◌, ℕ, ◌==◌, ◌&&◌, ◌||◌, not, Bool, List, [], ◌∷◌, filter, map, nat_lt, reverse, sum_by}
use Rattle.nf_base.specs.declared.rows.ItemRow.{ItemRow}
use Rattle.nf_defs.specs.Prelude.{IsRising, item_key}
use Rattle.nf_retention.specs.Trash.{newest_first}
use Rattle.nf_trash.specs.declared.aged.Aged.{Aged}

-- what is told of an item
abbrev pub aged_of : ItemRow → Aged
aged_of item = record { owner = item.owner; at = item.at; node = item.node }

abbrev pub age_key : Aged → List ℕ
age_key aged = aged.owner ∷ aged.at ∷ aged.node ∷ []

-- the items of a user
abbrev pub items_of : List ItemRow → ℕ → List ItemRow
items_of items user = filter (λ item. item.owner == user) items

-- those of an item's owner, but for those of its node
abbrev pub items_but : List ItemRow → ItemRow → List ItemRow
items_but items item = filter (λ other. not (other.node == item.node)) (items_of items item.owner)

-- the same from the oldest on
abbrev pub oldest_first : List ItemRow → List Aged
oldest_first items = reverse (map aged_of (newest_first items))

-- it came to the trash after that item; of one moment that of the higher number counts as newer
abbrev pub is_newer : Aged → ItemRow → Bool
is_newer one item = nat_lt item.at one.at || item.at == one.at && nat_lt item.node one.node

-- the items stand by rising node; and those are all of them, by owner and age: by whatever number each counts, they come to the same
pub record IsAged (items : List ItemRow) (aged : List Aged) : Type 0 where
  pub nodes : IsRising item_key items
  pub rising : IsRising age_key aged
  pub same : (count : Aged → ℕ) → sum_by count aged ≡ sum_by (λ item. count (aged_of item)) items
