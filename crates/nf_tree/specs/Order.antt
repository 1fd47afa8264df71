-- The order of the nodes by folder, then name, then number, and a list of places that is in it.
use Rattle.std.specs.Prelude.{ℕ, ◌+◌, ◌-◌, ◌<◌, ◌≤◌, ◌≡◌, ◌≢◌, ◌==◌, Bool, true, false, not, List, [], ◌∷◌, length, take, filter, Option, None, All, AllPairs, slice_get, slice_index, slice_index_or, unwrap_or, nat_lt, if◌then◌else◌}
use Rattle.std.specs.List.{AllWithin, list_any}
use Rattle.std.specs.Option.{option_map_or, option_cmp}
use Rattle.std.specs.Ordering.{nat_cmp, ordering_then, is_lt}
use Rattle.std.specs.Cmp.Lexicographic.{slice_cmp}
use Rattle.std.specs.declared.cmp.Ordering.{Ordering}
use Rattle.nf_base.specs.declared.rows.NodeRow.{NodeRow}
use Rattle.nf_base.specs.declared.rows.Place.{Place}
use Rattle.nf_defs.specs.Tree.{folder_of, is_under, trashed, with_node}
pub use Rattle.nf_charge.specs.Sums.{AreRisingNodes}

-- a folder, a name and a number
pub record Key : Type 0 where
  pub folder : Option ℕ
  pub name : List ℕ
  pub id : ℕ

abbrev pub key_cmp : Key → Key → Ordering
key_cmp a b = ordering_then (option_cmp nat_cmp a.folder b.folder) (ordering_then (slice_cmp nat_cmp a.name b.name) (nat_cmp a.id b.id))

unfoldable pub key_lt : Key → Key → Bool
key_lt a b = is_lt (key_cmp a b)

abbrev pub key_of : NodeRow → Key
key_of row = record { folder = folder_of row.place; name = row.name; id = row.id }

abbrev pub no_key : Key
no_key = record { folder = None; name = []; id = 0 }

-- the key of the row at a place
unfoldable pub key_at : List NodeRow → ℕ → Key
key_at rows at = option_map_or key_of (slice_get rows at) no_key

-- the places are in the order of their rows' keys
abbrev pub AreInOrder : List NodeRow → List ℕ → Type 0
AreInOrder rows order = AllPairs (λ (a b : ℕ). key_lt (key_at rows a) (key_at rows b) ≡ true) order

-- each row's place, once, in the order of the keys
pub record IsIndex (rows : List NodeRow) (order : List ℕ) : Type 0 where
  pub within : All (λ at. at < length rows) order
  pub long : length order ≡ length rows
  pub in_order : AreInOrder rows order

-- the same but for one place
pub record LacksOnly (rows : List NodeRow) (order : List ℕ) (at : ℕ) : Type 0 where
  pub within : All (λ other. other < length rows) order
  pub long : length order + 1 ≡ length rows
  pub in_order : AreInOrder rows order
  pub absent : All (λ other. other ≢ at) order

-- the places before the cut have keys before the key, those behind it have not
pub record IsCut (rows : List NodeRow) (order : List ℕ) (key : Key) (cut : ℕ) : Type 0 where
  pub bound : cut ≤ length order
  pub before : AllWithin (λ at. key_lt (key_at rows at) key ≡ true) order 0 cut
  pub behind : AllWithin (λ at. key_lt (key_at rows at) key ≡ false) order cut (length order)

-- a row elsewhere, under another name where one is given
abbrev pub placed : Place → Option (List ℕ) → NodeRow → NodeRow
placed place name row = record row { place = place; name = unwrap_or name row.name }

-- the row stays where the nodes under a top go
abbrev pub stays : List NodeRow → ℕ → NodeRow → Bool
stays rows top row = not (is_under rows row.id top)

-- the node is under one of the tops
abbrev pub goes : List NodeRow → List ℕ → ℕ → Bool
goes rows tops node = list_any (λ top. is_under rows node top) tops

-- the row stays where the nodes under the tops go
abbrev pub outstays : List NodeRow → List ℕ → NodeRow → Bool
outstays rows tops row = not (goes rows tops row.id)

-- the rows where the nodes of some tops are in no folder
abbrev pub all_lifted : List NodeRow → List ℕ → List NodeRow
all_lifted rows [] = rows
all_lifted rows (top ∷ tops) = all_lifted (with_node rows top trashed) tops

-- a place when the row at another is gone
abbrev pub lowered : ℕ → ℕ → ℕ
lowered gone at = if nat_lt gone at then at - 1 else at

-- the rows of those nodes are marked by the number of all rows, and the marks of the others are as before
pub record AreMarked (rows : List NodeRow) (nodes before after : List ℕ) : Type 0 where
  pub long : length after ≡ length before
  pub each : (at : ℕ) (d : NodeRow) → at < length rows
      → slice_index after at ≡ (if list_any (λ node. node == (slice_index_or rows at d).id) nodes then length rows else slice_index before at)

-- each row is marked by the number of all rows if its node passes the test, and by 0 if not
pub record AreMarkedBy (test : ℕ → Bool) (rows : List NodeRow) (marks : List ℕ) : Type 0 where
  pub long : length marks ≡ length rows
  pub each : (at : ℕ) (d : NodeRow) → at < length rows → slice_index marks at ≡ (if test (slice_index_or rows at d).id then length rows else 0)

-- where each of the first n rows goes when only those that stay are left: behind those before it, or past the end
pub record AreFates (kept : NodeRow → Bool) (rows : List NodeRow) (n : ℕ) (fates : List ℕ) : Type 0 where
  pub long : length fates ≡ n
  pub stay : (at : ℕ) (d : NodeRow) → at < n → kept (slice_index_or rows at d) ≡ true → slice_index fates at ≡ length (filter kept (take at rows))
  pub go : (at : ℕ) (d : NodeRow) → at < n → kept (slice_index_or rows at d) ≡ false → slice_index fates at ≡ length rows
