-- That the walks give what is said without them, and that nothing else is meant by it.
use Rattle.std.specs.Prelude.{◌≡◌, ℕ, List, ◌++◌, drop, filter, map, not}
use Rattle.std.specs.List.Sorted.{IsPermutation}
use Rattle.nf_base.specs.declared.rows.ItemRow.{ItemRow}
use Rattle.nf_retention.specs.Budget.{IsLongestWithin, fitting}
use Rattle.nf_retention.specs.Thinning.{AreFalling, AreKept, AreParted, kept, thinned}
use Rattle.nf_retention.specs.Trash.{AreNewestFirst, going, is_young, newest_first}
use Rattle.nf_retention.specs.Versions.{AreLatestFirst, latest_first}
use Rattle.nf_retention.specs.declared.versions.Version.{Version}

-- the walk keeps what is to be kept
abbrev pub KeptIsRight : Type 0
KeptIsRight = (now : ℕ) (versions : List ℕ) → AreFalling versions → AreKept now versions (kept now versions)

-- and no other list has just that
abbrev pub KeptIsOnly : Type 0
KeptIsOnly = (now : ℕ) (versions those : List ℕ) → AreFalling versions → AreKept now versions those → those ≡ kept now versions

-- what goes is the rest
abbrev pub ThinnedIsRest : Type 0
ThinnedIsRest = (now : ℕ) (versions : List ℕ) → AreFalling versions → AreParted versions (kept now versions) (thinned now versions)

-- for every list there is a longest front within the bound: the walk's
abbrev pub FittingIsRight : Type 0
FittingIsRight = (bound : ℕ) (sizes : List ℕ) → IsLongestWithin bound sizes (fitting bound sizes)

-- and there is only one
abbrev pub FittingIsOnly : Type 0
FittingIsOnly = (bound : ℕ) (sizes : List ℕ) (m n : ℕ) → IsLongestWithin bound sizes m → IsLongestWithin bound sizes n → m ≡ n

-- of a trash, newest first: the same items, in order
abbrev pub NewestIsRight : Type 0
NewestIsRight = (items : List ItemRow) → AreNewestFirst (newest_first items) × IsPermutation items (newest_first items)

-- and of versions
abbrev pub LatestIsRight : Type 0
LatestIsRight = (versions : List Version) → AreLatestFirst (latest_first versions) × IsPermutation versions (latest_first versions)

-- those that go for good: of the young ones those behind the longest front within the bound, and all that aren't young
abbrev pub GoingIsRest : Type 0
GoingIsRest =
    (size : ItemRow → ℕ) (now bound count : ℕ) (items : List ItemRow) → AreNewestFirst items
    → IsLongestWithin bound (map size (filter (is_young now) items)) count
    → going size now bound items ≡ drop count (filter (is_young now) items) ++ filter (λ item. not (is_young now item)) items
