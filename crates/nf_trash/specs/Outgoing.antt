-- A walk over items of the trash, from the oldest on, that takes those that go for good.
use Rattle.std.specs.Prelude.{ℕ, ◌+◌, ◌-◌, ◌||◌, not, Bool, false, true, List, [], ◌∷◌, if◌then◌else◌, nat_lt}
use Rattle.nf_retention.specs.declared.trash.Trashed.{Trashed}

-- the nodes that were taken, the last first; the bytes of those that weren't; the moment and the bound; and whether one was met that stays
pub record Walk : Type 0 where
  pub gone : List ℕ
  pub left : ℕ
  pub moment : ℕ
  pub bound : ℕ
  pub has_ended : Bool

abbrev pub starting : ℕ → ℕ → ℕ → Walk
starting now bound total = record { gone = []; left = total; moment = now; bound = bound; has_ended = false }

-- the next goes where it has been there for 30 days, or what is left is beyond the bound
abbrev pub goes : Walk → Trashed → Bool
goes walk item = not (nat_lt walk.moment (item.at + 2592000)) || nat_lt walk.bound walk.left

abbrev pub passed : Walk → Trashed → Walk
passed walk item =
    if walk.has_ended then walk
    else if goes walk item then record walk { gone = item.node ∷ walk.gone; left = walk.left - item.size }
    else record walk { has_ended = true }

-- past one after the other
abbrev pub all_passed : Walk → List Trashed → Walk
all_passed walk [] = walk
all_passed walk (item ∷ items) = all_passed (passed walk item) items
