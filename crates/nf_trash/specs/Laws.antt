-- That the walk takes what goes for good, and nothing else.
use Rattle.std.specs.Prelude.{◌≡◌, ℕ, List, map, reverse, sum_by}
use Rattle.nf_base.specs.declared.rows.ItemRow.{ItemRow}
use Rattle.nf_retention.specs.Trash.{going, newest_first, trashed}
use Rattle.nf_trash.specs.Outgoing.{all_passed, starting}

-- over all items, whose sizes it is told the sum of, it takes those that the rule has go
abbrev pub WalkIsGoing : Type 0
WalkIsGoing =
    (size : ItemRow → ℕ) (now bound : ℕ) (items : List ItemRow)
    → (all_passed (starting now bound (sum_by size items)) (map (trashed size) (reverse (newest_first items)))).gone
    ≡ map (λ item. item.node) (going size now bound (newest_first items))
