use Rattle.std.proofs.Common.{◌≡◌, ◌≤◌, count_by, take}
use Rattle.nf_state.specs.Current.{is_counted}
use Rattle.nf_state.proofs.telling.change_count.Given as goal

-- those of the changes so far
abbrev pub invariant-loop-change : goal.invariant-loop-change
invariant-loop-change l = (l.count ≡ count_by (is_counted l.counted) (take l.change-index l.changes)) × (l.count ≤ l.change-index)
