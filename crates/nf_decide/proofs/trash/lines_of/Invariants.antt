use Rattle.std.proofs.Common.{◌≡◌, take}
use Rattle.std.specs.Prelude.{filter_map}
use Rattle.nf_retention.specs.declared.trash.Trashed.{Trashed}
use Rattle.nf_decide.specs.Listed.{line_at}
use Rattle.nf_decide.proofs.trash.lines_of.Given as goal

-- the lines so far
abbrev pub invariant-loop-one : goal.invariant-loop-one
invariant-loop-one l = l.lines.items ≡ filter_map (λ (one : Trashed). line_at l.view.tables one.node) (take l.one-index l.sorted)
