use Rattle.std.proofs.Common.{◌≡◌, ◌-◌}
use Rattle.nf_base.specs.declared.limits.TheConstants.{MAX_DEPTH}
use Rattle.nf_opening.specs.Heaps.{top_of, top_within}
use Rattle.nf_opening.proofs.heaps.top_of.Given as goal

-- where the folders so far led is as far from the top as is left
abbrev pub invariant-loop-step : goal.invariant-loop-step
invariant-loop-step l = top_within (MAX_DEPTH - l.step) l.loaded.nodes l.at ≡ top_of l.loaded.nodes l.fn.node
