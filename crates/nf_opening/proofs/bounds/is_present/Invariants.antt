use Rattle.std.proofs.Common.{◌≡◌, ◌-◌}
use Rattle.nf_base.specs.declared.limits.TheConstants.{MAX_DEPTH}
use Rattle.nf_defs.specs.Prelude.{is_present}
use Rattle.nf_opening.proofs.Rooted.{is_present_within}
use Rattle.nf_opening.proofs.bounds.is_present.Given as goal

-- where the folders so far led is as far from the roots as is left
abbrev pub invariant-loop-step : goal.invariant-loop-step
invariant-loop-step l =
    is_present_within (MAX_DEPTH - l.step) l.loaded.users l.loaded.nodes l.at ≡ is_present l.loaded.users l.loaded.nodes l.fn.node
