use Rattle.std.proofs.Common.{◌≡◌, ◌-◌}
use Rattle.nf_base.specs.declared.limits.TheConstants.{MAX_DEPTH}
use Rattle.nf_defs.specs.Prelude.{is_under, is_under_within}
use Rattle.nf_opening.proofs.sharing.is_under.Given as goal

-- where the folders so far led is as far from the top as is left
abbrev pub invariant-loop-step : goal.invariant-loop-step
invariant-loop-step l = is_under_within (MAX_DEPTH - l.step) l.loaded.nodes l.at l.top ≡ is_under l.loaded.nodes l.fn.node l.top
