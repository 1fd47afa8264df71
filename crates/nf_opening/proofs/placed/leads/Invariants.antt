use Rattle.std.proofs.Common.{◌≡◌, ◌-◌}
use Rattle.nf_base.specs.declared.limits.TheConstants.{MAX_DEPTH}
use Rattle.nf_rules.specs.Rules.{leads, leads_within}
use Rattle.nf_opening.proofs.placed.leads.Given as goal

-- the node leads to a root as what it led to does within the steps that are left
abbrev pub invariant-loop-step : goal.invariant-loop-step
invariant-loop-step l = leads_within (MAX_DEPTH - l.step) l.loaded l.at ≡ leads l.loaded l.fn.node
