use Rattle.std.proofs.Common.{◌≡◌, ◌-◌}
use Rattle.nf_base.specs.declared.limits.TheConstants.{MAX_DEPTH}
use Rattle.nf_defs.specs.Tree.{is_rooted, is_rooted_within}
use Rattle.nf_tree.proofs.nodes.is_rooted.Given as goal

-- where the folders so far led has as many left
abbrev pub invariant-loop-step : goal.invariant-loop-step
invariant-loop-step l = is_rooted_within (MAX_DEPTH - l.step) l.rows l.at ≡ is_rooted l.rows l.fn.node
