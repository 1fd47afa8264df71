use Rattle.std.proofs.Common.{◌≡◌, ◌-◌}
use Rattle.nf_base.specs.declared.limits.TheConstants.{MAX_CHAIN}
use Rattle.nf_opening.proofs.Chains.{is_chained}
use Rattle.nf_opening.proofs.sharing.has_chain.Given as goal

-- the share has a chain as the one that it led to has within the shares that are left
abbrev pub invariant-loop-step : goal.invariant-loop-step
invariant-loop-step l = is_chained (MAX_CHAIN - l.step) l.loaded.shares l.at ≡ is_chained MAX_CHAIN l.loaded.shares l.fn.share
