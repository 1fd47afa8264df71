use Rattle.std.proofs.Common.{◌≡◌, ◌*◌, ◌≤◌, take}
use Rattle.nf_base.specs.declared.limits.TheConstants.{MAX_SHARES}
use Rattle.nf_site.specs.Totals.{grants_in}
use Rattle.nf_site.proofs.totals.grants_of.Given as goal

abbrev pub invariant-loop-node : goal.invariant-loop-node
invariant-loop-node l = (l.count ≡ grants_in l.base (take l.node-index l.nodes) l.user) × (l.count ≤ MAX_SHARES * l.node-index)
