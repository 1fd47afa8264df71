use Rattle.std.proofs.Common.{◌≡◌, ◌++◌, map, take}
use Rattle.nf_base.specs.declared.rows.Row.TheVariants.{Share}
use Rattle.nf_state.proofs.tables.push_shares.Given as goal

-- those of the nodes so far
abbrev pub invariant-loop-share : goal.invariant-loop-share
invariant-loop-share l = l.list ≡ l.initial.list ++ map Share (take l.share-index l.shares)
