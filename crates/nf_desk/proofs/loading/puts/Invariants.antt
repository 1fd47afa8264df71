use Rattle.std.proofs.Common.{◌≡◌, map, take}
use Rattle.nf_base.specs.declared.changes.Change.TheVariants.{Put}
use Rattle.nf_desk.proofs.loading.puts.Given as goal

abbrev pub invariant-loop-row : goal.invariant-loop-row
invariant-loop-row l = l.changes ≡ map Put (take l.row-index l.row-items)
