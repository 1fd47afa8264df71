use Rattle.std.proofs.Common.{◌≡◌, ◌++◌, map, take}
use Rattle.nf_base.specs.declared.changes.Change.TheVariants.{Drop}
use Rattle.nf_base.specs.declared.changes.RowKey.TheVariants as keys
use Rattle.nf_state.proofs.telling.push_abandoned.Given as goal

-- those of the chunks so far
abbrev pub invariant-loop-chunk : goal.invariant-loop-chunk
invariant-loop-chunk l =
    l.changes ≡ l.initial.changes ++ map (λ row. Drop (keys.Chunk row.user row.dir row.number)) (take l.chunk-index l.chunk-items)
