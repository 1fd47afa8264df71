use Rattle.std.proofs.Common.{◌≡◌, ◌++◌, map, take}
use Rattle.nf_base.specs.declared.rows.Row.TheVariants.{Chunk}
use Rattle.nf_state.proofs.tables.push_chunks.Given as goal

-- those of the chunks so far
abbrev pub invariant-loop-chunk : goal.invariant-loop-chunk
invariant-loop-chunk l = l.list ≡ l.initial.list ++ map Chunk (take l.chunk-index l.chunks)
