use Rattle.std.proofs.Common.{◌≡◌, ◌++◌, take}
use Rattle.std.specs.List.{flat_map}
use Rattle.nf_laws.specs.Named.{blobs_of}
use Rattle.nf_site.proofs.named.name_chunks.Given as goal

abbrev pub invariant-loop-row : goal.invariant-loop-row
invariant-loop-row l = l.blobs.items ≡ l.initial.blobs.items ++ flat_map (λ row. blobs_of row.content) (take l.row-index l.chunks)
