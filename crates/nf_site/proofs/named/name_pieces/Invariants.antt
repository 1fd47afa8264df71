use Rattle.std.proofs.Common.{◌≡◌, ◌++◌, take}
use Rattle.nf_laws.specs.Named.{blobs_of}
use Rattle.nf_site.proofs.named.name_pieces.Given as goal

abbrev pub invariant-loop-piece : goal.invariant-loop-piece
invariant-loop-piece l = l.blobs.items ≡ l.initial.blobs.items ++ blobs_of (take l.piece-index l.pieces)
