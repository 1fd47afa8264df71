use Rattle.std.proofs.Common.{◌≡◌, map, take}
use Rattle.nf_ocs.proofs.parameters.names_between.Given as goal

abbrev pub invariant-loop-piece : goal.invariant-loop-piece
invariant-loop-piece l = map (λ name. name.items) l.names.items ≡ map (λ piece. piece.now) (take l.piece-index l.piece-items)
