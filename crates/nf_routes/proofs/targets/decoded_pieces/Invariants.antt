use Rattle.std.proofs.Common.{◌≡◌, map, take}
use Rattle.percent_encoding.specs.Percent.{percent_decode}
use Rattle.nf_routes.proofs.targets.decoded_pieces.Given as goal

abbrev pub invariant-loop-piece : goal.invariant-loop-piece
invariant-loop-piece l =
    map (λ segment. segment.items) l.segments.items ≡ map percent_decode (map (λ piece. piece.now) (take l.piece-index l.piece-items))
