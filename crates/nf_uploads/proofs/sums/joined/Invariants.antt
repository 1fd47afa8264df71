use Rattle.std.proofs.Common.{◌≡◌, take}
use Rattle.std.specs.List.{All, flat_map}
use Rattle.nf_base.specs.Kept.{IsSized}
use Rattle.nf_uploads.proofs.sums.joined.Given as goal

-- the pieces of the rows so far, each of which is one of a content
abbrev pub invariant-loop-row : goal.invariant-loop-row
invariant-loop-row l = record {
  pieces : l.pieces.items ≡ flat_map (λ row. row.content) (take l.row-index l.rows);
  sized : All IsSized l.pieces.items;
}
