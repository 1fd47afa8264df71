use Rattle.std.proofs.Common.{rules}
use Rattle.std.proofs.lemmas.List.Elements.{All-append}
use Rattle.nf_base.specs.Kept.{IsSized}
use Rattle.nf_base.specs.declared.rows.ChunkRow.{ChunkRow}
use Rattle.nf_uploads.proofs.Wholes.{joined_more}
use Rattle.nf_uploads.proofs.sums.joined.Goals as goal

pub loop-row-preserved : goal.loop-row-preserved
loop-row-preserved c =
    let before = c.loop-row.invariant in
    let with = c.in_ok-extend_from_slice.ensures.items in
    record {
      pieces = joined_more (λ (row : ChunkRow). row.content) c.args.rows.now c.loop-row.row-index c.row-item.result c.loop-row.pieces.items c.pieces.result.now
          c.extend_from_slice.new.self.items (search rules) (search rules) before.pieces (search rules) with;
      sized = rw with
          (All-append IsSized c.loop-row.pieces.items c.pieces.result.now before.sized (rw c.pieces.ensures.pieces c.pieces.ensures.kept.sized));
    }
