use Rattle.std.proofs.Common.{rules, ◌≡◌, ◌<◌, ◌^◌, get_or, length, refl, arith}
use Rattle.nf_words.specs.Versions.{content_size}
use Rattle.nf_opening.specs.Totals.{total_of}
use Rattle.nf_opening.proofs.Added.{few_more, IsMore, owned_more}
use Rattle.nf_opening.proofs.counts.pending_bytes.Goals as goal

pub loop-row-preserved : goal.loop-row-preserved
loop-row-preserved c =
    let rows = c.args.rows.now in
    let i = c.loop-row.row-index in
    let row = c.row-item.result in
    let less : i < length rows = search rules in
    let is : row ≡ get_or rows i row = search rules in
    let sized : c.size.result ≡ content_size row.content = search rules in
    let adds : IsMore row.user c.size.result (total_of c.loop-row.totals) (total_of c.add.new.totals) = search rules in
    record {
      pending = owned_more (λ row. content_size row.content) (λ row. row.user) rows i row row.user c.size.result
          (total_of c.loop-row.totals) (total_of c.add.new.totals) less is refl sized adds c.loop-row.invariant.pending;
      few = few_more (2 ^ 64) row.user c.size.result i (total_of c.loop-row.totals) (total_of c.add.new.totals) adds (omega arith)
          c.loop-row.invariant.few;
    }
