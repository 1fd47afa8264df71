use Rattle.std.proofs.Common.{rules, ◌≡◌, ◌<◌, ◌^◌, get_or, length, arith}
use Rattle.nf_words.specs.Versions.{content_size}
use Rattle.nf_opening.specs.Heaps.{top_of}
use Rattle.nf_opening.specs.Totals.{total_of}
use Rattle.nf_opening.proofs.Added.{few_more, owned_more}
use Rattle.nf_opening.proofs.heaps.topped.Goals as goal

pub loop-row-preserved : goal.loop-row-preserved
loop-row-preserved c =
    let nodes = c.args.loaded.now.nodes in
    let i = c.loop-row.row-index in
    let row = c.row-item.result in
    let less : i < length nodes = search rules in
    let is : row ≡ get_or nodes i row = search rules in
    let its : c.top_of.result ≡ top_of c.args.loaded.now.nodes row.id = search rules in
    let sized : c.size.result ≡ content_size row.content = search rules in
    record {
      topped = owned_more (λ row. content_size row.content) (λ row. top_of c.args.loaded.now.nodes row.id) nodes i row c.top_of.result c.size.result
          (total_of c.loop-row.totals) (total_of c.add_at.new.totals) less is its sized c.in_ok-add_at.ensures c.loop-row.invariant.topped;
      few = few_more (2 ^ 64) c.top_of.result c.size.result i (total_of c.loop-row.totals) (total_of c.add_at.new.totals) c.in_ok-add_at.ensures (omega arith)
          c.loop-row.invariant.few;
    }
