use Rattle.std.proofs.Common.{rules, ◌≡◌, ◌<◌, ◌^◌, get_or, length, arith}
use Rattle.nf_defs.specs.Prelude.{owner_of}
use Rattle.nf_words.specs.Versions.{content_size}
use Rattle.nf_opening.specs.Totals.{total_of}
use Rattle.nf_opening.proofs.Added.{few_more, owned_more}
use Rattle.nf_opening.proofs.bounds.held_bytes.Goals as goal

pub loop-row-preserved : goal.loop-row-preserved
loop-row-preserved c =
    let versions = c.args.loaded.now.versions in
    let i = c.loop-row.row-index in
    let row = c.row-item.result in
    let less : i < length versions = search rules in
    let is : row ≡ get_or versions i row = search rules in
    record {
      held = owned_more (λ row. content_size row.content) (λ row. owner_of c.args.loaded.now.nodes row.node) versions i row c.owner_of.result c.size.result
          (total_of c.loop-row.totals) (total_of c.add.new.totals) less is c.owner_of.ensures c.size.ensures c.in_ok-add.ensures c.loop-row.invariant.held;
      few = few_more (2 ^ 64) c.owner_of.result c.size.result i (total_of c.loop-row.totals) (total_of c.add.new.totals) c.in_ok-add.ensures (omega arith)
          c.loop-row.invariant.few;
    }
