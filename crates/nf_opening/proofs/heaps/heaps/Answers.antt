use Rattle.std.proofs.Common.{rules, ◌≡◌, ◌<◌, ◌≤◌, ◌^◌, ◌==◌, filter, get_or, length, refl, ap, ◌∙◌, arith}
use Rattle.std.specs.Prelude.{min, sum_by}
use Rattle.std.proofs.lemmas.List.{take_all}
use Rattle.nf_words.specs.Prelude.{last_number}
use Rattle.nf_opening.specs.Heaps.{topped_bytes}
use Rattle.nf_opening.specs.Totals.{total_of}
use Rattle.nf_opening.proofs.Added.{few_more, owned_more}
use Rattle.nf_opening.proofs.Topped.{items_topped}
use Rattle.nf_opening.proofs.heaps.heaps.Goals as goal

pub loop-row-preserved : goal.loop-row-preserved
loop-row-preserved c =
    let items = c.args.loaded.now.items in
    let i = c.loop-row.row-index in
    let row = c.row-item.result in
    let less : i < length items = search rules in
    let is : row ≡ get_or items i row = search rules in
    let sized : c.capped.result ≡ min (topped_bytes c.args.loaded.now.nodes row.node) last_number =
    c.capped.ensures ∙ ap (λ n. min n last_number) (c.sum_at.ensures ∙ c.in_ok-tops.ensures row.node) in
    record {
      heaped = owned_more (λ row. min (topped_bytes c.args.loaded.now.nodes row.node) last_number) (λ row. row.owner) items i row row.owner c.capped.result
          (total_of c.loop-row.totals) (total_of c.add.new.totals) less is refl sized c.in_ok-add.ensures c.loop-row.invariant.heaped;
      few = few_more (2 ^ 64) row.owner c.capped.result i (total_of c.loop-row.totals) (total_of c.add.new.totals) c.in_ok-add.ensures (omega arith)
          c.loop-row.invariant.few;
    }

pub returns : goal.returns
returns c = λ owner.
    let t = c.args.loaded.now in
    let all : length t.items ≤ c.loop-row.row-index = search rules in
    c.loop-row.invariant.heaped owner
    ∙ ap (λ some. sum_by (λ row. min (topped_bytes t.nodes row.node) last_number) (filter (λ row. row.owner == owner) some)) (take_all c.loop-row.row-index t.items all)
    ∙ items_topped t owner c.requires.rising c.requires.tops
