use Rattle.std.proofs.Common.{rules, ◌≡◌, ◌==◌, ◌<◌, ◌≤◌, get_or, length, filter, take, refl, sym, ap, ◌∙◌, arith}
use Rattle.std.specs.Prelude.{sum_by}
use Rattle.std.proofs.lemmas.List.{take_all}
use Rattle.nf_words.specs.Prelude.{uploads_of}
use Rattle.nf_opening.specs.Totals.{total_of}
use Rattle.nf_opening.proofs.Added.{few_more, one_each, owned_more}
use Rattle.nf_opening.proofs.counts.upload_counts.Goals as goal

pub loop-row-preserved : goal.loop-row-preserved
loop-row-preserved c =
    let rows = c.args.rows.now in
    let i = c.loop-row.row-index in
    let row = c.row-item.result in
    let less : i < length rows = search rules in
    let is : row ≡ get_or rows i row = search rules in
    record {
      counted = owned_more (λ row. 1) (λ row. row.user) rows i row row.user 1
          (total_of c.loop-row.totals) (total_of c.add.new.totals) less is refl refl c.in_ok-add.ensures c.loop-row.invariant.counted;
      few = few_more 1 row.user 1 i (total_of c.loop-row.totals) (total_of c.add.new.totals) c.in_ok-add.ensures (omega arith)
          c.loop-row.invariant.few;
    }

pub returns : goal.returns
returns c = λ user.
    let rows = c.args.rows.now in
    let all : length rows ≤ c.loop-row.row-index = search rules in
    c.loop-row.invariant.counted user
    ∙ ap (λ (some : _). sum_by (λ row. 1) (filter (λ row. row.user == user) some)) (take_all c.loop-row.row-index rows all)
    ∙ sym (one_each (uploads_of rows user))
