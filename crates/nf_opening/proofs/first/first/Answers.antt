use Rattle.std.proofs.Common.{rules, sym, ◌∙◌}
use Rattle.nf_opening.proofs.Firsts.{first_fails, first_passes}
use Rattle.nf_opening.proofs.first.first.Goals as goal

pub returns-then-test : goal.returns-then-test
returns-then-test g c = λ passes tells.
    let row = c.index-rows-index.result in
    first_passes passes c.args.rows.now c.loop-index.index row c.loop-index-test.true c.index-rows-index.is
    (sym (tells row c.test.result (search rules)) ∙ c.if-test.true) (c.loop-index.invariant passes tells)

pub loop-index-preserved : goal.loop-index-preserved
loop-index-preserved g c = λ passes tells.
    let row = c.index-rows-index.result in
    first_fails passes c.args.rows.now c.loop-index.index row c.loop-index-test.true c.index-rows-index.is
    (sym (tells row c.test.result (search rules)) ∙ c.if-test.false) (c.loop-index.invariant passes tells)
