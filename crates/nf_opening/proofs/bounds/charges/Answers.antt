use Rattle.std.proofs.Common.{rules, ◌≤◌, ap, length, ◌∙◌}
use Rattle.std.specs.Prelude.{sum_by}
use Rattle.std.proofs.lemmas.List.{take_all}
use Rattle.nf_words.specs.Charges.{charge_of, counted_for}
use Rattle.nf_opening.proofs.bounds.charges.Goals as goal

pub returns : goal.returns
unfolding charge_of
returns c = λ owner some.
    let all : length c.args.loaded.now.nodes ≤ c.loop-row.row-index = search rules in
    c.loop-row.invariant.charged owner some ∙ ap (sum_by (counted_for c.args.loaded.now owner)) (take_all c.loop-row.row-index c.args.loaded.now.nodes all)
