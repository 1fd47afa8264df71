use Rattle.std.proofs.Common.{arith, rules}
use Rattle.std.proofs.lemmas.Fn.{always_returns_same}
use Rattle.std.specs.Ordering.{nat_cmp}
use Rattle.nf_opening.proofs.Halves.{comparisons_rise, finds, finds_none}
use Rattle.nf_opening.proofs.numbered.find_row.Goals as goal

pub returns-in-Ok : goal.returns-in-Ok
returns-in-Ok g c =
    let number = g.R.Numbered.number in
    let found = c.in-Ok.ensures.position (λ row. nat_cmp (number row) c.args.number)
    (always_returns_same _ _ _ (λ a r f' called. (search rules, search rules))) in
    finds number c.args.number c.args.rows.now c.in-Ok.at c.index-rows-at.result c.in-Ok.ensures.bound c.index-rows-at.is found c.requires

pub returns-in-Err : goal.returns-in-Err
returns-in-Err g c =
    let number = g.R.Numbered.number in
    let parted = c.in-Err.ensures.position (λ row. nat_cmp (number row) c.args.number)
    (always_returns_same _ _ _ (λ a r f' called. (search rules, search rules))) in
    let parts = parted (comparisons_rise number c.args.number c.args.rows.now c.requires) in
    finds_none number c.args.number c.args.rows.now c.in-Err.field-0
    (λ k d less. parts.0 k d (omega arith) less) parts.1
