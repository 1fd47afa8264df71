use Rattle.std.proofs.Common.{rules}
use Rattle.std.proofs.lemmas.List.Sorted.{answers_always}
use Rattle.nf_charge.proofs.Positions.{no_row, searched}
use Rattle.nf_charge.proofs.rows.index_of.Goals as goal

pub returns-in-Ok : goal.returns-in-Ok
returns-in-Ok c =
    let by_key = c.binary_search_by_key.ensures.position (λ row. row.id) (answers_always _ _ _ (λ f a r g called. search rules)) in
    rw c.in-Ok.is at (searched c.args.rows.now c.args.node no_row _ c.requires c.binary_search_by_key.ensures.bound by_key)

pub returns-in-Err : goal.returns-in-Err
returns-in-Err c =
    let by_key = c.binary_search_by_key.ensures.position (λ row. row.id) (answers_always _ _ _ (λ f a r g called. search rules)) in
    rw c.in-Err.is at (searched c.args.rows.now c.args.node no_row _ c.requires c.binary_search_by_key.ensures.bound by_key)
