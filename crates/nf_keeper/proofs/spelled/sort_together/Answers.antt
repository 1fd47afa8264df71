use Rattle.std.proofs.Common.{◌∙◌, rules}
use Rattle.std.proofs.lemmas.List.Sorted.{answers_always, ranks_by}
use Rattle.nf_defs.proofs.Puts.{key_total}
use Rattle.nf_keeper.specs.Spelled.{change_key}
use Rattle.nf_keeper.proofs.Together.{comes_before, sorted_alike}
use Rattle.nf_keeper.proofs.spelled.sort_together.Goals as goal

pub returns-clause-made : goal.returns-clause-made
returns-clause-made c =
    let first = c.put_first.new in
    let stable = c.sort_by.ensures.stable comes_before (ranks_by key_total change_key) (answers_always _ _ _ (λ f a r f' called. search rules)) in
    sorted_alike first.rows.items first.changes.items c.sort_by.new.self.items c.put_first.ensures.rising stable ∙ c.put_first.ensures.made
