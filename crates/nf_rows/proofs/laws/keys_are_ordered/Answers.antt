use Rattle.std.specs.Cmp.Lexicographic.{on_texts}
use Rattle.std.specs.Cmp.{nat_cmp_total}
use Rattle.std.proofs.lemmas.Cmp.{on_total, then_total}
use Rattle.nf_rows.proofs.Order.{ties}
use Rattle.nf_rows.proofs.laws.keys_are_ordered.Goals as goal

pub returns-clause-total : goal.returns-clause-total
returns-clause-total c = then_total (on_total (λ key. key.kind) nat_cmp_total) (on_texts (λ key. key.bytes))

pub returns-clause-ties : goal.returns-clause-ties
returns-clause-ties c = ties
