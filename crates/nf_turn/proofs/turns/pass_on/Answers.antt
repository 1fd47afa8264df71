use Rattle.std.proofs.Common.{rules, ℕ, ◌∷◌, Some, sym, ap, ◌∙◌, subst}
use Rattle.atomic_table.specs.Table.{rest}
use Rattle.nf_turn.specs.Prelude.{AddsAlone, memory_in}
use Rattle.nf_turn.specs.Views.{taken_in}
use Rattle.nf_turn.proofs.Poses.{numbers_known}
use Rattle.nf_turn.proofs.Passing.{may_pass}
use Rattle.nf_turn.proofs.turns.pass_on.Goals as goal

pub fetch_add-passed-requires : goal.fetch_add-passed-requires
fetch_add-passed-requires g c =
    let key = c.args.counter.now.key in let value = c.args.value in
    let holds = c.exchange-empty.ensures.3 ∙ ap (λ m. (m.0, (0, Some value) ∷ rest m.1)) c.requires.turn in
    (search rules, search rules, may_pass g.W.Book.book key.seats key.first.value _ _ _ (taken_in key.first.value c.args.place.now.me) value (memory_in key.first.value c.args.place.now.me) holds (subst (λ (n : ℕ). AddsAlone g.W.Book.book n (taken_in key.first.value c.args.place.now.me) value) (ap (λ m. m.number) (sym (numbers_known key.first.value c.args.place.now.me))) c.requires.value))

pub returns-clause-idle : goal.returns-clause-idle
returns-clause-idle g c = c.ring_next.ensures.2 ∙ c.fetch_add-passed.ensures.2 _ _ _ (c.exchange-empty.ensures.3 ∙ ap (λ m. (m.0, (0, Some c.args.value) ∷ rest m.1)) c.requires.turn)
