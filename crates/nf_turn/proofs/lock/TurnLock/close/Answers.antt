use Rattle.std.proofs.Common.{◌≡◌, Option, Some, refl, sym, ◌∙◌, subst}
use Rattle.std.specs.Option.{IsSome}
use mathlib.Core.Option.{some-injective}
use Rattle.nf_turn.specs.Prelude.{Agrees, memory}
use Rattle.nf_turn.proofs.Ending.{ends}
use Rattle.nf_turn.proofs.lock.TurnLock.close.Goals as goal

pub unwrap-requires : goal.unwrap-requires
unwrap-requires g c =
    let key = c.args.self.table.shared.key in let last = c.close_with-closed.ensures.values.2 in
    let end = ends g.W.Book.book key.seats key.first.value last.0 last.1.0 _ c.args.seat.place.me c.requires.idle last.1.1 c.requires.whole in
    let found : c.take-value.result ≡ Some end.0 = some-injective _ _ (sym c.take-value.ensures.value ∙ last.4 0 (Some end.0) end.1) in
    subst (λ (o : Option g.row.W.Denot). IsSome o) (sym found) refl

pub returns : goal.returns
returns g c =
    let key = c.args.self.table.shared.key in let last = c.close_with-closed.ensures.values.2 in
    let end = ends g.W.Book.book key.seats key.first.value last.0 last.1.0 _ c.args.seat.place.me c.requires.idle last.1.1 c.requires.whole in
    let found : c.take-value.result ≡ Some end.0 = some-injective _ _ (sym c.take-value.ensures.value ∙ last.4 0 (Some end.0) end.1) in
    let both : Some end.0 ≡ Some c.unwrap.result = sym found ∙ c.unwrap.ensures in
    let same : end.0 ≡ c.unwrap.result = (cc) in
    record { value = subst (λ (z : g.row.W.Denot). Agrees g.W.Book.book (memory c.args.self c.args.seat) z) same end.2 }
