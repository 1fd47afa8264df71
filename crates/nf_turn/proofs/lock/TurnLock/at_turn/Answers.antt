use Rattle.std.proofs.Common.{rules, arith, ◌≡◌, ℕ, List, [], ◌∷◌, Option, Some, replicate, sym, subst}
use Rattle.std.proofs.lemmas.Grind.{common_steps}
use Rattle.atomic_table.specs.Table.{opening}
use Rattle.nf_turn.specs.Prelude.{IsFresh, IsInTurn, of_the_first}
use Rattle.nf_turn.specs.declared.view.View.TheVariants.{Idle}
use Rattle.nf_turn.proofs.Starting.{starts}
use Rattle.nf_turn.proofs.lock.TurnLock.at_turn.Goals as goal

pub new-requires : goal.new-requires
new-requires g c =
    let value = c.of.result.value in
    let items : c.push_reserved.new.self.items ≡ Some value ∷ [] = (first_of (search rules, grind (arith, common_steps))) in
    subst (λ (o : List ℕ × List (Option g.row.W.Denot)). IsInTurn g.W.Book.book c.args.seats value (opening o.0 o.1 (Idle (of_the_first c.args.seats value)))) (λ i. (sym c.first_words.ensures i, sym items i))
    (starts g.W.Book.book c.args.seats value c.args.turn (replicate 64 0) (omega arith) (subst (λ (z : g.row.W.Denot). IsFresh g.W.Book.book z) (sym c.of.ensures) c.requires.fresh) c.requires.seats)
