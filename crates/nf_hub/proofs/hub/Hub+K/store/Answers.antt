use Rattle.std.proofs.Common.{◌≡◌, ℕ, sym, ap, ◌∙◌, subst, true}
use Rattle.std.specs.Prelude.{None, is_none}
use Rattle.nf_desk.specs.Desk.{Served, book_at, shown}
use Rattle.nf_session.proofs.Helds.{enters_holds}
use Rattle.nf_session.specs.Book.{Book, EndsBody, held}
use Rattle.nf_turn.specs.Memory.{having_passed}
use Rattle.nf_turn.specs.declared.view.Memory.{Memory}
use Rattle.nf_hub.specs.Calls.{ShelvesBody}
use Rattle.nf_hub.specs.Seats.{memory_of}
use Rattle.nf_hub.proofs.Ending.{body_grants_none, shelves_body}
use Rattle.nf_hub.proofs.Following.{ends_body_after}
use Rattle.nf_hub.proofs.Turning.{TakesIn, book_given, held_taken, number, over_turn, seat_after}
use Rattle.nf_hub.proofs.hub.Hub+K.store.Given.{Over}
use Rattle.nf_hub.proofs.hub.Hub+K.store.Goals as goal

pub store-answer-requires-clause-granted : goal.store-answer-requires-clause-granted
store-answer-requires-clause-granted g c =
    rw c.of-digest.ensures
    (rw (held_taken g.K.Keeper c.args.self.now c.args.seat.now c.number-number.result c.take-desk.result c.number-number.ensures c.take-desk.ensures.value)
    c.requires.granted)

takes : (g : Over) (c : goal.After-seat-1 g)
    → TakesIn g.K.Keeper c.args.self.now c.args.seat.now (record { turns = c.give.new.seat; is_idle = true })
    c.number-number.result c.take-desk.result c.store-answer.new.self
takes g c = record {
  number = c.number-number.ensures;
  agrees = c.take-desk.ensures.value;
  turn = c.store-answer.ensures.turn;
  passed = c.give.ensures.memory ∙ ap (having_passed c.store-answer.new.self) c.take-desk.ensures.memory;
  its = c.give.ensures.own;
  rests = c.give.ensures.idle;
}

none_held : (g : Over) (c : goal.After-seat-1 g) → held (book_at c.number-number.result (shown g.K.Keeper c.store-answer.new.self)) ≡ None
none_held g c =
    let ends = c.store-answer.ensures.ends in
    enters_holds (book_at c.number-number.result (shown g.K.Keeper c.take-desk.result)) (book_at c.number-number.result (shown g.K.Keeper c.store-answer.new.self))
    c.args.now _ c.store-answer.result ends.enters
    ∙ body_grants_none c.store-answer.result ends.answered

pub returns-clause-seat : goal.returns-clause-seat
returns-clause-seat g c = seat_after (takes g c) c.requires.seat (sym (ap is_none (none_held g c)))

pub returns-clause-idle : goal.returns-clause-idle
returns-clause-idle g c = ap held (book_given (takes g c)) ∙ none_held g c

pub returns-clause-ends : goal.returns-clause-ends
returns-clause-ends g c =
    over_turn (takes g c)
    (λ (a b : Book). EndsBody a b c.args.now c.args.body.now c.store-answer.result)
    (λ a b first. ends_body_after a _ b first c.args.now c.args.body.now c.store-answer.result) c.store-answer.ensures.ends

pub returns-clause-shelved : goal.returns-clause-shelved
returns-clause-shelved g c =
    let m = memory_of g.K.Keeper c.args.self.now c.args.seat.now in
    let taken = c.take-desk.result in
    let given = c.store-answer.new.self in
    let ends = subst (λ (n : ℕ). EndsBody (book_at n (shown g.K.Keeper taken)) (book_at n (shown g.K.Keeper given)) c.args.now c.args.body.now c.store-answer.result)
    (number (takes g c)) c.store-answer.ensures.ends in
    subst (λ (z : Memory (Served g.row.K.Denot)). ShelvesBody g.K.Keeper m z c.args.body.now c.store-answer.result) (sym (takes g c).passed)
    (shelves_body g.K.Keeper m taken given c.take-desk.ensures.value c.requires.seat.opened c.args.now c.args.body.now c.store-answer.result
    c.requires.seat.told.opening ends)
