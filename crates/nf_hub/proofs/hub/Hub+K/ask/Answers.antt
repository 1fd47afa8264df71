use Rattle.std.proofs.Common.{sym, ap, ◌∙◌}
use Rattle.std.specs.Prelude.{not, is_some}
use Rattle.nf_desk.specs.Desk.{book_at, shown}
use Rattle.nf_session.proofs.Helds.{begins_begun}
use Rattle.nf_session.specs.Book.{Begins, Book}
use Rattle.nf_turn.specs.Memory.{having_passed}
use Rattle.nf_hub.proofs.Following.{begins_after}
use Rattle.nf_hub.proofs.Turning.{TakesIn, held_taken, over_turn, seat_after}
use Rattle.nf_hub.proofs.hub.Hub+K.ask.Given.{Over}
use Rattle.nf_hub.proofs.hub.Hub+K.ask.Goals as goal

pub begin-answer-requires-clause-idle : goal.begin-answer-requires-clause-idle
begin-answer-requires-clause-idle g c =
    held_taken g.K.Keeper c.args.self.now c.args.seat.now c.number-number.result c.take-desk.result c.number-number.ensures c.take-desk.ensures.value
    ∙ c.requires.idle

takes : (g : Over) (c : goal.After-seat-1 g)
    → TakesIn g.K.Keeper c.args.self.now c.args.seat.now (record { turns = c.give.new.seat; is_idle = not c.grants.result })
    c.number-number.result c.take-desk.result c.begin-answer.new.self
takes g c = record {
  number = c.number-number.ensures;
  agrees = c.take-desk.ensures.value;
  turn = c.begin-answer.ensures.turn;
  passed = c.give.ensures.memory ∙ ap (having_passed c.begin-answer.new.self) c.take-desk.ensures.memory;
  its = c.give.ensures.own;
  rests = c.give.ensures.idle;
}

pub returns-clause-seat : goal.returns-clause-seat
returns-clause-seat g c =
    let a = book_at c.number-number.result (shown g.K.Keeper c.take-desk.result) in
    let b = book_at c.number-number.result (shown g.K.Keeper c.begin-answer.new.self) in
    let idle = held_taken g.K.Keeper c.args.self.now c.args.seat.now c.number-number.result c.take-desk.result c.number-number.ensures c.take-desk.ensures.value
    ∙ c.requires.idle in
    let begun = begins_begun a b c.args.now c.args.words c.args.request c.begin-answer.result idle c.begin-answer.ensures.begins in
    seat_after (takes g c) c.requires.seat
    (ap not (c.grants.ensures ∙ sym (ap is_some begun.held_is)))

pub returns-clause-begins : goal.returns-clause-begins
returns-clause-begins g c =
    over_turn (takes g c)
    (λ (a b : Book). Begins a b c.args.now c.args.words c.args.request c.begin-answer.result)
    (λ a b first. begins_after a _ b first c.args.now c.args.words c.args.request c.begin-answer.result) c.begin-answer.ensures.begins
