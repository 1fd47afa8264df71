use Rattle.std.proofs.Common.{◌≡◌, sym, ap, ◌∙◌, subst, true}
use Rattle.std.specs.Prelude.{Option, None, is_none}
use Rattle.nf_desk.specs.Desk.{book_at, shown}
use Rattle.nf_session.proofs.Helds.{enters_holds}
use Rattle.nf_session.specs.Book.{Book, EndsEmpty, granted, held}
use Rattle.nf_turn.specs.Memory.{having_passed}
use Rattle.nf_words.specs.Prelude.{MayEnd}
use Rattle.nf_words.specs.declared.answer.Goal.{Goal}
use Rattle.nf_hub.proofs.Following.{ends_empty_after}
use Rattle.nf_hub.proofs.Turning.{TakesIn, book_given, held_taken, over_turn, seat_after}
use Rattle.nf_hub.proofs.hub.Hub+K.release.Given.{Over}
use Rattle.nf_hub.proofs.hub.Hub+K.release.Goals as goal

pub finish-answer-requires-clause-granted : goal.finish-answer-requires-clause-granted
finish-answer-requires-clause-granted g c =
    subst (λ (o : Option Goal). MayEnd o c.args.outcome)
    (sym (held_taken g.K.Keeper c.args.self.now c.args.seat.now c.number-number.result c.take-desk.result c.number-number.ensures c.take-desk.ensures.value))
    c.requires.granted

takes : (g : Over) (c : goal.After-seat-1 g)
    → TakesIn g.K.Keeper c.args.self.now c.args.seat.now (record { turns = c.give.new.seat; is_idle = true })
    c.number-number.result c.take-desk.result c.finish-answer.new.self
takes g c = record {
  number = c.number-number.ensures;
  agrees = c.take-desk.ensures.value;
  turn = c.finish-answer.ensures.turn;
  passed = c.give.ensures.memory ∙ ap (having_passed c.finish-answer.new.self) c.take-desk.ensures.memory;
  its = c.give.ensures.own;
  rests = c.give.ensures.idle;
}

none_held : (g : Over) (c : goal.After-seat-1 g) → held (book_at c.number-number.result (shown g.K.Keeper c.finish-answer.new.self)) ≡ None
none_held g c =
    let ends = c.finish-answer.ensures.ends in
    enters_holds (book_at c.number-number.result (shown g.K.Keeper c.take-desk.result)) (book_at c.number-number.result (shown g.K.Keeper c.finish-answer.new.self))
    c.args.now _ c.finish-answer.result ends.enters
    ∙ ap granted ends.answered

pub returns-clause-seat : goal.returns-clause-seat
returns-clause-seat g c = seat_after (takes g c) c.requires.seat (sym (ap is_none (none_held g c)))

pub returns-clause-idle : goal.returns-clause-idle
returns-clause-idle g c = ap held (book_given (takes g c)) ∙ none_held g c

pub returns-clause-ends : goal.returns-clause-ends
returns-clause-ends g c =
    over_turn (takes g c)
    (λ (a b : Book). EndsEmpty a b c.args.now c.args.outcome c.finish-answer.result)
    (λ a b first. ends_empty_after a _ b first c.args.now c.args.outcome c.finish-answer.result) c.finish-answer.ensures.ends
