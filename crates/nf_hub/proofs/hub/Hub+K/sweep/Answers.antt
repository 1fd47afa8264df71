use Rattle.std.proofs.Common.{◌≡◌, sym, ap, ◌∙◌, subst}
use Rattle.std.specs.Prelude.{None, OnOk, is_none}
use Rattle.nf_desk.proofs.Seen.{tells_named}
use Rattle.nf_desk.specs.Desk.{book_at, shown}
use Rattle.nf_desk.specs.Sweeping.{SweepsSeen, TellsNamed}
use Rattle.nf_session.specs.Book.{Book, held}
use Rattle.nf_turn.specs.Memory.{having_passed}
use Rattle.nf_hub.proofs.Sweeping.{sweeps_after, sweeps_idle}
use Rattle.nf_hub.proofs.Turning.{TakesIn, book_given, held_taken, over_turn, seat_after}
use Rattle.nf_hub.proofs.hub.Hub+K.sweep.Given.{Over}
use Rattle.nf_hub.proofs.hub.Hub+K.sweep.Goals as goal

pub sweep-result-requires-clause-idle : goal.sweep-result-requires-clause-idle
sweep-result-requires-clause-idle g c =
    held_taken g.K.Keeper c.args.self.now c.args.seat.now c.number-number.result c.take-desk.result c.number-number.ensures c.take-desk.ensures.value
    ∙ c.requires.idle

takes : (g : Over) (c : goal.After-give g)
    → TakesIn g.K.Keeper c.args.self.now c.args.seat.now (record { turns = c.give.new.seat; is_idle = c.args.seat.now.is_idle })
    c.number-number.result c.take-desk.result c.sweep-result.new.self
takes g c = record {
  number = c.number-number.ensures;
  agrees = c.take-desk.ensures.value;
  turn = c.sweep-result.ensures.turn;
  passed = c.give.ensures.memory ∙ ap (having_passed c.sweep-result.new.self) c.take-desk.ensures.memory;
  its = c.give.ensures.own;
  rests = c.give.ensures.idle;
}

idle_then : (g : Over) (c : goal.After-give g) → held (book_at c.number-number.result (shown g.K.Keeper c.sweep-result.new.self)) ≡ None
idle_then g c =
    sweeps_idle (book_at c.number-number.result (shown g.K.Keeper c.take-desk.result))
    (book_at c.number-number.result (shown g.K.Keeper c.sweep-result.new.self)) c.args.now
    (held_taken g.K.Keeper c.args.self.now c.args.seat.now c.number-number.result c.take-desk.result c.number-number.ensures c.take-desk.ensures.value
    ∙ c.requires.idle)
    c.sweep-result.result c.sweep-result.ensures.seen

pub returns-clause-seat : goal.returns-clause-seat
returns-clause-seat g c =
    seat_after (takes g c) c.requires.seat (c.requires.seat.flag ∙ ap is_none (c.requires.idle ∙ sym (idle_then g c)))

pub returns-clause-idle : goal.returns-clause-idle
returns-clause-idle g c = ap held (book_given (takes g c)) ∙ idle_then g c

pub returns-clause-sweeps : goal.returns-clause-sweeps
returns-clause-sweeps g c =
    over_turn (takes g c) (λ (a b : Book). SweepsSeen a b c.args.now c.sweep-result.result)
    (λ a b first. sweeps_after a _ b first c.args.now c.sweep-result.result) c.sweep-result.ensures.seen

pub returns-clause-named : goal.returns-clause-named
returns-clause-named g c =
    subst (λ (b : Book). OnOk c.sweep-result.result (TellsNamed b)) (sym (book_given (takes g c)))
    (tells_named (book_at c.number-number.result (shown g.K.Keeper c.take-desk.result))
    (book_at c.number-number.result (shown g.K.Keeper c.sweep-result.new.self)) c.args.now c.sweep-result.result c.sweep-result.ensures.seen)
