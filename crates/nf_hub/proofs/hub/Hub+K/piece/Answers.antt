use Rattle.std.proofs.Common.{◌≡◌, ℕ, sym, ap, ◌∙◌, subst}
use Rattle.std.specs.Prelude.{Some, is_none}
use Rattle.nf_desk.specs.Desk.{Served, book_at, shown}
use Rattle.nf_desk.specs.Pieces.{Reads}
use Rattle.nf_desk.proofs.Giving.{gives_piece}
use Rattle.nf_session.proofs.Helds.{waits_holds}
use Rattle.nf_session.specs.Book.{Book, GivesPiece, held}
use Rattle.nf_turn.specs.Memory.{having_passed}
use Rattle.nf_turn.specs.declared.view.Memory.{Memory}
use Rattle.nf_words.specs.declared.answer.Goal.TheVariants.{Serve}
use Rattle.nf_hub.specs.Calls.{AsksPiece}
use Rattle.nf_hub.specs.Seats.{memory_of}
use Rattle.nf_hub.proofs.Asking.{asks_piece}
use Rattle.nf_hub.proofs.Following.{gives_after}
use Rattle.nf_hub.proofs.Tickets.{has_ticket}
use Rattle.nf_hub.proofs.Turning.{TakesIn, book_given, held_taken, number, over_turn, seat_after}
use Rattle.nf_hub.proofs.hub.Hub+K.piece.Given.{Over}
use Rattle.nf_hub.proofs.hub.Hub+K.piece.Goals as goal

pub read-read-requires-clause-granted : goal.read-read-requires-clause-granted
read-read-requires-clause-granted g c =
    held_taken g.K.Keeper c.args.self.now c.args.seat.now c.number-number.result c.take-desk.result c.number-number.ensures c.take-desk.ensures.value
    ∙ c.requires.granted

takes : (g : Over) (c : goal.After-test_piece g)
    → TakesIn g.K.Keeper c.args.self.now c.args.seat.now (record { turns = c.give.new.seat; is_idle = c.args.seat.now.is_idle })
    c.number-number.result c.take-desk.result c.read-read.new.self
takes g c = record {
  number = c.number-number.ensures;
  agrees = c.take-desk.ensures.value;
  turn = c.read-read.ensures.turn;
  passed = c.give.ensures.memory ∙ ap (having_passed c.read-read.new.self) c.take-desk.ensures.memory;
  its = c.give.ensures.own;
  rests = c.give.ensures.idle;
}

-- the seat holds what it held
held_still : (g : Over) (c : goal.After-test_piece g)
    → held (book_at c.number-number.result (shown g.K.Keeper c.read-read.new.self)) ≡ Some (Serve c.args.content.now)
held_still g c =
    waits_holds (book_at c.number-number.result (shown g.K.Keeper c.take-desk.result)) (book_at c.number-number.result (shown g.K.Keeper c.read-read.new.self))
    c.read-read.ensures.reads.waits
    ∙ held_taken g.K.Keeper c.args.self.now c.args.seat.now c.number-number.result c.take-desk.result c.number-number.ensures c.take-desk.ensures.value
    ∙ c.requires.granted

pub returns-clause-seat : goal.returns-clause-seat
returns-clause-seat g c = seat_after (takes g c) c.requires.seat (c.requires.seat.flag ∙ ap is_none (c.requires.granted ∙ sym (held_still g c)))

pub returns-clause-ticket : goal.returns-clause-ticket
returns-clause-ticket g c =
    has_ticket _ (Serve c.args.content.now) (returns-clause-seat g c).book_is (ap held (book_given (takes g c)) ∙ held_still g c)

pub returns-clause-gives : goal.returns-clause-gives
returns-clause-gives g c =
    over_turn (takes g c) (λ (a b : Book). GivesPiece a b c.args.content.now c.args.index c.test_piece.result)
    (λ a b first. gives_after a _ b first c.args.content.now c.args.index c.test_piece.result)
    (gives_piece c.number-number.result (shown g.K.Keeper c.take-desk.result) (shown g.K.Keeper c.read-read.new.self) c.args.content.now
    c.args.index c.piece_at.result.now c.read-read.result c.test_piece.result c.read-read.ensures.reads c.piece_at.ensures c.test_piece.ensures)

pub returns-clause-asks : goal.returns-clause-asks
returns-clause-asks g c =
    let m = memory_of g.K.Keeper c.args.self.now c.args.seat.now in
    let taken = c.take-desk.result in
    let given = c.read-read.new.self in
    let reads = subst (λ (n : ℕ). Reads n (shown g.K.Keeper taken) (shown g.K.Keeper given) c.args.content.now c.args.index c.read-read.result)
    (number (takes g c)) c.read-read.ensures.reads in
    subst (λ (z : Memory (Served g.row.K.Denot)). AsksPiece g.K.Keeper m z c.args.content.now c.args.index c.test_piece.result) (sym (takes g c).passed)
    (asks_piece g.K.Keeper m taken given c.take-desk.ensures.value c.requires.seat.opened c.args.content.now c.args.index c.read-read.result reads
    c.piece_at.result.now c.test_piece.result c.piece_at.ensures c.test_piece.ensures)
