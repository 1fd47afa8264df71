use Rattle.std.proofs.Common.{ap, ◌∙◌, subst}
use Rattle.nf_desk.specs.Desk.{Served, meanings}
use Rattle.nf_session.specs.Book.{held}
use Rattle.nf_turn.specs.Prelude.{HasHeard, having_joined, longer}
use Rattle.nf_turn.specs.declared.view.Memory.{Memory}
use Rattle.nf_hub.specs.Seats.{book_in, memory_of}
use Rattle.nf_hub.proofs.Joining.{joined_held, joined_knows}
use Rattle.nf_hub.proofs.Turning.{knows_seat, seat_knows}
use Rattle.nf_hub.proofs.hub.Hub+K.join.Given.{Over}
use Rattle.nf_hub.proofs.hub.Hub+K.join.Goals as goal

told : (g : Over) (c : goal.After-join g) → HasHeard (meanings g.K.Keeper)
    (having_joined (longer (meanings g.K.Keeper)) (memory_of g.K.Keeper c.args.self.now c.args.seat.now) (memory_of g.K.Keeper c.args.self.now c.args.other))
told g c = subst (λ (m : Memory (Served g.row.K.Denot)). HasHeard (meanings g.K.Keeper) m) c.join.ensures.memory c.join.ensures.told

pub returns-clause-seat : goal.returns-clause-seat
returns-clause-seat g c =
    let hub = c.args.self.now in
    knows_seat g.K.Keeper hub _ c.join.ensures.own.0 c.join.ensures.own.1 _ c.join.ensures.memory
    (joined_knows g.K.Keeper (memory_of g.K.Keeper hub c.args.seat.now) (memory_of g.K.Keeper hub c.args.other) c.args.seat.now.is_idle c.args.other.is_idle
    (seat_knows g.K.Keeper hub c.args.seat.now c.requires.seat.0) (seat_knows g.K.Keeper hub c.args.other c.requires.seat.1) (told g c) c.requires.idle.1)

pub returns-clause-idle : goal.returns-clause-idle
returns-clause-idle g c =
    let hub = c.args.self.now in
    ap (λ (m : Memory (Served g.row.K.Denot)). held (book_in g.K.Keeper m)) c.join.ensures.memory
    ∙ joined_held g.K.Keeper (memory_of g.K.Keeper hub c.args.seat.now) (memory_of g.K.Keeper hub c.args.other) c.args.seat.now.is_idle c.args.other.is_idle
    (seat_knows g.K.Keeper hub c.args.seat.now c.requires.seat.0) (seat_knows g.K.Keeper hub c.args.other c.requires.seat.1) (told g c)
    ∙ c.requires.idle.0
