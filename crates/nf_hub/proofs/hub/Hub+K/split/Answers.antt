use Rattle.std.proofs.Common.{ap, ◌∙◌, subst}
use Rattle.nf_desk.specs.Desk.{Served, meanings}
use Rattle.nf_session.specs.Book.{held}
use Rattle.nf_turn.specs.Agreeing.{HasHeard}
use Rattle.nf_turn.specs.declared.view.Memory.{Memory}
use Rattle.nf_hub.specs.Seats.{book_in, memory_of}
use Rattle.nf_hub.proofs.Joining.{split_held, split_knows}
use Rattle.nf_hub.proofs.Turning.{knows_seat, seat_knows}
use Rattle.nf_hub.proofs.hub.Hub+K.split.Goals as goal

pub returns-clause-new : goal.returns-clause-new
returns-clause-new g c =
    let hub = c.args.self.now in
    let m = memory_of g.K.Keeper hub c.args.seat.now in
    let knows = seat_knows g.K.Keeper hub c.args.seat.now c.requires.seat in
    let new = c.in_ok-turns.ensures.new in
    let told = subst (λ (m : Memory (Served g.row.K.Denot)). HasHeard (meanings g.K.Keeper) m) new.2 c.in_ok-turns.ensures.told in (
      knows_seat g.K.Keeper hub _ new.0 new.1 _ new.2 (split_knows g.K.Keeper m c.args.seat.now.is_idle knows told),
      ap (λ (m : Memory (Served g.row.K.Denot)). held (book_in g.K.Keeper m)) new.2 ∙ split_held g.K.Keeper m c.args.seat.now.is_idle knows told,
    )
