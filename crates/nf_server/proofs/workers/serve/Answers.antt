use Rattle.std.proofs.Common.{ap, refl, sym, ◌∙◌, subst}
use denote.Ref.{NamedLft}
use denote.RattleType.{RattleType}
use denote.Param.Send.{IsSend, IsSync, sendable}
use Rattle.std.proofs.Crossing.{crosses}
use Rattle.nf_desk.specs.Desk.{Served, meanings}
use Rattle.nf_hub.proofs.Sending.{hub_field_sync, hub_sync, seat_field_send, seat_send}
use Rattle.nf_hub.specs.Seats.{IsSeat, memory_of}
use Rattle.nf_keeper.specs.declared.keeper.Keeper.{Ghosts}
use Rattle.nf_outside.specs.Lent.{takes}
use Rattle.nf_server.specs.contracts.workers.Post as Post
use Rattle.nf_server.specs.Work.{WorkBeside, Works}
use Rattle.nf_server.proofs.Posting.{LentHub, beside_seats, knew_once, posted}
use Rattle.nf_server.proofs.Spanning.{whole_still, work_spans}
use Rattle.nf_turn.proofs.Poses.{numbers_known}
use Rattle.nf_turn.specs.Prelude.{IsWhole, longer, Numbers, numbers_of}
use Rattle.nf_turn.specs.declared.view.Memory.{Memory}
use Rattle.nf_server.proofs.workers.serve.Goals as goal

-- a post may be sent to a thread, where its seat may be
post_send : (l : NamedLft) (R K : RattleType) (k : Ghosts K.Denot) → IsSync R → IsSend K → IsSend (Post.the_row l R K k)
post_send l R K k syncs sends = search (hub_field_sync, hub_sync, seat_field_send, seat_send, sendable, crosses) depth 60 fits 20000

pub all-worked-requires-send-P : goal.all-worked-requires-send-P
all-worked-requires-send-P g c κs within = search (post_send, sendable) depth 20

pub returns-clause-seat : goal.returns-clause-seat
returns-clause-seat g c =
    let down = beside_seats g.K.Keeper (Works g.K.Keeper g.D.Source.Ends g.D.Sink.Ends (takes g.C.Clock.reads g.Q.Dice.draws) g.D.Door)
    (posted g.K.Keeper c.args.hub c.args.connections c.args.seat) c.all-worked.new.place (memory_of g.K.Keeper c.args.hub.now c.args.seat)
    c.args.workers.now c.all-worked.new.workers c.all-worked.result c.all-worked.ensures.work (c.args.seat, refl, refl) in
    subst (λ (h : LentHub g.K.Keeper). IsSeat g.K.Keeper h.now c.into_seat.result) down.2.hub c.into_seat.ensures.filled.0

pub returns-clause-work : goal.returns-clause-work
returns-clause-work g c =
    let down = beside_seats g.K.Keeper (Works g.K.Keeper g.D.Source.Ends g.D.Sink.Ends (takes g.C.Clock.reads g.Q.Dice.draws) g.D.Door)
    (posted g.K.Keeper c.args.hub c.args.connections c.args.seat) c.all-worked.new.place (memory_of g.K.Keeper c.args.hub.now c.args.seat)
    c.args.workers.now c.all-worked.new.workers c.all-worked.result c.all-worked.ensures.work (c.args.seat, refl, refl) in
    let place = c.all-worked.new.place in
    subst (λ (n : Memory (Served g.row.K.Denot)). WorkBeside (longer (meanings g.K.Keeper))
    (Works g.K.Keeper g.D.Source.Ends g.D.Sink.Ends (takes g.C.Clock.reads g.Q.Dice.draws) g.D.Door c.args.connections) (memory_of g.K.Keeper c.args.hub.now c.args.seat) n
    c.args.workers.now c.all-worked.new.workers c.all-worked.result)
    (knew_once g.K.Keeper place down.0 (memory_of g.K.Keeper place.hub.now c.into_seat.result) down.1 (c.into_seat.result, c.into_seat.ensures.same, refl)
    ∙ ap (λ (h : LentHub g.K.Keeper). memory_of g.K.Keeper h.now c.into_seat.result) down.2.hub)
    down.3

pub returns-clause-whole : goal.returns-clause-whole
returns-clause-whole g c = λ whole.
    let m = memory_of g.K.Keeper c.args.hub.now c.args.seat in
    let n = memory_of g.K.Keeper c.args.hub.now c.into_seat.result in
    subst (λ (all : Numbers (Served g.row.K.Denot)). IsWhole all) (numbers_known _ c.into_seat.result.turns.place.me)
    (whole_still (numbers_of m) (numbers_of n)
    (work_spans g.K.Keeper g.D.Source.Ends g.D.Sink.Ends (takes g.C.Clock.reads g.Q.Dice.draws) g.D.Door c.args.connections m n c.args.workers.now c.all-worked.new.workers
    c.all-worked.result (returns-clause-work g c))
    (subst (λ (all : Numbers (Served g.row.K.Denot)). IsWhole all) (sym (numbers_known _ c.args.seat.turns.place.me)) whole))
