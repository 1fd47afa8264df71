use Rattle.std.proofs.Common.{rules, ◌≡◌, ap, ◌∙◌}
use Rattle.nf_turn.specs.Views.{numbers_in}
use Rattle.nf_turn.proofs.Poses.{numbers_known}
use Rattle.nf_turn.proofs.lock.TurnLock.give.Goals as goal

pub invariant_of-seat : goal.invariant_of-seat
invariant_of-seat g c =
    let place = c.args.seat.now.place.me in
    let same : numbers_in c.pass_on.new.place.me ≡ numbers_in place = ap numbers_in c.pass_on.ensures.idle ∙ numbers_known c.args.self.now.table.shared.key.first.value place in
    simp same (search rules)
