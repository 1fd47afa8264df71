use Rattle.std.proofs.Common.{◌≡◌, ◌+◌, length, eq-eqb, arith}
use Rattle.std.proofs.lemmas.Bool.{eqb-true}
use Rattle.nf_turn.specs.Seats.{numbers}
use Rattle.nf_turn.proofs.Whole.{whole_is_counted}
use Rattle.nf_turn.proofs.seat.Seat.whole.Goals as goal

pub returns : goal.returns
returns g c =
    let seat = c.args.self.now in let k = numbers seat in
    let left : seat.left ≡ k.left = seat.left_is in let joined : seat.joined ≡ length k.joined = seat.joined_is in let seats : seat.seats ≡ k.seats = seat.seats_is in
    let counted = whole_is_counted k seat.sound in (
      λ test. let count = eqb-true (1 + seat.left + seat.joined) seat.seats test in counted.0 (omega arith),
      λ whole. let count = counted.1 whole in eq-eqb (1 + seat.left + seat.joined) seat.seats (omega arith),
    )
