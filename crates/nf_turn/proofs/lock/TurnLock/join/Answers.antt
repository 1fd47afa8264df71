use Rattle.std.proofs.Common.{rules, ◌≡◌, ◌+◌, ◌^◌, ◌<◌, ◌==◌, if◌then◌else◌, [], sym, ap, ◌∙◌, subst, arith}
use Rattle.nf_turn.specs.declared.seat.Seat.{Seat}
use Rattle.nf_turn.specs.declared.view.Memory.{Memory}
use Rattle.nf_turn.specs.declared.view.View.TheVariants.{Idle}
use Rattle.nf_turn.specs.Prelude.{AreSound, HasHeard, having_joined, longer, memory, memory_in, numbers_in, numbers_of, Place}
use Rattle.nf_turn.proofs.Joining.{may_join, both_known, both_are_few, both_joined_count}
use Rattle.nf_turn.proofs.Poses.{shows}
use Rattle.nf_turn.proofs.Sounding.{may_count}
use Rattle.nf_turn.proofs.lock.TurnLock.join.Goals as goal

pub join_seat-requires : goal.join_seat-requires
join_seat-requires g c =
    let key = c.args.self.now.table.shared.key in let lock = c.args.self.now in (
      search rules,
      search rules,
      ap (λ m. m.1) c.requires.idle.1,
      search rules,
      may_join g.W.Book.book key.seats key.first.value _ _ _ _ (memory lock c.args.seat.now) (memory lock c.args.other) (ap (λ m. m.0) c.requires.idle.0) (ap (λ m. m.0) c.requires.idle.1),
    )

pub load-seat-requires : goal.load-seat-requires
load-seat-requires g c =
    let key = c.args.self.now.table.shared.key in
    let known = both_known (longer g.W.Book.book) _ _ _ _ _ c.requires.idle.0 c.requires.idle.1 c.join_seat.ensures.2 in
    (search rules, search rules, may_count g.W.Book.book key.seats key.first.value _ _ _ _ known)

-- what both have together is small
few : {W : Type 0} (picks : W → W → W) (value : W) (mine other : Seat W) (joined : Place W) → joined ≡ (Idle (having_joined picks (memory_in value mine.place.me) (memory_in value other.place.me)), [])
    → ((k : Memory W) → joined ≡ (Idle k, []) → AreSound (numbers_of k)) → mine.left + other.left + (mine.joined + (other.joined + 1)) < 2 ^ 63
few picks value mine other joined known sound =
    let k = memory_in value mine.place.me in let q = memory_in value other.place.me in
    let small = both_are_few picks k q (sound (having_joined picks k q) known) in let its = shows value mine in let theirs = shows value other in omega arith

pub overflow_add-seat : goal.overflow_add-seat
overflow_add-seat g c =
    let known = both_known (longer g.W.Book.book) _ _ _ _ _ c.requires.idle.0 c.requires.idle.1 c.join_seat.ensures.2 in
    let small = few (longer g.W.Book.book) _ c.args.seat.now c.args.other _ known (λ k is. (c.load-seat.ensures.2.1 k is).0) in omega arith

pub overflow_add-seat-2 : goal.overflow_add-seat-2
overflow_add-seat-2 g c =
    let known = both_known (longer g.W.Book.book) _ _ _ _ _ c.requires.idle.0 c.requires.idle.1 c.join_seat.ensures.2 in
    let small = few (longer g.W.Book.book) _ c.args.seat.now c.args.other _ known (λ k is. (c.load-seat.ensures.2.1 k is).0) in omega arith

pub overflow_add-seat-3 : goal.overflow_add-seat-3
overflow_add-seat-3 g c =
    let known = both_known (longer g.W.Book.book) _ _ _ _ _ c.requires.idle.0 c.requires.idle.1 c.join_seat.ensures.2 in
    let small = few (longer g.W.Book.book) _ c.args.seat.now c.args.other _ known (λ k is. (c.load-seat.ensures.2.1 k is).0) in omega arith

pub invariant_of-seat : goal.invariant_of-seat
invariant_of-seat g c =
    let mine = c.args.seat.now in let other = c.args.other in let k = memory c.args.self.now mine in let q = memory c.args.self.now other in let picks = longer g.W.Book.book in
    let its = shows c.args.self.now.table.shared.key.first.value mine in let theirs = shows c.args.self.now.table.shared.key.first.value other in
    let known = both_known picks mine.place.me other.place.me c.join_seat.new.seat.me k q c.requires.idle.0 c.requires.idle.1 c.join_seat.ensures.2 in
    let sound = ∣ (c.load-seat.ensures.2.1 (having_joined picks k q) known).0 ∣₁ in
    let now : numbers_in c.load-seat.new.seat.me ≡ numbers_of (having_joined picks k q) = ap numbers_in (c.load-seat.ensures.2.0 ∙ known) in
    let next = c.next_of-seat.ensures ∙ (λ i. if its.left i == 0 then theirs.next i else its.next i) in
    let joined = (λ i. its.joined i + (theirs.joined i + 1)) ∙ sym (both_joined_count picks k q) in
    simp now (search (rules, sound, next, joined))

pub returns-clause-told : goal.returns-clause-told
returns-clause-told g c =
    let mine = c.args.seat.now in let other = c.args.other in let k = memory c.args.self.now mine in let q = memory c.args.self.now other in let picks = longer g.W.Book.book in
    let known = both_known picks mine.place.me other.place.me c.join_seat.new.seat.me k q c.requires.idle.0 c.requires.idle.1 c.join_seat.ensures.2 in
    let now = ap (λ (m : Place g.row.W.Denot). memory_in c.args.self.now.table.shared.key.first.value m) (c.load-seat.ensures.2.0 ∙ known) in
    subst (λ (m : Memory g.row.W.Denot). HasHeard g.W.Book.book m) (sym now) (c.load-seat.ensures.2.1 (having_joined picks k q) known).1
