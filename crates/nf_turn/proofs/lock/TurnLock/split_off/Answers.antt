use Rattle.std.proofs.Common.{rules, ◌≡◌, ◌<◌, [], sym, ap, ◌∙◌, subst, arith}
use Rattle.std.proofs.Math.Logic.{∥∥₁_map}
use Rattle.nf_turn.specs.declared.view.Memory.{Memory}
use Rattle.nf_turn.specs.Prelude.{after_split, HasHeard, memory, memory_in, Numbers, numbers_in, Place, split_from, split_off}
use Rattle.nf_turn.proofs.Numbering as numbers
use Rattle.nf_turn.proofs.Numbering.{kept_is_sound, split_is_sound, next_is_small}
use Rattle.nf_turn.proofs.Sounding.{may_count}
use Rattle.nf_turn.proofs.Splitting.{may_split}
use Rattle.nf_turn.proofs.lock.TurnLock.split_off.Goals as goal

pub split_seat-place-requires : goal.split_seat-place-requires
split_seat-place-requires g c =
    let key = c.args.self.now.table.shared.key in let seat = c.args.seat.now in let k = memory c.args.self.now seat in
    let left : 0 < k.left = subst (λ (m : Numbers g.row.W.Denot). 0 < m.left) (ap numbers_in c.requires.idle) c.requires.left in
    (search rules, search rules, may_split g.W.Book.book key.seats key.first.value _ _ k (ap (λ m. m.0) c.requires.idle) left)

pub load-requires : goal.load-requires
load-requires g c =
    let key = c.args.self.now.table.shared.key in
    let new = c.split_seat-place.ensures.4 ∙ ap (λ m. (split_off m.0, [])) c.requires.idle in
    (search rules, search rules, may_count g.W.Book.book key.seats key.first.value _ _ _ _ new)

pub overflow_add-seat : goal.overflow_add-seat
overflow_add-seat g c =
    let seat = c.args.seat.now in let next : seat.next ≡ (numbers_in seat.place.me).next = seat.next_is in
    let small = next_is_small (numbers_in seat.place.me) seat.sound c.requires.left in omega arith

pub invariant_of-seat : goal.invariant_of-seat
invariant_of-seat g c =
    let seat = c.args.seat.now in let k = numbers_in seat.place.me in
    let now : numbers_in c.split_seat-place.new.seat.me ≡ numbers.after_split k =
    ap numbers_in (c.split_seat-place.ensures.2 ∙ ap (λ m. (after_split m.0, m.1)) c.requires.idle) ∙ ap numbers.after_split (sym (ap numbers_in c.requires.idle)) in
    let sound = ∥∥₁_map seat.sound (λ h. kept_is_sound k c.requires.left h) in
    simp now (search (rules, sound))

pub invariant_of-result : goal.invariant_of-result
invariant_of-result g c =
    let seat = c.args.seat.now in let k = numbers_in seat.place.me in
    let now : numbers_in c.load.new.seat.me ≡ numbers.split_off k =
    ap numbers_in (c.load.ensures.2.0 ∙ c.split_seat-place.ensures.4 ∙ ap (λ m. (split_off m.0, [])) c.requires.idle) ∙ ap numbers.split_off (sym (ap numbers_in c.requires.idle)) in
    let sound = ∥∥₁_map seat.sound (λ h. split_is_sound k c.requires.left h) in
    simp now (search (rules, sound))

pub returns-clause-told : goal.returns-clause-told
returns-clause-told g c =
    let k = memory c.args.self.now c.args.seat.now in
    let new = c.split_seat-place.ensures.4 ∙ ap (λ m. (split_off m.0, [])) c.requires.idle in
    let now = ap (λ (m : Place g.row.W.Denot). memory_in c.args.self.now.table.shared.key.first.value m) (c.load.ensures.2.0 ∙ new) in
    subst (λ (m : Memory g.row.W.Denot). HasHeard g.W.Book.book m) (sym now) (c.load.ensures.2.1 (split_from k) new).1
