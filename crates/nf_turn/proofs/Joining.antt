-- Joining a seat into another.
use Rattle.std.proofs.Common.{rules, ◌≡◌, ◌≢◌, ⊎_elim, ℕ, suc, ◌+◌, ◌^◌, ◌<◌, ◌≤◌, length, cond, eqb, List, [], ◌∷◌, ◌++◌, length-append, set, sym, ap, ◌∙◌, subst, arith}
use mathlib.Core.Logic.{dite}
use mathlib.Core.Option.{some}
use native.Mathlib.Decide.{ℕ_discrete}
use lib.ListN.{get_elem?}
use Rattle.std.proofs.lemmas.Bool.{cases_lt, lt-ltb, le-ltb, eq-eqb, ne_eqb, cond-true, cond-false}
use Rattle.atomic_table.specs.Table.{Joins}
use Rattle.atomic_table.proofs.Lists.{at_set}
use Rattle.nf_turn.specs.Prelude.{AreJoined, AreSound, Grows, having_joined, IsInTurn, IsKnown, IsOther, Knows, Line, longer, Meanings, numbers_of, Place, Precedes}
use Rattle.nf_turn.specs.Steps.{after_join}
use Rattle.nf_turn.specs.declared.view.Memory.{Memory}
use Rattle.nf_turn.specs.declared.view.View.{View}
use Rattle.nf_turn.specs.declared.view.View.TheVariants.{Spent, Idle}
use Rattle.nf_turn.proofs.Numbers.{put, put_at, put_else}
use Rattle.nf_turn.proofs.Preceding.{Precedes-refl, Precedes-trans, AllPrecede-trans, AllPrecede-append, shorter_precedes}
use Rattle.nf_turn.proofs.Sounding.{few_numbers}
use Rattle.nf_turn.proofs.Staying.{LeavesAlone, joined_stay, views_stay, others_stay}

abbrev same : ℕ → ℕ
same n = n

IsOther-append : {W : Type 0} (n : ℕ) (seats more : List (ℕ × W)) → IsOther n seats → IsOther n more → IsOther n (seats ++ more)
IsOther-append n [] more h h' = h'
IsOther-append {W} n (seat ∷ seats) more h h' = (h.0, IsOther-append n seats more h.1 h')

module _ {E O W : Type 0} (book : Meanings E O W) where
  -- one of two values is picked: the later value grew from it, and both come before it
  abbrev IsPicked : W → W → W → W → Type 0
  IsPicked a b value picked = Grows book picked value × Precedes book a picked × Precedes book b picked

  longer_is_picked : (a b value : W) → Grows book a value → Grows book b value → IsPicked a b value (longer book a b)
  longer_is_picked a b value h g = let n = length (book.entries a) in let m = length (book.entries b) in ⊎_elim
      (λ (less : n < m). subst (IsPicked a b value) (ap (λ t. cond t b a) (sym (lt-ltb n m less))) (g, shorter_precedes book a b value h g (omega arith), Precedes-refl book b))
      (λ (more : m ≤ n). subst (IsPicked a b value) (ap (λ t. cond t b a) (sym (le-ltb n m more))) (h, Precedes-refl book a, shorter_precedes book b a value g h more))
      (cases_lt n m)

  -- a number of another seat of the table is none of these
  elsewhere : (line : Line W) (m there id n : ℕ) → line.place m ≡ there → there ≢ id → (joined : List (ℕ × W)) → AreJoined book line id n joined → IsOther m joined
  elsewhere line m there id n at apart [] h = tt
  elsewhere line m there id n at apart (seat ∷ seats) h = ((λ e. apart (sym at ∙ ap line.place e ∙ h.0.4)), elsewhere line m there id n at apart seats h.2)

  -- nor is the seat's own number
  own_is_other : (line : Line W) (id n : ℕ) → (joined : List (ℕ × W)) → AreJoined book line id n joined → IsOther n joined
  own_is_other line id n [] h = tt
  own_is_other line id n (seat ∷ seats) h = ((λ e. h.0.0 (sym e)), own_is_other line id n seats h.2)

  -- the table's seat `other` is joined into `id`
  abbrev joining : Line W → ℕ → ℕ → Line W
  joining line id other = record line { place = λ m. put same other id (line.place m); giver = put same other id line.giver }

  leaves_others : (line : Line W) (id other : ℕ) → (j : ℕ) → j ≢ id → j ≢ other → LeavesAlone book line (joining line id other) j
  leaves_others line id other j apart apart' =
      let place = λ (m : ℕ) (at : line.place m ≡ j). put_else same other id (line.place m) (λ e. apart' (sym at ∙ e)) ∙ at in
      let gives = λ (h : j ≡ line.giver). h ∙ sym (put_else same other id line.giver (λ e. apart' (h ∙ e))) in
      search (rules, place, gives)

  -- those that were joined into the seat `there`, before those that are already with `id`
  both_joined : (line : Line W) (id other there n n' : ℕ) → ((m : ℕ) → line.place m ≡ there → (put same other id (line.place m) ≡ id) × (m ≢ n → m ≢ n'))
      → (joined more : List (ℕ × W)) → ((m : ℕ) → line.place m ≡ there → IsOther m more)
      → AreJoined book line there n joined → AreJoined book (joining line id other) id n' more → AreJoined book (joining line id other) id n' (joined ++ more)
  both_joined line id other there n n' to [] more apart h rest = rest
  both_joined line id other there n n' to (seat ∷ seats) more apart h rest =
      let j = h.0 in let is = to seat.0 j.4 in
      ((is.1 j.0, j.1, j.2, j.3, is.0, j.5), IsOther-append seat.0 seats more h.1 (apart seat.0 j.4), both_joined line id other there n n' to seats more apart h.2 rest)

  module _ (seats : ℕ) (origin : W) where
    -- the numbers that are left are with one of the two, and are with the one that stays now
    left_with_both : (line : Line W) (id other : ℕ) (k q : Memory W) → other ≢ id → IsKnown book seats origin line id k → IsKnown book seats origin line other q → 0 < k.left + q.left
        → (id ≡ put same other id line.giver) × (line.fresh ≡ cond (eqb k.left 0) q.next k.next) × (cond (eqb k.left 0) q.next k.next + (k.left + q.left) ≡ seats + 1)
    left_with_both line id other k q apart h t some_left = dite (ℕ_discrete k.left 0)
        (λ none_left.
        let has = t.left (omega arith) in let sum = has.2 in
        let picked = cond-true (eqb k.left 0) q.next k.next (eq-eqb k.left 0 none_left) in
        (sym (put_at same other id line.giver (sym has.0)), has.1 ∙ sym picked, omega arith))
        (λ mine_left.
        let has = h.left (omega arith) in let sum = has.2 in
        let picked = cond-false (eqb k.left 0) q.next k.next (ne_eqb k.left 0 mine_left) in
        let none_left : q.left ≡ 0 = dite (ℕ_discrete q.left 0) (λ z. z) (λ z. absurd (apart ((t.left (omega arith)).0 ∙ sym has.0))) in
        (has.0 ∙ sym (put_else same other id line.giver (λ z. apart (sym z ∙ sym has.0))), has.1 ∙ sym picked, omega arith))

    joined_of_both : (line : Line W) (id other : ℕ) (k q : Memory W) → other ≢ id → line.waits q.number ≡ 0 → IsKnown book seats origin line id k → IsKnown book seats origin line other q
        → AreJoined book (joining line id other) id k.number ((q.number, q.last) ∷ (q.joined ++ k.joined))
    joined_of_both line id other k q apart idle h t = (
      ((λ e. apart (sym t.its ∙ ap line.place e ∙ h.its)), t.low, t.given, idle, put_at same other id (line.place q.number) t.its, t.own),
      IsOther-append q.number q.joined k.joined (own_is_other line other q.number q.joined t.joined) (elsewhere line q.number other id k.number t.its apart k.joined h.joined),
      both_joined line id other other q.number k.number (λ m at. (put_at same other id (line.place m) at, λ _ e. apart (sym at ∙ ap line.place e ∙ h.its))) q.joined k.joined
          (λ m at. elsewhere line m other id k.number at apart k.joined h.joined) t.joined
          (joined_stay book line (joining line id other) id k.number (λ seat j. (j.0, j.1, j.2, j.3, put_else same other id (line.place seat.0) (λ e. apart (sym e ∙ j.4)) ∙ j.4, j.5)) k.joined h.joined),
    )

    known_of_both : (line : Line W) (id other : ℕ) (k q : Memory W) → other ≢ id → line.waits q.number ≡ 0 → IsKnown book seats origin line id k → IsKnown book seats origin line other q
        → IsKnown book seats origin (joining line id other) id (having_joined (longer book) k q)
    known_of_both line id other k q apart idle h t = let longest = longer book k.known q.known in let is = longer_is_picked k.known q.known line.value h.known t.known in record {
      low = h.low;
      given = h.given;
      its = put_else same other id (line.place k.number) (λ e. apart (sym e ∙ h.its)) ∙ h.its;
      all = h.all;
      first = h.first;
      known = is.0;
      own = h.own;
      passed = h.passed;
      told = h.told;
      left = left_with_both line id other k q apart h t;
      joined = joined_of_both line id other k q apart idle h t;
      last = Precedes-trans book k.last k.known longest h.last is.1;
      heard = (is.1, (is.2, AllPrecede-append book q.heard k.heard longest (AllPrecede-trans book q.heard q.known longest t.heard is.2) (AllPrecede-trans book k.heard k.known longest h.heard is.1)));
      sole = λ alone.
          let low = h.low in let below = h.given in let low' = t.low in let below' = t.given in let same : q.number ≡ k.number = omega arith in
          absurd (apart (sym t.its ∙ ap line.place same ∙ h.its));
    }

    joins : (id other : ℕ) (k q : Memory W) → Joins (IsInTurn book seats origin) id (Idle k) other (Idle q) (after_join (longer book) (Idle k) (Idle q)) Spent
    joins id other k q s rule at apart there =
        let line = rule.line in
        let both : View W = Idle (having_joined (longer book) k q) in
        let was : get_elem? s.views other ≡ some (Idle q) = ⊎_elim (λ (t : (other ≡ id) × (both ≡ Idle q)). absurd (apart t.0)) (λ (t : (other ≢ id) × (get_elem? s.views other ≡ some (Idle q))). t.1) (at_set s.views id other both (Idle q) there) in
        let mine = rule.views id (Idle k) at in
        let theirs = rule.views other (Idle q) was in
        let new = joining line id other in
        let order = rule.order in
        let known : Knows book seats origin new id both = (known_of_both line id other k q apart theirs.1 mine.0 theirs.0, mine.1) in record {
          fresh = rule.fresh;
          line = new;
          bells = rule.bells;
          words = rule.words;
          home = rule.home;
          order = record { few = order.few; count = order.count; once = order.once; within = order.within; apart = order.apart; served = order.served; unused = order.unused };
          views = views_stay (Knows book seats origin new) (set s.views id both) other Spent tt
              (λ j view off at'. views_stay (λ i v. i ≢ other → Knows book seats origin new i v) s.views id both (λ _. known)
              (λ i v off' at'' off''. others_stay book seats origin line new i (leaves_others line id other i off' off'') v (rule.views i v at'')) j view at' off);
        }

    -- an idle seat may be joined into another that is idle
    pub may_join : (id other : ℕ) (view view' : View W) (k q : Memory W) → view ≡ Idle k → view' ≡ Idle q → Joins (IsInTurn book seats origin) id view other view' (after_join (longer book) view view') Spent
    may_join id other view view' k q is is' = subst (λ (v : View W × View W). Joins (IsInTurn book seats origin) id v.0 other v.1 (after_join (longer book) v.0 v.1) Spent) (λ i. (sym is i, sym is' i)) (joins id other k q)

-- what the seat that stays knows after the step
pub both_known : {W : Type 0} (picks : W → W → W) (mine theirs after : Place W) (k q : Memory W) → mine ≡ (Idle k, []) → theirs ≡ (Idle q, []) → after ≡ (after_join picks mine.0 theirs.0, mine.1) → after ≡ (Idle (having_joined picks k q), [])
both_known picks mine theirs after k q is is' step = step ∙ (λ i. (after_join picks ((is i).0) ((is' i).0), (is i).1))

-- how many numbers it has is small
pub both_are_few : {W : Type 0} (picks : W → W → W) (k q : Memory W) → AreSound (numbers_of (having_joined picks k q)) → 1 + (k.left + q.left) + (length k.joined + (length q.joined + 1)) < 2 ^ 63
both_are_few picks k q sound = let few = few_numbers (numbers_of (having_joined picks k q)) sound in let small = sound.few in let e = length-append q.joined k.joined in omega arith

pub both_joined_count : {W : Type 0} (picks : W → W → W) (k q : Memory W) → length (having_joined picks k q).joined ≡ length k.joined + (length q.joined + 1)
both_joined_count picks k q = let e = length-append q.joined k.joined in let s : suc (length (q.joined ++ k.joined)) ≡ length k.joined + (length q.joined + 1) = omega arith in s
