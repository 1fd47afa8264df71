-- Splitting a seat off.
use Rattle.std.proofs.Common.{rules, ◌≡◌, ◌≢◌, ◌⊎◌, ⊎_elim, inl, inr, ℕ, zero, suc, ◌+◌, ◌<◌, ◌≤◌, List, [], ◌∷◌, ◌++◌, length, set, length-set, refl, sym, ap, ◌∙◌, subst, arith}
use mathlib.Core.Logic.{dite}
use mathlib.Core.Option.{some, some-ne-none, some-injective}
use native.Mathlib.Decide.{ℕ_discrete}
use lib.ListN.{get_elem?}
use Rattle.atomic_table.specs.Table.{Splits}
use Rattle.nf_turn.specs.Prelude.{after_split, GrowsWithout, having_split, InOrder, IsFresh, IsInTurn, IsKnown, Knows, Line, Meanings, split_from, split_off}
use Rattle.nf_turn.specs.declared.view.Memory.{Memory}
use Rattle.nf_turn.specs.declared.view.View.{View}
use Rattle.nf_turn.specs.declared.view.View.TheVariants.{Idle}
use Rattle.nf_turn.proofs.Numbers.{put, put_here, put_else}
use Rattle.nf_turn.proofs.Preceding.{fresh_precedes}
use Rattle.nf_turn.proofs.Shelves.{grew_append}
use Rattle.nf_turn.proofs.Staying.{LeavesAlone, joined_stay, views_stay, others_stay}

at_end : {V : Type 0} (views : List V) (a b : V) (j : ℕ) → get_elem? (views ++ a ∷ []) j ≡ some b → (get_elem? views j ≡ some b) ⊎ ((j ≡ length views) × (a ≡ b))
at_end [] a b zero e = inr (refl, some-injective a b e)
at_end [] a b (suc j) e = absurd (some-ne-none b (sym e))
at_end (x ∷ xs) a b zero e = inl e
at_end {V} (x ∷ xs) a b (suc j) e = ⊎_elim (λ (h : get_elem? xs j ≡ some b). inl h) (λ (h : (j ≡ length xs) × (a ≡ b)). inr (ap suc h.0, h.1)) (at_end xs a b j e)

module _ {E O W : Type 0} (book : Meanings E O W) (seats : ℕ) (origin : W) where
  -- the table's seat `added` gets the first number that was left
  abbrev splitting : Line W → ℕ → Line W
  splitting line added = record line { place = put line.place line.fresh added; fresh = line.fresh + 1 }

  leaves_others : (line : Line W) (id added : ℕ) → line.giver ≡ id → (j : ℕ) → j ≢ id → LeavesAlone book line (splitting line added) j
  leaves_others line id added giver j other =
      let place = λ (m : ℕ) (below : m < line.fresh) (at : line.place m ≡ j). put_else line.place line.fresh added m (λ e. omega arith) ∙ at in
      let gives = λ (h : j ≡ line.giver). other (h ∙ giver) in
      search (rules, place, gives)

  in_order : (line : Line W) (added : ℕ) → InOrder book seats origin line → line.fresh < seats + 1 → InOrder book seats origin (splitting line added)
  in_order line added h room =
      let unused = λ (m : ℕ) (out : (m ≡ 0) ⊎ (line.fresh + 1 ≤ m)). h.unused m (⊎_elim (λ (z : m ≡ 0). inl z) (λ (z : line.fresh + 1 ≤ m). inr (omega arith)) out) in
      let few = h.few in
      search (rules, h.within, unused)

  kept : (line : Line W) (id added : ℕ) (k : Memory W) → 0 < k.left → IsKnown book seats origin line id k → IsKnown book seats origin (splitting line added) id (having_split k)
  kept line id added k some_left h =
      let given = h.given in let has = h.left some_left in let fresh = has.1 in let sum = has.2 in
      let its = put_else line.place line.fresh added k.number (λ e. omega arith) ∙ h.its in
      let joined = joined_stay book line (splitting line added) id k.number (λ seat j. let below = j.2 in (j.0, j.1, omega arith, j.3, put_else line.place line.fresh added seat.0 (λ e. omega arith) ∙ j.4, j.5)) k.joined h.joined in
      search (rules, its, joined)

  given : (line : Line W) (id added : ℕ) (k : Memory W) → 0 < k.left → IsFresh book origin → InOrder book seats origin line → IsKnown book seats origin line id k → IsKnown book seats origin (splitting line added) added (split_from k)
  given line id added k some_left new order h =
      let fresh : line.fresh ≡ k.next = (h.left some_left).1 in let low = h.low in let below = h.given in let few = order.few in
      let its = ap (put line.place line.fresh added) (sym fresh) ∙ put_here line.place line.fresh added in
      let own = subst (λ (z : W). GrowsWithout book k.next z line.value) (sym h.first) (order.unused k.next (inr (omega arith))) in
      let told = grew_append book line.value k.passed k.told h.passed h.told in
      let last = fresh_precedes book k.first k.known (subst (λ (w : W). IsFresh book w) (sym h.first) new) in
      search (rules, its, own, told, last)

  splits : (id : ℕ) (k : Memory W) → 0 < k.left → Splits (IsInTurn book seats origin) id (Idle k) (after_split (Idle k)) (split_off (Idle k))
  splits id k some_left s rule at =
      let line = rule.line in
      let mine = rule.views id (Idle k) at in
      let h = mine.0 in
      let has = h.left some_left in
      let fresh : line.fresh ≡ k.next = has.1 in
      let sum : k.next + k.left ≡ seats + 1 = has.2 in
      let added : ℕ = length s.views in
      let new = splitting line added in
      let old_view : View W = Idle (having_split k) in
      let new_view : View W = Idle (split_from k) in
      let idle : line.waits k.next ≡ 0 = dite (ℕ_discrete (line.waits k.next) 0) (λ z. z) (λ z. let below = (rule.order.within k.next (omega arith)).1 in absurd (omega arith)) in
      let others = λ (j : ℕ) (view : View W) (other : j ≢ id) (there : get_elem? s.views j ≡ some view). others_stay book seats origin line new j (leaves_others line id added (sym has.0) j other) view (rule.views j view there) in record {
        fresh = rule.fresh;
        line = new;
        bells = rule.bells;
        words = rule.words;
        home = rule.home;
        order = in_order line added rule.order (omega arith);
        views = λ j view there. ⊎_elim
            (λ (t : get_elem? (set s.views id old_view) j ≡ some view). views_stay (Knows book seats origin new) s.views id old_view (kept line id added k some_left h, mine.1) others j view t)
            (λ (t : (j ≡ length (set s.views id old_view)) × (new_view ≡ view)). subst (λ (z : ℕ × View W). Knows book seats origin new z.0 z.1) (λ i. (sym (t.0 ∙ length-set s.views id old_view) i, t.1 i)) (given line id added k some_left rule.fresh rule.order h, idle))
            (at_end (set s.views id old_view) new_view view j there);
      }

  -- an idle seat that has numbers left may be split
  pub may_split : (id : ℕ) (view : View W) (k : Memory W) → view ≡ Idle k → 0 < k.left → Splits (IsInTurn book seats origin) id view (after_split view) (split_off view)
  may_split id view k is some_left = subst (λ (v : View W). Splits (IsInTurn book seats origin) id v (after_split v) (split_off v)) (sym is) (splits id k some_left)
