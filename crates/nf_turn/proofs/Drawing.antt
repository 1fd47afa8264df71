-- Drawing a turn number.
use Rattle.std.proofs.Common.{rules, ◌≡◌, ◌≢◌, ℕ, ◌+◌, ◌%◌, ◌^◌, ◌<◌, [], ◌∷◌, set, get_or, sym, ap, ◌∙◌, subst, arith}
use mathlib.Core.Logic.{dite}
use mathlib.Core.Option.{none}
use native.Mathlib.Decide.{ℕ_discrete}
use Rattle.atomic_table.specs.Table.{step, keeps, Allows}
use Rattle.nf_turn.specs.Prelude.{InOrder, IsInTurn, Line, Meanings, memory_in, Place}
use Rattle.nf_turn.specs.Steps.{Draws}
use Rattle.nf_turn.specs.declared.view.Memory.{Memory}
use Rattle.nf_turn.specs.declared.view.View.TheVariants.{Idle, Waiting}
use Rattle.nf_turn.proofs.Numbers.{put, put_at, put_here, put_else, put_small, total_put, next_modulo}
use Rattle.nf_turn.proofs.Staying.{LeavesAlone, joined_stay, steps, other_number}

module _ {E O W : Type 0} (book : Meanings E O W) (seats : ℕ) (origin : W) where
  abbrev drawing : Line W → ℕ → Line W
  drawing line n = record line { drawn = line.drawn + 1; waits = put line.waits n 1; turn = put line.turn n line.drawn }

  leaves_others : (line : Line W) (id n : ℕ) → line.place n ≡ id → (j : ℕ) → j ≢ id → LeavesAlone book line (drawing line n) j
  leaves_others line id n its j other =
      let waits = λ (m : ℕ) (at : line.place m ≡ j). put_else line.waits n 1 m (other_number line id j n m its other at) in
      let turn = λ (m : ℕ) (at : line.place m ≡ j). put_else line.turn n line.drawn m (other_number line id j n m its other at) in
      search (rules, waits, turn)

  in_order : (line : Line W) (n : ℕ) → InOrder book seats origin line → 0 < n → n < line.fresh → line.waits n ≡ 0 → InOrder book seats origin (drawing line n)
  in_order line n h low given idle =
      let few = h.few in let count = h.count in
      let sum = total_put line.waits n 1 seats low (let up = few.2 in omega arith) in record {
        few = few;
        count = omega arith;
        once = put_small line.waits n 1 (omega arith) h.once;
        within = λ m waits. dite (ℕ_discrete m n)
            (λ e. let last : put line.turn n line.drawn m ≡ line.drawn = put_at line.turn n line.drawn m e in (omega arith, omega arith, omega arith, omega arith))
            (λ o. let still = put_else line.waits n 1 m o in let turn = put_else line.turn n line.drawn m o in let b = h.within m (omega arith) in let b₂ = b.2 in let b₃ = b.3 in (b.0, b.1, omega arith, omega arith));
        apart = λ m k waits waits' same. dite (ℕ_discrete m n)
            (λ e. dite (ℕ_discrete k n) (λ f. e ∙ sym f)
            (λ o. let last : put line.turn n line.drawn m ≡ line.drawn = put_at line.turn n line.drawn m e in let still = put_else line.waits n 1 k o in let turn = put_else line.turn n line.drawn k o in let b = (h.within k (omega arith)).3 in absurd (omega arith)))
            (λ o. let still = put_else line.waits n 1 m o in let turn = put_else line.turn n line.drawn m o in dite (ℕ_discrete k n)
            (λ f. let last : put line.turn n line.drawn k ≡ line.drawn = put_at line.turn n line.drawn k f in let b = (h.within m (omega arith)).3 in absurd (omega arith))
            (λ q. let still' = put_else line.waits n 1 k q in let turn' = put_else line.turn n line.drawn k q in h.apart m k (omega arith) (omega arith) (omega arith)));
        served = λ some_holder.
            let b = h.served some_holder in let waits = b.0 in
            let o : line.holder ≢ n = λ e. let none : line.waits line.holder ≡ 0 = ap line.waits e ∙ idle in omega arith in
            let still = put_else line.waits n 1 line.holder o in
            (omega arith, put_else line.turn n line.drawn line.holder o ∙ b.1);
        unused = h.unused;
      }

  draws : (slots id : ℕ) (k : Memory W) → Allows (IsInTurn book seats origin) slots id (Idle k, []) 0 (λ x. (x + 1) % 2 ^ 64) (Draws (step slots 0 1 0 none) (Idle k, []))
  draws slots id k s rule _ at _ =
      let line = rule.line in
      let x : ℕ = get_or s.words 0 0 in
      let n : ℕ = k.number in
      let mine = rule.views id (Idle k) at in
      let h = mine.0 in
      let new = drawing line n in
      let found : x ≡ line.drawn % 2 ^ 64 = ap (λ ws. get_or ws 0 0) rule.words in
      let words : set s.words 0 ((x + 1) % 2 ^ 64) ≡ new.drawn % 2 ^ 64 ∷ new.passed_on % 2 ^ 64 ∷ rule.bells =
      ap (λ ws. set ws 0 ((get_or ws 0 0 + 1) % 2 ^ 64)) rule.words ∙ ap (λ (z : ℕ). z ∷ line.passed_on % 2 ^ 64 ∷ rule.bells) (next_modulo line.drawn) in (
        Waiting x k,
        keeps,
        tt,
        steps book seats origin s rule new id 0 ((x + 1) % 2 ^ 64) s.homes (Waiting x k) words rule.home (in_order line n rule.order h.low h.given mine.1) (
          record { low = h.low; given = h.given; its = h.its; all = h.all; first = h.first; known = h.known; own = h.own; passed = h.passed; told = h.told; left = h.left; joined = joined_stay book line new id n (λ seat j. (j.0, j.1, j.2, put_else line.waits n 1 seat.0 j.0 ∙ j.3, j.4, j.5)) k.joined h.joined; last = h.last; heard = h.heard; sole = h.sole },
          put_here line.waits n 1,
          found ∙ ap (λ (z : ℕ). z % 2 ^ 64) (sym (put_here line.turn n line.drawn)),
          λ holds. let low = h.low in let waits = (rule.order.served (omega arith)).0 in let none : line.waits line.holder ≡ 0 = ap line.waits holds ∙ mine.1 in omega arith,
        ) (leaves_others line id n h.its),
        λ k' is. ap (λ (m : Place W). (Waiting x (memory_in origin m), m.1)) is,
      )

  -- a seat that is idle may draw
  pub may_draw : (slots id : ℕ) (me : Place W) (k : Memory W) → me ≡ (Idle k, []) → Allows (IsInTurn book seats origin) slots id me 0 (λ x. (x + 1) % 2 ^ 64) (Draws (step slots 0 1 0 none) me)
  may_draw slots id me k is = subst (λ (m : Place W). Allows (IsInTurn book seats origin) slots id m 0 (λ x. (x + 1) % 2 ^ 64) (Draws (step slots 0 1 0 none) m)) (sym is) (draws slots id k)
