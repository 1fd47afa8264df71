-- Looking at the number that is served.
use Rattle.std.proofs.Common.{rules, ◌≡◌, ◌≢◌, ℕ, zero, suc, ◌%◌, ◌^◌, ◌<◌, [], ◌∷◌, set, get_or, Option, Some, refl, sym, ap, ◌∙◌, subst, arith}
use mathlib.Core.Logic.{dite}
use mathlib.Core.Option.{none, some}
use native.Mathlib.Decide.{ℕ_discrete}
use lib.ListN.{get_elem?}
use lib.Seq.{set-get_or}
use Rattle.atomic_table.specs.Table.{State, step, keeps, takes, Allows}
use Rattle.nf_turn.specs.Prelude.{Agrees, home_of, InOrder, IsInTurn, Line, Meanings, memory_in, Place}
use Rattle.nf_turn.specs.Steps.{Looks}
use Rattle.nf_turn.specs.declared.view.Memory.{Memory}
use Rattle.nf_turn.specs.declared.view.View.{View}
use Rattle.nf_turn.specs.declared.view.View.TheVariants.{Waiting, Holding}
use Rattle.nf_turn.proofs.Numbers.{total_le}
use Rattle.nf_turn.proofs.Staying.{LeavesAlone, joined_stay, steps, reads, other_number}
use Rattle.nf_turn.proofs.Agreed.{agrees}

abbrev turn_in : {W : Type 0} → Place W → ℕ
turn_in (Waiting turn k, slots) = turn
turn_in (view, slots) = 0

module _ {E O W : Type 0} (book : Meanings E O W) (seats : ℕ) (origin : W) where
  abbrev holding : Line W → ℕ → Line W
  holding line n = record line { holder = n }

  leaves_others : (line : Line W) (id n : ℕ) → line.place n ≡ id → line.holder ≡ 0 → (j : ℕ) → j ≢ id → LeavesAlone book line (holding line n) j
  leaves_others line id n its none_holds j other =
      let free = λ (m : ℕ) (at : line.place m ≡ j) (e : n ≡ m). other_number line id j n m its other at (sym e) in
      search (rules, free)

  in_order : (line : Line W) (n : ℕ) → InOrder book seats origin line → 0 < line.waits n → line.turn n ≡ line.passed_on → InOrder book seats origin (holding line n)
  in_order line n h waits first = record { few = h.few; count = h.count; once = h.once; within = h.within; apart = h.apart; served = λ _. (waits, first); unused = h.unused }

  -- where the word is the turn number that a seat drew, its turn is the one that is served
  is_served : (line : Line W) (n : ℕ) → InOrder book seats origin line → line.waits n ≡ 1 → line.passed_on % 2 ^ 64 ≡ line.turn n % 2 ^ 64 → line.turn n ≡ line.passed_on
  is_served line n h waits same =
      let b = h.within n (omega arith) in let b₂ = b.2 in let b₃ = b.3 in let count = h.count in let few = h.few.0 in let most = total_le line.waits seats h.once in omega arith

  -- and then no other seat has the turn
  none_holds : (line : Line W) (n : ℕ) → InOrder book seats origin line → line.waits n ≡ 1 → line.turn n ≡ line.passed_on → line.holder ≢ n → line.holder ≡ 0
  none_holds line n h waits first other = dite (ℕ_discrete line.holder 0) (λ z. z)
      (λ some_holder. let b = h.served (omega arith) in absurd (other (h.apart line.holder n b.0 (omega arith) (b.1 ∙ sym first))))

  pub value_at_home : (s : State (Option W) (View W)) (rule : IsInTurn book seats origin s) → rule.line.holder ≡ 0 → get_elem? s.homes 0 ≡ some (some (Some rule.line.value))
  value_at_home s rule free = ap (λ hs. get_elem? hs 0) (rule.home ∙ ap (λ (n : ℕ). home_of n rule.line.value) free)

  empty_home : (n : ℕ) (value : W) → 0 < n → none ∷ [] ≡ home_of n value
  empty_home zero value low = absurd (omega arith)
  empty_home (suc n) value low = refl

  hits : (slots id turn : ℕ) (k : Memory W) (s : State (Option W) (View W)) (rule : IsInTurn book seats origin s) → get_elem? s.views id ≡ some (Waiting turn k) → get_or s.words 1 0 ≡ turn
      → IsInTurn book seats origin record { words = set s.words 1 (get_or s.words 1 0); homes = set s.homes 0 none; views = set s.views id (Holding rule.line.value k) } × (rule.line.holder ≡ 0)
  hits slots id turn k s rule at hit =
      let line = rule.line in
      let n : ℕ = k.number in
      let mine = rule.views id (Waiting turn k) at in
      let h = mine.0 in
      let waits = mine.1 in
      let found : get_or s.words 1 0 ≡ line.passed_on % 2 ^ 64 = ap (λ ws. get_or ws 1 0) rule.words in
      let first = is_served line n rule.order waits (sym found ∙ hit ∙ mine.2) in
      let free = none_holds line n rule.order waits first mine.3 in
      let new = holding line n in
      let home : set s.homes 0 none ≡ home_of n line.value = ap (λ hs. set hs 0 none) (rule.home ∙ ap (λ (z : ℕ). home_of z line.value) free) ∙ empty_home n line.value h.low in (
        steps book seats origin s rule new id 1 (get_or s.words 1 0) (set s.homes 0 none) (Holding line.value k) (set-get_or s.words 1 0 ∙ rule.words) home (in_order line n rule.order (omega arith) first) (
          record { low = h.low; given = h.given; its = h.its; all = h.all; first = h.first; known = h.known; own = h.own; passed = h.passed; told = h.told; left = h.left; joined = joined_stay book line new id n (λ _ j. j) k.joined h.joined; last = h.last; heard = h.heard; sole = h.sole },
          refl,
          refl,
        ) (leaves_others line id n h.its free),
        free,
      )

  looks : (slots id turn : ℕ) (k : Memory W) → Allows (IsInTurn book seats origin) slots id (Waiting turn k, []) 1 (λ x. x) (Looks book (step slots 1 0 0 none) (Waiting turn k, []))
  looks slots id turn k s rule _ at _ =
      let x : ℕ = get_or s.words 1 0 in
      let line = rule.line in
      let same_turn : (turn' : ℕ) (k' : Memory W) → (Waiting turn k, []) ≡ (Waiting turn' k', []) → turn ≡ turn' = λ turn' k' is. ap (λ (m : Place W). turn_in m) is in
      dite (ℕ_discrete x turn)
      (λ hit.
      let h = hits slots id turn k s rule at hit in
      let agreed : Agrees book k line.value = agrees book seats origin line id k rule.fresh rule.order (rule.views id (Waiting turn k) at).0 in (
        Holding line.value k,
        takes 0 (Some line.value),
        value_at_home s rule h.1,
        h.0,
        λ turn' k' is.
            let same : k ≡ k' = ap (λ (m : Place W). memory_in origin m) is in
            ((λ _. (line.value, ap (λ (z : Memory W). (Holding line.value z, (0, Some line.value) ∷ [])) same, subst (λ (z : Memory W). Agrees book z line.value) same agreed)), λ miss. absurd (miss (hit ∙ same_turn turn' k' is))),
      ))
      (λ miss. (
        Waiting turn k,
        keeps,
        tt,
        reads book seats origin s rule 1 id (Waiting turn k) at,
        λ turn' k' is. ((λ hit. absurd (miss (hit ∙ sym (same_turn turn' k' is)))), λ _. refl),
      ))

  -- a seat that waits may look
  pub may_look : (slots id : ℕ) (me : Place W) (turn : ℕ) (k : Memory W) → me ≡ (Waiting turn k, []) → Allows (IsInTurn book seats origin) slots id me 1 (λ x. x) (Looks book (step slots 1 0 0 none) me)
  may_look slots id me turn k is = subst (λ (m : Place W). Allows (IsInTurn book seats origin) slots id m 1 (λ x. x) (Looks book (step slots 1 0 0 none) m)) (sym is) (looks slots id turn k)
