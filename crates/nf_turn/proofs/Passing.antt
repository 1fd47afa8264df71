-- Passing the turn on.
use Rattle.std.proofs.Common.{rules, ◌≡◌, ◌≢◌, ⊎_elim, ℕ, zero, suc, ◌+◌, ◌%◌, ◌^◌, ◌<◌, ◌≤◌, [], ◌∷◌, set, get_or, Some, None, refl, sym, ap, ◌∙◌, subst, arith}
use mathlib.Core.Option.{none, some}
use Rattle.atomic_table.specs.Table.{step, gives, Allows}
use Rattle.nf_turn.specs.Prelude.{AddsAlone, Grows, having_passed, home_of, InOrder, IsInTurn, IsKnown, Line, Meanings, memory_in, Place}
use Rattle.nf_turn.specs.Steps.{PassesOn}
use Rattle.nf_turn.specs.declared.view.Memory.{Memory}
use Rattle.nf_turn.specs.declared.view.View.TheVariants.{Idle, Holding}
use Rattle.nf_turn.proofs.Numbers.{put, put_at, put_here, put_else, put_small, total_put, next_modulo}
use Rattle.nf_turn.proofs.Growing.{Grows-refl, Grows-AddsAlone, GrowsWithout-refl, GrowsWithout-AddsAlone}
use Rattle.nf_turn.proofs.Preceding.{Precedes-refl, grown_precedes, AllPrecede-trans}
use Rattle.nf_turn.proofs.Staying.{LeavesAlone, grew_stays, joined_stay, steps, other_number}

abbrev value_out : {W : Type 0} → W → Place W → W
value_out value (view, []) = value
value_out value (view, (slot, None) ∷ slots) = value
value_out value (view, (slot, Some out) ∷ slots) = out

module _ {E O W : Type 0} (book : Meanings E O W) (seats : ℕ) (origin : W) where
  abbrev passing : Line W → ℕ → W → Line W
  passing line n value = record line { passed_on = line.passed_on + 1; waits = put line.waits n 0; holder = 0; value = value }

  leaves_others : (line : Line W) (id n : ℕ) (value : W) → 0 < n → n < line.fresh → line.place n ≡ id → line.holder ≡ n → AddsAlone book n line.value value → (j : ℕ) → j ≢ id → LeavesAlone book line (passing line n value) j
  leaves_others line id n value low given its holds added j other = record {
    numbers = λ m _ at. (at, put_else line.waits n 0 m (other_number line id j n m its other at), refl);
    fresh = omega arith;
    gives = λ h. (h, refl);
    free = λ m low' _ at z e. omega arith;
    holds = λ m _ _ at e. absurd (other_number line id j n m its other at (sym e ∙ holds));
    sole = λ m low' below at alone. absurd (other_number line id j n m its other at (omega arith));
    grew = λ w h. Grows-AddsAlone book n w line.value value h added;
    without = λ m w _ at h. GrowsWithout-AddsAlone book m n w line.value value (other_number line id j n m its other at) h added;
  }

  in_order : (line : Line W) (n : ℕ) (value : W) → InOrder book seats origin line → 0 < n → n < line.fresh → line.holder ≡ n → AddsAlone book n line.value value → InOrder book seats origin (passing line n value)
  in_order line n value h low given holds added =
      let was = h.served (omega arith) in
      let waits : 0 < line.waits n = subst (λ (z : ℕ). 0 < line.waits z) holds was.0 in
      let first : line.turn n ≡ line.passed_on = ap line.turn (sym holds) ∙ was.1 in
      let one = h.once n in let count = h.count in let up = h.few.2 in
      let sum = total_put line.waits n 0 seats low (omega arith) in
      let other : (m : ℕ) → 0 < put line.waits n 0 m → m ≢ n = λ m w e. (let none : put line.waits n 0 m ≡ 0 = put_at line.waits n 0 m e in omega arith) in
      let still : (m : ℕ) → 0 < put line.waits n 0 m → 0 < line.waits m = λ m w. (let e = put_else line.waits n 0 m (other m w) in omega arith) in record {
        few = h.few;
        count = omega arith;
        once = put_small line.waits n 0 (omega arith) h.once;
        within = λ m w.
            let b = h.within m (still m w) in let b₂ = b.2 in
            let past : line.turn m ≢ line.passed_on = λ e. other m w (h.apart m n (still m w) waits (e ∙ sym first)) in
            (b.0, b.1, omega arith, b.3);
        apart = λ m k w w'. h.apart m k (still m w) (still k w');
        served = λ some_holder. absurd (omega arith);
        unused = λ m out. GrowsWithout-AddsAlone book m n origin line.value value (λ e. ⊎_elim (λ (z : m ≡ 0). omega arith) (λ (z : line.fresh ≤ m). omega arith) out) (h.unused m out) added;
      }

  filled : (n : ℕ) (old new : W) → set (home_of n old) 0 (some (Some new)) ≡ some (Some new) ∷ []
  filled zero old new = refl
  filled (suc n) old new = refl

  has_passed : (line : Line W) (id : ℕ) (value : W) (k : Memory W) → IsKnown book seats origin line id k → AddsAlone book k.number line.value value → IsKnown book seats origin (passing line k.number value) id (having_passed value k)
  has_passed line id value k h added =
      let n : ℕ = k.number in
      let more : (w : W) → Grows book w line.value → Grows book w value = λ w z. Grows-AddsAlone book n w line.value value z added in
      let known = Grows-refl book value in
      let own = GrowsWithout-refl book n value in
      let passed = grew_stays book line.value value more k.passed h.passed in
      let told = grew_stays book line.value value more k.told h.told in
      let joined = joined_stay book line (passing line n value) id n (λ seat j. (j.0, j.1, j.2, put_else line.waits n 0 seat.0 j.0 ∙ j.3, j.4, GrowsWithout-AddsAlone book seat.0 n seat.1 line.value value j.0 j.5 added)) k.joined h.joined in
      let last = Precedes-refl book value in
      let heard = AllPrecede-trans book k.heard k.known value h.heard (grown_precedes book k.known value (more k.known h.known)) in
      search (rules, known, own, passed, told, joined, last, heard)

  passes : (slots id : ℕ) (taken value : W) (k : Memory W) → AddsAlone book k.number taken value
      → Allows (IsInTurn book seats origin) slots id (Holding taken k, (0, Some value) ∷ []) 1 (λ x. (x + 1) % 2 ^ 64) (PassesOn (step slots 1 1 0 none) (Holding taken k, (0, Some value) ∷ []))
  passes slots id taken value k added s rule _ at _ =
      let line = rule.line in
      let x : ℕ = get_or s.words 1 0 in
      let n : ℕ = k.number in
      let mine = rule.views id (Holding taken k) at in
      let h = mine.0 in
      let added' : AddsAlone book n line.value value = subst (λ (z : W). AddsAlone book n z value) mine.2 added in
      let new = passing line n value in
      let words : set s.words 1 ((x + 1) % 2 ^ 64) ≡ new.drawn % 2 ^ 64 ∷ new.passed_on % 2 ^ 64 ∷ rule.bells =
      ap (λ ws. set ws 1 ((get_or ws 1 0 + 1) % 2 ^ 64)) rule.words ∙ ap (λ (z : ℕ). line.drawn % 2 ^ 64 ∷ z ∷ rule.bells) (next_modulo line.passed_on) in
      let home : set s.homes 0 (some (Some value)) ≡ some (Some value) ∷ [] = ap (λ hs. set hs 0 (some (Some value))) rule.home ∙ filled line.holder line.value value in (
        Idle (having_passed value k),
        gives,
        tt,
        steps book seats origin s rule new id 1 ((x + 1) % 2 ^ 64) (set s.homes 0 (some (Some value))) (Idle (having_passed value k)) words home
            (in_order line n value rule.order h.low h.given mine.1 added')
            (has_passed line id value k h added', put_here line.waits n 0)
            (leaves_others line id n value h.low h.given h.its mine.1 added'),
        λ k' taken' value' is. λ i. (Idle (having_passed (value_out value (is i)) (memory_in origin (is i))), []),
      )

  -- the seat that has the turn, with what it adds out of the slot, may pass on
  pub may_pass : (slots id : ℕ) (me : Place W) (taken value : W) (k : Memory W) → me ≡ (Holding taken k, (0, Some value) ∷ []) → AddsAlone book k.number taken value
      → Allows (IsInTurn book seats origin) slots id me 1 (λ x. (x + 1) % 2 ^ 64) (PassesOn (step slots 1 1 0 none) me)
  may_pass slots id me taken value k is added = subst (λ (m : Place W). Allows (IsInTurn book seats origin) slots id m 1 (λ x. (x + 1) % 2 ^ 64) (PassesOn (step slots 1 1 0 none) m)) (sym is) (passes slots id taken value k added)
