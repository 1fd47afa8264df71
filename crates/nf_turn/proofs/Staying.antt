-- What a seat knows stays so while others step.
use Rattle.std.proofs.Common.{◌≡◌, ◌≢◌, ⊎_elim, ℕ, zero, suc, ◌%◌, ◌^◌, ◌<◌, ◌≤◌, List, [], ◌∷◌, set, get_or, Option, refl, sym, ap, ◌∙◌, subst, arith}
use mathlib.Core.Option as maybe
use mathlib.Core.Option.{some, none}
use lib.ListN.{get_elem?}
use lib.Seq.{set-get_or}
use Rattle.atomic_table.specs.Table.{State, step, keeps, Allows}
use Rattle.atomic_table.proofs.Lists.{at_set}
use Rattle.nf_turn.specs.Prelude.{AreJoined, GrewFrom, Grows, GrowsWithout, home_of, InOrder, IsInTurn, IsKnown, Knows, Line, Meanings, Place}
use Rattle.nf_turn.specs.Steps.{SetsBell}
use Rattle.nf_turn.specs.Turns.{IsJoined}
use Rattle.nf_turn.specs.declared.view.Memory.{Memory}
use Rattle.nf_turn.specs.declared.view.View.{View}
use Rattle.nf_turn.specs.declared.view.View.TheVariants.{Spent, Idle, Waiting, Holding}

-- what holds of a seat's new view, and of each other view, holds of each
pub views_stay : {V : Type 0} (P : ℕ → V → Type 0) (views : List V) (id : ℕ) (view : V) → P id view → ((j : ℕ) (v : V) → j ≢ id → get_elem? views j ≡ some v → P j v)
    → (j : ℕ) (v : V) → get_elem? (set views id view) j ≡ some v → P j v
views_stay {V} P views id view mine others j v at = ⊎_elim
    (λ (t : (j ≡ id) × (view ≡ v)). subst (λ (x : ℕ × V). P x.0 x.1) (λ i. (sym t.0 i, t.1 i)) mine)
    (λ (t : (j ≢ id) × (get_elem? views j ≡ some v)). others j v t.0 t.1)
    (at_set views id j view v at)

module _ {E O W : Type 0} (book : Meanings E O W) where
  -- the line goes from old to new, and the table's seat id takes no part
  pub record LeavesAlone (old new : Line W) (id : ℕ) : Type 0 where
    pub numbers : (n : ℕ) → n < old.fresh → old.place n ≡ id → (new.place n ≡ id) × (new.waits n ≡ old.waits n) × (new.turn n ≡ old.turn n)
    pub fresh : old.fresh ≤ new.fresh
    pub gives : id ≡ old.giver → (id ≡ new.giver) × (new.fresh ≡ old.fresh)
    pub free : (n : ℕ) → 0 < n → n < old.fresh → old.place n ≡ id → old.holder ≢ n → new.holder ≢ n
    pub holds : (n : ℕ) → 0 < n → n < old.fresh → old.place n ≡ id → old.holder ≡ n → (new.holder ≡ n) × (new.value ≡ old.value)
    pub sole : (n : ℕ) → 0 < n → n < old.fresh → old.place n ≡ id → new.fresh ≡ 2 → new.value ≡ old.value
    pub grew : (w : W) → Grows book w old.value → Grows book w new.value
    pub without : (n : ℕ) (w : W) → n < old.fresh → old.place n ≡ id → GrowsWithout book n w old.value → GrowsWithout book n w new.value

  pub grew_stays : (old new : W) → ((w : W) → Grows book w old → Grows book w new) → (olds : List W) → GrewFrom book old olds → GrewFrom book new olds
  grew_stays old new more [] h = tt
  grew_stays old new more (w ∷ ws) h = (more w h.0, grew_stays old new more ws h.1)

  pub joined_stay : (old new : Line W) (id n : ℕ) → ((seat : ℕ × W) → IsJoined book old id n seat → IsJoined book new id n seat)
      → (joined : List (ℕ × W)) → AreJoined book old id n joined → AreJoined book new id n joined
  joined_stay old new id n each [] h = tt
  joined_stay old new id n each (seat ∷ seats) h = (each seat h.0, h.1, joined_stay old new id n each seats h.2)

  module _ (seats : ℕ) (origin : W) where
    known_stays : (old new : Line W) (id : ℕ) → LeavesAlone old new id → (k : Memory W) → IsKnown book seats origin old id k → IsKnown book seats origin new id k
    known_stays old new id leaves k h = let up = leaves.fresh in let low = h.low in let given = h.given in record {
      low = low;
      given = omega arith;
      its = (leaves.numbers k.number h.given h.its).0;
      all = h.all;
      first = h.first;
      known = leaves.grew k.known h.known;
      own = leaves.without k.number k.last h.given h.its h.own;
      passed = grew_stays old.value new.value leaves.grew k.passed h.passed;
      told = grew_stays old.value new.value leaves.grew k.told h.told;
      left = λ some_left. let was = h.left some_left in let is = leaves.gives was.0 in (is.0, is.1 ∙ was.1, was.2);
      joined = joined_stay old new id k.number (λ seat j. let is = leaves.numbers seat.0 j.2 j.4 in let below = j.2 in (j.0, j.1, omega arith, is.1 ∙ j.3, is.0, leaves.without seat.0 seat.1 j.2 j.4 j.5)) k.joined h.joined;
      last = h.last;
      heard = h.heard;
      sole = λ alone. let was = h.sole (omega arith) in let same = sym (leaves.sole k.number low given h.its alone) in (was.0 ∙ same, was.1 ∙ same);
    }

    pub others_stay : (old new : Line W) (id : ℕ) → LeavesAlone old new id → (view : View W) → Knows book seats origin old id view → Knows book seats origin new id view
    others_stay old new id leaves Spent h = tt
    others_stay old new id leaves (Idle k) h = (known_stays old new id leaves k h.0, (leaves.numbers k.number h.0.given h.0.its).1 ∙ h.1)
    others_stay old new id leaves (Waiting turn k) h =
        let is = leaves.numbers k.number h.0.given h.0.its in
        (known_stays old new id leaves k h.0, is.1 ∙ h.1, h.2 ∙ ap (λ (z : ℕ). z % 2 ^ 64) (sym is.2), leaves.free k.number h.0.low h.0.given h.0.its h.3)
    others_stay old new id leaves (Holding value k) h =
        let is = leaves.holds k.number h.0.low h.0.given h.0.its h.1 in
        (known_stays old new id leaves k h.0, is.0, h.2 ∙ sym is.1)

    -- the table after a step on the word i by the seat id, which leaves all others alone
    pub steps : (s : State (Option W) (View W)) (rule : IsInTurn book seats origin s) (new : Line W) (id i word : ℕ) (homes : List (maybe.Option (Option W))) (view : View W)
        → set s.words i word ≡ new.drawn % 2 ^ 64 ∷ new.passed_on % 2 ^ 64 ∷ rule.bells → homes ≡ home_of new.holder new.value → InOrder book seats origin new → Knows book seats origin new id view
        → ((j : ℕ) → j ≢ id → LeavesAlone rule.line new j) → IsInTurn book seats origin record { words = set s.words i word; homes = homes; views = set s.views id view }
    steps s rule new id i word homes view words home order mine leaves = record {
      fresh = rule.fresh;
      line = new;
      bells = rule.bells;
      words = words;
      home = home;
      order = order;
      views = views_stay (Knows book seats origin new) s.views id view mine (λ j v other at. others_stay rule.line new j (leaves j other) v (rule.views j v at));
    }

    -- a step that leaves both turn numbers, and may set a bell
    pub leaves_numbers : (s : State (Option W) (View W)) (rule : IsInTurn book seats origin s) (bells : List ℕ) (id i word : ℕ) (view : View W)
        → set s.words i word ≡ rule.line.drawn % 2 ^ 64 ∷ rule.line.passed_on % 2 ^ 64 ∷ bells → get_elem? s.views id ≡ some view
        → IsInTurn book seats origin record { words = set s.words i word; homes = s.homes; views = set s.views id view }
    leaves_numbers s rule bells id i word view words at = record {
      fresh = rule.fresh;
      line = rule.line;
      bells = bells;
      words = words;
      home = rule.home;
      order = rule.order;
      views = views_stay (Knows book seats origin rule.line) s.views id view (rule.views id view at) (λ j v _. rule.views j v);
    }

    -- one that only reads a word
    pub reads : (s : State (Option W) (View W)) (rule : IsInTurn book seats origin s) (i id : ℕ) (view : View W) → get_elem? s.views id ≡ some view
        → IsInTurn book seats origin record { words = set s.words i (get_or s.words i 0); homes = s.homes; views = set s.views id view }
    reads s rule i id view at = leaves_numbers s rule rule.bells id i (get_or s.words i 0) view (set-get_or s.words i 0 ∙ rule.words) at

    -- any seat may set a bell
    pub may_set : (slots id i word : ℕ) (me : Place W) → 1 < i → Allows (IsInTurn book seats origin) slots id me i (λ _. word) (SetsBell (step slots i word 0 none) me)
    may_set slots id zero word me bell s rule _ at _ = absurd (omega arith)
    may_set slots id (suc zero) word me bell s rule _ at _ = absurd (omega arith)
    may_set slots id (suc (suc j)) word me bell s rule _ at _ =
        (me.0, keeps, tt, leaves_numbers s rule (set rule.bells j word) id (suc (suc j)) word me.0 (ap (λ ws. set ws (suc (suc j)) word) rule.words) at, refl)

-- another seat's number is not this one's
pub other_number : {W : Type 0} (line : Line W) (id j n m : ℕ) → line.place n ≡ id → j ≢ id → line.place m ≡ j → m ≢ n
other_number line id j n m its other at same = other (sym at ∙ ap line.place same ∙ its)
