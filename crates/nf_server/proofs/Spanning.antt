-- A seat that was whole is whole again once all that were split off from it were joined into it.
use Rattle.std.proofs.Common.{◌≡◌, ◌⊎◌, ⊎_elim, inl, inr, ℕ, suc, ◌+◌, ◌-◌, ◌<◌, ◌≤◌, true, ◌==◌, eq-eqb, List, [], ◌∷◌, ◌++◌, if◌then◌else◌, refl, sym, ◌∙◌, ap, subst, arith, length}
use mathlib.Core.Logic.{dite}
use native.Mathlib.Decide.{ℕ_discrete}
use Rattle.std.proofs.lemmas.Bool.{ne_eqb, or_right}
use Rattle.nf_desk.specs.Desk.{Served, meanings}
use Rattle.nf_keeper.specs.declared.keeper.Keeper.{Ghosts as KeeperOf}
use Rattle.nf_outside.specs.Lent.{Lent, Taken}
use Rattle.nf_outside.specs.declared.traits.Ends.{Ghosts as EndsOf}
use Rattle.nf_turn.proofs.Left.{IsLeft}
use Rattle.nf_turn.proofs.Whole.{has_so, ways}
use Rattle.nf_turn.specs.Prelude.{has_number, having_joined, having_split, is_joined, IsWhole, longer, Numbers, numbers_of, split_from}
use Rattle.nf_turn.specs.declared.view.Memory.{Memory}
use Rattle.nf_server.specs.Work.{InTurn, lent_of, Visited, WorkBeside, Works}
use Rattle.nf_server.specs.declared.door.Door.{Ghosts as DoorOf}
use Rattle.nf_server.specs.declared.workers.Worked.{Worked}
use Rattle.nf_server.specs.declared.workers.Worker.{Worker}

-- whatever number the one has, the other has too
pub record Spans {W : Type 0} (k l : Numbers W) : Type 0 where
  pub seats : l.seats ≡ k.seats
  pub has : (n : ℕ) → has_number k n ≡ true → has_number l n ≡ true

pub whole_still : {W : Type 0} (k l : Numbers W) → Spans k l → IsWhole k → IsWhole l
whole_still k l spans whole = λ n low up. spans.has n (whole n low (let same = spans.seats in omega arith))

-- what it has left it has, whichever next number it keeps
left_still : (left next other n : ℕ) → next ≤ n → n < next + left → (if left == 0 then other else next) ≡ next
left_still left next other n low up = simp (ne_eqb left 0 (λ none. absurd (omega arith))) refl

module _ {W : Type 0} where
  joined_first : (n number : ℕ) (value : W) (rest : List (ℕ × W)) → n ≡ number → is_joined n ((number, value) ∷ rest) ≡ true
  joined_first n number value rest same = simp (eq-eqb number n (sym same)) refl

  joined_behind : (n number : ℕ) (value : W) (rest : List (ℕ × W)) → is_joined n rest ≡ true → is_joined n ((number, value) ∷ rest) ≡ true
  joined_behind n number value rest is = or_right (number == n) (is_joined n rest) is

  module _ (pick : W → W → W) (m mine others : Memory W) (its : numbers_of mine ≡ numbers_of (split_from m))
      (spans : Spans (numbers_of (having_split m)) (numbers_of others)) where
    abbrev pub both : Memory W
    both = having_joined pick others mine

    no_joined : mine.joined ≡ []
    no_joined = ap (λ (k : Numbers W). k.joined) its

    none_left : mine.left ≡ 0
    none_left = ap (λ (k : Numbers W). k.left) its

    its_number : mine.number ≡ m.next
    its_number = ap (λ (k : Numbers W). k.number) its

    from_others : (n : ℕ) → has_number (numbers_of others) n ≡ true → has_number (numbers_of both) n ≡ true
    from_others n has =
        has_so (numbers_of both) n
        (⊎_elim (λ (own : n ≡ others.number). inl own)
        (λ (more : IsLeft (numbers_of others) n ⊎ (is_joined n others.joined ≡ true)). inr (⊎_elim
        (λ (left : IsLeft (numbers_of others) n). let low = left.0 in let up = left.1 in let next = left_still others.left others.next mine.next n low up in inl (omega (arith, next), omega (arith, next, none_left)))
        (λ (joined : is_joined n others.joined ≡ true). inr (joined_behind n mine.number mine.last (mine.joined ++ others.joined)
        (subst (λ (z : List (ℕ × W)). is_joined n (z ++ others.joined) ≡ true) (sym no_joined) joined)))
        more))
        (ways (numbers_of others) n has))

    pub joined_spans : Spans (numbers_of m) (numbers_of both)
    joined_spans = record {
      seats = spans.seats;
      has =
          λ n has. ⊎_elim
          (λ (own : n ≡ m.number). from_others n (spans.has n (has_so (numbers_of (having_split m)) n (inl own))))
          (λ (more : IsLeft (numbers_of m) n ⊎ (is_joined n m.joined ≡ true)). ⊎_elim
          (λ (left : IsLeft (numbers_of m) n). dite (ℕ_discrete n m.next)
          (λ first. has_so (numbers_of both) n (inr (inr (joined_first n mine.number mine.last (mine.joined ++ others.joined) (first ∙ sym its_number)))))
          (λ later. let low = left.0 in let up = left.1 in from_others n (spans.has n (has_so (numbers_of (having_split m)) n (inr (inl (omega arith, omega arith)))))))
          (λ (joined : is_joined n m.joined ≡ true). from_others n (spans.has n (has_so (numbers_of (having_split m)) n (inr (inr joined)))))
          more)
          (ways (numbers_of m) n has);
    }

-- what is left to a seat from which so many were split off and joined into it again: its own number, what it passed on last, and the
-- numbers behind theirs
pub record Numbered {W : Type 0} (m n : Memory W) (count : ℕ) : Type 0 where
  pub number : n.number ≡ m.number
  pub last : n.last ≡ m.last
  pub left : n.left + count ≡ m.left
  pub next : 0 < n.left → n.next ≡ m.next + count

module _ {W : Type 0} (pick : W → W → W) (m mine others : Memory W) (count : ℕ) (its : numbers_of mine ≡ numbers_of (split_from m))
    (rest : Numbered (having_split m) others count) (some : 0 < m.left) where
  joined_numbers : Numbered m (having_joined pick others mine) (suc count)
  joined_numbers =
      let none : mine.left ≡ 0 = ap (λ (k : Numbers W). k.left) its in
      let left : others.left + count ≡ m.left - 1 = rest.left in
      record {
        number = rest.number;
        last = rest.last;
        left = omega (arith, none, left, some);
        next = λ more.
            let all : 0 < others.left = omega (arith, more, none) in
            let same : (if others.left == 0 then mine.next else others.next) ≡ others.next =
            left_still others.left others.next mine.next others.next (omega arith) (omega (arith, all)) in
            let behind : others.next ≡ (m.next + 1) + count = rest.next all in
            omega (arith, same, behind);
      }

module _ {K S O C Q D : Type 0} (k : KeeperOf K) (s : EndsOf S) (o : EndsOf O) (reads : Lent C Q → Taken → Lent C Q → Type 0) (door : DoorOf D S O) where
  numbers_stay : (m : Memory (Served K)) (c : Lent C Q) (visits : List (Visited K S O C Q)) (n : Memory (Served K)) (d : Lent C Q)
      → InTurn k s o reads m c visits n d → numbers_of n ≡ numbers_of m
  numbers_stay m c [] n d so = ap (λ (x : Memory (Served K)). numbers_of x) so.0
  numbers_stay m c (v ∷ visits) n d so =
      numbers_stay v.memory v.lent visits n d so.1 ∙ ap (λ (x : Memory (Served K)). numbers_of x) so.0.steady_is

  pub work_spans : (connections : ℕ) (m n : Memory (Served K)) (before after : List (Worker D C Q)) (result : Worked)
      → WorkBeside (longer (meanings k)) (Works k s o reads door connections) m n before after result → Spans (numbers_of m) (numbers_of n)
  work_spans connections m n [] [] result so =
      subst (λ (x : Memory (Served K)). Spans (numbers_of m) (numbers_of x)) (sym so.0) (record { seats = refl; has = λ n has. has })
  work_spans connections m n [] (b ∷ after) result so = absurd so
  work_spans connections m n (a ∷ before) [] result so = absurd so
  work_spans connections m n (a ∷ before) (b ∷ after) result (mine, others, one, rest, works, beside, is, ends) =
      subst (λ (x : Memory (Served K)). Spans (numbers_of m) (numbers_of x)) (sym is)
      (joined_spans (longer (meanings k)) m mine others
      (numbers_stay (split_from m) (lent_of a) works.visits mine (lent_of b) works.in_turn)
      (work_spans connections (having_split m) others before after rest beside))

  -- the first value stays
  pub work_begins : (connections : ℕ) (m n : Memory (Served K)) (before after : List (Worker D C Q)) (result : Worked)
      → WorkBeside (longer (meanings k)) (Works k s o reads door connections) m n before after result → n.first ≡ m.first
  work_begins connections m n [] [] result so = ap (λ (x : Memory (Served K)). x.first) so.0
  work_begins connections m n [] (b ∷ after) result so = absurd so
  work_begins connections m n (a ∷ before) [] result so = absurd so
  work_begins connections m n (a ∷ before) (b ∷ after) result (mine, others, one, rest, works, beside, is, ends) =
      ap (λ (x : Memory (Served K)). x.first) is ∙ work_begins connections (having_split m) others before after rest beside

  pub work_numbers : (connections : ℕ) (m n : Memory (Served K)) (before after : List (Worker D C Q)) (result : Worked)
      → WorkBeside (longer (meanings k)) (Works k s o reads door connections) m n before after result → length before ≤ m.left
      → Numbered m n (length before)
  work_numbers connections m n [] [] result so few =
      subst (λ (x : Memory (Served K)). Numbered m x 0) (sym so.0)
      (record { number = refl; last = refl; left = omega arith; next = λ some. omega arith })
  work_numbers connections m n [] (b ∷ after) result so few = absurd so
  work_numbers connections m n (a ∷ before) [] result so few = absurd so
  work_numbers connections m n (a ∷ before) (b ∷ after) result (mine, others, one, rest, works, beside, is, ends) few =
      subst (λ (x : Memory (Served K)). Numbered m x (suc (length before))) (sym is)
      (joined_numbers (longer (meanings k)) m mine others (length before)
      (numbers_stay (split_from m) (lent_of a) works.visits mine (lent_of b) works.in_turn)
      (work_numbers connections (having_split m) others before after rest beside (omega (arith, few))) (omega (arith, few)))
