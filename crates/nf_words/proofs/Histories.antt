-- A legal history goes on by one entry.
use Rattle.std.proofs.Common.{ℕ, ◌+◌, ◌≡◌, List, [], ◌∷◌, ◌++◌, length, refl, subst, arith}
use Rattle.nf_words.specs.Prelude.{after, IsLegalFrom, MayCome, replay, State}
use Rattle.nf_words.specs.declared.history.Entry.{Entry}

pub legal_more : (n : ℕ) (s : State) (es : List Entry) (e : Entry)
    → IsLegalFrom n s es → MayCome (n + length es) (replay s es) e → IsLegalFrom n s (es ++ e ∷ [])
legal_more n s [] e legal may = (subst (λ (k : ℕ). MayCome k s e) (omega arith) may, tt)
legal_more n s (x ∷ es) e legal may = (
  legal.0,
  legal_more (n + 1) (after s x) es e legal.1 (subst (λ (k : ℕ). MayCome k (replay (after s x) es) e) (omega arith) may),
)

pub replay_more : (s : State) (es : List Entry) (e : Entry) → replay s (es ++ e ∷ []) ≡ after (replay s es) e
replay_more s [] e = refl
replay_more s (x ∷ es) e = replay_more (after s x) es e
