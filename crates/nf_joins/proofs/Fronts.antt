-- What is so of a history is so of its fronts, and of what stands behind them.
use Rattle.std.proofs.Common.{ℕ, ◌+◌, ◌≡◌, List, [], ◌∷◌, ◌++◌, length, refl, subst, arith}
use Rattle.nf_words.specs.Prelude.{after, IsLegalFrom, replay, State}
use Rattle.nf_words.specs.declared.history.Entry.{Entry}

pub replay_on : (s : State) (es more : List Entry) → replay s (es ++ more) ≡ replay (replay s es) more
replay_on s [] more = refl
replay_on s (e ∷ es) more = replay_on (after s e) es more

pub legal_front : (n : ℕ) (s : State) (es more : List Entry) → IsLegalFrom n s (es ++ more) → IsLegalFrom n s es
legal_front n s [] more legal = tt
legal_front n s (e ∷ es) more legal = (legal.0, legal_front (n + 1) (after s e) es more legal.1)

pub legal_behind : (n : ℕ) (s : State) (es more : List Entry) → IsLegalFrom n s (es ++ more) → IsLegalFrom (n + length es) (replay s es) more
legal_behind n s [] more legal = subst (λ (k : ℕ). IsLegalFrom k s more) (omega arith) legal
legal_behind n s (e ∷ es) more legal =
    subst (λ (k : ℕ). IsLegalFrom k (replay (after s e) es) more) (omega arith) (legal_behind (n + 1) (after s e) es more legal.1)
