-- The words behind `generate`.
use Rattle.std.proofs.Common.{◌≡◌, ◌∙◌, ℕ, List, [], ◌∷◌, map, length, drop, get_or, Option, None, Some, MatchOption, codes, sym, ap, subst, arith, inl, inr}
use Rattle.std.specs.Prelude.{decimal}
use Rattle.std.proofs.lemmas.List.{length-map}
use Rattle.nf_command.specs.Behind.{AreNumbers}
use Rattle.nf_command.specs.Command.{IsCommand, IsGenerate}
use Rattle.nf_command.proofs.Words.{begins, serve_begins}

is_generate : (seed count : List ℕ) (n m : ℕ) → AreNumbers seed count n m → IsGenerate (codes "generate" ∷ seed ∷ count ∷ []) n m
is_generate seed count n m are = record {
  spelled = ap (λ (w : List ℕ). codes "generate" ∷ w ∷ count ∷ []) are.seed_is
      ∙ ap (λ (w : List ℕ). codes "generate" ∷ decimal n ∷ w ∷ []) are.count_is;
  fits = are.fits;
  some = are.some;
  few = are.few;
}

are_numbers : (seed count : List ℕ) (n m : ℕ) → IsGenerate (codes "generate" ∷ seed ∷ count ∷ []) n m → AreNumbers seed count n m
are_numbers seed count n m is = record {
  seed_is = ap (λ (words : List (List ℕ)). get_or words 1 []) is.spelled;
  count_is = ap (λ (words : List (List ℕ)). get_or words 2 []) is.spelled;
  fits = is.fits;
  some = is.some;
  few = is.few;
}

-- two words behind it are one as their numbers are
pub are_listed : (words : List (List ℕ)) (seed count : List ℕ) (r : Option (ℕ × ℕ)) → words ≡ seed ∷ count ∷ []
    → MatchOption r ((n m : ℕ) → AreNumbers seed count n m → ⊥) (λ it. AreNumbers seed count it.0 it.1)
    → MatchOption r ((n m : ℕ) → IsGenerate (codes "generate" ∷ words) n m → ⊥) (λ it. IsGenerate (codes "generate" ∷ words) it.0 it.1)
are_listed words seed count None two none = λ n m is.
    none n m (are_numbers seed count n m (subst (λ (ws : List (List ℕ)). IsGenerate (codes "generate" ∷ ws) n m) two is))
are_listed words seed count (Some it) two are =
    subst (λ (ws : List (List ℕ)). IsGenerate (codes "generate" ∷ ws) it.0 it.1) (sym two) (is_generate seed count it.0 it.1 are)

-- there are two
pub two_words : {S : Type 0} (f : S → List ℕ) (words : List S) (seed count : ℕ) → IsGenerate (codes "generate" ∷ map f words) seed count
    → (length words ≡ 2 → ⊥) → ⊥
two_words f words seed count is never =
    never (sym (length-map words f) ∙ ap (λ (ws : List (List ℕ)). length (drop 1 ws)) is.spelled)

-- words behind `generate` are a command only as a `generate`
pub only_generate : (words : List (List ℕ)) → ((seed count : ℕ) → IsGenerate (codes "generate" ∷ words) seed count → ⊥)
    → IsCommand (codes "generate" ∷ words) → ⊥
only_generate words none (inl batch) = omega (arith, ap begins batch)
only_generate words none (inr (inl init)) = omega (arith, ap begins init.3.spelled)
only_generate words none (inr (inr (inl serve))) = omega (arith, serve_begins _ serve.0 serve.1.spelled)
only_generate words none (inr (inr (inr (inl sweep)))) = omega (arith, ap begins sweep)
only_generate words none (inr (inr (inr (inr list)))) = none list.0 list.1 list.2
