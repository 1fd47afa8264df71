-- The number that digits tell, digit by digit.
use Rattle.std.proofs.Common.{ℕ, zero, suc, ◌+◌, ◌-◌, ◌*◌, ◌<◌, ◌≡◌, List, [], ◌∷◌, get_or, length, min, take, refl, sym, ap, ◌∙◌, arith}
use Rattle.std.proofs.Math.Numerals.{add-one}
use Rattle.nf_words.specs.Uploads.{number_on}

-- with one digit more
digit_more : (number : ℕ) (bytes : List ℕ) (i d : ℕ) → i < length bytes
    → number_on number (take (suc i) bytes) ≡ number_on number (take i bytes) * 10 + (get_or bytes i d - 48)
digit_more number [] i d within = absurd (omega arith)
digit_more number (byte ∷ bytes) zero d within = refl
digit_more number (byte ∷ bytes) (suc i) d within = digit_more (number * 10 + (byte - 48)) bytes i d (omega arith)

-- what is above a bound stays above it
capped_more : (number digit most : ℕ) → min (min number most * 10 + digit) most ≡ min (number * 10 + digit) most
capped_more number digit most = omega arith

-- so the number needn't be told beyond it
pub digit_step : (bytes : List ℕ) (i d number next most : ℕ) → i < length bytes → number ≡ min (number_on 0 (take i bytes)) most
    → next ≡ min (number * 10 + (get_or bytes i d - 48)) most → next ≡ min (number_on 0 (take (i + 1) bytes)) most
digit_step bytes i d number next most within so_far is =
    is
    ∙ ap (λ (n : ℕ). min (n * 10 + (get_or bytes i d - 48)) most) so_far
    ∙ capped_more (number_on 0 (take i bytes)) (get_or bytes i d - 48) most
    ∙ ap (λ (n : ℕ). min n most) (sym (digit_more 0 bytes i d within) ∙ ap (λ (k : ℕ). number_on 0 (take k bytes)) (sym (add-one i)))
