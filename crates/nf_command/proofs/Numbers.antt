-- A word is a number's digits exactly where it is bare and parses.
use Rattle.std.proofs.Common.{◌≡◌, ◌<◌, ◌^◌, ◌∙◌, ℕ, zero, suc, List, [], ◌∷◌, length, get_or, true, Result, Ok, arith, refl, sym, ap, subst}
use Rattle.std.specs.Prelude.{decimal}
use Rattle.std.specs.Result.{OkIff}
use Rattle.std.specs.Str.{all_ascii_digits}
use Rattle.std.specs.Str.Parse.{digits_value, ParsesUnsigned}
use Rattle.std.proofs.lemmas.Fmt.{decimal_digit, decimal-digits_value, first_decimal}
use Rattle.std.proofs.lemmas.Str.Parse.{IsNumeralModel, numerals_by_value, parse_plain, tells_all_ascii_digits}
use Rattle.nf_command.specs.Numbers.{IsBare}

own : IsNumeralModel (λ ds. all_ascii_digits ds ≡ true) (digits_value 10)
own = numerals_by_value _ tells_all_ascii_digits

-- what was parsed is written so
pub bare_is_decimal : {E : Type 0} (word : List ℕ) (n : ℕ) (r : Result ℕ E) → IsBare word → ParsesUnsigned 64 10 word r → r ≡ Ok n
    → word ≡ decimal n
bare_is_decimal {E = E} word n r bare parses is =
    let read : OkIff r ((all_ascii_digits word ≡ true) × (0 < length word) × (digits_value 10 word < 2 ^ 64)) (digits_value 10 word) =
    parse_plain own 64 word r parses bare.no_sign in
    let ok : ((all_ascii_digits word ≡ true) × (0 < length word) × (digits_value 10 word < 2 ^ 64)) × (n ≡ digits_value 10 word) =
    subst (λ (s : Result ℕ E). OkIff s ((all_ascii_digits word ≡ true) × (0 < length word) × (digits_value 10 word < 2 ^ 64)) (digits_value 10 word)) is read in
    sym (ap decimal ok.1 ∙ decimal-digits_value own word ok.0.0 ok.0.1 bare.no_zero ok.0.2)

zero_is_bare : IsBare (48 ∷ [])
zero_is_bare = record { no_sign = λ e. absurd (omega arith); no_zero = λ e. refl }

-- the digits of a number are bare
pub decimal_is_bare : (word : List ℕ) (n : ℕ) → n < 2 ^ 64 → word ≡ decimal n → IsBare word
decimal_is_bare word zero fits is = subst (λ w. IsBare w) (sym (is ∙ decimal_digit 0 (omega arith))) zero_is_bare
decimal_is_bare word (suc n) fits is =
    let above : 48 < get_or word 0 0 = subst (λ (w : List ℕ). 48 < get_or w 0 0) (sym is) (first_decimal (suc n) (omega arith) fits) in
    record { no_sign = λ e. absurd (omega arith); no_zero = λ e. absurd (omega arith) }
