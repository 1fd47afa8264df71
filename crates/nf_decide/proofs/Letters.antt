-- The token of a link is a name: sixteen letters and digits.
use Rattle.std.proofs.Common.{◌≡◌, ◌≢◌, ◌<◌, ◌≤◌, ◌+◌, ◌/◌, ◌%◌, ℕ, zero, suc, Bool, true, false, ltb, List, [], ◌∷◌, length, refl, ap, if◌then◌else◌, inl, inr, arith}
use Rattle.std.proofs.Math.Nat.{div-div-eq-div-mul}
use Rattle.std.specs.List.{All}
use Rattle.std.specs.Prelude.{codes}
use Rattle.std.specs.Str.{IsAscii}
use Rattle.std.proofs.lemmas.Bool.{cases_lt, ltb-false, ltb-true}
use Rattle.std.proofs.lemmas.List.{get_or_past, length-append}
use Rattle.std.proofs.lemmas.List.Elements.{All-append, All-cons, All-nil, All-weaker}
use Rattle.std.proofs.lemmas.Str.{IsUtf8-from_ascii}
use Rattle.nf_base.proofs.Naming.{IsName-from_plain}
use Rattle.nf_base.specs.Naming.{IsName}
use Rattle.nf_words.specs.Prelude.{link_token}
use Rattle.nf_words.specs.Tokens.{letter_of, letters_of}
use Rattle.nf_words.specs.declared.request.Words.{Words}

-- from `2` to `z`, and no backslash
record IsLetter (b : ℕ) : Type 0 where
  low : 50 ≤ b
  high : b < 123
  apart : b ≢ 92

letter : (n : ℕ) → n < 32 → IsLetter (letter_of n)
letter n few = here (ltb n 26) refl
  where
    here : (b : Bool) → ltb n 26 ≡ b → IsLetter (if b then 97 + n else 24 + n)
    here true is = let below = ltb-true n 26 is in record { low = omega arith; high = omega arith; apart = λ e. omega arith }
    here false is = let above = ltb-false n 26 is in record { low = omega arith; high = omega arith; apart = λ e. omega arith }

letters : (k word : ℕ) → All IsLetter (letters_of k word)
letters zero word = All-nil IsLetter
letters (suc k) word = All-cons IsLetter (letter_of (word % 32)) (letters_of k (word / 32)) (letter (word % 32) (omega arith)) (letters k (word / 32))

length-letters : (k word : ℕ) → length (letters_of k word) ≡ k
length-letters zero word = refl
length-letters (suc k) word = ap suc (length-letters k (word / 32))

ascii : (bytes : List ℕ) → All IsLetter bytes → IsAscii bytes
ascii bytes all i = elim (cases_lt i (length bytes)) [
  | inl within ↦ (let is = all i 0 within in omega (arith, is.high))
  | inr past ↦ omega (arith, get_or_past bytes i 0 past)
]

-- each five bits are found by one division
pub eight_letters : (word : ℕ) → letters_of 8 word
    ≡ letter_of (word % 32) ∷ letter_of (word / 32 % 32) ∷ letter_of (word / 1024 % 32) ∷ letter_of (word / 32768 % 32)
    ∷ letter_of (word / 1048576 % 32) ∷ letter_of (word / 33554432 % 32) ∷ letter_of (word / 1073741824 % 32)
    ∷ letter_of (word / 34359738368 % 32) ∷ []
eight_letters word = simp div-div-eq-div-mul

-- sixteen letters
record IsToken (bytes : List ℕ) : Type 0 where
  size : length bytes ≡ 16
  all : All IsLetter bytes

token_is : (words : Words) → IsToken (link_token words)
unfolding link_token
token_is words =
    let first = letters_of 8 words.first in
    let second = letters_of 8 words.second in
    record {
      size = omega (arith, length-append first second, length-letters 8 words.first, length-letters 8 words.second);
      all = All-append IsLetter first second (letters 8 words.first) (letters 8 words.second);
    }

of_another_length : (bytes other : List ℕ) → length bytes ≢ length other → bytes ≢ other
of_another_length bytes other apart same = apart (ap length same)

pub token_is_name : (words : Words) → IsName (link_token words)
token_is_name words =
    let bytes = link_token words in
    let is = token_is words in
    IsName-from_plain bytes (record {
      some = omega (arith, is.size);
      short = omega (arith, is.size);
      text = IsUtf8-from_ascii bytes (ascii bytes is.all);
      no_slash = All-weaker IsLetter (λ b. (b ≢ 47) × (b ≢ 92)) (λ b it. (λ e. omega (arith, it.low), it.apart)) bytes is.all;
      no_zero = All-weaker IsLetter (λ b. b ≢ 0) (λ b it e. omega (arith, it.low)) bytes is.all;
      no_dots = (of_another_length bytes (codes ".") (λ e. omega (arith, is.size)), of_another_length bytes (codes "..") (λ e. omega (arith, is.size)));
    })
