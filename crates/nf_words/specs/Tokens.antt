-- The tokens of links.
use Rattle.std.specs.Prelude.{ℕ, zero, suc, ◌+◌, ◌/◌, ◌%◌, nat_lt, List, [], ◌∷◌, ◌++◌, if◌then◌else◌}
use Rattle.nf_words.specs.declared.request.Words.{Words}

-- the letter of a number below 32: `a` to `z`, then `2` to `7`
abbrev pub letter_of : ℕ → ℕ
letter_of number = if nat_lt number 26 then 97 + number else 24 + number

-- so many letters of a word, each of five bits, from the lowest upwards
abbrev pub letters_of : ℕ → ℕ → List ℕ
letters_of zero word = []
letters_of (suc k) word = letter_of (word % 32) ∷ letters_of k (word / 32)

-- the token of a new link: eight letters of each of the two words
unfoldable pub link_token : Words → List ℕ
link_token words = letters_of 8 words.first ++ letters_of 8 words.second
