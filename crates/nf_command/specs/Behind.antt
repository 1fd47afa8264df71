-- The words behind the first one.
use Rattle.std.specs.Prelude.{◌≡◌, ◌⊎◌, ◌==◌, ◌++◌, ◌≤◌, ◌<◌, ◌^◌, ℕ, Bool, true, false, not, List, [], ◌∷◌, Option, None, Some, codes, decimal}
use Rattle.std.specs.List.{list_all}
use Rattle.nf_base.specs.declared.limits.TheConstants.{MAX_QUOTA}
use Rattle.nf_generate.specs.declared.messages.TheConstants.{MAX_COUNT}
use Rattle.nf_command.specs.Command.{IsSecret}
use Rattle.nf_command.specs.declared.options.TheConstants.{DEFAULT_CONNECTIONS, MAX_CONNECTIONS}

-- it isn't empty, and its first byte is no dash
abbrev pub is_operand : List ℕ → Bool
is_operand [] = false
is_operand (byte ∷ rest) = not (byte == 45)

-- they are these three operands
pub record AreOperands (words : List (List ℕ)) (name token quota : List ℕ) : Type 0 where
  pub spelled : words ≡ name ∷ token ∷ quota ∷ []
  pub all : list_all is_operand words ≡ true

-- the token is right, and the word writes a quota
abbrev pub IsQuota : List ℕ → List ℕ → ℕ → Type 0
IsQuota token word quota = IsSecret token × (word ≡ decimal quota) × (quota ≤ MAX_QUOTA)

-- they are the option of a `serve` with that number, behind it or joined to it, or there is none
abbrev pub AreOption : List (List ℕ) → Option (List ℕ) → Type 0
AreOption words None = words ≡ []
AreOption words (Some number) =
    (words ≡ codes "--connections" ∷ number ∷ []) ⊎ (words ≡ (codes "--connections=" ++ number) ∷ [])

-- it says so many
abbrev pub SaysNumber : Option (List ℕ) → ℕ → Type 0
SaysNumber None n = n ≡ DEFAULT_CONNECTIONS
SaysNumber (Some number) n = (number ≡ decimal n) × (1 ≤ n) × (n ≤ MAX_CONNECTIONS)

-- the words write the seed and the count of a `generate`
pub record AreNumbers (seed_word count_word : List ℕ) (seed count : ℕ) : Type 0 where
  pub seed_is : seed_word ≡ decimal seed
  pub count_is : count_word ≡ decimal count
  pub fits : seed < 2 ^ 64
  pub some : 1 ≤ count
  pub few : count ≤ MAX_COUNT
