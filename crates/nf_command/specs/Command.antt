-- The words of the command line: what is a command, and what isn't.
use Rattle.std.specs.Prelude.{◌≡◌, ◌⊎◌, ℕ, ◌≤◌, ◌<◌, ◌^◌, All, List, [], ◌∷◌, ◌++◌, codes, decimal, length, slice_index}
use Rattle.nf_command.specs.declared.command.TheConstants.{MAX_TOKEN}
use Rattle.nf_command.specs.declared.options.TheConstants.{DEFAULT_CONNECTIONS, MAX_CONNECTIONS}
use Rattle.nf_base.specs.declared.limits.TheConstants.{MAX_QUOTA}
use Rattle.nf_base.specs.Naming.{IsName}
use Rattle.nf_generate.specs.declared.messages.TheConstants.{MAX_COUNT}

abbrev pub IsBatch : List (List ℕ) → Type 0
IsBatch words = words ≡ codes "batch" ∷ []

-- from 1 to 128 visible ASCII bytes
pub record IsSecret (token : List ℕ) : Type 0 where
  pub some : 1 ≤ length token
  pub few : length token ≤ MAX_TOKEN
  pub visible : All (λ byte. (33 ≤ byte) × (byte ≤ 126)) token

-- it begins with a dash, as an option does; there is none
abbrev pub IsOption : List ℕ → Type 0
IsOption word = slice_index word 0 ≡ 45

-- the first administrator's name and token, and the quota as its digits, without a sign or a leading zero
pub record IsInit (words : List (List ℕ)) (name token : List ℕ) (quota : ℕ) : Type 0 where
  pub spelled : words ≡ codes "init" ∷ name ∷ token ∷ decimal quota ∷ []
  pub named : IsName name
  pub secret : IsSecret token
  pub no_option : (IsOption name → ⊥) × (IsOption token → ⊥)
  pub few : quota ≤ MAX_QUOTA

abbrev pub IsSomeInit : List (List ℕ) → Type 0
IsSomeInit words = (name : List ℕ) × (token : List ℕ) × (quota : ℕ) × IsInit words name token quota

-- no number is said, or by its digits, without a sign or a leading zero, behind the option or joined to it
abbrev pub SaysServe : List (List ℕ) → ℕ → Type 0
SaysServe words n = ((words ≡ codes "serve" ∷ []) × (n ≡ DEFAULT_CONNECTIONS))
    ⊎ ((words ≡ codes "serve" ∷ codes "--connections" ∷ decimal n ∷ [])
    ⊎ (words ≡ codes "serve" ∷ (codes "--connections=" ++ decimal n) ∷ []))

-- by each worker at most so many connections
pub record IsServe (words : List (List ℕ)) (n : ℕ) : Type 0 where
  pub spelled : SaysServe words n
  pub some : 1 ≤ n
  pub few : n ≤ MAX_CONNECTIONS

abbrev pub IsSomeServe : List (List ℕ) → Type 0
IsSomeServe words = (n : ℕ) × IsServe words n

abbrev pub IsSweep : List (List ℕ) → Type 0
IsSweep words = words ≡ codes "sweep" ∷ []

-- the seed, of 64 bits, and how many messages, each as its digits, without a sign or a leading zero
pub record IsGenerate (words : List (List ℕ)) (seed count : ℕ) : Type 0 where
  pub spelled : words ≡ codes "generate" ∷ decimal seed ∷ decimal count ∷ []
  pub fits : seed < 2 ^ 64
  pub some : 1 ≤ count
  pub few : count ≤ MAX_COUNT

abbrev pub IsSomeGenerate : List (List ℕ) → Type 0
IsSomeGenerate words = (seed : ℕ) × (count : ℕ) × IsGenerate words seed count

abbrev pub IsCommand : List (List ℕ) → Type 0
IsCommand words = IsBatch words ⊎ (IsSomeInit words ⊎ (IsSomeServe words ⊎ (IsSweep words ⊎ IsSomeGenerate words)))
