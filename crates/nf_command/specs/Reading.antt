-- What is read from the words of the command line.
use Rattle.std.specs.Prelude.{◌≡◌, ◌⊎◌, ℕ, ◌≤◌, List, [], ◌∷◌, codes, decimal, Option, None, Some, Result, Ok, Err}
use Rattle.std.specs.declared.alloc.AllocError.{AllocError}
use Rattle.sha2.specs.Sha256.{sha256}
use Rattle.nf_base.specs.declared.limits.TheConstants.{MAX_QUOTA}
use Rattle.nf_command.specs.Command.{IsBatch, IsCommand, IsGenerate, IsInit, IsOption, IsSecret, IsServe, IsSweep}
use Rattle.nf_command.specs.declared.command.Command.{Command}
use Rattle.nf_command.specs.declared.command.Command.TheVariants as commands
use Rattle.nf_command.specs.declared.command.Init.{Init}

-- the words are those of an `init` of these, whose token has that digest
abbrev pub IsInitOf : List (List ℕ) → Init → Type 0
IsInitOf words init = (token : List ℕ) × (IsInit words init.name token init.quota) × (init.token ≡ sha256 token)

-- the words are those of an `init`, but for the name, which may be none
abbrev pub IsNearlyInit : List (List ℕ) → Type 0
IsNearlyInit words =
    (name : List ℕ) × (token : List ℕ) × (quota : ℕ) × (words ≡ codes "init" ∷ name ∷ token ∷ decimal quota ∷ [])
    × IsSecret token × (quota ≤ MAX_QUOTA) × ((IsOption name → ⊥) × (IsOption token → ⊥))

-- the first is that of a `serve`
abbrev pub BeginsServe : List (List ℕ) → Type 0
BeginsServe words = (others : List (List ℕ)) × (words ≡ codes "serve" ∷ others)

-- reading them may take memory
abbrev pub MayTakeMemory : List (List ℕ) → Type 0
MayTakeMemory words = IsNearlyInit words ⊎ BeginsServe words

-- the command that the words are. Memory can be wanting only for an `init` that is right but for its name, or behind `serve`
abbrev pub ReadsCommand : List (List ℕ) → Result (Option Command) AllocError → Type 0
ReadsCommand words (Ok (Some commands.Batch)) = IsBatch words
ReadsCommand words (Ok (Some (commands.Init init))) = IsInitOf words init
ReadsCommand words (Ok (Some (commands.Serve connections))) = IsServe words connections
ReadsCommand words (Ok (Some commands.Sweep)) = IsSweep words
ReadsCommand words (Ok (Some (commands.Generate seed count))) = IsGenerate words seed count
ReadsCommand words (Ok None) = IsCommand words → ⊥
ReadsCommand words (Err error) = MayTakeMemory words

-- it is an `init` of these, or memory was wanting
abbrev pub GivesInit : Result (Option Command) AllocError → List ℕ → List ℕ → ℕ → Type 0
GivesInit (Ok (Some commands.Batch)) name token quota = ⊥
GivesInit (Ok (Some (commands.Init init))) name token quota =
    (init.name ≡ name) × (init.token ≡ sha256 token) × (init.quota ≡ quota)
GivesInit (Ok (Some (commands.Serve connections))) name token quota = ⊥
GivesInit (Ok (Some commands.Sweep)) name token quota = ⊥
GivesInit (Ok (Some (commands.Generate seed count))) name token quota = ⊥
GivesInit (Ok None) name token quota = ⊥
GivesInit (Err error) name token quota = Unit {0}

-- it is a `serve` of so many, or memory was wanting
abbrev pub GivesServe : Result (Option Command) AllocError → ℕ → Type 0
GivesServe (Ok (Some (commands.Serve connections))) n = connections ≡ n
GivesServe (Err error) n = Unit {0}
GivesServe other n = ⊥
