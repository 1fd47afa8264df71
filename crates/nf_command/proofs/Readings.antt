-- The words of a command are read as that command.
use Rattle.std.proofs.Common.{◌≡◌, ◌⊎◌, ◌≤◌, ◌<◌, ◌^◌, ◌∙◌, ℕ, List, [], ◌∷◌, get_or, codes, Option, None, Some, Result, Ok, Err, MatchResult, refl, sym, ap, ap₂, arith, inl, inr}
use Rattle.std.specs.Prelude.{decimal}
use Rattle.std.specs.declared.alloc.AllocError.{AllocError}
use Rattle.std.proofs.lemmas.Fmt.{decimal_injective}
use Rattle.sha2.specs.Sha256.{sha256}
use Rattle.nf_base.specs.declared.limits.TheConstants.{MAX_QUOTA}
use Rattle.nf_generate.specs.declared.messages.TheConstants.{MAX_COUNT}
use Rattle.nf_command.specs.Command.{IsBatch, IsCommand, IsGenerate, IsInit, IsServe, IsSomeGenerate, IsSomeInit, IsSomeServe, IsSweep}
use Rattle.nf_command.specs.Reading.{GivesInit, GivesServe, MayTakeMemory, ReadsCommand}
use Rattle.nf_command.specs.declared.command.Command.{Command}
use Rattle.nf_command.specs.declared.command.Command.TheVariants as commands
use Rattle.nf_command.proofs.Words.{begins, generate_begins, goes_on, is_said, serve_begins, serve_goes_on}

pub batch_is_read : (words : List (List ℕ)) (read : Result (Option Command) AllocError) → IsBatch words → ReadsCommand words read
    → read ≡ Ok (Some commands.Batch)
batch_is_read words (Ok (Some commands.Batch)) batch reads = refl
batch_is_read words (Ok (Some (commands.Init init))) batch reads = absurd (cc (sym batch ∙ reads.1.spelled))
batch_is_read words (Ok (Some (commands.Serve n))) batch reads =
    absurd (omega (arith, serve_begins words n reads.spelled, ap begins batch))
batch_is_read words (Ok (Some commands.Sweep)) batch reads = absurd (omega (arith, ap begins batch, ap begins reads))
batch_is_read words (Ok (Some (commands.Generate seed count))) batch reads =
    absurd (omega (arith, ap begins batch, generate_begins words seed count reads))
batch_is_read words (Ok None) batch reads = absurd (reads (inl batch))
batch_is_read words (Err error) batch (inl reads) = absurd (cc (sym batch ∙ reads.3))
batch_is_read words (Err error) batch (inr reads) = absurd (omega (arith, ap begins batch, ap begins reads.1))

-- the words say one name, one token and one quota
same_init : (name token : List ℕ) (quota : ℕ) (other secret : List ℕ) (number : ℕ) → quota ≤ MAX_QUOTA → number ≤ MAX_QUOTA
    → codes "init" ∷ name ∷ token ∷ decimal quota ∷ [] ≡ codes "init" ∷ other ∷ secret ∷ decimal number ∷ []
    → (name ≡ other) × (token ≡ secret) × (quota ≡ number)
same_init name token quota other secret number few least same = (
  ap (λ (words : List (List ℕ)). get_or words 1 []) same,
  ap (λ (words : List (List ℕ)). get_or words 2 []) same,
  decimal_injective quota number (omega arith) (omega arith) (ap (λ (words : List (List ℕ)). get_or words 3 []) same),
)

pub init_is_read : (words : List (List ℕ)) (name token : List ℕ) (quota : ℕ) (read : Result (Option Command) AllocError)
    → IsInit words name token quota → ReadsCommand words read → GivesInit read name token quota
init_is_read words name token quota (Ok (Some commands.Batch)) is reads = absurd (cc (sym is.spelled ∙ reads))
init_is_read words name token quota (Ok (Some (commands.Init init))) is reads =
    let same = same_init init.name reads.0 init.quota name token quota reads.1.few is.few (sym reads.1.spelled ∙ is.spelled) in
    (same.0, reads.2 ∙ ap sha256 same.1, same.2)
init_is_read words name token quota (Ok (Some (commands.Serve n))) is reads =
    absurd (omega (arith, serve_begins words n reads.spelled, ap begins is.spelled))
init_is_read words name token quota (Ok (Some commands.Sweep)) is reads = absurd (cc (sym is.spelled ∙ reads))
init_is_read words name token quota (Ok (Some (commands.Generate seed count))) is reads =
    absurd (omega (arith, ap begins is.spelled, generate_begins words seed count reads))
init_is_read words name token quota (Ok None) is reads = reads (inr (inl (name, token, quota, is)))
init_is_read words name token quota (Err error) is reads = tt

pub serve_is_read : (words : List (List ℕ)) (n : ℕ) (read : Result (Option Command) AllocError)
    → IsServe words n → ReadsCommand words read → GivesServe read n
serve_is_read words n (Ok (Some commands.Batch)) is reads =
    absurd (omega (arith, serve_begins words n is.spelled, ap begins reads))
serve_is_read words n (Ok (Some (commands.Init init))) is reads =
    absurd (omega (arith, serve_begins words n is.spelled, ap begins reads.1.spelled))
serve_is_read words n (Ok (Some (commands.Serve m))) is reads =
    decimal_injective m n (omega (arith, reads.few)) (omega (arith, is.few)) (is_said words m reads.spelled ∙ sym (is_said words n is.spelled))
serve_is_read words n (Ok (Some commands.Sweep)) is reads =
    absurd (omega (arith, serve_goes_on words n is.spelled, ap goes_on reads))
serve_is_read words n (Ok (Some (commands.Generate seed count))) is reads =
    absurd (omega (arith, serve_begins words n is.spelled, generate_begins words seed count reads))
serve_is_read words n (Ok None) is reads = reads (inr (inr (inl (n, is))))
serve_is_read words n (Err error) is reads = tt

pub sweep_is_read : (words : List (List ℕ)) (read : Result (Option Command) AllocError) → IsSweep words → ReadsCommand words read
    → read ≡ Ok (Some commands.Sweep)
sweep_is_read words (Ok (Some commands.Batch)) sweep reads = absurd (omega (arith, ap begins sweep, ap begins reads))
sweep_is_read words (Ok (Some (commands.Init init))) sweep reads = absurd (cc (sym sweep ∙ reads.1.spelled))
sweep_is_read words (Ok (Some (commands.Serve n))) sweep reads =
    absurd (omega (arith, serve_goes_on words n reads.spelled, ap goes_on sweep))
sweep_is_read words (Ok (Some commands.Sweep)) sweep reads = refl
sweep_is_read words (Ok (Some (commands.Generate seed count))) sweep reads =
    absurd (omega (arith, ap begins sweep, generate_begins words seed count reads))
sweep_is_read words (Ok None) sweep reads = absurd (reads (inr (inr (inr (inl sweep)))))
sweep_is_read words (Err error) sweep (inl reads) = absurd (cc (sym sweep ∙ reads.3))
sweep_is_read words (Err error) sweep (inr reads) = absurd (omega (arith, ap goes_on sweep, ap goes_on reads.1))

-- the words say one seed and one count
same_list : (seed count other number : ℕ) → seed < 2 ^ 64 → other < 2 ^ 64 → count ≤ MAX_COUNT → number ≤ MAX_COUNT
    → codes "generate" ∷ decimal seed ∷ decimal count ∷ [] ≡ codes "generate" ∷ decimal other ∷ decimal number ∷ []
    → (seed ≡ other) × (count ≡ number)
same_list seed count other number fits also few least same = (
  decimal_injective seed other fits also (ap (λ (words : List (List ℕ)). get_or words 1 []) same),
  decimal_injective count number (omega arith) (omega arith) (ap (λ (words : List (List ℕ)). get_or words 2 []) same),
)

pub generate_is_read : (words : List (List ℕ)) (seed count : ℕ) (read : Result (Option Command) AllocError)
    → IsGenerate words seed count → ReadsCommand words read → read ≡ Ok (Some (commands.Generate seed count))
generate_is_read words seed count (Ok (Some commands.Batch)) is reads =
    absurd (omega (arith, generate_begins words seed count is, ap begins reads))
generate_is_read words seed count (Ok (Some (commands.Init init))) is reads =
    absurd (omega (arith, generate_begins words seed count is, ap begins reads.1.spelled))
generate_is_read words seed count (Ok (Some (commands.Serve n))) is reads =
    absurd (omega (arith, generate_begins words seed count is, serve_begins words n reads.spelled))
generate_is_read words seed count (Ok (Some commands.Sweep)) is reads =
    absurd (omega (arith, generate_begins words seed count is, ap begins reads))
generate_is_read words seed count (Ok (Some (commands.Generate other number))) is reads =
    let same = same_list other number seed count reads.fits is.fits reads.few is.few (sym reads.spelled ∙ is.spelled) in
    ap₂ (λ s n. Ok (Some (commands.Generate s n))) same.0 same.1
generate_is_read words seed count (Ok None) is reads = absurd (reads (inr (inr (inr (inr (seed, count, is))))))
generate_is_read words seed count (Err error) is (inl reads) =
    absurd (omega (arith, generate_begins words seed count is, ap begins reads.3))
generate_is_read words seed count (Err error) is (inr reads) =
    absurd (omega (arith, generate_begins words seed count is, ap begins reads.1))

no_other : (words : List (List ℕ)) → IsSweep words → IsBatch words ⊎ (IsSomeInit words ⊎ IsSomeServe words) → ⊥
no_other words sweep (inl batch) = omega (arith, ap begins sweep, ap begins batch)
no_other words sweep (inr (inl init)) = omega (arith, ap begins sweep, ap begins init.3.spelled)
no_other words sweep (inr (inr serve)) = omega (arith, serve_goes_on words serve.0 serve.1.spelled, ap goes_on sweep)

no_other_list : (words : List (List ℕ)) → IsSomeGenerate words
    → IsBatch words ⊎ (IsSomeInit words ⊎ (IsSomeServe words ⊎ IsSweep words)) → ⊥
no_other_list words list (inl batch) = omega (arith, generate_begins words list.0 list.1 list.2, ap begins batch)
no_other_list words list (inr (inl init)) = omega (arith, generate_begins words list.0 list.1 list.2, ap begins init.3.spelled)
no_other_list words list (inr (inr (inl serve))) =
    omega (arith, generate_begins words list.0 list.1 list.2, serve_begins words serve.0 serve.1.spelled)
no_other_list words list (inr (inr (inr sweep))) = omega (arith, generate_begins words list.0 list.1 list.2, ap begins sweep)

pub commands_exclude : (words : List (List ℕ))
    → (IsBatch words → IsSomeInit words → ⊥) × (IsBatch words → IsSomeServe words → ⊥) × (IsSomeInit words → IsSomeServe words → ⊥)
    × (IsSweep words → IsBatch words ⊎ (IsSomeInit words ⊎ IsSomeServe words) → ⊥)
    × (IsSomeGenerate words → IsBatch words ⊎ (IsSomeInit words ⊎ (IsSomeServe words ⊎ IsSweep words)) → ⊥)
commands_exclude words = (
  λ batch init. init_is_read words init.0 init.1 init.2 (Ok (Some commands.Batch)) init.3 batch,
  λ batch serve. serve_is_read words serve.0 (Ok (Some commands.Batch)) serve.1 batch,
  λ init serve. init_is_read words init.0 init.1 init.2 (Ok (Some (commands.Serve serve.0))) init.3 serve.1,
  no_other words,
  no_other_list words,
)

pub others_are_refused : (words : List (List ℕ)) (read : Result (Option Command) AllocError) → (IsCommand words → ⊥)
    → ReadsCommand words read → MatchResult read (λ command. command ≡ None) (λ error. MayTakeMemory words)
others_are_refused words (Ok (Some commands.Batch)) none reads = absurd (none (inl reads))
others_are_refused words (Ok (Some (commands.Init init))) none reads =
    absurd (none (inr (inl (init.name, reads.0, init.quota, reads.1))))
others_are_refused words (Ok (Some (commands.Serve n))) none reads = absurd (none (inr (inr (inl (n, reads)))))
others_are_refused words (Ok (Some commands.Sweep)) none reads = absurd (none (inr (inr (inr (inl reads)))))
others_are_refused words (Ok (Some (commands.Generate seed count))) none reads =
    absurd (none (inr (inr (inr (inr (seed, count, reads))))))
others_are_refused words (Ok None) none reads = refl
others_are_refused words (Err error) none reads = reads
