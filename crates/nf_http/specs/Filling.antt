-- What reads into the buffer do.
use Rattle.std.specs.Prelude.{◌≡◌, ℕ, ◌≤◌, List, ◌++◌, length, Option, Result, Ok, Err}
use Rattle.std.specs.Io.KnownBytes.{Consumes, IsAtEnd}
use Rattle.nf_base.specs.declared.limits.TheConstants.{MAX_HEAD}
use Rattle.nf_outside.specs.Causes.{Rose}
use Rattle.nf_http.specs.declared.wire.WireFault.{WireFault}
use Rattle.nf_http.specs.declared.wire.WireFault.TheVariants.{ReadFault}

-- n bytes went from the source to the end of the buffer, and 0 only at the source's end
abbrev pub Fills : List ℕ → List ℕ → Option (List ℕ) → Option (List ℕ) → ℕ → Type 0
Fills old new left rest n =
    (got : List ℕ) × (length got ≡ n) × (new ≡ old ++ got) × (length new ≤ MAX_HEAD) × Consumes left rest got × (n ≡ 0 → IsAtEnd rest)

-- the count of faults rose by one at a fault of reading, and else is as before
abbrev pub HasReadCause : {T : Type 0} → ℕ → ℕ → Result T WireFault → Type 0
HasReadCause before now (Ok x) = now ≡ before
HasReadCause before now (Err ReadFault) = Rose before now
HasReadCause before now (Err fault) = now ≡ before
