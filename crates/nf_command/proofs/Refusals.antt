-- What an error of clap says of the words.
use Rattle.std.proofs.Common.{◌≡◌, ◌≢◌, Option, None, Result, Ok, Err, MatchOption, MatchResult, IfOk, sym, subst}
use Rattle.std.specs.declared.alloc.AllocError.{AllocError}
use Rattle.clap.specs.declared.error.kind.ErrorKind.{ErrorKind}
use Rattle.clap.specs.declared.error.kind.ErrorKind.TheVariants.{OutOfMemory}

pub refused : {A : Type 0} (kind : ErrorKind) (P : Type 0) (Q : A → Type 0) (r : Result (Option A) AllocError)
    → MatchResult r (λ found. (found ≡ None) × (kind ≢ OutOfMemory)) (λ _. kind ≡ OutOfMemory) → (kind ≢ OutOfMemory → P)
    → IfOk r (λ found. MatchOption found P Q)
refused {A = A} kind P Q (Ok found) is none = subst (λ (f : Option A). MatchOption f P Q) (sym is.0) (none is.1)
refused kind P Q (Err error) is none = tt
