-- A run of `init`: the rows of one administrator are stored where there were none.
use Rattle.std.specs.Prelude.{◌≡◌, ℕ, ◌<◌, List, [], length, take, Option, None, Some, codes}
use Rattle.std.specs.Io.KnownBytes.{Appends}
use Rattle.sha2.specs.Sha256.{sha256}
use Rattle.nf_base.specs.declared.rows.Row.{Row}
use Rattle.nf_desk.specs.Opening.{IsLoaded}
use Rattle.nf_outside.specs.Causes.{Rose}
use Rattle.nf_site.specs.Held.{Held}
use Rattle.nf_site.specs.Kept.{opened_over}
use Rattle.filesd.specs.Opening.{IsUnopened, over_none, told_first}
use Rattle.filesd.specs.Outside.{Outside}
use Rattle.filesd.specs.declared.status.Status.{Status}
use Rattle.filesd.specs.declared.status.Status.TheVariants as exit

-- the SHA-256 digest (FIPS 180-4) of some token
abbrev pub IsSomeDigest : List ℕ → Type 0
IsSomeDigest digest = (token : List ℕ) × (digest ≡ sha256 token)

-- what `init` writes
abbrev pub ready : List ℕ
ready = codes "ready\n"

-- all of the text was written, or the output failed and only a front of it was
abbrev pub Writes : {C : Type 0} → List ℕ → Outside C → Outside C → Status → Type 0
Writes text a b exit.Done = (b.write_faults ≡ a.write_faults) × Appends a.written b.written text
Writes text a b exit.WriteFault =
    Rose a.write_faults b.write_faults × ((n : ℕ) × (n < length text) × Appends a.written b.written (take n text))
Writes text a b other = ⊥

-- these rows were stored, and the site is opened over them
pub record Begins {C : Type 0} (rows : List Row) (a b : Outside C) (status : Status) (held : Held) : Type 0 where
  pub loaded : IsLoaded a.told []
  pub told : b.told ≡ told_first rows None a.told
  pub faults : b.faults ≡ a.faults
  pub site : held.kept ≡ opened_over rows
  pub writes : Writes ready a b status
  pub left : b.left ≡ a.left
  pub begun : b.begun ≡ a.begun
  pub read_faults : b.read_faults ≡ a.read_faults
  pub lent : b.lent ≡ a.lent

abbrev pub Inits : {C : Type 0} → List Row → Outside C → Outside C → Status → Option Held → Type 0
Inits rows a b status None = IsUnopened over_none a b status
Inits rows a b status (Some site) = Begins rows a b status site
