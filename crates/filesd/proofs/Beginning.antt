-- What a run begins with, and what a run of `init` says by its parts.
use Rattle.std.proofs.Common.{◌≡◌, ℕ, ◌≤◌, List, [], refl, sym, ap, subst, ◌∙◌}
use Rattle.std.specs.Prelude.{Option, None, Some}
use Rattle.nf_base.specs.declared.limits.TheConstants.{MAX_QUOTA}
use Rattle.nf_base.specs.declared.rows.Row.{Row}
use Rattle.nf_base.specs.Naming.{IsName}
use Rattle.nf_command.proofs.Unbroken.{init_unbroken}
use Rattle.nf_command.specs.First.{first_rows, init_rows}
use Rattle.nf_desk.specs.Opened.{AreFirst, Opens, told_first as first_told}
use Rattle.nf_desk.specs.Opening.{IsLoaded, OpensTo}
use Rattle.nf_desk.specs.declared.first.Opening.TheVariants.{Fresh}
use Rattle.nf_rows.specs.Spelling.{Raw}
use Rattle.nf_site.proofs.DemoRows.{demo_unbroken}
use Rattle.nf_site.specs.Demo.{demo_rows}
use Rattle.nf_site.specs.Held.{Held}
use Rattle.nf_site.specs.Kept.{opened_over}
use Rattle.sha2.specs.Sha256.{sha256}
use Rattle.filesd.specs.Init.{Begins, Inits, IsSomeDigest, Writes, ready}
use Rattle.filesd.specs.Outside.{Outside}
use Rattle.filesd.specs.declared.status.Status.{Status}
use Rattle.filesd.specs.declared.status.Status.TheVariants as exit

-- ---- the first rows

pub demo_first : (rows : List Row) → rows ≡ demo_rows → AreFirst rows
demo_first rows is = subst AreFirst (sym is) (record { unbroken = demo_unbroken; meta = (_, _, refl) })

pub init_first : (rows : List Row) (name digest : List ℕ) (quota : ℕ) → rows ≡ first_rows name digest quota → IsName name
    → quota ≤ MAX_QUOTA → IsSomeDigest digest → AreFirst rows
init_first rows name digest quota is named fits (token, of_token) = subst AreFirst
    (sym (is ∙ ap (λ (d : List ℕ). first_rows name d quota) of_token))
    (record { unbroken = init_unbroken name token quota named fits; meta = (_, _, refl) })

-- ---- a run of `init`

-- the rows of a desk that was opened afresh are stored, and it says so
pub init_begins : {C : Type 0} (rows : List Row) (a b : Outside C) (status : Status) (held : Held)
    → Opens (Fresh (record { rows = rows; blob = None })) a.told b.told held.kept → b.faults ≡ a.faults → Writes ready a b status
    → b.left ≡ a.left → b.begun ≡ a.begun → b.read_faults ≡ a.read_faults → b.lent ≡ a.lent → Begins rows a b status held
init_begins rows a b status held opens faults writes left begun read_faults lent =
    let none : opens.raws ≡ [] = opens.fresh tt in
    record {
      loaded = subst (IsLoaded a.told) none opens.loaded;
      told = opens.told ∙ ap (λ (raws : List Raw). first_told (record { rows = rows; blob = None }) raws a.told) none;
      faults = faults;
      site = opens.begun ∙ ap opened_over (subst (λ (raws : List Raw). OpensTo rows raws held.kept.opening) none opens.rows);
      writes = writes;
      left = left;
      begun = begun;
      read_faults = read_faults;
      lent = lent;
    }

-- the output and the keeper alone, as `init` uses them, or with a clock, beside the other ends and what is lent
abbrev pub beside : {B C : Type 0} → Option (List ℕ) → ℕ → C → Outside B → Outside C
beside left faults lent a = record {
  left = left;
  written = a.written;
  begun = a.begun;
  read_faults = faults;
  write_faults = a.write_faults;
  lent = lent;
  told = a.told;
  faults = a.faults;
}

pub writes_beside : {C : Type 0} (left : Option (List ℕ)) (faults : ℕ) (lent : C) (text : List ℕ) (a b : Outside (Unit {0})) (status : Status)
    → Writes text a b status → Writes text (beside left faults lent a) (beside left faults lent b) status
writes_beside left faults lent text a b exit.Done writes = writes
writes_beside left faults lent text a b exit.WriteFault writes = writes
writes_beside left faults lent text a b other writes = absurd writes

-- what `init` does with them it does with all
pub inits_beside : {C : Type 0} (left : Option (List ℕ)) (faults : ℕ) (lent : C) (rows : List Row) (a b : Outside (Unit {0}))
    (status : Status) (site : Option Held)
    → Inits rows a b status site → Inits rows (beside left faults lent a) (beside left faults lent b) status site
inits_beside left faults lent rows a b status None unopened =
    record { untouched = ap (λ (o : Outside (Unit {0})). beside left faults lent o) unopened.untouched; why = unopened.why }
inits_beside left faults lent rows a b status (Some site) begins = record {
  loaded = begins.loaded;
  told = begins.told;
  faults = begins.faults;
  site = begins.site;
  writes = writes_beside left faults lent ready a b status begins.writes;
  left = refl;
  begun = begins.begun;
  read_faults = refl;
  lent = refl;
}

-- the rows are those of the name, the token and the quota
pub rows_are : (name digest : List ℕ) (quota : ℕ) (other token : List ℕ) (number : ℕ) → name ≡ other → digest ≡ sha256 token → quota ≡ number
    → first_rows name digest quota ≡ init_rows other token number
rows_are name digest quota other token number named digests counts =
    ap (λ (n : List ℕ). first_rows n digest quota) named ∙ ap (λ (d : List ℕ). first_rows other d quota) digests
    ∙ ap (λ (q : ℕ). first_rows other (sha256 token) q) counts
