-- What one step of a seat does to the site, and to what its keeper tells.
use Rattle.std.specs.Prelude.{◌≡◌, ◌⊎◌, ℕ, ◌<◌, ◌≤◌, All, List, [], ◌∷◌, length, Option, option_map, Err}
use Rattle.nf_base.specs.declared.limits.TheConstants.{MAX_ENTRIES}
use Rattle.nf_base.specs.declared.changes.Change.{Change}
use Rattle.nf_keeper.specs.Keeping.{Stored, applied}
use Rattle.nf_session.specs.Book.{Answer, Strikes}
use Rattle.nf_site.specs.Held.{entries_wanted}
use Rattle.nf_site.specs.Kept.{Kept, entered, entry, moment_of}
use Rattle.nf_told.specs.Told.{FitsChange, Told}
use Rattle.nf_words.specs.Prelude.{answer_at, blob_to, changes_to, MayCome}
use Rattle.nf_words.specs.declared.answer.Denial.TheVariants as denial
use Rattle.nf_words.specs.declared.history.Entry.{Entry}
use Rattle.nf_words.specs.declared.history.Event.{Event}
use Rattle.nf_words.specs.declared.history.Event.TheVariants.{Begin}
use Rattle.nf_words.specs.declared.history.Mark.{Mark}
use Rattle.nf_words.specs.declared.history.Mark.TheVariants as mark
use Rattle.nf_words.specs.declared.history.Outcome.{Outcome}
use Rattle.nf_words.specs.declared.history.Outcome.TheVariants.{Sent, Gone, Body}
use Rattle.nf_words.specs.declared.request.Request.{Request}
use Rattle.nf_words.specs.declared.request.Words.{Words}

-- a site, what its keeper tells, and how often that failed
pub record Standing : Type 0 where
  pub site : Kept
  pub told : Option Told
  pub faults : ℕ

abbrev pub standing : Kept → Option Told → ℕ → Standing
standing site told faults = record { site = site; told = told; faults = faults }

-- ---- the entry

-- the entry of a seat's event at a reading of the clock
abbrev pub entry_at : ℕ → Kept → ℕ → Event → Mark → Entry
entry_at seat k now event mark = entry seat (moment_of k.state now) event mark

-- the entry was added, and that was its answer
pub record Makes (seat : ℕ) (k l : Kept) (now : ℕ) (event : Event) (mark : Mark) (answer : Answer) : Type 0 where
  pub site : l ≡ entered k (entry_at seat k now event mark)
  pub answered : answer ≡ answer_at k.state (entry_at seat k now event mark) mark
  pub may_come : MayCome (length k.history) k.state (entry_at seat k now event mark)

-- an outcome that brings nothing
abbrev pub IsEmpty : Outcome → Type 0
IsEmpty Sent = Unit {0}
IsEmpty Gone = Unit {0}
IsEmpty (Body digest size) = ⊥

-- ---- what is told

-- the body in the blob that a step stores, if it does
abbrev pub stored_by : Option ℕ → List ℕ → Option Stored
stored_by blob body = option_map (λ id. record { id = id; bytes = body }) blob

-- what is told after a step's changes and blob. Where there are none the keeper isn't asked
abbrev pub told_by : List Change → Option Stored → Option Told → Option Told
told_by [] stored told = told
told_by (change ∷ changes) stored told = option_map (applied (change ∷ changes) stored) told

-- the keeper made the changes of a step that was answered, which it can spell, and no others
abbrev pub Tells : Mark → List Change → Option Stored → Option Told → Option Told → Type 0
Tells mark.Answered changes stored before now = (now ≡ told_by changes stored before) × All FitsChange changes
Tells mark.Store changes stored before now = now ≡ before
Tells mark.Memory changes stored before now = now ≡ before

-- ---- a step

-- the entry was added, and the keeper made its changes and stored its bytes. Where that failed, the entry says so
pub record Steps (seat : ℕ) (a b : Standing) (now : ℕ) (event : Event) (body : List ℕ) (answer : Answer) : Type 0 where
  pub mark : Mark
  pub makes : Makes seat a.site b.site now event mark answer
  pub tells : Tells mark (changes_to a.site.state seat (moment_of a.site.state now) event)
      (stored_by (blob_to a.site.state seat (moment_of a.site.state now) event) body) a.told b.told
  pub faults : Strikes mark a.faults b.faults
  pub rises : a.faults ≤ b.faults

-- nothing was done, since the run has no room for two entries more, or there is no memory
pub record FindsNone (a b : Standing) (answer : Answer) : Type 0 where
  pub same : b ≡ a
  pub why : ((answer ≡ Err denial.RunFull) × (MAX_ENTRIES < entries_wanted a.site))
      ⊎ ((answer ≡ Err denial.Memory) × (entries_wanted a.site ≤ MAX_ENTRIES))

-- the step of what a seat begins was made, or nothing was done
abbrev pub Starts : ℕ → Standing → Standing → ℕ → Event → Answer → Type 0
Starts seat a b now event answer = Steps seat a b now event [] answer ⊎ FindsNone a b answer

-- that of a request
abbrev pub Asks : ℕ → Standing → Standing → ℕ → Words → Request → Answer → Type 0
Asks seat a b now words request answer = Starts seat a b now (Begin words request) answer
