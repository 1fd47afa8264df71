-- A sweep: its step, and behind it what the keeper drops.
use Rattle.std.specs.Prelude.{◌≡◌, ◌⊎◌, ℕ, ◌-◌, ◌≤◌, Contains, List, filter, length, None, option_map, Result, Ok, Err, IfSome, MatchBool}
use Rattle.nf_defs.specs.Blobs.{Blobs, blob_at}
use Rattle.nf_keeper.specs.Keeping.{is_kept, swept}
use Rattle.nf_laws.specs.Named.{blobs_named}
use Rattle.nf_outside.specs.Causes.{Rose}
use Rattle.nf_session.specs.Book.{Answer, Book, Enters, Passes, Struck, is_unmade_by, state_after, state_of}
use Rattle.nf_words.specs.Prelude.{State}
use Rattle.nf_words.specs.declared.answer.Denial.{Denial}
use Rattle.nf_words.specs.declared.answer.Denial.TheVariants as denial
use Rattle.nf_words.specs.declared.answer.Reply.TheVariants.{Plain}
use Rattle.nf_words.specs.declared.history.Event.TheVariants.{Sweep}
use Rattle.nf_desk.specs.Desk.{Shown, Tale, moved, standing_in}
use Rattle.nf_desk.specs.Pieces.{StrikesOne}
use Rattle.nf_desk.specs.Stepping.{Standing, Starts}
use Rattle.nf_desk.specs.declared.sweeping.Swept.{Swept}

-- how many items and uploads there are
abbrev pub held_in : State → Swept
held_in s = record { items = length s.tables.items; uploads = length s.tables.uploads }

-- how many of them went by a step between these states
abbrev pub swept_between : State → State → Swept
swept_between s t = record {
  items = length s.tables.items - length t.tables.items;
  uploads = length s.tables.uploads - length t.tables.uploads;
}

-- the keeper dropped all other blobs; or it failed, which is a strike of the seat, or there was no memory, and it dropped none
abbrev pub DropsRest : ℕ → State → Shown → Shown → Result Swept Denial → Type 0
DropsRest seat s mid b (Ok gone) =
    (b ≡ record mid { told = option_map (swept (blobs_named mid.site.state)) mid.told }) × (gone ≡ swept_between s mid.site.state)
DropsRest seat s mid b (Err denial.Store) =
    (b ≡ record mid { faults = b.faults; strikes = b.strikes })
    × Rose mid.faults b.faults × (mid.faults ≤ b.faults) × StrikesOne seat mid.strikes b.strikes
DropsRest seat s mid b (Err denial.Memory) = b ≡ mid
DropsRest seat s mid b (Err other) = ⊥

-- behind a step that was answered the rest is dropped, and behind another nothing is
abbrev pub EndsSweep : ℕ → State → Shown → Shown → Answer → Result Swept Denial → Type 0
EndsSweep seat s mid b (Ok reply) result = DropsRest seat s mid b result
EndsSweep seat s mid b (Err refusal) result = (b ≡ mid) × (result ≡ Err refusal)

-- the sweep of a seat at a reading of the clock, from what is shown to what is shown behind it
pub record Sweeps (seat : ℕ) (a b : Shown) (now : ℕ) (result : Result Swept Denial) : Type 0 where
  -- behind the step
  pub mid : Standing
  pub answer : Answer
  pub step : Starts seat (standing_in a) mid now Sweep answer
  pub ends : EndsSweep seat a.site.state (moved a mid) b answer result

-- a site, what its keeper tells and how often that failed, with strikes, at a desk that began so
abbrev pub shown_by : Standing → List ℕ → Tale → Shown
shown_by s strikes start = record { site = s.site; told = s.told; faults = s.faults; strikes = strikes; start = start }

-- ---- by what the seat knows

-- the blobs without those that aren't among these
abbrev pub only_blobs : List ℕ → Blobs → Blobs
only_blobs keep blobs = filter (is_kept keep) blobs

-- the store tells no other blobs any more; or it failed, which is a strike, or there was no memory
abbrev pub LeavesNamed : State → Book → Book → Result Swept Denial → Type 0
LeavesNamed s mid b (Ok gone) =
    (b ≡ record mid { told = option_map (only_blobs (blobs_named (state_of mid))) mid.told }) × (gone ≡ swept_between s (state_of mid))
LeavesNamed s mid b (Err denial.Store) = (b ≡ record mid { strikes = b.strikes }) × Struck mid.strikes b.strikes
LeavesNamed s mid b (Err denial.Memory) = b ≡ mid
LeavesNamed s mid b (Err other) = ⊥

-- the step was answered so, and what follows it
pub record SweepsOn (a b : Book) (now : ℕ) (answer : Answer) (result : Result Swept Denial) : Type 0 where
  -- behind the step
  pub mid : Book
  pub enters : Enters a mid now Sweep answer
  pub leaves : LeavesNamed (state_after a enters.others) mid b result

-- the store failed at the step, and the entry says so; or the run had no room for one, or there was no memory
abbrev pub StopsSweep : Book → Book → ℕ → Result Swept Denial → Type 0
StopsSweep a b now (Ok gone) = ⊥
StopsSweep a b now (Err refusal) = MatchBool (is_unmade_by refusal) (Passes a b) (Enters a b now Sweep (Err refusal))

-- a sweep, from what the seat knew to what it knows
abbrev pub SweepsSeen : Book → Book → ℕ → Result Swept Denial → Type 0
SweepsSeen a b now result = SweepsOn a b now (Ok Plain) result ⊎ StopsSweep a b now result

-- under each number that nothing names any more the store tells nothing
abbrev pub TellsNamed : Book → Type 0
TellsNamed b = IfSome b.told (λ shelf. (id : ℕ) → (Contains (blobs_named (state_of b)) id → ⊥) → blob_at shelf id ≡ None)
