-- The site, its keeper and the strikes, at which the seats take their turns.
use Rattle.std.specs.Prelude.{◌≡◌, ℕ, zero, suc, min, ◌+◌, ◌-◌, ◌^◌, ◌<◌, ◌==◌, List, [], ◌∷◌, filter, get_or, length, sum, Option, Some, option_map}
use Rattle.std.specs.Option.{IfSome}
use Rattle.std.specs.declared.snapshot.Snapshot.{Snapshot}
use Rattle.nf_defs.specs.Blobs.{Blobs, blob_at}
use Rattle.nf_keeper.specs.declared.keeper.Keeper.{Ghosts as KeeperOf}
use Rattle.nf_laws.specs.Wholes.{IsWhole}
use Rattle.nf_base.specs.declared.limits.TheConstants.{MAX_SEATS}
use Rattle.nf_base.specs.declared.rows.Row.{Row}
use Rattle.nf_rows.specs.Spelling.{Raw}
use Rattle.nf_rules.specs.Rules.{AreUnbroken}
use Rattle.nf_session.specs.Book.{Book, TellsStill, own_from}
use Rattle.nf_site.specs.Held.{Held}
use Rattle.nf_site.specs.Kept.{IsHistory, Kept}
use Rattle.nf_told.specs.Told.{AreFit, Told, told_of}
use Rattle.nf_turn.specs.Book.{AddsAlone, Meanings, Shelf}
use Rattle.nf_desk.specs.Stepping.{Standing, standing}
use Rattle.nf_words.specs.Prelude.{opened, replay}
use Rattle.nf_words.specs.declared.history.Entry.{Entry}
use Rattle.nf_words.specs.declared.history.Mark.{Mark}
use Rattle.nf_words.specs.declared.history.Mark.TheVariants as mark

-- what a desk holds
pub record Served (K : Type 0) : Type 0 where
  pub site : Held
  pub keeper : K
  -- of each seat number from 1 on, how often the keeper failed it at what makes no entry
  pub strikes : List ℕ
  -- the keeper when the desk was opened
  pub start : Snapshot K

-- ---- what clauses see of it

-- what a keeper tells, and how often it failed
pub record Tale : Type 0 where
  pub told : Option Told
  pub faults : ℕ

pub record Shown : Type 0 where
  pub site : Kept
  pub told : Option Told
  pub faults : ℕ
  pub strikes : List ℕ
  pub start : Tale

abbrev pub tale : {K : Type 0} → KeeperOf K → K → Tale
tale k keeper = record { told = k.told keeper; faults = k.faults keeper }

abbrev pub shown : {K : Type 0} → KeeperOf K → Served K → Shown
shown k desk = record {
  site = desk.site.kept;
  told = k.told desk.keeper;
  faults = k.faults desk.keeper;
  strikes = desk.strikes;
  start = tale k desk.start.value;
}

-- the site, what the keeper tells, and how often it failed
abbrev pub standing_in : Shown → Standing
standing_in a = standing a.site a.told a.faults

-- the same desk with these behind a step
abbrev pub moved : Shown → Standing → Shown
moved a b = record a { site = b.site; told = b.told; faults = b.faults }

-- ---- failures of the keeper

-- how often the keeper failed the seat with the number n at what makes no entry
abbrev pub strikes_of : List ℕ → ℕ → ℕ
strikes_of strikes zero = 0
strikes_of strikes (suc n) = get_or strikes n 0

abbrev pub failed_mark : Mark → ℕ
failed_mark mark.Answered = 0
failed_mark mark.Store = 1
failed_mark mark.Memory = 0

-- how many of the entries are marked as failed by the store
abbrev pub failed_marks : List Entry → ℕ
failed_marks [] = 0
failed_marks (e ∷ es) = failed_mark e.mark + failed_marks es

-- the entries of the seat with the number n
abbrev pub entries_by : ℕ → List Entry → List Entry
entries_by n entries = filter (λ (e : Entry). e.seat == n) entries

-- a count that began so and rose n times; it stays at 2^64 - 1
abbrev pub risen : ℕ → ℕ → ℕ
risen before zero = before
risen before (suc n) = min (before + suc n) (2 ^ 64 - 1)

-- how often the keeper failed since the desk was opened
abbrev pub failures : Shown → ℕ
failures a = failed_marks a.site.history + sum a.strikes

-- and how often the seat with the number n
abbrev pub failures_of : ℕ → Shown → ℕ
failures_of n a = failed_marks (entries_by n a.site.history) + strikes_of a.strikes n

-- ---- what a seat knows of it

abbrev pub blobs_in : Option Told → Option Blobs
blobs_in told = option_map (λ told. told.blobs) told

abbrev pub rows_in : Option Told → Option (List Raw)
rows_in told = option_map (λ told. told.rows) told

-- what the seat with the number n knows once it saw the desk so
abbrev pub book_at : ℕ → Shown → Book
book_at n a = record {
  opening = a.site.opening;
  seat = n;
  known = a.site.history;
  own = own_from n (opened a.site.opening) a.site.history;
  strikes = risen a.start.faults (failures_of n a);
  start = blobs_in a.start.told;
  told = blobs_in a.told;
  rows = rows_in a.told;
}

-- ---- what a desk keeps

-- what is told are the site's rows, as they are spelled, and blobs that are whole for it, but for what was damaged at the start,
-- when blobs were told, too
pub record TellsSite (start : Option Blobs) (k : Kept) (told : Told) : Type 0 where
  pub rows : told.rows ≡ told_of k.state.tables
  pub begun : Blobs
  pub at_start : start ≡ Some begun
  pub whole : IsWhole k.opening begun k.state told.blobs

-- the number of the first blob that isn't of the opening
abbrev pub first_blob_of : List Row → ℕ
first_blob_of rows = (opened rows).tables.meta.next_blob

-- the keeper's count rose by each failure since the opening, and by nothing else
pub record IsCounted (a : Shown) : Type 0 where
  pub is : a.faults ≡ risen a.start.faults (failures a)
  pub fits : 0 < failures a → a.start.faults < 2 ^ 64

-- the opening's rows break no rule, each row has a spelling, what the keeper tells is true of the site, the blobs of the opening are told
-- as they were then, or, once there is an entry, not at all, and each failure is counted
pub record IsDesk (a : Shown) : Type 0 where
  pub unbroken : AreUnbroken a.site.opening
  pub fit : AreFit a.site.state.tables
  pub told : IfSome a.told (TellsSite (blobs_in a.start.told) a.site)
  pub since : TellsStill (0 < length a.site.history) (first_blob_of a.site.opening) (blobs_in a.start.told) (blobs_in a.told)
  pub seats : length a.strikes ≡ MAX_SEATS
  pub counted : IsCounted a

-- ---- what it is to the lock

-- the number of the next blob
abbrev pub next_of : Kept → ℕ
next_of k = (replay (opened k.opening) k.history).tables.meta.next_blob

-- the blobs that are told; an entry may drop some
abbrev pub shelf_of : Kept → Told → Shelf
shelf_of k told = record {
  next = next_of k;
  drops = length k.history;
  bytes = blob_at told.blobs;
}

-- its entries; the strikes of each seat; the rows that it was opened with, and the keeper then; and the blobs
abbrev pub meanings : {K : Type 0} → KeeperOf K → Meanings Entry (List Row × Snapshot K) (Served K)
meanings k = record {
  seat_of = λ e. e.seat;
  entries = λ desk. desk.site.kept.history;
  strikes = λ desk n. strikes_of desk.strikes n;
  opening = λ desk. (desk.site.kept.opening, desk.start);
  shelf = λ desk. option_map (shelf_of desk.site.kept) (k.told desk.keeper);
}

-- only the seat with the number n did something, and the history before and after is legal
pub record TakesTurn {K : Type 0} (k : KeeperOf K) (n : ℕ) (old new : Served K) : Type 0 where
  pub alone : AddsAlone (meanings k) n old new
  pub before : IsHistory old.site.kept
  pub after : IsHistory new.site.kept
