-- A run of `batch`: one session over the rows that the keeper has, from the ends that it is given.
use Rattle.std.specs.Prelude.{◌≡◌, ℕ, ◌≤◌, List, [], length, Option, None, Some}
use Rattle.std.specs.Option.{IfSome}
use Rattle.nf_base.specs.declared.limits.TheConstants.{MAX_HEAD}
use Rattle.nf_base.specs.declared.rows.Row.{Row}
use Rattle.nf_desk.specs.Desk.{Shown, TellsSite, blobs_in}
use Rattle.nf_desk.specs.Opening.{IsLoaded, OpensTo}
use Rattle.nf_http.specs.Told.{stream}
use Rattle.nf_outside.specs.Lent.{Taken}
use Rattle.nf_rows.specs.Spelling.{Raw}
use Rattle.nf_rules.specs.Rules.{AreUnbroken}
use Rattle.nf_session.specs.Prelude.{Book, Scene, Session}
use Rattle.nf_session.specs.declared.ended.Ended.{Ended}
use Rattle.nf_session.specs.declared.ended.Ended.TheVariants as ended
use Rattle.nf_site.specs.Demo.{demo_rows}
use Rattle.nf_site.specs.Held.{Held}
use Rattle.nf_site.specs.Kept.{opened_over}
use Rattle.nf_told.specs.Told.{Told}
use Rattle.filesd.specs.Opening.{IsUnopened, over_any, told_opened}
use Rattle.filesd.specs.Outside.{Outside}
use Rattle.filesd.specs.Seat.{book_of}
use Rattle.filesd.specs.declared.status.Status.{Status}
use Rattle.filesd.specs.declared.status.Status.TheVariants as exit

-- a session's scene there, where these bytes were read and not yet taken, and its seat knows that
abbrev pub scene_of : {C : Type 0} → Outside C → List ℕ → Book → Scene C
scene_of outside kept book = record {
  input = stream kept outside.left;
  kept = kept;
  output = outside.written;
  answers = outside.begun;
  book = book;
  lent = outside.lent;
  read_faults = outside.read_faults;
  write_faults = outside.write_faults;
}

-- what the seat knows when a run begins over those rows, and a keeper that tells that and has failed so often
abbrev pub first_book : List Row → Option Told → ℕ → Book
first_book rows told faults = book_of (opened_over rows) told told faults

-- the status of a session's end
abbrev pub status_of : Option Ended → Status
status_of None = exit.Budget
status_of (Some ended.Closed) = exit.Done
status_of (Some ended.BadMessage) = exit.BadMessage
status_of (Some ended.RunFull) = exit.RunFull
status_of (Some (ended.Cut why)) = exit.Cut
status_of (Some ended.ReadFault) = exit.ReadFault
status_of (Some ended.WriteFault) = exit.WriteFault
status_of (Some ended.Memory) = exit.Memory

-- a session over the rows that were loaded, or over the demonstration rows where there were none
pub record Serves {C : Type 0} (reads : C → Taken → C → Type 0) (a b : Outside C) (status : Status) (site : Held) : Type 0 where
  pub raws : List Raw
  pub loaded : IsLoaded a.told raws
  pub rows : List Row
  pub opens : OpensTo demo_rows raws rows
  pub unbroken : AreUnbroken rows
  pub end : Option Ended
  pub ended : status ≡ status_of end
  pub kept : List ℕ
  pub few : length kept ≤ MAX_HEAD
  pub session : Session reads (scene_of a [] (first_book rows (told_opened raws a.told) a.faults))
      (scene_of b kept (book_of site.kept (told_opened raws a.told) b.told b.faults)) end
  pub opening : site.kept.opening ≡ rows
  -- what rows name at the end is there, but for what was damaged at the start
  pub told : IfSome b.told (TellsSite (blobs_in (told_opened raws a.told)) site.kept)

-- a whole run
abbrev pub Runs : {C : Type 0} → (C → Taken → C → Type 0) → Outside C → Outside C → Status → Option Held → Type 0
Runs reads a b status None = IsUnopened over_any a b status
Runs reads a b status (Some site) = Serves reads a b status site

-- nothing was done: no site, nothing taken, written or read, and the keeper wasn't asked
abbrev pub DoesNothing : {C : Type 0} → Outside C → Outside C → Option Held → Type 0
DoesNothing a b site = (site ≡ None) × (b ≡ a)

-- a session over a desk that was just opened, through the one seat of a run
abbrev pub ServesDesk : {C : Type 0} → (C → Taken → C → Type 0) → Shown → Outside C → Outside C → Status → Option Held → Type 0
ServesDesk reads desk a b status None = ⊥
ServesDesk reads desk a b status (Some site) =
    (end : Option Ended) × (kept : List ℕ) × (status ≡ status_of end) × (length kept ≤ MAX_HEAD)
    × Session reads (scene_of a [] (book_of desk.site desk.start.told desk.told desk.faults))
    (scene_of b kept (book_of site.kept desk.start.told b.told b.faults)) end
    × IfSome b.told (TellsSite (blobs_in desk.start.told) site.kept)
