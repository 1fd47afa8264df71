-- A run of `batch`, from what its parts say.
use Rattle.std.proofs.Common.{◌≡◌, ℕ, List, [], ◌∷◌, refl, sym, ◌∙◌, ap, subst}
use Rattle.std.specs.Option.{IfSome}
use Rattle.std.specs.Prelude.{Option, None, Some}
use Rattle.nf_base.specs.declared.rows.Row.{Row}
use Rattle.nf_desk.specs.Desk.{Shown, TellsSite, blobs_in}
use Rattle.nf_desk.specs.Opened.{Opens, first_blob, told_first}
use Rattle.nf_desk.specs.Opening.{OpensTo}
use Rattle.nf_desk.specs.declared.first.First.{First}
use Rattle.nf_desk.specs.declared.first.Opening.TheVariants.{Either}
use Rattle.nf_keeper.specs.Keeping.{Stored}
use Rattle.nf_outside.specs.Causes.{Rose}
use Rattle.nf_outside.specs.Lent.{Taken}
use Rattle.nf_rows.specs.Spelling.{Raw}
use Rattle.nf_rules.specs.Rules.{AreUnbroken}
use Rattle.nf_session.proofs.Causes.{session_follows}
use Rattle.nf_session.specs.Prelude.{own_from}
use Rattle.nf_session.specs.declared.ended.Ended.{Ended}
use Rattle.nf_session.specs.declared.ended.Ended.TheVariants as ended
use Rattle.nf_site.specs.Demo.{demo_rows}
use Rattle.nf_site.specs.Held.{Held}
use Rattle.nf_site.specs.Kept.{Kept, opened_over}
use Rattle.nf_told.specs.Told.{Told}
use Rattle.nf_words.specs.State.{opened}
use Rattle.nf_words.specs.declared.history.Entry.{Entry}
use Rattle.filesd.specs.Opening.{IsUnopened, WhyUnopened, demo_blob, over_any, told_opened}
use Rattle.filesd.specs.Opening as opening
use Rattle.filesd.specs.Outside.{Outside}
use Rattle.filesd.specs.Seat.{AreOwn, book_of, seat}
use Rattle.filesd.specs.Session.{Runs, ServesDesk, first_book, status_of}
use Rattle.filesd.specs.declared.status.Status.{Status}
use Rattle.filesd.specs.declared.status.Status.TheVariants as exit
use Rattle.filesd.proofs.Alone.{is_alone}
use Rattle.filesd.proofs.Closing.{session_between}
use Rattle.filesd.proofs.Runs.{has_room, read_rose, write_rose}

-- what is told once the demonstration rows are the first
told_is : (first : First) (raws : List Raw) (told : Option Told) → first.rows ≡ demo_rows → first_blob first ≡ demo_blob
    → told_first first raws told ≡ told_opened raws told
told_is first [] told rows blob =
    ap (λ (these : List Row). opening.told_first these (first_blob first) told) rows
    ∙ ap (λ (stored : Option Stored). opening.told_first demo_rows stored told) blob
told_is first (raw ∷ raws) told rows blob = refl

-- no entry is the seat's own where there is none
none_own : (k : Kept) → k.history ≡ [] → own_from seat (opened k.opening) k.history ≡ []
none_own k none = ap (λ (es : List Entry). own_from seat (opened k.opening) es) none

-- the book with which the session begins
book_is : (k : Kept) (rows : List Row) (start told now : Option Told) (before faults : ℕ) → k ≡ opened_over rows → start ≡ told → told ≡ now
    → faults ≡ before → book_of k start told faults ≡ first_book rows now before
book_is k rows start told now before faults begun first tells same =
    ap (λ (z : Kept). book_of z start told faults) begun ∙ ap (λ (o : Option Told). book_of (opened_over rows) o told faults) first
    ∙ ap (λ (o : Option Told). book_of (opened_over rows) o o faults) tells ∙ ap (λ (n : ℕ). book_of (opened_over rows) now now n) same

module _ {C : Type 0} (reads : C → Taken → C → Type 0) (a b : Outside C) (status : Status) (desk : Shown) where
  -- a session over a desk that was opened so
  pub serves : (site : Option Held) (first : First)
      → Opens (Either first) a.told desk.told desk.site → first.rows ≡ demo_rows → first_blob first ≡ demo_blob
      → AreUnbroken desk.site.opening → desk.faults ≡ a.faults → desk.start.told ≡ desk.told → ServesDesk reads desk a b status site
      → Runs reads a b status site
  serves None first opens rows blob unbroken same begun never = absurd never
  serves (Some site) first opens rows blob unbroken same begun (end, kept, ended, few, session, told) =
      let tells = opens.told ∙ told_is first opens.raws a.told rows blob in record {
        raws = opens.raws;
        loaded = opens.loaded;
        rows = desk.site.opening;
        opens = subst (λ (these : List Row). OpensTo these opens.raws desk.site.opening) rows opens.rows;
        unbroken = unbroken;
        end = end;
        ended = ended;
        kept = kept;
        few = few;
        session = session_between reads a b kept end _ _ _ _
            (book_is desk.site desk.site.opening desk.start.told desk.told (told_opened opens.raws a.told) a.faults desk.faults opens.begun
            begun tells same) (ap (λ (start : Option Told). book_of site.kept start b.told b.faults) (begun ∙ tells)) session;
        opening = (session_follows reads _ _ end session).lasts.opening;
        told = subst (λ (start : Option Told). IfSome b.told (TellsSite (blobs_in start) site.kept)) (begun ∙ tells) told;
      }

  -- it never finds the run full
  pub serving_has_room : (site : Option Held) → desk.site.history ≡ [] → ServesDesk reads desk a b status site
      → IfSome site (λ site. AreOwn site.kept.history) → status ≡ exit.RunFull → ⊥
  serving_has_room None none never own full = never
  serving_has_room (Some site) none (end, kept, ended, few, session, told) own full =
      has_room reads _ _ end status session ended (record { known = none; own = none_own desk.site none })
      (is_alone site.kept desk.start.told b.told b.faults own) full

-- ---- faults of the ends

unopened_by : {C : Type 0} (a b : Outside C) (status wanted : Status) → IsUnopened over_any a b status → status ≡ wanted
    → WhyUnopened over_any a.told a.faults b.faults wanted
unopened_by a b status wanted unopened is = subst (λ (z : Status). WhyUnopened over_any a.told a.faults b.faults z) is unopened.why

pub runs_read : {C : Type 0} (reads : C → Taken → C → Type 0) (a b : Outside C) (status : Status) (site : Option Held) → Runs reads a b status site
    → status ≡ exit.ReadFault → Rose a.read_faults b.read_faults
runs_read reads a b status None unopened is = absurd (unopened_by a b status exit.ReadFault unopened is)
runs_read reads a b status (Some site) serves is = read_rose reads _ _ serves.end status serves.session serves.ended is

pub runs_write : {C : Type 0} (reads : C → Taken → C → Type 0) (a b : Outside C) (status : Status) (site : Option Held) → Runs reads a b status site
    → status ≡ exit.WriteFault → Rose a.write_faults b.write_faults
runs_write reads a b status None unopened is = absurd (unopened_by a b status exit.WriteFault unopened is)
runs_write reads a b status (Some site) serves is = write_rose reads _ _ serves.end status serves.session serves.ended is

-- ---- faults of the keeper

no_store : (end : Option Ended) → status_of end ≡ exit.StoreFault → ⊥
no_store None is = cc
no_store (Some ended.Closed) is = cc
no_store (Some ended.BadMessage) is = cc
no_store (Some ended.RunFull) is = cc
no_store (Some (ended.Cut why)) is = cc
no_store (Some ended.ReadFault) is = cc
no_store (Some ended.WriteFault) is = cc
no_store (Some ended.Memory) is = cc

pub runs_store : {C : Type 0} (reads : C → Taken → C → Type 0) (a b : Outside C) (status : Status) (site : Option Held) → Runs reads a b status site
    → status ≡ exit.StoreFault → Rose a.faults b.faults
runs_store reads a b status None unopened is = unopened_by a b status exit.StoreFault unopened is
runs_store reads a b status (Some site) serves is = absurd (no_store serves.end (sym serves.ended ∙ is))

-- ---- what a session never ends with

abbrev IsOfSession : Status → Type 0
IsOfSession exit.Words = ⊥
IsOfSession exit.DoorFault = ⊥
IsOfSession other = Unit {0}

of_session : (end : Option Ended) → IsOfSession (status_of end)
of_session None = tt
of_session (Some ended.Closed) = tt
of_session (Some ended.BadMessage) = tt
of_session (Some ended.RunFull) = tt
of_session (Some (ended.Cut why)) = tt
of_session (Some ended.ReadFault) = tt
of_session (Some ended.WriteFault) = tt
of_session (Some ended.Memory) = tt

pub runs_words : {C : Type 0} (reads : C → Taken → C → Type 0) (a b : Outside C) (status : Status) (site : Option Held) → Runs reads a b status site
    → status ≡ exit.Words → ⊥
runs_words reads a b status None unopened is = unopened_by a b status exit.Words unopened is
runs_words reads a b status (Some site) serves is = subst IsOfSession (sym serves.ended ∙ is) (of_session serves.end)

pub runs_door : {C : Type 0} (reads : C → Taken → C → Type 0) (a b : Outside C) (status : Status) (site : Option Held) → Runs reads a b status site
    → status ≡ exit.DoorFault → ⊥
runs_door reads a b status None unopened is = unopened_by a b status exit.DoorFault unopened is
runs_door reads a b status (Some site) serves is = subst IsOfSession (sym serves.ended ∙ is) (of_session serves.end)
