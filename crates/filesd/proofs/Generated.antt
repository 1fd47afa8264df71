-- A run of `generate`, from what its parts say.
use Rattle.std.proofs.Common.{◌≡◌, ◌∙◌, ◌⊎◌, ℕ, zero, suc, ◌+◌, ◌<◌, ◌≤◌, ◌^◌, List, [], Option, None, Some, refl, sym, ap, subst, arith, inl, inr}
use Rattle.std.specs.Option.{IfSome, IsSome}
use Rattle.nf_base.specs.declared.rows.Row.{Row}
use Rattle.nf_desk.specs.Desk.{Served, Shown, TellsSite, blobs_in, shown}
use Rattle.nf_desk.specs.Opened.{Opens, first_blob, told_first as first_told}
use Rattle.nf_desk.specs.Opening.{IsLoaded, OpensTo}
use Rattle.nf_desk.specs.declared.first.First.{First}
use Rattle.nf_desk.specs.declared.first.Opening.TheVariants.{Fresh}
use Rattle.nf_defs.specs.Prelude.{Blobs}
use Rattle.nf_defs.specs.Tables.{Tables}
use Rattle.nf_generate.specs.Messages.{moment_of}
use Rattle.nf_keeper.specs.Keeping.{Stored}
use Rattle.nf_keeper.specs.declared.keeper.Keeper.{Ghosts as KeeperOf}
use Rattle.nf_outside.specs.Causes.{Rose}
use Rattle.nf_outside.specs.Lent.{Taken, takes}
use Rattle.nf_promises.proofs.Unfailing.{ends_well}
use Rattle.nf_promises.specs.Complete.{IsUnrisen}
use Rattle.nf_promises.specs.Complete as complete
use Rattle.nf_rows.specs.Spelling.{Raw}
use Rattle.nf_session.proofs.Causes.{session_follows}
use Rattle.nf_session.specs.Book.{Book}
use Rattle.nf_session.specs.Laws.{CountsFault}
use Rattle.nf_session.specs.Session.{Session}
use Rattle.nf_session.specs.Steps.{Scene}
use Rattle.nf_session.specs.declared.ended.Ended.{Ended}
use Rattle.nf_session.specs.declared.ended.Ended.TheVariants as ended
use Rattle.nf_site.specs.Demo.{demo_rows}
use Rattle.nf_site.specs.Held.{Held}
use Rattle.nf_site.specs.Kept.{Kept, opened_over}
use Rattle.nf_site.proofs.DemoRows.{demo_unbroken}
use Rattle.nf_told.specs.Told.{Told}
use Rattle.nf_trial.specs.Trials.{Answers, BreaksOff, Concludes, IsBroken, Risen, Serves as ServesMessage, message_at, says, scene_before}
use Rattle.nf_trial.specs.declared.trials.Tried.{Tried}
use Rattle.nf_trial.specs.declared.trials.Tried.TheVariants as tried
use Rattle.filesd.specs.Ending.{GenerateEndsWell, IsSafeStore, IsWellFilled, NothingFails}
use Rattle.filesd.specs.Generate.{Generates, Lists, ListsDesk, TellsTried, summary, told_demo}
use Rattle.filesd.specs.Init.{Inits, Writes}
use Rattle.filesd.specs.Next.{IsGoodStore, IsUndamaged, KeepsSafe}
use Rattle.filesd.specs.Opening.{demo_blob}
use Rattle.filesd.specs.Opening as opening
use Rattle.filesd.specs.Outside.{Outside}
use Rattle.filesd.specs.Reopening.{Leaves}
use Rattle.filesd.specs.Seat.{book_of}
use Rattle.filesd.specs.Session.{first_book, status_of}
use Rattle.filesd.specs.declared.status.Status.{Status}
use Rattle.filesd.specs.declared.status.Status.TheVariants as exit
use Rattle.filesd.proofs.Beginning.{beside, writes_beside}
use Rattle.filesd.proofs.Ending.{unopened_done, unrisen}
use Rattle.filesd.proofs.Safe.{same_keeps, undamaged_safe}
use Rattle.filesd.proofs.Whole.{opened_safe, stay_whole, stays_whole, undamaged}

-- ---- beside what it doesn't use

tells_beside : {C : Type 0} (left : Option (List ℕ)) (faults : ℕ) (lent : C) (count : ℕ) (t : Tables) (how : Tried)
    (a b : Outside (Unit {0})) (status : Status)
    → TellsTried count t how a b status → TellsTried count t how (beside left faults lent a) (beside left faults lent b) status
tells_beside left faults lent count t (tried.All granted denied) a b exit.Memory tells = tells
tells_beside left faults lent count t (tried.All granted denied) a b status tells =
    writes_beside left faults lent (summary count granted denied t) a b status tells
tells_beside left faults lent count t tried.Store a b status tells = tells
tells_beside left faults lent count t tried.Memory a b status tells = tells
tells_beside left faults lent count t (tried.Broken end) a b status tells = tells

pub generates_beside : {C : Type 0} (left : Option (List ℕ)) (faults : ℕ) (lent : C) (seed count : ℕ) (a b : Outside (Unit {0}))
    (status : Status) (site : Option Held)
    → Generates seed count a b status site → Generates seed count (beside left faults lent a) (beside left faults lent b) status site
generates_beside left faults lent seed count a b status None unopened =
    record { untouched = ap (λ (o : Outside (Unit {0})). beside left faults lent o) unopened.untouched; why = unopened.why }
generates_beside left faults lent seed count a b status (Some site) lists = record {
  loaded = lists.loaded;
  tried = lists.tried;
  concludes = lists.concludes;
  tells = tells_beside left faults lent count site.kept.state.tables lists.tried a b status lists.tells;
  opening = lists.opening;
  told = lists.told;
  left = refl;
  begun = lists.begun;
  read_faults = refl;
  lent = refl;
}

-- ---- what its status says

pub rose_risen : (before now : ℕ) → Rose before now → Risen before now
rose_risen before now rose = grind arith

pub init_risen : {C : Type 0} (rows : List Row) (a b : Outside C) (status : Status) (site : Option Held) → Inits rows a b status site
    → status ≡ exit.StoreFault → Risen a.faults b.faults
init_risen {C} rows a b status site inits is = here site (subst (λ (s : Status). Inits rows a b s site) is inits)
  where
    here : (site : Option Held) → Inits rows a b exit.StoreFault site → Risen a.faults b.faults
    here None unopened = rose_risen a.faults b.faults unopened.why
    here (Some site) begins = absurd begins.writes

abbrev pub GenerateSays : {C : Type 0} → Outside C → Outside C → Status → Type 0
GenerateSays a b exit.Words = ⊥
GenerateSays a b exit.ReadFault = ⊥
GenerateSays a b exit.DoorFault = ⊥
GenerateSays a b exit.WriteFault = Rose a.write_faults b.write_faults
GenerateSays a b exit.StoreFault = Risen a.faults b.faults
GenerateSays a b other = Unit {0}

module _ {C : Type 0} (a b : Outside C) where
  broken_says : (end : Option Ended) → IsBroken end → GenerateSays a b (status_of end)
  broken_says None broken = tt
  broken_says (Some ended.Closed) broken = absurd broken
  broken_says (Some ended.BadMessage) broken = tt
  broken_says (Some ended.RunFull) broken = tt
  broken_says (Some (ended.Cut why)) broken = tt
  broken_says (Some ended.ReadFault) broken = absurd broken
  broken_says (Some ended.WriteFault) broken = absurd broken
  broken_says (Some ended.Memory) broken = absurd broken

  tried_says : (seed count : ℕ) (t : Tables) (first last : Book) (how : Tried) → Concludes seed count first last how
      → (Risen first.strikes last.strikes → Risen a.faults b.faults) → (status : Status) → TellsTried count t how a b status → GenerateSays a b status
  tried_says seed count t first last (tried.All granted denied) concludes same exit.Words tells = tells
  tried_says seed count t first last (tried.All granted denied) concludes same exit.ReadFault tells = tells
  tried_says seed count t first last (tried.All granted denied) concludes same exit.DoorFault tells = tells
  tried_says seed count t first last (tried.All granted denied) concludes same exit.WriteFault tells = tells.0
  tried_says seed count t first last (tried.All granted denied) concludes same exit.StoreFault tells = absurd tells
  tried_says seed count t first last (tried.All granted denied) concludes same other tells = tt
  tried_says seed count t first last tried.Store concludes same status tells =
      subst (λ (s : Status). GenerateSays a b s) (sym tells.0) (same concludes.2)
  tried_says seed count t first last tried.Memory concludes same status tells = subst (λ (s : Status). GenerateSays a b s) (sym tells.0) tt
  tried_says seed count t first last (tried.Broken end) concludes same status tells =
      subst (λ (s : Status). GenerateSays a b s) (sym tells.0) (broken_says end concludes.1)

  pub generate_says : (seed count : ℕ) (status : Status) (site : Option Held) → Generates seed count a b status site → GenerateSays a b status
  generate_says seed count exit.Words None unopened = unopened.why
  generate_says seed count exit.ReadFault None unopened = unopened.why
  generate_says seed count exit.DoorFault None unopened = unopened.why
  generate_says seed count exit.WriteFault None unopened = absurd unopened.why
  generate_says seed count exit.StoreFault None unopened = rose_risen a.faults b.faults unopened.why
  generate_says seed count other None unopened = tt
  generate_says seed count status (Some site) lists =
      tried_says seed count site.kept.state.tables (first_book demo_rows (told_demo a.told) a.faults)
      (book_of site.kept (told_demo a.told) b.told b.faults) lists.tried lists.concludes (λ risen. risen) status lists.tells

-- ---- what sessions keep

-- what each session keeps, all of them together do
module _ (P : Book → Type 0)
    (keeps : (C : Type 0) (reads : C → Taken → C → Type 0) (a b : Scene C) (end : Option Ended) → Session reads a b end → P a.book → P b.book) where
  served_keeps : (a b : Book) (bytes : List ℕ) (moment : ℕ) (output : List ℕ) (end : Option Ended) → ServesMessage a b bytes moment output end
      → P a → P b
  served_keeps a b bytes moment output end serves has =
      subst (λ (book : Book). P book) serves.book (keeps _ (takes says says) (scene_before a bytes moment) serves.after end serves.session has)

  answered_keeps : (seed : ℕ) (a : Book) (n : ℕ) (b : Book) (granted : ℕ) → Answers seed a n b granted → P a → P b
  answered_keeps seed a zero b granted answers has = subst (λ (book : Book). P book) (sym answers.0) has
  answered_keeps seed a (suc n) b granted (mid, before, output, answers, serves, wants, more) has =
      served_keeps mid b (message_at seed n) (moment_of n) output (Some ended.Closed) serves (answered_keeps seed a n mid before answers has)

  broken_keeps : (seed count : ℕ) (a b : Book) (end : Option Ended) → BreaksOff seed count a b end → P a → P b
  broken_keeps seed count a b end breaks has =
      served_keeps breaks.mid b (message_at seed breaks.number) (moment_of breaks.number) breaks.output end breaks.serves
      (answered_keeps seed a breaks.number breaks.mid breaks.granted breaks.answers has)

  concludes_keeps : (seed count : ℕ) (a b : Book) (how : Tried) → Concludes seed count a b how → P a → P b
  concludes_keeps seed count a b (tried.All granted denied) concludes has = answered_keeps seed a count b granted concludes.0 has
  concludes_keeps seed count a b tried.Store concludes has = broken_keeps seed count a b concludes.0 concludes.1 has
  concludes_keeps seed count a b tried.Memory (inl out) has = answered_keeps seed a out.number b out.granted out.answers has
  concludes_keeps seed count a b tried.Memory (inr breaks) has = broken_keeps seed count a b breaks.0 breaks.1 has
  concludes_keeps seed count a b (tried.Broken end) concludes has = broken_keeps seed count a b end concludes.0 has

-- nothing is damaged behind them where nothing was before
concludes_whole : (seed count : ℕ) (a b : Book) (how : Tried) → Concludes seed count a b how → IsUndamaged a → IsUndamaged b
concludes_whole seed count a b how concludes are = concludes_keeps IsUndamaged (λ C reads. (stay_whole {C = C} reads).1) seed count a b how concludes are

-- and the rows that the run was opened with stay
concludes_opening : (seed count : ℕ) (a b : Book) (how : Tried) → Concludes seed count a b how → b.opening ≡ a.opening
concludes_opening seed count a b how concludes =
    concludes_keeps (λ (book : Book). book.opening ≡ a.opening)
    (λ C reads p q end session same. (session_follows reads p q end session).lasts.opening ∙ same) seed count a b how concludes refl

-- nothing is damaged where the demonstration rows were stored
begins_whole : (told : Option Told) (faults : ℕ) → IsGoodStore told → IsLoaded told [] → IsUndamaged (first_book demo_rows (told_demo told) faults)
begins_whole told faults good loaded =
    let begun = opened_safe told [] demo_rows good loaded refl in
    record {
      tells = subst (λ (o : Option Blobs). IsSome o) (sym begun.1.0) refl;
      start = undamaged demo_rows (blobs_in (told_demo told)) begun.0 demo_unbroken begun.1.0 begun.1.1;
    }

-- a safe store is left safe, and so is one without rows
pub generate_keeps : {C : Type 0} (seed count : ℕ) (a b : Outside C) (status : Status) (site : Option Held)
    → Generates seed count a b status site → IfSome site (λ site. Leaves site.kept b.told) → KeepsSafe a.told b.told
generate_keeps {C} seed count a b status None unopened leaves = same_keeps a.told b.told (ap (λ (o : Outside C). o.told) unopened.untouched)
generate_keeps seed count a b status (Some site) lists leaves = record {
  safe = λ good. here (inr good);
  empty = λ none. inr (here (inl none));
}
  where
    here : IsGoodStore a.told → IsSafeStore b.told
    here good =
        let first = first_book demo_rows (told_demo a.told) a.faults in
        let last = book_of site.kept (told_demo a.told) b.told b.faults in
        let are : IsUndamaged last =
        concludes_whole seed count first last lists.tried lists.concludes (begins_whole a.told a.faults good lists.loaded) in
        undamaged_safe site.kept (blobs_in (told_demo a.told)) b.told leaves lists.told are.tells are.start

-- ---- where nothing fails

-- no session lowers the count of the store's failures
answers_rise : (seed : ℕ) (a : Book) (n : ℕ) (b : Book) (granted : ℕ) → Answers seed a n b granted → a.strikes ≤ b.strikes
answers_rise seed a n b granted answers =
    answered_keeps (λ (book : Book). a.strikes ≤ book.strikes)
    (λ C reads p q end session least. omega (arith, least, (session_follows reads p q end session).lasts.strikes))
    seed a n b granted answers (omega arith)

stays_unrisen : (before mid now : ℕ) → before ≤ mid → mid ≤ now → IsUnrisen before now → IsUnrisen mid now
stays_unrisen before mid now least most same = (omega (arith, least, most, same.0), omega (arith, least, most, same.0, same.1))

never_risen : (before now : ℕ) → IsUnrisen before now → Risen before now → ⊥
never_risen before now same (inl rose) = omega (arith, same.0, same.1, rose)
never_risen before now same (inr most) = omega (arith, same.0, same.1, most)

-- neither end is at fault where a session breaks off
both_unfailed : (end : Option Ended) → IsBroken end → (r s w v : ℕ) → CountsFault end r s w v → (s ≡ r) × (v ≡ w)
both_unfailed None broken r s w v counts = counts
both_unfailed (Some ended.ReadFault) broken r s w v counts = absurd broken
both_unfailed (Some ended.WriteFault) broken r s w v counts = absurd broken
both_unfailed (Some other) broken r s w v counts = counts

end_well : (end : Option Ended) → complete.IsWell end → IsWellFilled (status_of end)
end_well None is = inl tt
end_well (Some ended.Closed) is = inl tt
end_well (Some ended.BadMessage) is = inl tt
end_well (Some ended.RunFull) is = inr refl
end_well (Some ended.Memory) is = inl tt
end_well (Some other) is = absurd is

broken_well : (seed count : ℕ) (a b : Book) (end : Option Ended) → BreaksOff seed count a b end → IsBroken end → IsUndamaged a
    → IsUnrisen a.strikes b.strikes → IsWellFilled (status_of end)
broken_well seed count a b end breaks broken are unrose =
    let mid : Book = breaks.mid in
    let after = breaks.serves.after in
    let before = scene_before mid (message_at seed breaks.number) (moment_of breaks.number) in
    let follows = session_follows (takes says says) before after end breaks.serves.session in
    let same = both_unfailed end broken 0 after.read_faults 0 after.write_faults follows.counts in
    let least = answers_rise seed a breaks.number mid breaks.granted breaks.answers in
    let most : mid.strikes ≤ b.strikes = subst (λ (book : Book). mid.strikes ≤ book.strikes) breaks.serves.book follows.lasts.strikes in
    let store : IsUnrisen mid.strikes after.book.strikes = subst (λ (book : Book). IsUnrisen mid.strikes book.strikes) (sym breaks.serves.book)
    (stays_unrisen a.strikes mid.strikes b.strikes least most unrose) in
    end_well end (ends_well (takes says says) before after end breaks.serves.session
    (record { store = store; read = (same.0, omega arith); write = (same.1, omega arith) })
    (stays_whole mid (answered_keeps IsUndamaged (λ C reads. (stay_whole {C = C} reads).1) seed a breaks.number mid breaks.granted breaks.answers are)))

module _ {C : Type 0} (a b : Outside C) (nothing : NothingFails a b) where
  tried_well : (seed count : ℕ) (t : Tables) (first last : Book) (how : Tried) → Concludes seed count first last how → IsUndamaged first
      → IsUnrisen first.strikes last.strikes → (status : Status) → TellsTried count t how a b status → IsWellFilled status
  tried_well seed count t first last (tried.All granted denied) concludes are unrose exit.Done tells = inl tt
  tried_well seed count t first last (tried.All granted denied) concludes are unrose exit.Memory tells = inl tt
  tried_well seed count t first last (tried.All granted denied) concludes are unrose exit.WriteFault tells =
      absurd (unrisen a.write_faults b.write_faults nothing.write tells.0)
  tried_well seed count t first last (tried.All granted denied) concludes are unrose other tells = absurd tells
  tried_well seed count t first last tried.Store concludes are unrose status tells =
      absurd (never_risen first.strikes last.strikes unrose concludes.2)
  tried_well seed count t first last tried.Memory concludes are unrose status tells =
      subst (λ (s : Status). IsWellFilled s) (sym tells.0) (inl tt)
  tried_well seed count t first last (tried.Broken end) concludes are unrose status tells =
      subst (λ (s : Status). IsWellFilled s) (sym tells.0) (broken_well seed count first last end concludes.0 concludes.1 are unrose)

none_well : (status : Status) → (status ≡ exit.Done) ⊎ (status ≡ exit.Memory) → IsWellFilled status
none_well status (inl is) = subst (λ (s : Status). IsWellFilled s) (sym is) (inl tt)
none_well status (inr is) = subst (λ (s : Status). IsWellFilled s) (sym is) (inl tt)

pub generate_well : {C : Type 0} (seed count : ℕ) (a b : Outside C) (status : Status) (site : Option Held)
    → Generates seed count a b status site → GenerateEndsWell a b status
generate_well seed count a b status None unopened = λ empty nothing.
    none_well status (unopened_done a b status empty unopened.why nothing)
generate_well seed count a b status (Some site) lists = λ empty nothing.
    tried_well a b nothing seed count site.kept.state.tables (first_book demo_rows (told_demo a.told) a.faults)
    (book_of site.kept (told_demo a.told) b.told b.faults) lists.tried lists.concludes
    (begins_whole a.told a.faults (inl empty) lists.loaded) nothing.keeper status lists.tells

-- ---- over a desk that was opened for it

told_is : (first : First) (told : Option Told) → first.rows ≡ demo_rows → first_blob first ≡ demo_blob → first_told first [] told ≡ told_demo told
told_is first told rows blob =
    ap (λ (these : List Row). opening.told_first these (first_blob first) told) rows
    ∙ ap (λ (stored : Option Stored). opening.told_first demo_rows stored told) blob

pub lists_desk : {C : Type 0} (seed count : ℕ) (a b : Outside C) (status : Status) (desk : Shown) (site : Option Held) (first : First)
    → Opens (Fresh first) a.told desk.told desk.site → first.rows ≡ demo_rows → first_blob first ≡ demo_blob
    → desk.faults ≡ a.faults → desk.start.told ≡ desk.told
    → b.left ≡ a.left → b.read_faults ≡ a.read_faults → b.lent ≡ a.lent
    → ListsDesk seed count desk a b status site → Generates seed count a b status site
lists_desk seed count a b status desk None first opens rows blob same begun left reads lent lists = absurd lists
lists_desk seed count a b status desk (Some site) first opens rows blob same begun left reads lent lists =
    let none : opens.raws ≡ [] = opens.fresh tt in
    let tells : desk.told ≡ told_demo a.told =
    opens.told ∙ (ap (λ (raws : List Raw). first_told first raws a.told) none ∙ told_is first a.told rows blob) in
    let over : desk.site.opening ≡ demo_rows =
    subst (λ (raws : List Raw). OpensTo first.rows raws desk.site.opening) none opens.rows ∙ rows in
    let start : desk.start.told ≡ told_demo a.told = begun ∙ tells in
    let book : book_of desk.site desk.start.told desk.told desk.faults ≡ first_book demo_rows (told_demo a.told) a.faults =
    ap (λ (z : Kept). book_of z desk.start.told desk.told desk.faults) (opens.begun ∙ ap opened_over over)
    ∙ (ap (λ (o : Option Told). book_of (opened_over demo_rows) o desk.told desk.faults) start
    ∙ (ap (λ (o : Option Told). book_of (opened_over demo_rows) (told_demo a.told) o desk.faults) tells
    ∙ ap (λ (n : ℕ). book_of (opened_over demo_rows) (told_demo a.told) (told_demo a.told) n) same)) in
    record {
      loaded = subst (IsLoaded a.told) none opens.loaded;
      tried = lists.tried;
      concludes = subst (λ (f : Book). Concludes seed count f (book_of site.kept (told_demo a.told) b.told b.faults) lists.tried) book
          (subst (λ (o : Option Told). Concludes seed count (book_of desk.site desk.start.told desk.told desk.faults) (book_of site.kept o b.told b.faults)
          lists.tried) start lists.concludes);
      tells = lists.tells;
      opening = concludes_opening seed count (book_of desk.site desk.start.told desk.told desk.faults) (book_of site.kept desk.start.told b.told b.faults)
          lists.tried lists.concludes ∙ over;
      told = subst (λ (o : Option Told). IfSome b.told (TellsSite (blobs_in o) site.kept)) start lists.told;
      left = left;
      begun = lists.begun;
      read_faults = reads;
      lent = lent;
    }

-- ---- with a keeper beside the output

abbrev pub kept_beside : Outside (Unit {0}) → Option Told → ℕ → Outside (Unit {0})
kept_beside a told faults = record a { told = told; faults = faults }

writes_kept : (text : List ℕ) (a b : Outside (Unit {0})) (told later : Option Told) (before now : ℕ) (status : Status) → Writes text a b status
    → Writes text (kept_beside a told before) (kept_beside b later now) status
writes_kept text a b told later before now exit.Done writes = writes
writes_kept text a b told later before now exit.WriteFault writes = writes
writes_kept text a b told later before now other writes = absurd writes

pub tells_kept : (count : ℕ) (t : Tables) (how : Tried) (a b : Outside (Unit {0})) (told later : Option Told) (before now : ℕ) (status : Status)
    → TellsTried count t how a b status → TellsTried count t how (kept_beside a told before) (kept_beside b later now) status
tells_kept count t (tried.All granted denied) a b told later before now exit.Memory tells = tells
tells_kept count t (tried.All granted denied) a b told later before now status tells = writes_kept (summary count granted denied t) a b told later before now status tells
tells_kept count t tried.Store a b told later before now status tells = tells
tells_kept count t tried.Memory a b told later before now status tells = tells
tells_kept count t (tried.Broken end) a b told later before now status tells = tells

-- what the keeper told before doesn't matter
pub lists_over : (seed count : ℕ) (a b : Outside (Unit {0})) (told : Option Told) (faults : ℕ) (desk : Shown) (status : Status) (site : Option Held)
    → ListsDesk seed count desk a b status site → ListsDesk seed count desk (kept_beside a told faults) b status site
lists_over seed count a b told faults desk status None lists = absurd lists
lists_over seed count a b told faults desk status (Some site) lists = record {
  tried = lists.tried;
  concludes = lists.concludes;
  tells = tells_kept count site.kept.state.tables lists.tried a b told b.told faults b.faults status lists.tells;
  told = lists.told;
  begun = lists.begun;
}

-- where there was no memory for a hub, what was handed out is the desk as it was opened
pub lists_none : {K : Type 0} (k : KeeperOf K) (seed count : ℕ) (a : Outside (Unit {0})) (desk left : Served K) (status : Status)
    (site : Option Held) (keeper : K) → 1 ≤ count → desk.start.value ≡ desk.keeper → left ≡ desk → status ≡ exit.Memory → site ≡ Some left.site
    → keeper ≡ left.keeper → Leaves left.site.kept (k.told left.keeper)
    → ListsDesk seed count (shown k desk) a (record a { told = k.told keeper; faults = k.faults keeper }) status site
lists_none {K} k seed count a desk left status site keeper some begun same is handed its leaves =
    let b : Outside (Unit {0}) = record a { told = k.told keeper; faults = k.faults keeper } in
    let start : Option Told = k.told desk.start.value in
    let first : Book = book_of desk.site.kept start (k.told desk.keeper) (k.faults desk.keeper) in
    let last : first ≡ book_of left.site.kept start (k.told keeper) (k.faults keeper) =
    ap (λ (d : Served K). book_of d.site.kept start (k.told d.keeper) (k.faults d.keeper)) (sym same)
    ∙ ap (λ (z : K). book_of left.site.kept start (k.told z) (k.faults z)) (sym its) in
    let opened : left.keeper ≡ desk.start.value = ap (λ (d : Served K). d.keeper) same ∙ sym begun in
    subst (λ (s : Option Held). ListsDesk seed count (shown k desk) a b status s) (sym handed) (record {
      tried = tried.Memory;
      concludes = inl (record { number = 0; few = omega arith; granted = 0; answers = (sym last, refl) });
      tells = (is, (refl, refl));
      told = subst (λ (z : K). IfSome (k.told z) (TellsSite (blobs_in start) left.site.kept)) (sym its)
          (subst (λ (z : K). IfSome (k.told left.keeper) (TellsSite (blobs_in (k.told z)) left.site.kept)) opened leaves.told);
      begun = refl;
    })
