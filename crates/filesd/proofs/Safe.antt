-- A run over a safe store leaves a safe one, and nothing is damaged at any of its messages.
use Rattle.std.proofs.Common.{◌≡◌, ◌≢◌, ℕ, List, [], ◌∷◌, refl, sym, ◌∙◌, ap, subst, inl, inr}
use Rattle.std.specs.Prelude.{All, Option, None, Some, IfSome, IsSome}
use Rattle.std.specs.declared.snapshot.Snapshot.{Snapshot}
use Rattle.std.proofs.lemmas.List.Elements.{All-nil}
use Rattle.std.proofs.lemmas.Option.{same_Some}
use Rattle.nf_base.specs.declared.limits.TheConstants.{MAX_SEATS}
use Rattle.nf_base.specs.declared.content.Piece.{Piece}
use Rattle.nf_base.specs.declared.rows.Row.{Row}
use Rattle.nf_command.specs.First.{first_rows}
use Rattle.nf_defs.specs.Prelude.{Blobs}
use Rattle.nf_desk.specs.Desk.{Served, TellsSite, blobs_in, meanings}
use Rattle.nf_desk.specs.Opened.{first_of, told_first}
use Rattle.nf_desk.specs.declared.first.First.{First}
use Rattle.nf_desk.specs.declared.first.Opening.TheVariants.{Kept as OverKept}
use Rattle.nf_hub.specs.Seats.{book_in}
use Rattle.nf_keeper.specs.declared.keeper.Keeper.{Ghosts as KeeperOf}
use Rattle.nf_laws.specs.Wholes.{IsDamaged, IsNamed, IsSafe, IsThere}
use Rattle.nf_outside.specs.Lent.{Lent, Taken}
use Rattle.nf_outside.specs.declared.traits.Ends.{Ghosts as EndsOf}
use Rattle.nf_rows.specs.Spelling.{Raw}
use Rattle.nf_server.proofs.Spanning.{work_begins}
use Rattle.nf_server.specs.Work.{InTurn, Visited, WorkBeside, Works, lent_of}
use Rattle.nf_server.specs.declared.door.Door.{Ghosts as DoorOf}
use Rattle.nf_server.specs.declared.workers.Worked.{Worked}
use Rattle.nf_server.specs.declared.workers.Worker.{Worker}
use Rattle.nf_site.specs.Held.{Held}
use Rattle.nf_site.specs.Kept.{Kept}
use Rattle.nf_told.specs.Told.{Told}
use Rattle.nf_turn.specs.Prelude.{having_split, longer, of_the_first, split_from}
use Rattle.nf_turn.specs.declared.view.Memory.{Memory}
use Rattle.filesd.specs.Doors.{IsServed, RunsDoors, ServesDesk, ServesDoors}
use Rattle.filesd.specs.Ending.{IsEmptyStore, IsSafeStore}
use Rattle.filesd.specs.Init.{Inits}
use Rattle.filesd.specs.Next.{AreUndamaged, BatchBeginsWhole, IsGoodStore, IsUndamaged, KeepsSafe, ServeBeginsWhole, VisitsBeginWhole, WorkBeginsWhole}
use Rattle.filesd.specs.Opening.{told_opened}
use Rattle.filesd.specs.Opening as opening
use Rattle.filesd.specs.Outside.{Outside}
use Rattle.filesd.specs.Reopening.{Leaves}
use Rattle.filesd.specs.Seat.{book_of, seat}
use Rattle.filesd.specs.Session.{Runs, first_book, scene_of}
use Rattle.filesd.specs.Sweep.{IsSwept, Sweeps, beside_keeper}
use Rattle.filesd.specs.declared.status.Status.{Status}
use Rattle.filesd.proofs.Closing.{closing_tells}
use Rattle.filesd.proofs.Spelled.{loaded_is, missing_never, opened_so}
use Rattle.filesd.proofs.Swept.{sweep_opening, sweep_tells}
use Rattle.filesd.proofs.Whole.{each_has, has_safe, left_is_safe, opened_safe, stay_whole, tells_some, undamaged}

-- ---- what is left

pub same_keeps : (before after : Option Told) → after ≡ before → KeepsSafe before after
same_keeps before after same = record {
  safe = λ good. subst (λ (told : Option Told). IsSafeStore told) (sym same) good;
  empty = λ none. inl (subst (λ (told : Option Told). IsEmptyStore told) (sym same) none);
}

leaves_safe : (k : Kept) (start : Option Blobs) (told : Option Told) → Leaves k told → IfSome told (TellsSite start k)
    → IsSome (blobs_in told)
    → (shelf : Blobs) → start ≡ Some shelf → ((piece : Piece) → IsDamaged k.opening shelf piece → ⊥) → IsSafeStore told
leaves_safe k start None leaves site some shelf tells none = absurd (cc)
leaves_safe k start (Some it) leaves site some shelf tells none =
    left_is_safe k it leaves start site
    (λ piece damaged.
    none piece (subst (λ (z : Blobs). IsDamaged k.opening z piece) (same_Some site.begun shelf (sym site.at_start ∙ tells)) damaged))

pub undamaged_safe : (k : Kept) (start : Option Blobs) (told : Option Told) → Leaves k told → IfSome told (TellsSite start k)
    → IsSome (blobs_in told)
    → AreUndamaged k.opening start → IsSafeStore told
undamaged_safe k start told leaves site some are = leaves_safe k start told leaves site some are.shelf are.tells are.none

-- ---- `batch`

pub batch_begins : {C : Type 0} (reads : C → Taken → C → Type 0) → BatchBeginsWhole reads
batch_begins reads a b status site serves good =
    let begun : (shelf : Blobs) × ((blobs_in (told_opened serves.raws a.told) ≡ Some shelf) × IsSafe serves.rows shelf) =
    opened_safe a.told serves.raws serves.rows good serves.loaded serves.opens in
    record {
      tells = subst (λ (o : Option Blobs). IsSome o) (sym begun.1.0) refl;
      start = undamaged serves.rows (blobs_in (told_opened serves.raws a.told)) begun.0 serves.unbroken begun.1.0 begun.1.1;
    }

pub batch_keeps : {C : Type 0} (reads : C → Taken → C → Type 0) (a b : Outside C) (status : Status) (site : Option Held)
    → Runs reads a b status site → IfSome site (λ site. Leaves site.kept b.told) → KeepsSafe a.told b.told
batch_keeps {C} reads a b status None unopened leaves = same_keeps a.told b.told (ap (λ (o : Outside C). o.told) unopened.untouched)
batch_keeps reads a b status (Some site) serves leaves = record {
  safe = λ good. here (inr good);
  empty = λ none. inr (here (inl none));
}
  where
    here : IsGoodStore a.told → IsSafeStore b.told
    here good =
        let first = first_book serves.rows (told_opened serves.raws a.told) a.faults in
        let last = book_of site.kept (told_opened serves.raws a.told) b.told b.faults in
        let are : IsUndamaged last = (stay_whole reads).1 (scene_of a [] first) (scene_of b serves.kept last) serves.end serves.session
        (batch_begins reads a b status site serves good) in
        undamaged_safe site.kept (blobs_in (told_opened serves.raws a.told)) b.told leaves serves.told are.tells are.start

-- ---- `init`

init_undamaged : (name digest : List ℕ) (quota : ℕ) (shelf : Blobs) (piece : Piece) → IsDamaged (first_rows name digest quota) shelf piece → ⊥
init_undamaged name digest quota shelf piece damaged =
    let none : All (IsThere shelf) [] = All-nil (IsThere shelf) in
    damaged.broken (has_safe (first_rows name digest quota) shelf
    (each_has shelf (first_rows name digest quota) (none, (none, (none, (none, (none, (none, tt))))))) piece damaged.named)

pub init_keeps : {C : Type 0} (name digest : List ℕ) (quota : ℕ) (a b : Outside C) (status : Status) (site : Option Held)
    → Inits (first_rows name digest quota) a b status site → IfSome site (λ site. Leaves site.kept b.told) → KeepsSafe a.told b.told
init_keeps {C} name digest quota a b status None unopened leaves = same_keeps a.told b.told (ap (λ (o : Outside C). o.told) unopened.untouched)
init_keeps name digest quota a b status (Some site) begins leaves = record {
  safe = λ good. absurd (missing_never a.told good.it good.rows good.tells good.spelled good.unbroken [] begins.loaded refl);
  empty = λ none. inr (here none.0 none.1);
}
  where
    here : (it : Told) → a.told ≡ Some it → IsSafeStore b.told
    here it tells =
        let told = begins.told ∙ ap (λ (t : Option Told). opening.told_first (first_rows name digest quota) None t) tells in
        let blobs : blobs_in b.told ≡ Some it.blobs = ap blobs_in told in
        leaves_safe site.kept (blobs_in b.told) b.told leaves leaves.told
        (subst (λ (o : Option Blobs). IsSome o) (sym blobs) refl) it.blobs blobs
        (λ piece damaged. init_undamaged name digest quota it.blobs piece
        (subst (λ (k : Kept). IsDamaged k.opening it.blobs piece) begins.site damaged))

-- ---- `sweep`

tells_blobs : (told : Option Told) → IsSome told → IsSome (blobs_in told)
tells_blobs None some = absurd (cc)
tells_blobs (Some it) some = refl

module _ {C : Type 0} (reads : C → ℕ → C → Type 0) (a b : Outside C) (status : Status) where
  swept_safe : (site : Held) → IsSwept reads a b status site → Leaves site.kept b.told → IsSafeStore a.told → IsSafeStore b.told
  swept_safe site swept leaves good =
      let first = beside_keeper a a swept.opened swept.before in
      let last = beside_keeper a b site.kept swept.after in
      let rows : site.kept.opening ≡ good.rows =
      sweep_opening seat first last swept.now swept.result swept.sweeps
      ∙ opened_so a.told good.it good.rows good.tells good.spelled good.unbroken (first_of OverKept).rows swept.opens.raws swept.opened.opening
      swept.opens.loaded swept.opens.rows in
      leaves_safe site.kept (blobs_in a.told) b.told leaves swept.told
      (tells_blobs b.told (sweep_tells seat first last swept.now swept.result swept.sweeps
      (subst (λ (told : Option Told). IsSome told) (sym good.tells) refl)))
      good.it.blobs (ap blobs_in good.tells)
      (λ piece damaged. damaged.broken (good.safe piece (subst (λ (these : List Row). IsNamed these piece) rows damaged.named)))

  pub sweep_keeps : (site : Option Held) → Sweeps reads a b status site → IfSome site (λ site. Leaves site.kept b.told) → KeepsSafe a.told b.told
  sweep_keeps None unopened leaves = same_keeps a.told b.told (ap (λ (o : Outside C). o.told) unopened.untouched)
  sweep_keeps (Some site) swept leaves = record {
    safe = swept_safe site swept leaves;
    empty = λ none. absurd (swept.opens.kept tt (loaded_is a.told none.0 swept.opens.raws none.1 swept.opens.loaded ∙ none.2));
  }

-- ---- `serve`

module _ {K I A C Q D : Type 0} (k : KeeperOf K) (i : EndsOf I) (a : EndsOf A) (reads : Lent C Q → Taken → Lent C Q → Type 0) (door : DoorOf D I A) where
  -- what a desk is opened over is what the keeper tells
  told_kept : (raws : List Raw) (first : First) (told : Option Told) → raws ≢ [] → told_first first raws told ≡ told
  told_kept [] first told some = absurd (some refl)
  told_kept (raw ∷ raws) first told some = refl

  module _ (connections : ℕ) (keeper left : K) (before after : List (Worker D C Q)) (status : Status) (site : Held)
      (runs : ServesDoors k i a reads door connections keeper left before after status site) where
    opened_told : k.told runs.desk.keeper ≡ k.told keeper
    opened_told = runs.opens.told ∙ told_kept runs.opens.raws (first_of OverKept) (k.told keeper) (runs.opens.kept tt)

    desk_undamaged : IsSafeStore (k.told keeper) → AreUndamaged runs.desk.site.kept.opening (blobs_in (k.told runs.desk.keeper))
    desk_undamaged good =
        let same : runs.desk.site.kept.opening ≡ good.rows =
        opened_so (k.told keeper) good.it good.rows good.tells good.spelled good.unbroken [] runs.opens.raws runs.desk.site.kept.opening
        runs.opens.loaded runs.opens.rows in
        undamaged runs.desk.site.kept.opening (blobs_in (k.told runs.desk.keeper)) good.it.blobs runs.unbroken
        (ap blobs_in (opened_told ∙ good.tells)) (λ piece named. good.safe piece (subst (λ (rows : List Row). IsNamed rows piece) same named))

    module _ (served : IsServed k i a reads door connections runs.desk left before after status site) where
      pub first_is : served.memory.first ≡ runs.desk
      first_is =
          work_begins k i a reads door connections (of_the_first MAX_SEATS runs.desk) served.memory before after served.result served.work

      pub opening_same : (meanings k).opening served.closes.desk ≡ (meanings k).opening runs.desk
      opening_same = served.closes.agrees.opening ∙ ap (meanings k).opening first_is

      -- the rows stay, and the keeper of the start, and what tells tells still
      site_safe : IsSafeStore (k.told keeper) → Leaves site.kept (k.told left) → IsSafeStore (k.told left)
      site_safe good leaves =
          let desk = served.closes.desk in
          let rows : desk.site.kept.opening ≡ runs.desk.site.kept.opening = ap (λ (o : List Row × Snapshot K). o.0) opening_same in
          let start : desk.start.value ≡ runs.desk.keeper = ap (λ (o : List Row × Snapshot K). o.1.value) opening_same ∙ runs.start in
          let begun : AreUndamaged desk.site.kept.opening (blobs_in (k.told desk.start.value)) =
          subst (λ (z : K). AreUndamaged desk.site.kept.opening (blobs_in (k.told z))) (sym start)
          (subst (λ (these : List Row). AreUndamaged these (blobs_in (k.told runs.desk.keeper))) (sym rows) (desk_undamaged good)) in
          let some : IsSome (blobs_in (k.told desk.keeper)) =
          tells_some _ _ (blobs_in (k.told desk.start.value)) (blobs_in (k.told desk.keeper)) served.closes.is_desk.since
          (subst (λ (o : Option Blobs). IsSome o) (sym begun.tells) refl) in
          undamaged_safe site.kept (blobs_in (k.told desk.start.value)) (k.told left) leaves
          (closing_tells k served.memory site left served.closes)
          (subst (λ (z : K). IsSome (blobs_in (k.told z))) (sym served.closes.keeper_is) some)
          (subst (λ (h : Held). AreUndamaged h.kept.opening (blobs_in (k.told desk.start.value))) (sym served.closes.site_is) begun)

    desk_keeps : IsSafeStore (k.told keeper) → Leaves site.kept (k.told left)
        → ServesDesk k i a reads door connections runs.desk left before after status (Some site) → IsSafeStore (k.told left)
    desk_keeps good leaves (inl none) =
        subst (λ (told : Option Told). IsSafeStore told) (sym (ap (λ (z : K). k.told z) none.keeper_is ∙ opened_told)) good
    desk_keeps good leaves (inr served) = site_safe served good leaves

  pub serve_keeps : (connections : ℕ) (keeper left : K) (before after : List (Worker D C Q)) (status : Status) (site : Option Held)
      → RunsDoors k i a reads door connections keeper left before after status site → IfSome site (λ site. Leaves site.kept (k.told left))
      → KeepsSafe (k.told keeper) (k.told left)
  serve_keeps connections keeper left before after status None shut leaves = same_keeps (k.told keeper) (k.told left) shut.told
  serve_keeps connections keeper left before after status (Some site) runs leaves = record {
    safe = λ good. desk_keeps connections keeper left before after status site runs good leaves runs.serves;
    empty = λ none. absurd (runs.opens.kept tt (loaded_is (k.told keeper) none.0 runs.opens.raws none.1 runs.opens.loaded ∙ none.2));
  }

  -- ---- at each of its sessions

  visits_whole : (m : Memory (Served K)) (c : Lent C Q) (visits : List (Visited K I A C Q)) (n : Memory (Served K)) (d : Lent C Q)
      → InTurn k i a reads m c visits n d → IsUndamaged (book_in k m) → VisitsBeginWhole k i a reads door (book_in k m) visits
  visits_whole m c [] n d so are = tt
  visits_whole m c (v ∷ visits) n d so are = (
    are,
    visits_whole v.memory v.lent visits n d so.1 ((stay_whole reads).1 _ _ v.ended so.0.session are),
  )

  -- a desk that was just opened
  begun_whole : (first : Served K) (m : Memory (Served K)) → first.start.value ≡ first.keeper
      → AreUndamaged first.site.kept.opening (blobs_in (k.told first.keeper)) → m.known ≡ first → IsUndamaged (book_in k m)
  begun_whole first m start are known = record {
    tells = subst (λ (x : Served K). IsSome (blobs_in (k.told x.keeper))) (sym known)
        (subst (λ (o : Option Blobs). IsSome o) (sym are.tells) refl);
    start = subst (λ (x : Served K). AreUndamaged x.site.kept.opening (blobs_in (k.told x.start.value))) (sym known)
        (subst (λ (z : K). AreUndamaged first.site.kept.opening (blobs_in (k.told z))) (sym start) are);
  }

  work_whole : (connections : ℕ) (first : Served K) → first.start.value ≡ first.keeper
      → AreUndamaged first.site.kept.opening (blobs_in (k.told first.keeper))
      → (m n : Memory (Served K)) (before after : List (Worker D C Q)) (result : Worked)
      (work : WorkBeside (longer (meanings k)) (Works k i a reads door connections) m n before after result) → m.known ≡ first
      → WorkBeginsWhole k i a reads door connections m n before after result work
  work_whole connections first start are m n [] [] result work known = tt
  work_whole connections first start are m n [] (w ∷ after) result work known = work
  work_whole connections first start are m n (v ∷ before) [] result work known = work
  work_whole connections first start are m n (v ∷ before) (w ∷ after) result (mine, others, one, rest, works, beside, knows, ends) known = (
    visits_whole (split_from m) (lent_of v) works.visits mine (lent_of w) works.in_turn (begun_whole first (split_from m) start are known),
    work_whole connections first start are (having_split m) others before after rest beside known,
  )

  pub serve_begins : ServeBeginsWhole k i a reads door
  serve_begins connections keeper left before after status site runs served good =
      work_whole connections runs.desk runs.start (desk_undamaged connections keeper left before after status site runs good)
      (of_the_first MAX_SEATS runs.desk)
      served.memory before after served.result served.work refl
