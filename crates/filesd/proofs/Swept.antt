-- A run of `sweep`, from what the desk's sweep says.
use Rattle.std.proofs.Common.{◌≡◌, ◌≢◌, ◌⊎◌, ℕ, List, [], ◌∷◌, refl, sym, ◌∙◌, ap, subst, inl, inr}
use Rattle.std.specs.Option.{IfSome}
use Rattle.std.specs.Prelude.{None, Option, Some, option_map, Result, Ok, Err, IsSome, sum}
use Rattle.nf_base.specs.declared.changes.Change.{Change}
use Rattle.nf_base.specs.declared.rows.Row.{Row}
use Rattle.std.specs.declared.snapshot.Snapshot.{Snapshot}
use Rattle.nf_desk.specs.Desk.{IsDesk, Served, Shown, TellsSite, blobs_in, failed_marks, failures, meanings, moved, risen, shown, standing_in}
use Rattle.nf_desk.specs.Opened.{Opens, first_of, told_first}
use Rattle.nf_desk.specs.Stepping.{Starts, Standing, Tells, entry_at, told_by}
use Rattle.nf_desk.specs.Sweeping.{EndsSweep}
use Rattle.nf_desk.specs.Sweeping.{Sweeps as SweepsDesk}
use Rattle.nf_desk.specs.declared.first.First.{First}
use Rattle.nf_desk.specs.declared.first.Opening.TheVariants.{Kept as OverKept}
use Rattle.nf_desk.specs.declared.sweeping.Swept.{Swept}
use Rattle.nf_keeper.specs.Keeping.{Stored, swept as swept_told}
use Rattle.nf_laws.specs.Named.{blobs_named}
use Rattle.nf_keeper.specs.declared.keeper.Keeper.{Ghosts as KeeperOf}
use Rattle.nf_outside.specs.Causes.{Rose}
use Rattle.nf_outside.specs.Lent.{lent}
use Rattle.nf_outside.specs.declared.traits.Ends.{Ghosts as EndsOf}
use Rattle.nf_rows.specs.Spelling.{Raw}
use Rattle.nf_rules.specs.Ruled.{AreRuled}
use Rattle.nf_rules.specs.Rules.{AreUnbroken}
use Rattle.nf_session.specs.Book.{Answer, Strikes}
use Rattle.nf_site.specs.Held.{Held}
use Rattle.nf_site.specs.Kept.{IsHistory, Kept}
use Rattle.nf_told.specs.Told.{Told}
use Rattle.nf_turn.specs.Book.{AddsAlone}
use Rattle.nf_words.specs.Prelude.{after, answer_at, IsSound, State}
use Rattle.nf_words.specs.declared.answer.Reply.{Reply}
use Rattle.nf_words.specs.declared.answer.Denial.{Denial}
use Rattle.nf_words.specs.declared.answer.Denial.TheVariants as denial
use Rattle.nf_words.specs.declared.history.Event.TheVariants.{Sweep}
use Rattle.nf_words.specs.declared.history.Mark.{Mark}
use Rattle.nf_words.specs.declared.history.Mark.TheVariants as mark
use Rattle.filesd.specs.Outside.{Outside, outlet_with, output_alone}
use Rattle.filesd.specs.Seat.{seat}
use Rattle.filesd.specs.Sweep.{IsSwept, Sweeps, TellsSwept, beside_keeper, reads_clock}
use Rattle.filesd.specs.declared.status.Status.{Status}
use Rattle.filesd.specs.declared.status.Status.TheVariants as exit
use Rattle.filesd.specs.Reopening.{Leaves, Pays}
use Rattle.filesd.proofs.Beginning.{beside}
use Rattle.filesd.proofs.Leaving.{leaves, paid}

-- ---- the site behind it

site_behind : (n : ℕ) (s : State) (mid b : Shown) (answer : Answer) (result : Result Swept Denial) → EndsSweep n s mid b answer result → b.site ≡ mid.site
site_behind n s mid b (Ok reply) (Ok gone) ends = ap (λ (z : Shown). z.site) ends.0
site_behind n s mid b (Ok reply) (Err denial.Store) ends = ap (λ (z : Shown). z.site) ends.0
site_behind n s mid b (Ok reply) (Err denial.Memory) ends = ap (λ (z : Shown). z.site) ends
site_behind n s mid b (Ok reply) (Err other) ends = absurd ends
site_behind n s mid b (Err refusal) result ends = ap (λ (z : Shown). z.site) ends.0

-- no ticket comes by its step, and none goes
step_idle : (n : ℕ) (a b : Standing) (now : ℕ) (answer : Answer) → Starts n a b now Sweep answer → b.site.state.tickets ≡ a.site.state.tickets
step_idle n a b now answer (inl steps) = ap (λ (k : Kept). k.state.tickets) steps.makes.site ∙ here steps.mark
  where
    here : (m : Mark) → (after a.site.state (entry_at n a.site now Sweep m)).tickets ≡ a.site.state.tickets
    here mark.Answered = refl
    here mark.Store = refl
    here mark.Memory = refl
step_idle n a b now answer (inr none) = ap (λ (s : Standing). s.site.state.tickets) none.same

pub sweep_idle : (n : ℕ) (a b : Shown) (now : ℕ) (result : Result Swept Denial) → SweepsDesk n a b now result
    → a.site.state.tickets ≡ [] → b.site.state.tickets ≡ []
sweep_idle n a b now result sweeps idle =
    ap (λ (k : Kept). k.state.tickets) (site_behind n a.site.state (moved a sweeps.mid) b sweeps.answer result sweeps.ends)
    ∙ step_idle n (standing_in a) sweeps.mid now sweeps.answer sweeps.step ∙ idle

-- nor are the rows that it was opened with others
step_opening : (n : ℕ) (a b : Standing) (now : ℕ) (answer : Answer) → Starts n a b now Sweep answer → b.site.opening ≡ a.site.opening
step_opening n a b now answer (inl steps) = ap (λ (k : Kept). k.opening) steps.makes.site
step_opening n a b now answer (inr none) = ap (λ (s : Standing). s.site.opening) none.same

pub sweep_opening : (n : ℕ) (a b : Shown) (now : ℕ) (result : Result Swept Denial) → SweepsDesk n a b now result → b.site.opening ≡ a.site.opening
sweep_opening n a b now result sweeps =
    ap (λ (k : Kept). k.opening) (site_behind n a.site.state (moved a sweeps.mid) b sweeps.answer result sweeps.ends)
    ∙ step_opening n (standing_in a) sweeps.mid now sweeps.answer sweeps.step

-- ---- what is told behind it

-- a keeper that tells goes on
told_some : (changes : List Change) (stored : Option Stored) (told : Option Told) → IsSome told → IsSome (told_by changes stored told)
told_some [] stored told some = some
told_some (change ∷ changes) stored None some = absurd (cc)
told_some (change ∷ changes) stored (Some told) some = refl

step_tells : (n : ℕ) (a b : Standing) (now : ℕ) (answer : Answer) → Starts n a b now Sweep answer → IsSome a.told → IsSome b.told
step_tells n a b now answer (inr none) some = subst (λ (s : Standing). IsSome s.told) (sym none.same) some
step_tells n a b now answer (inl steps) some = here steps.mark _ _ steps.tells
  where
    here : (m : Mark) (changes : List Change) (stored : Option Stored) → Tells m changes stored a.told b.told → IsSome b.told
    here mark.Answered changes stored tells =
        subst (λ (t : Option Told). IsSome t) (sym tells.0) (told_some changes stored a.told some)
    here mark.Store changes stored same = subst (λ (t : Option Told). IsSome t) (sym same) some
    here mark.Memory changes stored same = subst (λ (t : Option Told). IsSome t) (sym same) some

map_some : (f : Told → Told) (told : Option Told) → IsSome told → IsSome (option_map f told)
map_some f None is = absurd (cc)
map_some f (Some it) is = refl

ends_telling : (n : ℕ) (s : State) (mid b : Shown) (answer : Answer) (result : Result Swept Denial) → EndsSweep n s mid b answer result → IsSome mid.told
    → IsSome b.told
ends_telling n s mid b (Ok reply) (Ok gone) ends some = subst (λ (z : Shown). IsSome z.told) (sym ends.0)
    (map_some (swept_told (blobs_named mid.site.state)) mid.told some)
ends_telling n s mid b (Ok reply) (Err denial.Store) ends some = subst (λ (z : Shown). IsSome z.told) (sym ends.0) some
ends_telling n s mid b (Ok reply) (Err denial.Memory) ends some = subst (λ (z : Shown). IsSome z.told) (sym ends) some
ends_telling n s mid b (Ok reply) (Err other) ends some = absurd ends
ends_telling n s mid b (Err refusal) result ends some = subst (λ (z : Shown). IsSome z.told) (sym ends.0) some

pub sweep_tells : (n : ℕ) (a b : Shown) (now : ℕ) (result : Result Swept Denial) → SweepsDesk n a b now result → IsSome a.told → IsSome b.told
sweep_tells n a b now result sweeps some =
    ends_telling n a.site.state (moved a sweeps.mid) b sweeps.answer result sweeps.ends
    (step_tells n (standing_in a) sweeps.mid now sweeps.answer sweeps.step some)

-- ---- failures

abbrev store_failed : Answer
store_failed = Err denial.Store

abbrev answered_so : Reply → Answer
answered_so reply = Ok reply

abbrev ended_so : Denial → Result Swept Denial
ended_so refusal = Err refusal

abbrev denied_so : Denial → Answer
denied_so refusal = Err refusal

same_denial : (refusal : Denial) → ended_so refusal ≡ ended_so denial.Store → denied_so refusal ≡ store_failed
same_denial refusal same = cc

-- nothing was done, and that isn't why
never_failed : {A B : Type 0} (answer : Answer) → ((answer ≡ Err denial.RunFull) × A) ⊎ ((answer ≡ Err denial.Memory) × B) → answer ≡ store_failed → ⊥
never_failed answer (inl (full, more)) is = cc
never_failed answer (inr (none, more)) is = cc

never_done : {A B : Type 0} (answer : Answer) (reply : Reply) → ((answer ≡ Err denial.RunFull) × A) ⊎ ((answer ≡ Err denial.Memory) × B)
    → answer ≡ Ok reply → ⊥
never_done answer reply (inl (full, more)) is = cc
never_done answer reply (inr (none, more)) is = cc

module _ (n : ℕ) (a b : Standing) (now : ℕ) (answer : Answer) where
  -- where the store is to blame for it, the keeper failed
  step_rose : Starts n a b now Sweep answer → answer ≡ store_failed → Rose a.faults b.faults
  step_rose (inl steps) is = here steps.mark (sym is ∙ steps.makes.answered) steps.faults
    where
      here : (m : Mark) → store_failed ≡ answer_at a.site.state (entry_at n a.site now Sweep m) m → Strikes m a.faults b.faults
          → Rose a.faults b.faults
      here mark.Answered is faults = absurd (cc)
      here mark.Store is faults = faults
      here mark.Memory is faults = absurd (cc)
  step_rose (inr none) is = absurd (never_failed answer none.why is)

  -- and where it is answered it didn't
  step_same : (reply : Reply) → Starts n a b now Sweep answer → answer ≡ Ok reply → b.faults ≡ a.faults
  step_same reply (inl steps) is = here steps.mark (sym is ∙ steps.makes.answered) steps.faults
    where
      here : (m : Mark) → answered_so reply ≡ answer_at a.site.state (entry_at n a.site now Sweep m) m → Strikes m a.faults b.faults → b.faults ≡ a.faults
      here mark.Answered is faults = faults
      here mark.Store is faults = absurd (cc)
      here mark.Memory is faults = absurd (cc)
  step_same reply (inr none) is = absurd (never_done answer reply none.why is)

pub sweep_rose : (n : ℕ) (a b : Shown) (now : ℕ) (result : Result Swept Denial) → SweepsDesk n a b now result → result ≡ Err denial.Store
    → Rose a.faults b.faults
sweep_rose n a b now result sweeps is = here sweeps.answer result sweeps.step sweeps.ends is
  where
    here : (answer : Answer) (end : Result Swept Denial) → Starts n (standing_in a) sweeps.mid now Sweep answer
        → EndsSweep n a.site.state (moved a sweeps.mid) b answer end → end ≡ Err denial.Store → Rose a.faults b.faults
    here (Ok reply) (Err denial.Store) step ends same =
        subst (λ (count : ℕ). Rose count b.faults) (step_same n (standing_in a) sweeps.mid now (Ok reply) reply step refl) ends.1
    here (Ok reply) (Ok gone) step ends same = absurd (cc)
    here (Ok reply) (Err other) step ends same = absurd (cc)
    here (Err refusal) end step ends same =
        subst (λ (z : Shown). Rose a.faults z.faults) (sym ends.0)
        (step_rose n (standing_in a) sweeps.mid now (Err refusal) step (same_denial refusal (sym ends.1 ∙ same)))

-- ---- a run over the desk that was opened

told_kept : (raws : List Raw) (first : First) (told : Option Told) → raws ≢ [] → told_first first raws told ≡ told
told_kept [] first told some = absurd (some refl)
told_kept (raw ∷ raws) first told some = refl

-- what is written doesn't depend on what else is there
tells_beside : {B C : Type 0} (result : Result Swept Denial) (a b : Outside B) (c d : Outside C) (status : Status)
    → c.written ≡ a.written → d.written ≡ b.written → c.write_faults ≡ a.write_faults → d.write_faults ≡ b.write_faults
    → TellsSwept result a b status → TellsSwept result c d status
tells_beside (Ok gone) a b c d exit.Memory p q r s tells = rw (p, q, r, s) tells
tells_beside (Ok gone) a b c d exit.Done p q r s tells = rw (p, q, r, s) tells
tells_beside (Ok gone) a b c d exit.WriteFault p q r s tells = rw (p, q, r, s) tells
tells_beside (Ok gone) a b c d other p q r s tells = absurd tells
tells_beside (Err denial.Store) a b c d status p q r s tells = rw (p, q, r, s) tells
tells_beside (Err other) a b c d status p q r s tells = rw (p, q, r, s) tells

module _ {O K C : Type 0} (o : EndsOf O) (k : KeeperOf K) (reads : C → ℕ → C → Type 0) where
  pub swept : (before after : O) (keeper left : K) (clock later : C) (desk last : Served K) (site : Held) (now : ℕ) (result : Result Swept Denial)
      (status : Status)
      → Opens OverKept (k.told keeper) (k.told desk.keeper) desk.site.kept → AreUnbroken desk.site.kept.opening
      → k.faults desk.keeper ≡ k.faults keeper → desk.start.value ≡ desk.keeper → reads clock now later
      → SweepsDesk seat (shown k desk) (shown k last) now result → AddsAlone (meanings k) seat desk last
      → site ≡ last.site → left ≡ last.keeper → IsDesk (shown k last)
      → TellsSwept result (output_alone o before) (output_alone o after) status → o.begun after ≡ o.begun before
      → IsSwept reads (outlet_with o k before keeper clock) (outlet_with o k after left later) status site
  swept before after keeper left clock later desk last site now result status opens unbroken faults start read sweeps alone site_is left_is
      is tells begun =
      let told : k.told desk.keeper ≡ k.told keeper =
      opens.told ∙ told_kept opens.raws (first_of OverKept) (k.told keeper) (opens.kept tt) in
      let began : desk.start.value ≡ desk.keeper = start in
      let same : last.start.value ≡ desk.start.value = ap (λ (p : List Row × Snapshot K). p.1.value) alone.keeps.opening in
      record {
        opened = desk.site.kept;
        opens = subst (λ (t : Option Told). Opens OverKept (k.told keeper) t desk.site.kept) told opens;
        unbroken = unbroken;
        now = now;
        read = read;
        result = result;
        before = desk.strikes;
        after = last.strikes;
        sweeps = rw (site_is, left_is)
            (subst (λ (a : Shown). SweepsDesk seat a (beside_keeper (outlet_with o k before keeper clock) (outlet_with o k after last.keeper later) last.site.kept last.strikes) now result)
            (rw (start, told, faults) refl)
            (subst (λ (b : Shown). SweepsDesk seat (shown k desk) b now result)
            (rw (same, start, told, faults) refl) sweeps));
        tells = tells_beside result (output_alone o before) (output_alone o after) _ _ status refl refl refl refl tells;
        told = rw (site_is, left_is)
            (subst (λ (t : Option Told). IfSome (k.told last.keeper) (TellsSite (blobs_in t) last.site.kept)) (rw (same, start, told) refl) is.told);
        left = refl;
        begun = begun;
        read_faults = refl;
      }

module _ {K : Type 0} (k : KeeperOf K) (keeper : K) (desk last : Served K) (now : ℕ) (result : Result Swept Denial)
    (sweeps : SweepsDesk seat (shown k desk) (shown k last) now result) (is : IsDesk (shown k last)) where
  -- what is left of the desk that was opened
  pub swept_leaves : Opens OverKept (k.told keeper) (k.told desk.keeper) desk.site.kept → IsHistory last.site.kept → IsSound last.site.kept.state
      → AreRuled last.site.kept.state.tables → (site : Held) (left : K) → site ≡ last.site → left ≡ last.keeper → Leaves site.kept (k.told left)
  swept_leaves opens history sound ruled site left site_is left_is = rw (site_is, left_is)
      (leaves (blobs_in (k.told last.start.value)) last.site.kept (k.told last.keeper) history sound ruled
      (sweep_idle seat (shown k desk) (shown k last) now result sweeps (ap (λ (z : Kept). z.state.tickets) opens.begun)) is.fit is.told)

  pub swept_pays : AddsAlone (meanings k) seat desk last → k.faults desk.keeper ≡ k.faults keeper → desk.start.value ≡ desk.keeper
      → (site : Held) (left : K) → site ≡ last.site → left ≡ last.keeper → Pays site.kept (k.faults keeper) (k.faults left)
  swept_pays alone faults start site left site_is left_is = rw (site_is, left_is)
      (let began : k.faults last.start.value ≡ k.faults keeper =
      ap (λ (p : List Row × Snapshot K). k.faults p.1.value) alone.keeps.opening ∙ ap k.faults start ∙ faults in
      let n = failures (shown k last) in
      paid (k.faults keeper) (failed_marks last.site.kept.history) (sum last.strikes) n (k.faults last.keeper) refl
      (is.counted.is ∙ ap (λ (before : ℕ). risen before n) began))

-- what it does with its output, its keeper and its clock it does with all
pub sweeps_beside : {C D : Type 0} (reads : C → ℕ → C → Type 0) (left : Option (List ℕ)) (faults : ℕ) (dice : D) (a b : Outside C)
    (status : Status) (site : Option Held)
    → Sweeps reads a b status site
    → Sweeps (reads_clock reads) (beside left faults (lent a.lent dice) a) (beside left faults (lent b.lent dice) b) status site
sweeps_beside {C} reads left faults dice a b status None unopened = record {
  untouched = ap (λ (o : Outside C). beside left faults (lent o.lent dice) o) unopened.untouched;
  why = unopened.why;
}
sweeps_beside reads left faults dice a b status (Some site) swept = record {
  opened = swept.opened;
  opens = swept.opens;
  unbroken = swept.unbroken;
  now = swept.now;
  read = (swept.read, refl);
  result = swept.result;
  before = swept.before;
  after = swept.after;
  sweeps = swept.sweeps;
  tells = tells_beside swept.result a b _ _ status refl refl refl refl swept.tells;
  told = swept.told;
  left = refl;
  begun = swept.begun;
  read_faults = refl;
}

-- ---- what its status says

-- what each status says of it
abbrev pub SweepSays : {C : Type 0} → Outside C → Outside C → Status → Type 0
SweepSays a b exit.Words = ⊥
SweepSays a b exit.ReadFault = ⊥
SweepSays a b exit.DoorFault = ⊥
SweepSays a b exit.WriteFault = Rose a.write_faults b.write_faults
SweepSays a b exit.StoreFault = Rose a.faults b.faults
SweepSays a b other = Unit {0}

module _ {C : Type 0} (a b : Outside C) where
  swept_says : (opened : Kept) (site : Held) (before after : List ℕ) (now : ℕ) (result : Result Swept Denial)
      → SweepsDesk seat (beside_keeper a a opened before) (beside_keeper a b site.kept after) now result
      → (status : Status) → TellsSwept result a b status → SweepSays a b status
  swept_says opened site before after now (Ok gone) sweeps exit.Words tells = tells
  swept_says opened site before after now (Ok gone) sweeps exit.ReadFault tells = tells
  swept_says opened site before after now (Ok gone) sweeps exit.DoorFault tells = tells
  swept_says opened site before after now (Ok gone) sweeps exit.WriteFault tells = tells.0
  swept_says opened site before after now (Ok gone) sweeps exit.StoreFault tells = absurd tells
  swept_says opened site before after now (Ok gone) sweeps other tells = tt
  swept_says opened site before after now (Err denial.Store) sweeps status tells =
      subst (λ (s : Status). SweepSays a b s) (sym tells.0)
      (sweep_rose seat (beside_keeper a a opened before) (beside_keeper a b site.kept after) now (Err denial.Store) sweeps refl)
  swept_says opened site before after now (Err other) sweeps status tells = subst (λ (s : Status). SweepSays a b s) (sym tells.0) tt

  pub sweep_says : (reads : C → ℕ → C → Type 0) (status : Status) (site : Option Held) → Sweeps reads a b status site → SweepSays a b status
  sweep_says reads exit.Words None unopened = unopened.why
  sweep_says reads exit.ReadFault None unopened = unopened.why
  sweep_says reads exit.DoorFault None unopened = unopened.why
  sweep_says reads exit.WriteFault None unopened = absurd unopened.why
  sweep_says reads exit.StoreFault None unopened = unopened.why
  sweep_says reads other None unopened = tt
  sweep_says reads status (Some site) swept =
      swept_says swept.opened site swept.before swept.after swept.now swept.result swept.sweeps status swept.tells
