-- What the keeper tells after a step is true of the site after it.
use Rattle.std.proofs.Common.{◌≡◌, ℕ, List, [], ◌∷◌, length, inl, refl, sym, ap, subst, ◌∙◌, arith}
use Rattle.std.specs.Prelude.{Option, None, Some, option_map}
use Rattle.std.specs.Option.{IfSome}
use Rattle.std.proofs.lemmas.List.Elements.{All-nil}
use Rattle.nf_base.specs.declared.changes.Change.{Change}
use Rattle.nf_defs.specs.Prelude.{AreRising, Blobs, Tables, with_blob}
use Rattle.nf_keeper.specs.Keeping.{Stored, applied, with_stored}
use Rattle.nf_laws.proofs.Blobs.{blobs_are_new, stays_whole}
use Rattle.nf_laws.proofs.Telling.{changes_tell}
use Rattle.nf_laws.specs.Wholes.{Brings, blob_in}
use Rattle.nf_session.specs.Book.{Answer, TellsStill}
use Rattle.nf_site.specs.Kept.{Kept, answered, entered, entry, moment_of}
use Rattle.nf_told.proofs.Follows.{told_follows}
use Rattle.nf_told.specs.Told.{AreFit, FitsChange, Told, told_all, told_of}
use Rattle.nf_words.specs.Prelude.{access_of, after_mark, blob_to, changes_by, changes_to, ends_at, failed, goal_at, IsSound, MayCome, State, step}
use Rattle.nf_words.specs.declared.answer.Goal.{Goal}
use Rattle.nf_words.specs.declared.history.Entry.{Entry}
use Rattle.nf_words.specs.declared.history.Event.{Event}
use Rattle.nf_words.specs.declared.history.Event.TheVariants.{Begin, End, Sweep}
use Rattle.nf_words.specs.declared.history.Mark.{Mark}
use Rattle.nf_words.specs.declared.history.Mark.TheVariants as mark
use Rattle.nf_words.specs.declared.history.Outcome.{Outcome}
use Rattle.nf_words.specs.declared.history.Outcome.TheVariants.{Sent, Gone, Body}
use Rattle.nf_desk.specs.Desk.{TellsSite, blobs_in}
use Rattle.nf_desk.specs.Stepping.{IsEmpty, Makes, Standing, Steps, Tells, entry_at, standing, stored_by, told_by}

-- ---- what is told after an entry, as a function

abbrev changes_under : State → Entry → Mark → List Change
changes_under s e mark.Answered = changes_to s e.seat e.moment e.event
changes_under s e unmade = []

-- what is told with some changes, and with some bytes in a blob
abbrev told_with : List Change → Option ℕ → List ℕ → Told → Told
told_with changes blob body told = record { rows = told_all told.rows changes; blobs = with_blob told.blobs blob body }

abbrev pub told_after : State → Entry → List ℕ → Told → Told
told_after s e body = told_with (changes_under s e e.mark) (blob_in s e) body

with_stored_by : (blobs : Blobs) (blob : Option ℕ) (body : List ℕ) → with_stored blobs (stored_by blob body) ≡ with_blob blobs blob body
with_stored_by blobs None body = refl
with_stored_by blobs (Some id) body = refl

-- nothing changes and nothing is stored
told_same : (before : Option Told) (body : List ℕ) → before ≡ option_map (told_with [] None body) before
told_same None body = refl
told_same (Some told) body = refl

told_more : (changes : List Change) (blob : Option ℕ) (body : List ℕ) (before : Option Told)
    → option_map (applied changes (stored_by blob body)) before ≡ option_map (told_with changes blob body) before
told_more changes blob body None = refl
told_more changes blob body (Some told) =
    ap (λ (blobs : Blobs). Some (record { rows = told_all told.rows changes; blobs = blobs })) (with_stored_by told.blobs blob body)

told_by_is : (changes : List Change) (blob : Option ℕ) (body : List ℕ) (before : Option Told) → (changes ≡ [] → blob ≡ None)
    → told_by changes (stored_by blob body) before ≡ option_map (told_with changes blob body) before
told_by_is [] blob body before none =
    subst (λ (o : Option ℕ). before ≡ option_map (told_with [] o body) before) (sym (none refl)) (told_same before body)
told_by_is (change ∷ changes) blob body before none = told_more (change ∷ changes) blob body before

-- ---- a step that changes nothing stores nothing

no_blob : (n : ℕ) (s : State) (by moment : ℕ) (event : Event) → IsSound s → MayCome n s (answered by moment event)
    → changes_to s by moment event ≡ [] → blob_to s by moment event ≡ None
no_blob n s by moment event sound may nothing = here (blob_to s by moment event) refl
  where
    same : (step s by moment event).tables ≡ s.tables
    same = (changes_tell.none s by moment event sound may.asked).0 nothing

    here : (blob : Option ℕ) → blob_to s by moment event ≡ blob → blob ≡ None
    here None is = refl
    here (Some id) is =
        let new = blobs_are_new.next n s (answered by moment event) id sound may is in
        let kept : (step s by moment event).tables.meta.next_blob ≡ s.tables.meta.next_blob = ap (λ (t : Tables). t.meta.next_blob) same in
        absurd (omega (arith, new.0, new.1, kept))

-- an End that brings nothing changes nothing
empty_changes : (s : State) (by now : ℕ) (outcome : Outcome) → IsEmpty outcome → changes_to s by now (End outcome) ≡ []
empty_changes s by now outcome empty = here outcome (goal_at s by) empty
  where
    here : (outcome : Outcome) (goal : Option Goal) → IsEmpty outcome
        → changes_by s.tables now (ends_at (access_of s) s.tables now outcome goal) ≡ []
    here Sent None empty = refl
    here Sent (Some goal) empty = refl
    here Gone None empty = refl
    here Gone (Some goal) empty = refl
    here (Body digest size) goal empty = absurd empty

pub empty_brings : (outcome : Outcome) → IsEmpty outcome → Brings [] (End outcome)
empty_brings Sent empty = tt
empty_brings Gone empty = tt
empty_brings (Body digest size) empty = absurd empty

-- so it is a step of which the keeper isn't told
pub empty_steps : (seat : ℕ) (k l : Kept) (told : Option Told) (faults now : ℕ) (outcome : Outcome) (answer : Answer) → IsEmpty outcome
    → Makes seat k l now (End outcome) mark.Answered answer
    → Steps seat (standing k told faults) (standing l told faults) now (End outcome) [] answer
empty_steps seat k l told faults now outcome answer empty makes = record {
  mark = mark.Answered;
  makes = makes;
  tells = subst (λ (changes : List Change). Tells mark.Answered changes (stored_by (blob_to k.state seat (moment_of k.state now) (End outcome)) []) told told)
      (sym (empty_changes k.state seat (moment_of k.state now) outcome empty))
      (refl, All-nil FitsChange);
  faults = refl;
  rises = omega arith;
}

-- ---- what is told after a step

told_is : (seat n : ℕ) (s : State) (moment : ℕ) (event : Event) (m : Mark) (body : List ℕ) (before now : Option Told) → IsSound s
    → MayCome n s (entry seat moment event m) → Tells m (changes_to s seat moment event) (stored_by (blob_to s seat moment event) body) before now
    → now ≡ option_map (told_after s (entry seat moment event m) body) before
told_is seat n s moment event mark.Answered body before now sound may tells =
    tells.0 ∙ told_by_is (changes_to s seat moment event) (blob_to s seat moment event) body before (no_blob n s seat moment event sound may)
told_is seat n s moment event unmade body before now sound may tells = tells ∙ told_same before body

pub steps_told : (seat : ℕ) (a b : Standing) (now : ℕ) (event : Event) (body : List ℕ) (answer : Answer) → IsSound a.site.state
    → (steps : Steps seat a b now event body answer)
    → b.told ≡ option_map (told_after a.site.state (entry_at seat a.site now event steps.mark) body) a.told
steps_told seat a b now event body answer sound steps =
    told_is seat (length a.site.history) a.site.state (moment_of a.site.state now) event steps.mark body a.told b.told sound steps.makes.may_come steps.tells

-- ---- the rows

failed_tables : (s : State) (by now : ℕ) (event : Event) → (failed s by now event).tables ≡ s.tables
failed_tables s by now (Begin words request) = refl
failed_tables s by now (End outcome) = refl
failed_tables s by now Sweep = refl

-- each row after the entry has a spelling, and the rows that are told are those
record FollowsRows (s : State) (e : Entry) (m : Mark) : Type 0 where
  rows : told_of (after_mark s e m).tables ≡ told_all (told_of s.tables) (changes_under s e m)
  fit : AreFit (after_mark s e m).tables

rows_follow : (seat n : ℕ) (s : State) (moment : ℕ) (event : Event) (m : Mark) (stored : Option Stored) (before now : Option Told)
    → IsSound s → AreRising s.tables → AreFit s.tables → MayCome n s (entry seat moment event m)
    → Tells m (changes_to s seat moment event) stored before now → FollowsRows s (entry seat moment event m) m
rows_follow seat n s moment event mark.Answered stored before now sound rising fit may tells =
    let changes = changes_to s seat moment event in
    let put = changes_tell.put s seat moment event sound may.asked in
    let next = told_follows s.tables changes rising fit tells.1 (changes_tell.droppable s seat moment event) in
    record { rows = ap told_of (sym put) ∙ next.told; fit = subst AreFit put next.fit }
rows_follow seat n s moment event unmade stored before now sound rising fit may tells =
    let same = failed_tables s seat moment event in
    record { rows = ap told_of same; fit = subst AreFit (sym same) fit }

-- ---- the desk goes on

map_some : (P Q : Told → Type 0) (f : Told → Told) (o : Option Told) → ((told : Told) → P told → Q (f told)) → IfSome o P
    → IfSome (option_map f o) Q
map_some P Q f None goes has = tt
map_some P Q f (Some told) goes has = goes told has

tells_after : (start : Option Blobs) (k : Kept) (e : Entry) (body : List ℕ) (told : Told) → IsSound k.state
    → MayCome (length k.history) k.state e
    → Brings body e.event → FollowsRows k.state e e.mark → TellsSite start k told
    → TellsSite start (entered k e) (told_after k.state e body told)
tells_after start k e body told sound may brings follows tells = record {
  rows = ap (λ rows. told_all rows (changes_under k.state e e.mark)) tells.rows ∙ sym follows.rows;
  begun = tells.begun;
  at_start = tells.at_start;
  whole = stays_whole (length k.history) k.state e body k.opening tells.begun told.blobs sound may brings tells.whole;
}

-- of what a desk keeps, what is true of the site
pub record IsTrueOf (start : Option Blobs) (k : Kept) (keeper : Option Told) : Type 0 where
  pub fit : AreFit k.state.tables
  pub told : IfSome keeper (TellsSite start k)

pub steps_true : (start : Option Blobs) (seat : ℕ) (a b : Standing) (now : ℕ) (event : Event) (body : List ℕ) (answer : Answer)
    → IsSound a.site.state
    → AreRising a.site.state.tables → Brings body event → (steps : Steps seat a b now event body answer) → AreFit a.site.state.tables
    → IfSome a.told (TellsSite start a.site) → IsTrueOf start (entered a.site (entry_at seat a.site now event steps.mark)) b.told
steps_true start seat a b now event body answer sound rising brings steps fit tells =
    let e = entry_at seat a.site now event steps.mark in
    let rows = rows_follow seat (length a.site.history) a.site.state (moment_of a.site.state now) event steps.mark
    (stored_by (blob_to a.site.state seat (moment_of a.site.state now) event) body) a.told b.told sound rising fit steps.makes.may_come steps.tells in
    subst (λ (o : Option Told). IsTrueOf start (entered a.site e) o) (sym (steps_told seat a b now event body answer sound steps))
    (record {
      fit = rows.fit;
      told = map_some (TellsSite start a.site) (TellsSite start (entered a.site e)) (told_after a.site.state e body) a.told
          (λ told is. tells_after start a.site e body told sound steps.makes.may_come brings rows is) tells;
    })

-- ---- the blobs

-- numbers that were given keep their bytes
still_by : (n : ℕ) (s : State) (e : Entry) (body : List ℕ) (before : Option Told) → IsSound s → MayCome n s e
    → TellsStill ⊥ s.tables.meta.next_blob (blobs_in before) (blobs_in (option_map (told_after s e body) before))
still_by n s e body None sound may = refl
still_by n s e body (Some told) sound may = λ id less. inl (blobs_are_new.same n s e body told.blobs id sound may less)

pub steps_still : (seat : ℕ) (a b : Standing) (now : ℕ) (event : Event) (body : List ℕ) (answer : Answer) → IsSound a.site.state
    → Steps seat a b now event body answer → TellsStill ⊥ a.site.state.tables.meta.next_blob (blobs_in a.told) (blobs_in b.told)
steps_still seat a b now event body answer sound steps =
    subst (λ (o : Option Told). TellsStill ⊥ a.site.state.tables.meta.next_blob (blobs_in a.told) (blobs_in o))
    (sym (steps_told seat a b now event body answer sound steps))
    (still_by (length a.site.history) a.site.state (entry_at seat a.site now event steps.mark) body a.told sound steps.makes.may_come)
