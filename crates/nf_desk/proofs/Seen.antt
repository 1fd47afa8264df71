-- A sweep, by what the seat knows.
use Rattle.std.proofs.Common.{◌≡◌, inl, inr, ℕ, List, [], ◌++◌, Result, Ok, Err, refl, sym, ap, subst, ◌∙◌}
use Rattle.std.specs.Prelude.{Bool, true, false, Contains, Option, None, Some, IfSome, OnOk, MatchBool, option_map}
use Rattle.std.proofs.lemmas.List.{same_from_push}
use Rattle.nf_defs.specs.Blobs.{Blobs, blob_at}
use Rattle.nf_defs.specs.Prelude.{AreRising}
use Rattle.nf_keeper.specs.Keeping.{swept}
use Rattle.nf_laws.specs.Named.{blobs_named}
use Rattle.nf_session.specs.Book.{Answer, Book, Enters, Passes, Struck, is_unmade_by, state_after, state_of}
use Rattle.nf_site.specs.Kept.{IsHistory, Kept}
use Rattle.nf_told.specs.Told.{Told}
use Rattle.nf_words.specs.Prelude.{answer_at, IsSound, MayBear, opened, replay, State}
use Rattle.nf_words.specs.declared.answer.Denial.{Denial}
use Rattle.nf_words.specs.declared.answer.Denial.TheVariants as denial
use Rattle.nf_words.specs.declared.answer.Reply.{Reply}
use Rattle.nf_words.specs.declared.answer.Reply.TheVariants.{Plain}
use Rattle.nf_words.specs.declared.history.Entry.{Entry}
use Rattle.nf_words.specs.declared.history.Event.TheVariants.{Sweep}
use Rattle.nf_words.specs.declared.history.Mark.{Mark}
use Rattle.nf_words.specs.declared.history.Mark.TheVariants as mark
use Rattle.nf_desk.specs.Desk.{IsDesk, Shown, blobs_in, book_at, failures_of, moved, standing_in}
use Rattle.nf_desk.specs.Stepping.{Standing, Starts, Steps, entry_at}
use Rattle.nf_desk.specs.Sweeping.{DropsRest, EndsSweep, LeavesNamed, StopsSweep, Sweeps, SweepsOn, SweepsSeen, TellsNamed, only_blobs, swept_between}
use Rattle.nf_desk.specs.declared.sweeping.Swept.{Swept}
use Rattle.nf_desk.proofs.Counting.{failures_of_struck, risen_struck, strike}
use Rattle.nf_desk.proofs.Desks.{match_false, passes}
use Rattle.nf_desk.proofs.Entering.{steps_enter}
use Rattle.nf_desk.proofs.Giving.{counted_on}
use Rattle.nf_desk.proofs.Staying.{unnamed_goes}
use Rattle.nf_desk.proofs.Sweeps.{answered_steps, rest_site}
use Rattle.nf_desk.proofs.Turns.{IsSeatNumber, has_strikes, starts_desk}

-- ---- its answer

-- a step that is answered is answered plainly
plain_by : (s : State) (seat moment : ℕ) (m : Mark) (e : Entry) (reply : Reply) → e.event ≡ Sweep
    → ◌≡◌ {A = Answer} (Ok reply) (answer_at s e m) → ◌≡◌ {A = Answer} (Ok reply) (Ok Plain)
plain_by s seat moment mark.Answered e reply its is = is ∙ ap (λ event. answer_at s (record e { event = event }) mark.Answered) its
plain_by s seat moment mark.Store e reply its is = absurd (cc)
plain_by s seat moment mark.Memory e reply its is = absurd (cc)

-- and one that isn't is an entry all the same
made_by : (s : State) (m : Mark) (e : Entry) (refusal : Denial) → e.event ≡ Sweep → MayBear s e m
    → ◌≡◌ {A = Answer} (Err refusal) (answer_at s e m) → is_unmade_by refusal ≡ false
made_by s mark.Answered e refusal its may is =
    let plain : ◌≡◌ {A = Answer} (Err refusal) (Ok Plain) =
    is ∙ ap (λ event. answer_at s (record e { event = event }) mark.Answered) its in
    absurd (cc)
made_by s mark.Store e refusal its may is = let same : refusal ≡ denial.Store = cc in ap is_unmade_by same
made_by s mark.Memory e refusal its may is = absurd (subst (λ event. MayBear s (record e { event = event }) mark.Memory) its may)

-- ---- what is told

told_swept : (seat : ℕ) (mid : Shown) (keep : List ℕ)
    → book_at seat (record mid { told = option_map (swept keep) mid.told })
    ≡ record (book_at seat mid) { told = option_map (only_blobs keep) (blobs_in mid.told) }
told_swept seat mid keep = here mid.told
  where
    here : (told : Option Told) → book_at seat (record mid { told = option_map (swept keep) told })
        ≡ record (book_at seat (record mid { told = told })) { told = option_map (only_blobs keep) (blobs_in told) }
    here None = refl
    here (Some it) = refl

state_is : (seat : ℕ) (mid : Shown) → IsHistory mid.site → mid.site.state ≡ state_of (book_at seat mid)
state_is seat mid h = h.replayed

module _ (seat : ℕ) (s t : State) (mid b : Shown) (is : IsSeatNumber seat) (desk : IsDesk mid) (h : IsHistory mid.site) (same : s ≡ t) where
  leaves : (result : Result Swept Denial) → DropsRest seat s mid b result → LeavesNamed t (book_at seat mid) (book_at seat b) result
  leaves (Ok gone) drops = (
    ap (book_at seat) drops.0 ∙ told_swept seat mid (blobs_named mid.site.state)
        ∙ (λ i. record (book_at seat mid) { told = option_map (only_blobs (blobs_named (state_is seat mid h i))) (blobs_in mid.told) }),
    drops.1 ∙ (λ i. swept_between (same i) (state_is seat mid h i)),
  )
  leaves (Err denial.Store) drops =
      let has = has_strikes seat mid is desk in
      let struck = risen_struck mid.start.faults (failures_of seat mid) (failures_of seat (counted_on mid b.faults b.strikes))
      (failures_of_struck mid b.faults b.strikes seat (strike seat mid.strikes b.strikes has.0 has.1 drops.3)) in
      let book : book_at seat b ≡ book_at seat (counted_on mid b.faults b.strikes) = ap (book_at seat) drops.0 in
      let strikes : (book_at seat b).strikes ≡ (book_at seat (counted_on mid b.faults b.strikes)).strikes = ap (λ (x : Book). x.strikes) book in (
        book ∙ (λ i. record (book_at seat mid) { strikes = sym strikes i }),
        subst (λ (n : ℕ). Struck (book_at seat mid).strikes n) (sym strikes) struck,
      )
  leaves (Err denial.Memory) drops = ap (book_at seat) drops
  leaves (Err other) drops = absurd drops

-- ---- the whole

module _ (seat : ℕ) (a b : Shown) (now : ℕ) (is : IsSeatNumber seat) (before : IsHistory a.site) (after : IsHistory b.site)
    (sound : IsSound a.site.state) (rising : AreRising a.site.state.tables) (desk : IsDesk a) (mid : Standing) where
  abbrev book : Book
  book = book_at seat a

  enters_mid : (answer : Answer) → Steps seat (standing_in a) mid now Sweep [] answer → Enters book (book_at seat (moved a mid)) now Sweep answer
  enters_mid answer steps = steps_enter seat a mid now Sweep [] answer steps before sound rising tt desk

  -- no others' entries come in one turn
  state_before : (answer : Answer) (steps : Steps seat (standing_in a) mid now Sweep [] answer) (enters : Enters book (book_at seat (moved a mid)) now Sweep answer)
      → a.site.state ≡ state_after book enters.others
  state_before answer steps enters =
      let none = same_from_push a.site.history (a.site.history ++ enters.others) (entry_at seat a.site now Sweep steps.mark) enters.entry
      (sym (ap (λ (k : Kept). k.history) steps.makes.site) ∙ enters.known) in
      before.replayed ∙ ap (replay (opened a.site.opening)) none.0

  on : (reply : Reply) (result : Result Swept Denial) → Starts seat (standing_in a) mid now Sweep (Ok reply)
      → DropsRest seat a.site.state (moved a mid) b result → SweepsOn book (book_at seat b) now (Ok Plain) result
  on reply result step drops =
      let steps = answered_steps seat now (standing_in a) mid reply step in
      let e = entry_at seat a.site now Sweep steps.mark in
      let enters = enters_mid (Ok reply) steps in
      let middle : IsDesk (moved a mid) = starts_desk seat a mid now Sweep (Ok reply) tt before sound rising step desk in
      let history : IsHistory mid.site = subst IsHistory (rest_site seat a.site.state (moved a mid) b result drops) after in
      subst (λ (answer : Answer). SweepsOn book (book_at seat b) now answer result)
      (plain_by a.site.state seat 0 steps.mark e reply refl steps.makes.answered)
      (record {
        mid = book_at seat (moved a mid);
        enters = enters;
        leaves = leaves seat a.site.state (state_after book enters.others) (moved a mid) b is middle history
            (state_before (Ok reply) steps enters) result drops;
      })

  unmade : (refusal : Denial) → is_unmade_by refusal ≡ true → StopsSweep book book now (Err refusal)
  unmade refusal is =
      subst (λ (u : Bool). MatchBool u (Passes book book) (Enters book book now Sweep (Err refusal))) (sym is) (passes seat a)

  stops : (refusal : Denial) → Starts seat (standing_in a) mid now Sweep (Err refusal) → b ≡ moved a mid
      → StopsSweep book (book_at seat b) now (Err refusal)
  stops refusal (inl steps) same =
      let e = entry_at seat a.site now Sweep steps.mark in
      match_false (Passes book (book_at seat b)) (Enters book (book_at seat b) now Sweep (Err refusal)) (is_unmade_by refusal)
      (made_by a.site.state steps.mark e refusal refl steps.makes.may_come.marked steps.makes.answered)
      (subst (λ (c : Shown). Enters book (book_at seat c) now Sweep (Err refusal)) (sym same) (enters_mid (Err refusal) steps))
  stops refusal (inr none) same =
      subst (λ (c : Shown). StopsSweep book (book_at seat c) now (Err refusal)) (sym (same ∙ ap (moved a) none.same))
      (elim none.why [
        | inl full ↦ let is : refusal ≡ denial.RunFull = let e = full.0 in cc in unmade refusal (ap is_unmade_by is)
        | inr memory ↦ let is : refusal ≡ denial.Memory = let e = memory.0 in cc in unmade refusal (ap is_unmade_by is)
      ])

  pub seen_by : (answer : Answer) (result : Result Swept Denial) → Starts seat (standing_in a) mid now Sweep answer
      → EndsSweep seat a.site.state (moved a mid) b answer result → SweepsSeen book (book_at seat b) now result
  seen_by (Ok reply) result step ends = inl (on reply result step ends)
  seen_by (Err refusal) result step ends =
      subst (λ (r : Result Swept Denial). SweepsSeen book (book_at seat b) now r) (sym ends.1) (inr (stops refusal step ends.0))

pub sweeps_seen : (seat : ℕ) (a b : Shown) (now : ℕ) (result : Result Swept Denial) → IsSeatNumber seat → IsHistory a.site → IsHistory b.site
    → IsSound a.site.state → AreRising a.site.state.tables → IsDesk a → Sweeps seat a b now result
    → SweepsSeen (book_at seat a) (book_at seat b) now result
sweeps_seen seat a b now result is before after sound rising desk sweeps =
    seen_by seat a b now is before after sound rising desk sweeps.mid sweeps.answer result sweeps.step sweeps.ends

-- ---- what is told behind a sweep that is answered

tells_only : (s : State) (told : Option Blobs)
    → IfSome (option_map (only_blobs (blobs_named s)) told) (λ shelf. (id : ℕ) → (Contains (blobs_named s) id → ⊥) → blob_at shelf id ≡ None)
tells_only s None = tt
tells_only s (Some blobs) = λ id unnamed. unnamed_goes (blobs_named s) id unnamed blobs

pub tells_named : (a b : Book) (now : ℕ) (result : Result Swept Denial) → SweepsSeen a b now result → OnOk result (TellsNamed b)
tells_named a b now (Ok gone) (inl on) = subst TellsNamed (sym on.leaves.0) (tells_only (state_of on.mid) on.mid.told)
tells_named a b now (Ok gone) (inr never) = absurd never
tells_named a b now (Err refusal) seen = tt
