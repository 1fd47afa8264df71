-- What a sweep keeps of the desk, and what it is to the lock.
use Rattle.std.proofs.Common.{◌≡◌, inl, inr, ℕ, ◌+◌, ◌<◌, ◌≤◌, List, [], ◌∷◌, length, length-append, Result, Ok, Err, refl, sym, ap, subst, ◌∙◌, arith}
use Rattle.std.specs.Prelude.{Option, None, Some, IfSome, option_map}
use Rattle.std.proofs.lemmas.List.Elements.{All-cons, All-nil}
use Rattle.nf_defs.specs.Prelude.{AreRising}
use Rattle.nf_keeper.specs.Keeping.{swept}
use Rattle.nf_keeper.specs.declared.keeper.KeepFault.TheVariants.{Failed}
use Rattle.nf_keeper.specs.declared.keeper.Keeper.{Ghosts as KeeperOf}
use Rattle.nf_laws.specs.Named.{blobs_named}
use Rattle.nf_session.proofs.Lasting.{tells_refl, tells_then}
use Rattle.nf_session.specs.Book.{Answer, Lasts, TellsStill}
use Rattle.nf_site.specs.Held.{Held}
use Rattle.nf_site.specs.Kept.{IsHistory, Kept}
use Rattle.nf_told.specs.Told.{Told}
use Rattle.nf_words.specs.Prelude.{IsSound, State}
use Rattle.nf_words.specs.declared.answer.Denial.{Denial}
use Rattle.nf_words.specs.declared.answer.Denial.TheVariants as denial
use Rattle.nf_words.specs.declared.answer.Reply.{Reply}
use Rattle.nf_words.specs.declared.history.Entry.{Entry}
use Rattle.nf_words.specs.declared.history.Event.TheVariants.{Sweep}
use Rattle.nf_desk.specs.Desk.{IsDesk, Served, Shown, TakesTurn, TellsSite, blobs_in, book_at, first_blob_of, moved, next_of, shown, standing_in}
use Rattle.nf_desk.specs.Stepping.{Standing, Starts, Steps, entry_at}
use Rattle.nf_desk.specs.Sweeping.{DropsRest, EndsSweep, Sweeps}
use Rattle.nf_desk.specs.declared.sweeping.Swept.{Swept}
use Rattle.nf_desk.proofs.Entering.{by_step, next_again, step_lasts}
use Rattle.nf_desk.proofs.Staying.{swept_still, tells_swept}
use Rattle.nf_desk.proofs.Tellings.{steps_still}
use Rattle.nf_desk.proofs.Turns.{IsSeatNumber, StrikesAlone, has_strikes, read_desk, starts_desk, starts_turn, strikes_alone, strikes_stay, turn_of}

-- ---- the step

pub answered_steps : (seat now : ℕ) (a mid : Standing) (reply : Reply) → Starts seat a mid now Sweep (Ok reply) → Steps seat a mid now Sweep [] (Ok reply)
answered_steps seat now a mid reply (inl steps) = steps
answered_steps seat now a mid reply (inr none) = elim none.why [
  | inl full ↦ let is = full.0 in absurd (cc)
  | inr memory ↦ let is = memory.0 in absurd (cc)
]

-- it is an entry
steps_more : (seat now : ℕ) (a mid : Standing) (answer : Answer) → Steps seat a mid now Sweep [] answer
    → length mid.site.history ≡ length a.site.history + 1
steps_more seat now a mid answer steps =
    ap (λ (k : Kept). length k.history) steps.makes.site
    ∙ length-append a.site.history (entry_at seat a.site now Sweep steps.mark ∷ [])

-- ---- behind it

map_tells : (start : Option _) (k : Kept) (told : Option Told) → IfSome told (TellsSite start k)
    → IfSome (option_map (swept (blobs_named k.state)) told) (TellsSite start k)
map_tells start k None tells = tt
map_tells start k (Some told) tells = tells_swept start k told tells

swept_desk : (mid : Shown) → 0 < length mid.site.history → IsDesk mid
    → IsDesk (record mid { told = option_map (swept (blobs_named mid.site.state)) mid.told })
swept_desk mid some desk =
    let keep = blobs_named mid.site.state in
    let cause = 0 < length mid.site.history in
    let first = first_blob_of mid.site.opening in
    record {
      unbroken = desk.unbroken;
      fit = desk.fit;
      told = map_tells (blobs_in mid.start.told) mid.site mid.told desk.told;
      since = tells_then cause cause cause first first (blobs_in mid.start.told) (blobs_in mid.told)
          (blobs_in (option_map (swept keep) mid.told)) (λ it. it) (λ it. it) (omega arith) desk.since
          (swept_still cause keep first mid.told some);
      seats = desk.seats;
      counted = record { is = desk.counted.is; fits = desk.counted.fits };
    }

rest_desk : (seat : ℕ) (s : State) (mid b : Shown) (result : Result Swept Denial) → IsSeatNumber seat → 0 < length mid.site.history
    → DropsRest seat s mid b result → IsDesk mid → IsDesk b
rest_desk seat s mid b (Ok gone) is some drops desk = subst IsDesk (sym drops.0) (swept_desk mid some desk)
rest_desk seat s mid b (Err denial.Store) is some drops desk =
    subst IsDesk (sym drops.0) (read_desk seat mid b.faults b.strikes (Err Failed) is (drops.1, drops.2) drops.3 desk)
rest_desk seat s mid b (Err denial.Memory) is some drops desk = subst IsDesk (sym drops) desk
rest_desk seat s mid b (Err other) is some drops desk = absurd drops

pub rest_site : (seat : ℕ) (s : State) (mid b : Shown) (result : Result Swept Denial) → DropsRest seat s mid b result → b.site ≡ mid.site
rest_site seat s mid b (Ok gone) drops = ap (λ (c : Shown). c.site) drops.0
rest_site seat s mid b (Err denial.Store) drops = ap (λ (c : Shown). c.site) drops.0
rest_site seat s mid b (Err denial.Memory) drops = ap (λ (c : Shown). c.site) drops
rest_site seat s mid b (Err other) drops = absurd drops

rest_strikes : (seat : ℕ) (s : State) (mid b : Shown) (result : Result Swept Denial) → IsSeatNumber seat → IsDesk mid
    → DropsRest seat s mid b result → StrikesAlone seat mid.strikes b.strikes
rest_strikes seat s mid b (Ok gone) is desk drops = strikes_stay seat mid.strikes b.strikes (ap (λ (c : Shown). c.strikes) drops.0)
rest_strikes seat s mid b (Err denial.Store) is desk drops =
    let has = has_strikes seat mid is desk in strikes_alone seat mid.strikes b.strikes (Err Failed) has.0 has.1 drops.3
rest_strikes seat s mid b (Err denial.Memory) is desk drops = strikes_stay seat mid.strikes b.strikes (ap (λ (c : Shown). c.strikes) drops)
rest_strikes seat s mid b (Err other) is desk drops = absurd drops

rest_still : (cause : Type 0) (seat next : ℕ) (s : State) (mid b : Shown) (result : Result Swept Denial) → cause
    → DropsRest seat s mid b result → TellsStill cause next (blobs_in mid.told) (blobs_in b.told)
rest_still cause seat next s mid b (Ok gone) may drops =
    subst (λ (told : Option Told). TellsStill cause next (blobs_in mid.told) (blobs_in told)) (sym (ap (λ (c : Shown). c.told) drops.0))
    (swept_still cause (blobs_named mid.site.state) next mid.told may)
rest_still cause seat next s mid b (Err denial.Store) may drops =
    subst (λ (told : Option Told). TellsStill cause next (blobs_in mid.told) (blobs_in told)) (sym (ap (λ (c : Shown). c.told) drops.0))
    (tells_refl cause next (blobs_in mid.told))
rest_still cause seat next s mid b (Err denial.Memory) may drops =
    subst (λ (told : Option Told). TellsStill cause next (blobs_in mid.told) (blobs_in told)) (sym (ap (λ (c : Shown). c.told) drops))
    (tells_refl cause next (blobs_in mid.told))
rest_still cause seat next s mid b (Err other) may drops = absurd drops

-- ---- the desk

pub sweeps_desk : (seat : ℕ) (a b : Shown) (now : ℕ) (result : Result Swept Denial) → IsSeatNumber seat → IsHistory a.site
    → IsSound a.site.state → AreRising a.site.state.tables → Sweeps seat a b now result → IsDesk a → IsDesk b
sweeps_desk seat a b now result is h sound rising sweeps desk = here sweeps.answer sweeps.step sweeps.ends
  where
    here : (answer : Answer) → Starts seat (standing_in a) sweeps.mid now Sweep answer
        → EndsSweep seat a.site.state (moved a sweeps.mid) b answer result → IsDesk b
    here (Ok reply) step ends =
        let more = steps_more seat now (standing_in a) sweeps.mid (Ok reply) (answered_steps seat now (standing_in a) sweeps.mid reply step) in
        rest_desk seat a.site.state (moved a sweeps.mid) b result is (omega (arith, more)) ends
        (starts_desk seat a sweeps.mid now Sweep (Ok reply) tt h sound rising step desk)
    here (Err refusal) step ends =
        subst IsDesk (sym ends.0) (starts_desk seat a sweeps.mid now Sweep (Err refusal) tt h sound rising step desk)

-- ---- the turn

module _ {K : Type 0} (k : KeeperOf K) (seat : ℕ) (old : Served K) (site : Held) (keeper : K) (strikes : List ℕ) where
  abbrev new : Served K
  new = record old { site = site; keeper = keeper; strikes = strikes }

  abbrev a : Shown
  a = shown k old

  abbrev b : Shown
  b = shown k new

  module _ (now : ℕ) (result : Result Swept Denial) (is : IsSeatNumber seat) (before : IsHistory old.site.kept) (after : IsHistory site.kept)
      (sound : IsSound old.site.kept.state) (rising : AreRising old.site.kept.state.tables) (desk : IsDesk a) (mid : Standing) where
    refused_turn : (refusal : Denial) → Starts seat (standing_in a) mid now Sweep (Err refusal) → b ≡ moved a mid → TakesTurn k seat old new
    refused_turn refusal step same =
        subst (λ (z : List ℕ). TakesTurn k seat old (record old { site = site; keeper = keeper; strikes = z }))
        (sym (ap (λ (c : Shown). c.strikes) same))
        (starts_turn k seat old site keeper now Sweep (Err refusal) before after sound desk.counted
        (subst (λ (z : Standing). Starts seat (standing_in a) z now Sweep (Err refusal)) (sym (ap standing_in same)) step))

    answered_turn : (reply : Reply) → Starts seat (standing_in a) mid now Sweep (Ok reply) → DropsRest seat a.site.state (moved a mid) b result
        → TakesTurn k seat old new
    answered_turn reply step drops =
        let steps = answered_steps seat now (standing_in a) mid reply step in
        let e = entry_at seat old.site.kept now Sweep steps.mark in
        let its : site.kept ≡ mid.site = rest_site seat a.site.state (moved a mid) b result drops in
        let middle : IsDesk (moved a mid) = starts_desk seat a mid now Sweep (Ok reply) tt before sound rising step desk in
        let lasts : Lasts (book_at seat a) (book_at seat (moved a mid)) =
        by_step seat a mid now Sweep [] (Ok reply) steps (λ (c : Shown). Lasts (book_at seat a) (book_at seat c))
        (step_lasts seat a mid now Sweep [] (Ok reply) steps before sound desk.counted) in
        let more = steps_more seat now (standing_in a) mid (Ok reply) steps in
        let longer : length old.site.kept.history < length site.kept.history =
        omega (arith, more, ap (λ (z : Kept). length z.history) its) in
        turn_of k seat old new (e ∷ []) before after
        (ap (λ (z : Kept). z.history) its ∙ ap (λ (z : Kept). z.history) steps.makes.site)
        (All-cons (λ (x : Entry). x.seat ≡ seat) e [] refl (All-nil (λ (x : Entry). x.seat ≡ seat)))
        (rest_strikes seat a.site.state (moved a mid) b result is middle drops) refl
        (ap (λ (z : Kept). z.opening) its ∙ lasts.opening)
        (subst (λ (z : Kept). next_of old.site.kept ≤ next_of z) (sym its) lasts.next_blob)
        (tells_then ⊥ (length old.site.kept.history < length site.kept.history) (length old.site.kept.history < length site.kept.history)
        (next_of old.site.kept) (next_of old.site.kept) (blobs_in (k.told old.keeper)) (blobs_in mid.told) (blobs_in (k.told keeper))
        (λ never. absurd never) (λ it. it) (omega arith)
        (subst (λ (n : ℕ). TellsStill ⊥ n (blobs_in (k.told old.keeper)) (blobs_in mid.told)) (sym (next_again old.site.kept before))
        (steps_still seat (standing_in a) mid now Sweep [] (Ok reply) sound steps))
        (rest_still (length old.site.kept.history < length site.kept.history) seat (next_of old.site.kept) a.site.state (moved a mid) b result longer drops))

    turn_by : (answer : Answer) → Starts seat (standing_in a) mid now Sweep answer → EndsSweep seat a.site.state (moved a mid) b answer result
        → TakesTurn k seat old new
    turn_by (Ok reply) step ends = answered_turn reply step ends
    turn_by (Err refusal) step ends = refused_turn refusal step ends.0

  pub sweeps_turn : (now : ℕ) (result : Result Swept Denial) → IsSeatNumber seat → IsHistory old.site.kept → IsHistory site.kept
      → IsSound old.site.kept.state → AreRising old.site.kept.state.tables → IsDesk a → Sweeps seat a b now result → TakesTurn k seat old new
  sweeps_turn now result is before after sound rising desk sweeps =
      turn_by now result is before after sound rising desk sweeps.mid sweeps.answer sweeps.step sweeps.ends
