-- How the keeper's failures are counted, all of them and those of each seat.
use Rattle.std.proofs.Common.{◌≡◌, ◌≢◌, ◌⊎◌, inl, inr, ℕ, zero, suc, min, ◌+◌, ◌-◌, ◌^◌, ◌<◌, ◌≤◌, ◌==◌, List, [], ◌∷◌, ◌++◌, length, get_or, refl, sym, ap, subst, ◌∙◌, add-one, arith}
use Rattle.std.specs.Prelude.{Option, sum}
use Rattle.std.proofs.Math.ListN.{set}
use Rattle.std.proofs.Math.ListN.{length-set}
use Rattle.std.proofs.lemmas.Bool.{cases_lt, eq-eqb}
use Rattle.std.proofs.lemmas.List.{get_or-set_other, get_or-set_same}
use Rattle.std.proofs.lemmas.List.Elements.{filter-append}
use Rattle.std.proofs.lemmas.List.Sums.{sum_by-set, sum_by_more_le}
use Rattle.nf_session.specs.Book.{Strikes, Struck}
use Rattle.nf_site.specs.Kept.{Kept, entered}
use Rattle.nf_told.specs.Told.{Told}
use Rattle.nf_words.specs.declared.history.Entry.{Entry}
use Rattle.nf_words.specs.declared.history.Mark.{Mark}
use Rattle.nf_words.specs.declared.history.Mark.TheVariants as mark
use Rattle.nf_desk.specs.Desk.{IsCounted, Shown, entries_by, failed_mark, failed_marks, failures, failures_of, moved, risen, strikes_of}
use Rattle.nf_desk.specs.Pieces.{StrikesOne}
use Rattle.nf_desk.specs.Stepping.{standing}

-- ---- a count that rises

-- it stays where it is at the last value
abbrev pub OneMore : ℕ → ℕ → Type 0
OneMore n more = (more ≡ n + 1) ⊎ ((more ≡ n) × (2 ^ 64 - 1 ≤ n))

risen_more : (before n : ℕ) → risen before (n + 1) ≡ min (risen before n + 1) (2 ^ 64 - 1)
risen_more before zero = refl
risen_more before (suc n) = rw (add-one (suc n)) (omega arith)

risen_full : (before n : ℕ) → 2 ^ 64 - 1 ≤ n → risen before n ≡ 2 ^ 64 - 1
risen_full before zero full = absurd (omega (arith, full))
risen_full before (suc n) full = omega arith

pub risen_struck : (before n more : ℕ) → OneMore n more → Struck (risen before n) (risen before more)
risen_struck before n more (inl one) = ap (risen before) one ∙ risen_more before n
risen_struck before n more (inr full) =
    ap (risen before) full.0 ∙ omega (arith, risen_full before n full.1)

risen_fits : (before n : ℕ) → before ≤ 2 ^ 64 - 1 → risen before n ≤ 2 ^ 64 - 1
risen_fits before zero fits = fits
risen_fits before (suc n) fits = omega arith

risen_up : (before n more : ℕ) → before ≤ 2 ^ 64 - 1 → OneMore n more → risen before n ≤ risen before more
risen_up before n more fits one = omega (arith, risen_fits before n fits, risen_struck before n more one)

-- ---- the count of all

-- where a failure is counted, the count of the opening fits
start_fits : (a : Shown) (faults : ℕ) → IsCounted a → Struck a.faults faults → a.faults ≤ faults → a.start.faults ≤ 2 ^ 64 - 1
start_fits a faults counted struck rises = here (failures a) counted.is counted.fits
  where
    here : (n : ℕ) → a.faults ≡ risen a.start.faults n → (0 < n → a.start.faults < 2 ^ 64) → a.start.faults ≤ 2 ^ 64 - 1
    here zero is fits = omega (arith, is, struck, rises)
    here (suc n) is fits = let less : a.start.faults < 2 ^ 64 = fits (omega arith) in omega (arith, less)

-- each failure of the keeper is counted still, and the seat's count didn't fall
pub record GoesOn (seat : ℕ) (a b : Shown) : Type 0 where
  pub rises : risen a.start.faults (failures_of seat a) ≤ risen a.start.faults (failures_of seat b)
  pub counted : IsCounted b

-- where the keeper is called once
module _ (seat : ℕ) (a : Shown) (site : Kept) (told : Option Told) (faults : ℕ) (strikes : List ℕ) (counted : IsCounted a) where
  abbrev later : Shown
  later = record a { site = site; told = told; faults = faults; strikes = strikes }

  pub unfailed : failures later ≡ failures a → failures_of seat later ≡ failures_of seat a → faults ≡ a.faults → GoesOn seat a later
  unfailed all its same = record {
    rises = let equal = ap (risen a.start.faults) its in omega (arith, equal);
    counted = record { is = same ∙ counted.is ∙ ap (risen a.start.faults) (sym all); fits = λ some. counted.fits (omega (arith, all, some)) };
  }

  pub failed : OneMore (failures a) (failures later) → OneMore (failures_of seat a) (failures_of seat later) → Struck a.faults faults
      → a.faults ≤ faults → GoesOn seat a later
  failed all its struck rises = let fits = start_fits a faults counted struck rises in record {
    rises = risen_up a.start.faults (failures_of seat a) (failures_of seat later) fits its;
    counted = record {
      is = struck ∙ ap (λ (n : ℕ). min (n + 1) (2 ^ 64 - 1)) counted.is ∙ sym (risen_struck a.start.faults (failures a) (failures later) all);
      fits = λ some. omega (arith, fits);
    };
  }

-- ---- an entry more

failed_marks_more : (es : List Entry) (e : Entry) → failed_marks (es ++ e ∷ []) ≡ failed_marks es + failed_mark e.mark
failed_marks_more [] e = omega arith
failed_marks_more (x ∷ es) e = omega (arith, failed_marks_more es e)

entries_by_more : (seat : ℕ) (es : List Entry) (e : Entry) → e.seat ≡ seat → entries_by seat (es ++ e ∷ []) ≡ entries_by seat es ++ e ∷ []
entries_by_more seat es e is = simp (eq-eqb e.seat seat is) at (filter-append (λ (x : Entry). x.seat == seat) es (e ∷ []))

failures_more : (a : Shown) (e : Entry) (told : Option Told) (faults : ℕ)
    → failures (moved a (standing (entered a.site e) told faults)) ≡ failures a + failed_mark e.mark
failures_more a e told faults = omega (arith, failed_marks_more a.site.history e)

failures_of_more : (seat : ℕ) (a : Shown) (e : Entry) (told : Option Told) (faults : ℕ) → e.seat ≡ seat
    → failures_of seat (moved a (standing (entered a.site e) told faults)) ≡ failures_of seat a + failed_mark e.mark
failures_of_more seat a e told faults is =
    let marks : failed_marks (entries_by seat (a.site.history ++ e ∷ [])) ≡ failed_marks (entries_by seat a.site.history) + failed_mark e.mark
    = ap failed_marks (entries_by_more seat a.site.history e is) ∙ failed_marks_more (entries_by seat a.site.history) e in
    omega (arith, marks)

-- ---- what the mark of an entry adds

mark_strikes : (m : Mark) (before n more : ℕ) → more ≡ n + failed_mark m → Strikes m (risen before n) (risen before more)
mark_strikes mark.Store before n more is = risen_struck before n more (inl is)
mark_strikes other before n more is = let same : more ≡ n = omega (arith, is) in ap (risen before) same

mark_goes : (m : Mark) (seat : ℕ) (a : Shown) (site : Kept) (told : Option Told) (faults : ℕ) → IsCounted a
    → failures (moved a (standing site told faults)) ≡ failures a + failed_mark m
    → failures_of seat (moved a (standing site told faults)) ≡ failures_of seat a + failed_mark m
    → Strikes m a.faults faults → a.faults ≤ faults → GoesOn seat a (moved a (standing site told faults))
mark_goes mark.Store seat a site told faults counted all its strikes rises =
    failed seat a site told faults a.strikes counted (inl all) (inl its) strikes rises
mark_goes other seat a site told faults counted all its strikes rises =
    unfailed seat a site told faults a.strikes counted (omega (arith, all)) (omega (arith, its)) strikes

-- the strikes of the seat that made it, and of the keeper
pub marks : (seat : ℕ) (a : Shown) (e : Entry) (told : Option Told) (faults : ℕ) → IsCounted a → e.seat ≡ seat → Strikes e.mark a.faults faults
    → a.faults ≤ faults → let b = moved a (standing (entered a.site e) told faults) in
    Strikes e.mark (risen a.start.faults (failures_of seat a)) (risen a.start.faults (failures_of seat b)) × GoesOn seat a b
marks seat a e told faults counted its strikes rises =
    let more = failures_of_more seat a e told faults its in (
      mark_strikes e.mark a.start.faults (failures_of seat a) _ more,
      mark_goes e.mark seat a (entered a.site e) told faults counted (failures_more a e told faults) more strikes rises,
    )

-- ---- a strike of a seat

one_more_beside : (k n more : ℕ) → OneMore n more → OneMore (k + n) (k + more)
one_more_beside k n more (inl one) = inl (omega (arith, one))
one_more_beside k n more (inr full) = inr (omega (arith, full.0), omega (arith, full.1))

struck_one : (before now : ℕ) → before ≤ 2 ^ 64 - 1 → Struck before now → OneMore before now
struck_one before now fits struck = elim (cases_lt before (2 ^ 64 - 1)) [
  | inl less ↦ inl (omega (arith, less, struck))
  | inr full ↦ inr (omega (arith, full, fits, struck), full)
]

-- of the sum one is struck
sum_struck : (strikes : List ℕ) (place now : ℕ) → place < length strikes → OneMore (get_or strikes place 0) now
    → OneMore (sum strikes) (sum (set strikes place now))
sum_struck strikes place now within (inl one) =
    let sums = sum_by-set (λ (x : ℕ). x) strikes place now 0 within in inl (omega (arith, sums, one))
sum_struck strikes place now within (inr full) =
    let sums = sum_by-set (λ (x : ℕ). x) strikes place now 0 within in
    let least = sum_by_more_le (λ (x : ℕ). x) strikes place 0 within in
    inr (omega (arith, sums, full.0), omega (arith, least, full.1))

-- what follows where the strikes of a seat rose by one, and no other's
pub record Strike (seat : ℕ) (before now : List ℕ) : Type 0 where
  pub seats : length now ≡ length before
  pub one : OneMore (strikes_of before seat) (strikes_of now seat)
  pub all : OneMore (sum before) (sum now)
  pub others : (m : ℕ) → m ≢ seat → strikes_of now m ≡ strikes_of before m

strike_at : (place : ℕ) (before : List ℕ) (count : ℕ) → place < length before → OneMore (get_or before place 0) count
    → Strike (suc place) before (set before place count)
strike_at place before count within one = record {
  seats = length-set before place count;
  one = subst (OneMore (get_or before place 0)) (sym (get_or-set_same before place count 0 within)) one;
  all = sum_struck before place count within one;
  others = other;
}
  where
    other : (m : ℕ) → m ≢ suc place → strikes_of (set before place count) m ≡ strikes_of before m
    other zero differ = refl
    other (suc m) differ = get_or-set_other before place m count 0 (λ same. differ (ap suc same))

pub strike : (seat : ℕ) (before now : List ℕ) → 0 < seat → seat ≤ length before → StrikesOne seat before now → Strike seat before now
strike zero before now some within one = absurd (omega arith)
strike (suc place) before now some within one =
    let count = strikes_of now (suc place) in
    let its : suc place - 1 ≡ place = omega arith in
    let struck = struck_one (strikes_of before (suc place)) count (omega (arith, one.struck, one.rises)) one.struck in
    subst (Strike (suc place) before) (ap (λ (at : ℕ). set before at count) (sym its) ∙ sym one.alone) (strike_at place before count (omega arith) struck)

-- so the seat's failures rose by one, and all of them
pub failures_struck : (a : Shown) (faults : ℕ) (now : List ℕ) (seat : ℕ) → Strike seat a.strikes now
    → OneMore (failures a) (failures (record a { faults = faults; strikes = now }))
failures_struck a faults now seat strikes = one_more_beside (failed_marks a.site.history) (sum a.strikes) (sum now) strikes.all

pub failures_of_struck : (a : Shown) (faults : ℕ) (now : List ℕ) (seat : ℕ) → Strike seat a.strikes now
    → OneMore (failures_of seat a) (failures_of seat (record a { faults = faults; strikes = now }))
failures_of_struck a faults now seat strikes =
    one_more_beside (failed_marks (entries_by seat a.site.history)) (strikes_of a.strikes seat) (strikes_of now seat) strikes.one
