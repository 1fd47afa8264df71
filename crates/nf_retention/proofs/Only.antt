-- No other list is kept.
use Rattle.std.proofs.Common.{◌≡◌, ◌<◌, ◌≤◌, ◌-◌, ℕ, Bool, true, false, List, [], ◌∷◌, if◌then◌else◌, refl, subst, inl, inr, arith, Contains}
use Rattle.std.specs.Prelude.{nat_le}
use Rattle.std.proofs.lemmas.Bool.{leb-true, leb-false}
use Rattle.nf_retention.specs.Laws.{KeptIsOnly}
use Rattle.nf_retention.specs.Thinning.{AreKept, IsBetween, kept_below, step}
use Rattle.nf_retention.proofs.Members.{Fall, apart_at_most, apart_below, apart_step, behind_first, fall_below, fall_from, fall_wider, head_in, in_cases, none_in, rest_in}
use Rattle.nf_retention.proofs.Walks.{AreWalked}

-- where a version is a step below the last one, what is kept doesn't begin below it
not_below : (now last version : ℕ) (older those : List ℕ) → Fall last (version ∷ older) → step (now - last) ≤ last - version
    → AreWalked now last (version ∷ older) those → ((x : ℕ) → Contains those x → x < version) → ⊥
not_below now last version older those fall far walked lower =
    omega (arith, far, walked.others last version (head_in version older) (record { above = head_in last those; below = fall.0; next = next }))
  where
    next : (other : ℕ) → Contains (last ∷ those) other → other < last → other < version
    next other has less = elim (in_cases last other those has) [
      | inl is ↦ absurd (omega (arith, is, less))
      | inr behind ↦ lower other behind
    ]

-- but with it
first_is : (now last version first : ℕ) (older those : List ℕ) → Fall last (version ∷ older) → step (now - last) ≤ last - version
    → AreWalked now last (version ∷ older) (first ∷ those) → first ≡ version
first_is now last version first older those fall far walked =
    elim (in_cases version first older (walked.members first (head_in first those))) [
      | inl is ↦ is
      | inr behind ↦ absurd (not_below now last version older (first ∷ those) fall far walked (lower (fall_below version older first fall.1 behind)))
    ]
  where
    lower : first < version → (x : ℕ) → Contains (first ∷ those) x → x < version
    lower below x has = omega (arith, below, apart_at_most now first those x walked.apart.1 has)

-- and then below it the rest
behind_kept : (now last version : ℕ) (older those : List ℕ) → Fall last (version ∷ older)
    → AreWalked now last (version ∷ older) (version ∷ those) → AreWalked now version older those
behind_kept now last version older those fall walked =
    record {
      members = behind_first version older those (λ x has. walked.members x (rest_in version x those has))
          (λ x has is. omega (arith, is, apart_below now version those x walked.apart.1 has));
      apart = walked.apart.1;
      others = others;
    }
  where
    others : (moment x : ℕ) → Contains older x → IsBetween (version ∷ those) moment x → moment - x < step (now - moment)
    others moment x has between =
        walked.others moment x (rest_in version x older has) (record {
          above = rest_in last moment (version ∷ those) between.above;
          below = between.below;
          next = next;
        })
      where
        next : (other : ℕ) → Contains (last ∷ version ∷ those) other → other < moment → other < x
        next other among less = elim (in_cases last other (version ∷ those) among) [
          | inl is ↦ absurd (omega (arith, is, less, fall.0, apart_at_most now version those moment walked.apart.1 between.above))
          | inr inside ↦ between.next other inside less
        ]

-- less than a step below the last one it isn't kept
behind_left : (now last version : ℕ) (older those : List ℕ) → last - version < step (now - last)
    → AreWalked now last (version ∷ older) those → AreWalked now last older those
behind_left now last version older those close walked =
    record {
      members = behind_first version older those walked.members
          (λ x has is. omega (arith, is, close, apart_step now last those x walked.apart has));
      apart = walked.apart;
      others = λ moment x has. walked.others moment x (rest_in version x older has);
    }

-- where nothing else is kept below the next one, nothing else is kept
far_below : (now last version : ℕ) (older those : List ℕ) → Fall last (version ∷ older) → step (now - last) ≤ last - version
    → ((rest : List ℕ) → AreWalked now version older rest → rest ≡ kept_below now version older)
    → AreWalked now last (version ∷ older) those → those ≡ version ∷ kept_below now version older
far_below now last version older [] fall far only walked =
    absurd (not_below now last version older [] fall far walked (λ x has. absurd (none_in x has)))
far_below now last version older (first ∷ those) fall far only walked =
    let is = first_is now last version first older those fall far walked in
    let again = subst (λ (x : ℕ). AreWalked now last (version ∷ older) (x ∷ those)) is walked in
    let rest = only those (behind_kept now last version older those fall again) in
    cc

by_step : (now last version : ℕ) (older those : List ℕ) (b : Bool) → nat_le (step (now - last)) (last - version) ≡ b
    → Fall last (version ∷ older) → ((rest : List ℕ) → AreWalked now version older rest → rest ≡ kept_below now version older)
    → ((rest : List ℕ) → AreWalked now last older rest → rest ≡ kept_below now last older)
    → AreWalked now last (version ∷ older) those
    → those ≡ (if b then version ∷ kept_below now version older else kept_below now last older)
by_step now last version older those true far fall next same walked =
    far_below now last version older those fall (leb-true _ _ far) next walked
by_step now last version older those false close fall next same walked =
    same those (behind_left now last version older those (leb-false _ _ close) walked)

only_below : (now last : ℕ) (versions those : List ℕ) → Fall last versions → AreWalked now last versions those
    → those ≡ kept_below now last versions
only_below now last [] [] fall walked = refl
only_below now last [] (first ∷ those) fall walked = absurd (none_in first (walked.members first (head_in first those)))
only_below now last (version ∷ older) those fall walked =
    by_step now last version older those _ refl fall (λ rest. only_below now version older rest fall.1)
    (λ rest. only_below now last older rest (fall_wider version last older (omega (arith, fall.0)) fall.1)) walked

-- below the newest
from_newest : (now newest : ℕ) (older those : List ℕ) → AreKept now (newest ∷ older) (newest ∷ those) → AreWalked now newest older those
from_newest now newest older those are =
    record {
      members = behind_first newest older those (λ x has. are.members x (rest_in newest x those has))
          (λ x has is. omega (arith, is, apart_below now newest those x are.apart has));
      apart = are.apart;
      others = λ moment x has. are.others moment x (rest_in newest x older has);
    }

pub kept_only : KeptIsOnly
kept_only now [] [] falling are = refl
kept_only now [] (first ∷ those) falling are = absurd (none_in first (are.members first (head_in first those)))
kept_only now (newest ∷ older) [] falling are = let e = are.newest in cc
kept_only now (newest ∷ older) (first ∷ those) falling are =
    let e = are.newest in
    let is : first ≡ newest = cc in
    let again = subst (λ (x : ℕ). AreKept now (newest ∷ older) (x ∷ those)) is are in
    let rest = only_below now newest older those (fall_from newest older falling) (from_newest now newest older those again) in
    cc
