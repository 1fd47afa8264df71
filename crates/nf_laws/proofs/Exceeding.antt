-- What is refused for a quota, and that nothing else is.
use Rattle.std.proofs.Common.{◌≡◌, ℕ, false, true, List, [], ◌∷◌, ◌++◌, Option, None, Some, option_map, refl, sym, ap, subst, ◌∙◌}
use Rattle.std.specs.Option.{option_or}
use Rattle.std.proofs.lemmas.Bool.{both_ways}
use Rattle.std.proofs.lemmas.Option.{same_Some}
use Rattle.nf_defs.specs.Prelude.{Access}
use Rattle.nf_laws.proofs.Locking.{all_pass, refused}
use Rattle.nf_laws.specs.Charges.{EndReaches, excess_of, QuotaExactly, rules_before}
use Rattle.nf_words.proofs.Marks.{early, early_pass, end_early, IsEarly, is_later}
use Rattle.nf_words.specs.Prelude.{access_of, allowed_of, answered_by, Call, call_of, earlier_rules, end_lost, end_refusal, end_unallowed, end_unreached, ends_at, excess_at, first_that_holds, later_rules, limit_at, limit_rule, locked_rule, node_of_key, Pass, pieces_of, place_of, quota_rule, refusal_of, room_rule, Rule, State, stored_at, unless_refused}
use Rattle.nf_words.specs.declared.answer.By.{By}
use Rattle.nf_words.specs.declared.answer.Denial.{Denial}
use Rattle.nf_words.specs.declared.answer.Denial.TheVariants as denial
use Rattle.nf_words.specs.declared.answer.Excess.{Excess}
use Rattle.nf_words.specs.declared.answer.Goal.{Goal}
use Rattle.nf_words.specs.declared.answer.Limit.{Limit}
use Rattle.nf_words.specs.declared.answer.LockKey.{LockKey}
use Rattle.nf_words.specs.declared.history.Outcome.TheVariants.{Body}

-- ---- the rules behind those that are tried first

module _ (access : Access) (call : Call) (excess : Excess) where
  abbrev exceeds : Option Excess
  exceeds = excess_of call

  both_pass : (before behind : List Rule) → Pass before access call → Pass behind access call → Pass (before ++ behind) access call
  both_pass [] behind passes more = more
  both_pass (rule ∷ before) behind passes more = (passes.0, both_pass before behind passes.1 more)

  -- where the refusal is for a quota the others pass
  later_is : first_that_holds later_rules access call ≡ Some (denial.Quota excess)
      → Pass (locked_rule ∷ limit_rule ∷ room_rule ∷ []) access call × (exceeds ≡ Some excess)
  unfolding locked_rule limit_rule room_rule quota_rule
  later_is is = here _ _ _ exceeds refl refl refl is
    where
      here : (key : Option LockKey) (limit room : Option Limit) (over : Option Excess)
          → locked_rule access call ≡ option_map denial.Locked key → limit_rule access call ≡ option_map denial.Limit limit
          → room_rule access call ≡ option_map denial.Limit room
          → option_or (option_map denial.Locked key) (option_or (option_map denial.Limit limit)
          (option_or (option_map denial.Limit room) (option_or (option_map denial.Quota over) None))) ≡ Some (denial.Quota excess)
          → Pass (locked_rule ∷ limit_rule ∷ room_rule ∷ []) access call × (over ≡ Some excess)
      here None None None None first second third is = absurd (cc)
      here None None None (Some over) first second third is = let same : over ≡ excess = cc in ((first, (second, (third, tt))), ap Some same)
      here None None (Some room) over first second third is = absurd (cc)
      here None (Some limit) room over first second third is = absurd (cc)
      here (Some key) limit room over first second third is = absurd (cc)

  pub refused_over : refusal_of access call ≡ Some (denial.Quota excess) → Pass rules_before access call × (exceeds ≡ Some excess)
  refused_over is =
      let h = early_pass earlier_rules later_rules access call (denial.Quota excess) early refl is in
      let later = later_is h.1 in
      (both_pass earlier_rules (locked_rule ∷ limit_rule ∷ room_rule ∷ []) h.0 later.0, later.1)

  pub over_refused : Pass rules_before access call → exceeds ≡ Some excess → refusal_of access call ≡ Some (denial.Quota excess)
  unfolding quota_rule
  over_refused passes over =
      all_pass rules_before access call passes (quota_rule ∷ [])
      ∙ ap (λ (o : Option Excess). option_or (option_map denial.Quota o) None) over

-- ---- an End

-- a later refusal is behind an early one, which passes
behind_early : (first rest : Option Denial) (refusal : Denial) → IsEarly first → is_later refusal ≡ true → option_or first rest ≡ Some refusal
    → (first ≡ None) × (rest ≡ Some refusal)
behind_early None rest refusal fine later is = (refl, is)
behind_early (Some other) rest refusal fine later is =
    absurd (both_ways (is_later refusal) (subst (λ (d : Denial). is_later d ≡ false) (same_Some other refusal is) fine) later)

unfit_over : (limit : Option Limit) (over : Option Excess) (excess : Excess)
    → option_or (option_map denial.Limit limit) (option_map denial.Quota over) ≡ Some (denial.Quota excess) → (limit ≡ None) × (over ≡ Some excess)
unfit_over (Some limit) over excess is = absurd (cc)
unfit_over None None excess is = absurd (cc)
unfit_over None (Some over) excess is = let same : over ≡ excess = cc in (refl, ap Some same)

module _ (s : State) (now : ℕ) (by : By) (key : LockKey) (length : ℕ) (excess : Excess) where
  end_over : end_refusal (access_of s) s.tables now by key length ≡ Some (denial.Quota excess)
      → EndReaches s now by key length × (excess_at s.tables length (place_of key) ≡ Some excess)
  end_over is =
      let fine = end_early (access_of s) s.tables now by key in
      let refusal = denial.Quota excess in
      let reached = behind_early (end_unreached (access_of s) s.tables now by (node_of_key key)) _ refusal fine.0 refl is in
      let allowed = behind_early (end_unallowed (access_of s) s.tables now by key) _ refusal fine.1 refl reached.1 in
      let there = behind_early (end_lost s.tables key) _ refusal fine.2 refl allowed.1 in
      let unfit = unfit_over (limit_at s.tables (pieces_of length) (place_of key)) (excess_at s.tables length (place_of key)) excess there.1 in
      (record { reached = reached.0; allowed = allowed.0; there = there.0; few = unfit.0 }, unfit.1)

  over_end : EndReaches s now by key length → excess_at s.tables length (place_of key) ≡ Some excess
      → end_refusal (access_of s) s.tables now by key length ≡ Some (denial.Quota excess)
  over_end passes over = rw (passes.reached, passes.allowed, passes.there, passes.few, over) refl

pub exceeds_exactly : QuotaExactly
exceeds_exactly = record {
  begin = λ s seat now words request excess.
      let call = call_of s seat now words request in
      let access = access_of s in (
        λ is. refused_over access call excess (refused (refusal_of access call) (allowed_of access call) (denial.Quota excess) is),
        λ h. ap (λ (o : Option Denial). answered_by (unless_refused o (allowed_of access call))) (over_refused access call excess h.0 h.1),
      );
  body = λ s seat now by key wanted length digest excess goal.
      let refusal = end_refusal (access_of s) s.tables now by key length in
      let act = stored_at s.tables now key digest length in
      let goes = ap (λ (o : Option Goal). answered_by (ends_at (access_of s) s.tables now (Body digest length) o)) goal in (
        λ is. end_over s now by key length excess (refused refusal act (denial.Quota excess) (sym goes ∙ is)),
        λ h. goes ∙ ap (λ (o : Option Denial). answered_by (unless_refused o act)) (over_end s now by key length excess h.0 h.1),
      );
}
