-- The rules that take memory come behind the others.
use Rattle.std.proofs.Common.{◌≡◌, List, [], ◌∷◌, ◌++◌, Option, None, Some, Result, Ok, Err, option_map, option_and_then, refl, sym, ap, ◌∙◌}
use Rattle.std.specs.Prelude.{IfOk}
use Rattle.std.specs.Option.{option_or}
use Rattle.std.specs.declared.alloc.AllocError.{AllocError}
use Rattle.nf_defs.specs.Access.{Access}
use Rattle.nf_words.proofs.Passing.{no_limit}
use Rattle.nf_words.specs.Prelude.{access_of, allowed_of, asked_by, Call, call_decision, earlier_rules, first_that_holds, later_rules, limit_rule, limited, locked_rule, places_of, quota_rule, refusal_of, room_rule, Rule, unless_refused}
use Rattle.nf_words.specs.Sharing.{limit_by, limit_of_ask, offer_limit}
use Rattle.nf_words.specs.declared.answer.Allowed.{Allowed}
use Rattle.nf_words.specs.declared.answer.Denial.{Denial}
use Rattle.nf_words.specs.declared.answer.Denial.TheVariants as denial
use Rattle.nf_words.specs.declared.answer.Excess.{Excess}
use Rattle.nf_words.specs.declared.answer.Limit.{Limit}
use Rattle.nf_words.specs.declared.request.Places.{Places}
use Rattle.nf_words.specs.declared.request.ShareAsk.{ShareAsk}
use Rattle.nf_words.specs.declared.request.ShareAsk.TheVariants as ask
use Rattle.nf_decide.specs.Deciding.{early_refusal, excess_in, late_refusal, locked_at, offer_by, passed_at}

first_of_both : (before behind : List Rule) (access : Access) (call : Call)
    → first_that_holds (before ++ behind) access call ≡ option_or (first_that_holds before access call) (first_that_holds behind access call)
first_of_both [] behind access call = refl
first_of_both (rule ∷ before) behind access call = here (rule access call) (first_of_both before behind access call)
  where
    here : (o : Option Denial)
        → first_that_holds (before ++ behind) access call ≡ option_or (first_that_holds before access call) (first_that_holds behind access call)
        → option_or o (first_that_holds (before ++ behind) access call)
        ≡ option_or (option_or o (first_that_holds before access call)) (first_that_holds behind access call)
    here None rest = rest
    here (Some refusal) rest = refl

-- ---- of a call that no earlier rule refuses

refused_as : (call : Call) → early_refusal (access_of call.state) call ≡ None
    → refusal_of (access_of call.state) call ≡ late_refusal (access_of call.state) call
refused_as call early =
    first_of_both earlier_rules later_rules (access_of call.state) call
    ∙ ap (λ (o : Option Denial). option_or o (late_refusal (access_of call.state) call)) early

pub refused_late : (call : Call) (refusal : Denial) → early_refusal (access_of call.state) call ≡ None
    → Some refusal ≡ late_refusal (access_of call.state) call → Err refusal ≡ call_decision call
refused_late call refusal early is =
    ap (λ (o : Option Denial). unless_refused o (allowed_of (access_of call.state) call)) (is ∙ sym (refused_as call early))

pub allowed_late : (call : Call) (act : Allowed) → early_refusal (access_of call.state) call ≡ None
    → None ≡ late_refusal (access_of call.state) call → act ≡ allowed_of (access_of call.state) call → Ok act ≡ call_decision call
allowed_late call act early is does =
    ap Ok does ∙ ap (λ (o : Option Denial). unless_refused o (allowed_of (access_of call.state) call)) (is ∙ sym (refused_as call early))

-- ---- each of them

pub locked_late : (call : Call) (places : Places) (refusal : Denial) → places ≡ places_of call → Some refusal ≡ locked_at call places
    → Some refusal ≡ late_refusal (access_of call.state) call
unfolding locked_rule
locked_late call places refusal same is =
    ap (λ (o : Option Denial). option_or o (first_that_holds (limit_rule ∷ room_rule ∷ quota_rule ∷ []) (access_of call.state) call))
    (is ∙ ap (locked_at call) same)

one_by_one : (a b : Option Limit) (over : Option Excess)
    → option_or (option_map denial.Limit (option_or a b)) (option_map denial.Quota over)
    ≡ option_or (option_map denial.Limit a) (option_or (option_map denial.Limit b) (option_or (option_map denial.Quota over) None))
one_by_one None None None = refl
one_by_one None None (Some over) = refl
one_by_one None (Some limit) over = refl
one_by_one (Some limit) b over = refl

-- the limits of shares and mounts are those of the share that is asked for
pub room_of_offer : (call : Call) (ask : ShareAsk) → option_and_then (offer_limit call.state.tables) (offer_by call ask) ≡ limit_of_ask call ask
room_of_offer call (ask.New spot to perms until) = refl
room_of_offer call (ask.List spot with_me) = refl
room_of_offer call (ask.Show share) = refl
room_of_offer call (ask.Set share perms until) = refl
room_of_offer call (ask.End share) = refl

beyond_late : (call : Call) (places : Places) (refusal : Option Denial) → places ≡ places_of call → None ≡ locked_at call places
    → refusal ≡ option_or (option_map denial.Limit (passed_at call places)) (option_map denial.Quota (excess_in call places))
    → refusal ≡ late_refusal (access_of call.state) call
unfolding locked_rule limit_rule room_rule quota_rule
beyond_late call places refusal same free is =
    let t = call.state.tables in
    let makes = (asked_by call).makes in
    is
    ∙ ap (λ (places : Places). option_or (option_map denial.Limit (passed_at call places)) (option_map denial.Quota (excess_in call places))) same
    ∙ one_by_one (limited t (places_of call) makes) (limit_by call call.request.wanted) (excess_in call (places_of call))
    ∙ ap (λ (o : Option Denial). option_or o (first_that_holds (limit_rule ∷ room_rule ∷ quota_rule ∷ []) (access_of call.state) call))
    (free ∙ ap (locked_at call) same)

pub ok_late : (call : Call) (places : Places) (result : Result (Option Denial) AllocError) → places ≡ places_of call → None ≡ locked_at call places
    → IfOk result (λ refusal. refusal ≡ option_or (option_map denial.Limit (passed_at call places))
    (option_map denial.Quota (excess_in call places)))
    → IfOk result (λ refusal. refusal ≡ late_refusal (access_of call.state) call)
ok_late call places (Ok refusal) same free is = beyond_late call places refusal same free is
ok_late call places (Err error) same free is = tt

-- a call that none of them refuses passes no limit of nodes and pieces
pub few : (call : Call) → None ≡ late_refusal (access_of call.state) call
    → limited call.state.tables (places_of call) (asked_by call).makes ≡ None
unfolding limit_rule
few call none =
    no_limit _
    (here (locked_rule (access_of call.state) call) (limit_rule (access_of call.state) call) _ (sym none))
  where
    here : (a b c : Option Denial) → option_or a (option_or b c) ≡ None → b ≡ None
    here None None c none = refl
    here None (Some refusal) c none = absurd (cc)
    here (Some refusal) b c none = absurd (cc)
