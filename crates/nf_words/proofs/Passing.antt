-- What a call that no rule refuses passes, by the names of the rules.
use Rattle.std.proofs.Common.{◌≡◌, ℕ, ◌&&◌, Bool, true, false, not, List, [], ◌∷◌, ◌++◌, Ok, refl, sym, ap, ◌∙◌}
use Rattle.std.specs.Prelude.{None, Option, Some, find, option_map, option_and_then, if◌then◌else◌}
use Rattle.std.specs.List.{All}
use Rattle.std.specs.Option.{IfSome, option_or}
use Rattle.std.proofs.lemmas.List.Elements.{All-cons, All-head, All-nil, All-tail}
use Rattle.nf_access.specs.Shares.{Ground, ground_of}
use Rattle.nf_defs.specs.Prelude.{Access, Tables}
use Rattle.nf_defs.specs.declared.Seeker.{Seeker}
use Rattle.nf_words.specs.Asked.{Asked}
use Rattle.nf_words.specs.Prelude.{access_of, acts_rule, allowed_of, asked_by, assembled_excess, Call, call_decision, end_lost, end_refusal, end_unallowed, end_unreached, exceeded, excess_at, exists_rule, first_refused, first_that_holds, forbidden_rule, found, is_refused, limit_at, limit_rule, locked_rule, may_by, named_rule, Need, need_broken, needed, needed_for, node_of_key, not_you_rule, opened_by, overwrite_rule, Pass, pieces_of, place_of, place_rule, places_of, quota_rule, refusal_of, room_rule, Rule, rules, seeker_of, sharing_rule, source_lost, source_refused, taken, target_lost, target_refused, target_rule, token_rule, unless_refused, unlinked, unopened, unreached, upload_rule, version_rule, Way, way_of}
use Rattle.nf_words.specs.declared.answer.Allowed.{Allowed}
use Rattle.nf_words.specs.declared.answer.By.{By}
use Rattle.nf_words.specs.declared.answer.Denial.{Denial}
use Rattle.nf_words.specs.declared.answer.Denial.TheVariants as denial
use Rattle.nf_words.specs.declared.answer.Excess.{Excess}
use Rattle.nf_words.specs.declared.answer.Limit.{Limit}
use Rattle.nf_words.specs.declared.answer.LockKey.{LockKey}
use Rattle.nf_words.specs.declared.answer.Breach.{Breach}
use Rattle.nf_words.specs.declared.answer.TargetFault.{TargetFault}
use Rattle.nf_words.specs.declared.answer.UploadFault.{UploadFault}
use Rattle.nf_words.specs.declared.request.Spot.{Spot}

-- the rules pass it. A new rule adds a field, and its place in `named` and `in_order`
pub record Passes (access : Access) (call : Call) : Type 0 where
  pub token : token_rule access call ≡ None
  pub not_you : not_you_rule access call ≡ None
  pub forbidden : forbidden_rule access call ≡ None
  pub place : place_rule access call ≡ None
  pub named : named_rule access call ≡ None
  pub acts : acts_rule access call ≡ None
  pub version : version_rule access call ≡ None
  pub exists : exists_rule access call ≡ None
  pub target : target_rule access call ≡ None
  pub overwrite : overwrite_rule access call ≡ None
  pub sharing : sharing_rule access call ≡ None
  pub upload : upload_rule access call ≡ None
  pub locked : locked_rule access call ≡ None
  pub limit : limit_rule access call ≡ None
  pub room : room_rule access call ≡ None
  pub quota : quota_rule access call ≡ None

named : (access : Access) (call : Call) → Pass rules access call → Passes access call
named access call (token, (not_you, (forbidden, (place, (names, (acts, (version, (exists, (target, (overwrite, (sharing, (upload, (locked, (limit, (room, (quota, end)))))))))))))))) = record {
  token = token;
  not_you = not_you;
  forbidden = forbidden;
  place = place;
  named = names;
  acts = acts;
  version = version;
  exists = exists;
  target = target;
  overwrite = overwrite;
  sharing = sharing;
  upload = upload;
  locked = locked;
  limit = limit;
  room = room;
  quota = quota;
}

pub in_order : (access : Access) (call : Call) → Passes access call → Pass rules access call
in_order access call p = (
  p.token,
  (
    p.not_you,
    (
      p.forbidden,
      (
        p.place,
        (
          p.named,
          (
            p.acts,
            (
              p.version,
              (
                p.exists,
                (
                  p.target,
                  (
                    p.overwrite,
                    (
                      p.sharing,
                      (p.upload, (p.locked, (p.limit, (p.room, (p.quota, tt))))),
                    ),
                  ),
                ),
              ),
            ),
          ),
        ),
      ),
    ),
  ),
)

-- ---- of a call

pub both_none : (a b : Option Denial) → option_or a b ≡ None → (a ≡ None) × (b ≡ None)
both_none None b none = (refl, none)
both_none (Some refusal) b none = absurd (cc)

each_passes : (all : List Rule) (access : Access) (call : Call) → first_that_holds all access call ≡ None → Pass all access call
each_passes [] access call none = tt
each_passes (rule ∷ others) access call none =
    let h = both_none (rule access call) (first_that_holds others access call) none in (h.0, each_passes others access call h.1)

-- what isn't refused of the paths is of a link that is there, is reached, where it isn't a mount that is asked for itself, and isn't lost; and an upload
-- that has to be there is
pub record PlacePasses (access : Access) (call : Call) (asked : Asked) : Type 0 where
  pub linked : unlinked call ≡ None
  pub source : IfSome asked.source (λ (spot : Spot). (asked.removes && (way_of call spot).itself) ≡ false → unreached access call (way_of call spot) ≡ None)
  pub there : option_and_then source_lost (option_map (found call) asked.source) ≡ None
  pub opened : unopened call call.request.wanted ≡ None
  pub target : IfSome asked.target (λ (spot : Spot). unreached access call (way_of call spot) ≡ None)
  pub in_folder : option_and_then target_lost (option_map (found call) asked.target) ≡ None

pub place_passes : (access : Access) (call : Call) → place_rule access call ≡ None → PlacePasses access call (asked_by call)
unfolding place_rule
place_passes access call none = here (asked_by call) refl none
  where
    here : (asked : Asked) → asked_by call ≡ asked
        → option_or (unlinked call) (option_or (option_and_then (λ spot. source_refused access call (way_of call spot)) asked.source)
        (option_or (unopened call call.request.wanted)
        (option_and_then (λ spot. target_refused access call (way_of call spot)) asked.target))) ≡ None
        → PlacePasses access call asked
    here asked same none =
        let first = both_none (unlinked call) _ none in
        let both = both_none (option_and_then (λ spot. source_refused access call (way_of call spot)) asked.source) _ first.1 in
        let last = both_none (unopened call call.request.wanted) _ both.1 in
        record {
          linked = first.0;
          source = (sources asked.source both.0).0;
          there = (sources asked.source both.0).1;
          opened = last.0;
          target = (targets asked.target last.1).0;
          in_folder = (targets asked.target last.1).1;
        }
      where
        removes : (asked_by call).removes ≡ asked.removes
        removes = ap (λ (a : Asked). a.removes) same

        tested : (way : Way) (refusal : Option Denial) → (if (asked_by call).removes && way.itself then None else refusal) ≡ None
            → (asked.removes && way.itself) ≡ false → refusal ≡ None
        tested way refusal passes other =
            sym (ap (λ (b : Bool). if b then None else refusal) (ap (λ (b : Bool). b && way.itself) removes ∙ other)) ∙ passes

        sources : (source : Option Spot) → option_and_then (λ spot. source_refused access call (way_of call spot)) source ≡ None
            → IfSome source (λ (spot : Spot). (asked.removes && (way_of call spot).itself) ≡ false → unreached access call (way_of call spot) ≡ None)
            × (option_and_then source_lost (option_map (found call) source) ≡ None)
        sources None none = (tt, refl)
        sources (Some spot) none =
            let way = way_of call spot in
            let both = both_none (if (asked_by call).removes && way.itself then None else unreached access call way) (source_lost way.place) none in
            (tested way (unreached access call way) both.0, both.1)

        targets : (target : Option Spot) → option_and_then (λ spot. target_refused access call (way_of call spot)) target ≡ None
            → IfSome target (λ (spot : Spot). unreached access call (way_of call spot) ≡ None)
            × (option_and_then target_lost (option_map (found call) target) ≡ None)
        targets None none = (tt, refl)
        targets (Some spot) none = both_none (unreached access call (way_of call spot)) (target_lost (found call spot)) none

none_found : {X : Type 0} (test : X → Bool) (xs : List X) → find (λ x. not (test x)) xs ≡ None → All (λ x. test x ≡ true) xs
none_found test [] none = All-nil (λ x. test x ≡ true)
none_found {X = X} test (x ∷ xs) none = here (test x) refl none (λ none. none_found test xs none)
  where
    here : (b : Bool) → test x ≡ b → (if not b then Some x else find (λ x. not (test x)) xs) ≡ None
        → (find (λ x. not (test x)) xs ≡ None → All (λ x. test x ≡ true) xs) → All (λ x. test x ≡ true) (x ∷ xs)
    here true is none rest = All-cons (λ x. test x ≡ true) x xs is (rest none)
    here false is none rest = absurd (cc)

-- what is needed may be done, where no act of it is refused
pub needs_pass : (access : Access) (g : Ground) (seeker : Seeker) (now : ℕ) (needs : List Need) → first_refused access g seeker now needs ≡ None
    → All (λ (need : Need). may_by access g.nodes seeker now need.act need.node need.mount ≡ true) needs
needs_pass access g seeker now needs none =
    none_found (λ (need : Need). may_by access g.nodes seeker now need.act need.node need.mount) needs
    (map_none (find (is_refused access g.nodes seeker now) needs) none)
  where
    map_none : (o : Option Need) → option_map (need_broken g seeker now) o ≡ None → o ≡ None
    map_none None none = refl
    map_none (Some need) none = absurd (cc)

all_front : {X : Type 0} (P : X → Type 0) (xs ys : List X) → All P (xs ++ ys) → All P xs
all_front P [] ys all = All-nil P
all_front P (x ∷ xs) ys all = All-cons P x xs (All-head P x (xs ++ ys) all) (all_front P xs ys (All-tail P x (xs ++ ys) all))

all_behind : {X : Type 0} (P : X → Type 0) (xs ys : List X) → All P (xs ++ ys) → All P ys
all_behind P [] ys all = all
all_behind P (x ∷ xs) ys all = all_behind P xs ys (All-tail P x (xs ++ ys) all)

-- who asks may do all that the paths need, and what is needed of a version
abbrev pub MayDo : Access → Call → Need → Type 0
MayDo access call need = may_by access call.state.tables.nodes (seeker_of call) call.now need.act need.node need.mount ≡ true

pub all_acts_pass : (access : Access) (call : Call) → acts_rule access call ≡ None
    → All (MayDo access call) (needed call ++ needed_for access call call.request.wanted)
unfolding acts_rule
all_acts_pass access call none =
    needs_pass access (ground_of call.state.tables) (seeker_of call) call.now (needed call ++ needed_for access call call.request.wanted) none

pub acts_pass : (access : Access) (call : Call) → acts_rule access call ≡ None → All (MayDo access call) (needed call)
acts_pass access call none =
    all_front (MayDo access call) (needed call) (needed_for access call call.request.wanted) (all_acts_pass access call none)

pub version_acts_pass : (access : Access) (call : Call) → acts_rule access call ≡ None
    → All (MayDo access call) (needed_for access call call.request.wanted)
version_acts_pass access call none =
    all_behind (MayDo access call) (needed call) (needed_for access call call.request.wanted) (all_acts_pass access call none)

-- what isn't refused passes every rule
pub unrefused : (access : Access) (call : Call) → refusal_of access call ≡ None → Passes access call
unrefused access call none = named access call (each_passes rules access call none)

pub not_refused : (refusal : Option Denial) (act got : Allowed) → unless_refused refusal act ≡ Ok got → (refusal ≡ None) × (act ≡ got)
not_refused None act got is = (refl, cc)
not_refused (Some refusal) act got is = absurd (cc)

-- a call that may do something passes every rule, and may do what is given
pub call_passes : (call : Call) (act : Allowed) → call_decision call ≡ Ok act
    → Passes (access_of call.state) call × (allowed_of (access_of call.state) call ≡ act)
call_passes call act is =
    let access = access_of call.state in
    let h = not_refused (refusal_of access call) (allowed_of access call) act is in (unrefused access call h.0, h.1)

-- ---- of a rule

pub no_fault : (fault : Option TargetFault) → option_map denial.BadTarget fault ≡ None → fault ≡ None
no_fault None none = refl
no_fault (Some fault) none = absurd (cc)

pub no_key : (key : Option LockKey) → option_map denial.Locked key ≡ None → key ≡ None
no_key None none = refl
no_key (Some key) none = absurd (cc)

pub no_rule : (fault : Option Breach) → option_map denial.Rule fault ≡ None → fault ≡ None
no_rule None none = refl
no_rule (Some fault) none = absurd (cc)

pub no_upload_fault : (fault : Option UploadFault) → option_map denial.Upload fault ≡ None → fault ≡ None
no_upload_fault None none = refl
no_upload_fault (Some fault) none = absurd (cc)

pub no_limit : (passed : Option Limit) → option_map denial.Limit passed ≡ None → passed ≡ None
no_limit None none = refl
no_limit (Some passed) none = absurd (cc)

pub no_excess : (excess : Option Excess) → option_map denial.Quota excess ≡ None → excess ≡ None
no_excess None none = refl
no_excess (Some excess) none = absurd (cc)

pub if_none : (b : Bool) (refusal : Denial) → (if b then None else Some refusal) ≡ None → b ≡ true
if_none true refusal none = refl
if_none false refusal none = absurd (cc)

-- ---- of what is asked about uploads

-- nothing is where something is to be made, and no upload of the name of a new one is there
pub exists_passes : (access : Access) (call : Call) → exists_rule access call ≡ None
    → (taken call.state.tables.nodes (places_of call) (asked_by call).makes ≡ None) × (opened_by call call.request.wanted ≡ None)
unfolding exists_rule
exists_passes access call none =
    both_none (taken call.state.tables.nodes (places_of call) (asked_by call).makes) (opened_by call call.request.wanted) none

-- no quota is passed
pub quota_passes : (access : Access) (call : Call) → quota_rule access call ≡ None
    → (exceeded call.state.tables (places_of call) (asked_by call).makes ≡ None) × (assembled_excess call call.request.wanted ≡ None)
unfolding quota_rule
quota_passes access call none =
    both (exceeded call.state.tables (places_of call) (asked_by call).makes) (assembled_excess call call.request.wanted) (no_excess _ none)
  where
    both : (a b : Option Excess) → option_or a b ≡ None → (a ≡ None) × (b ≡ None)
    both None b none = (refl, none)
    both (Some excess) b none = absurd (cc)

-- ---- of an End

-- what passes all rules of the End of a PUT
pub record EndPasses (access : Access) (t : Tables) (now : ℕ) (by : By) (key : LockKey) (size : ℕ) : Type 0 where
  pub reached : end_unreached access t now by (node_of_key key) ≡ None
  pub allowed : end_unallowed access t now by key ≡ None
  pub there : end_lost t key ≡ None
  pub limit : limit_at t (pieces_of size) (place_of key) ≡ None
  pub quota : excess_at t size (place_of key) ≡ None

pub end_passes : (access : Access) (t : Tables) (now : ℕ) (by : By) (key : LockKey) (size : ℕ) → end_refusal access t now by key size ≡ None
    → EndPasses access t now by key size
end_passes access t now by key size none =
    let reached = both_none (end_unreached access t now by (node_of_key key)) _ none in
    let allowed = both_none (end_unallowed access t now by key) _ reached.1 in
    let there = both_none (end_lost t key) _ allowed.1 in
    let fits = both_none (option_map denial.Limit (limit_at t (pieces_of size) (place_of key))) _ there.1 in
    record { reached = reached.0; allowed = allowed.0; there = there.0; limit = no_limit _ fits.0; quota = no_excess _ fits.1 }
