-- A step is never answered as failed.
use Rattle.std.proofs.Common.{◌≡◌, ◌↔◌, ℕ, ◌&&◌, ◌||◌, Bool, true, false, inl, inr, List, [], ◌∷◌, ◌++◌, Result, Ok, Err, refl, subst}
use Rattle.std.specs.Prelude.{Option, None, Some, find, option_map, option_and_then, is_some, if◌then◌else◌}
use Rattle.std.specs.List.{list_all, list_any}
use Rattle.std.proofs.lemmas.Bool.{both_ways, cases_Bool}
use Rattle.std.proofs.lemmas.Option.{same_Some}
use Rattle.std.specs.Option.{IfSome, option_map_or, option_or}
use Rattle.nf_access.specs.Access.{is_open}
use Rattle.nf_access.specs.Broken.{broken_in, first_received}
use Rattle.nf_access.specs.Mounts.{mount_at}
use Rattle.nf_access.specs.Shares.{link_row, Ground, chain_of, ground_of}
use Rattle.nf_access.specs.declared.Cause.{Cause}
use Rattle.nf_base.specs.declared.perms.Act.{Act}
use Rattle.nf_base.specs.declared.rows.NodeRow.{NodeRow}
use Rattle.nf_base.specs.declared.rows.ShareRow.{ShareRow}
use Rattle.nf_defs.specs.declared.Seeker.{Seeker}
use Rattle.nf_words.specs.declared.request.Spot.{Spot}
use Rattle.nf_defs.specs.Prelude.{Access, is_root, owner_of, Tables}
use Rattle.nf_defs.specs.declared.Found.{Found}
use Rattle.nf_defs.specs.declared.Found.TheVariants.{At, Missing}
use Rattle.nf_words.specs.Prelude.{access_of, acts_rule, allowed_of, answer_at, answered_by, answer_to, asked_by, asks_by_link, assembled_excess, broken_by, Call, caller_row, call_of, chunk_limit, chunk_refusal, chunk_stored, decision_of, dir_asked, earlier_rules, end_lost, end_refusal, ends_at, ends_goal, end_unallowed, end_unreached, exceeded, excess_at, exists_rule, fault_by, fault_with, first_refused, first_that_holds, forbidden_rule, goal_at, has_forbidden, is_caller, is_kept, is_owner, is_refused, is_transfer, key_in_way, lacks_item, lacks_upload, later_rules, limit_at, limit_by, limited, limit_rule, locked_rule, may_ask, named_rule, Need, need_broken, needed, needed_by, needed_for, node_of_key, not_you_rule, opened_by, overwrite_rule, own_item, Pass, paths_of, pieces_of, place_of, place_rule, places_of, quota_rule, refusal_of, room_rule, root_of, Rule, seeker_of, sharing_rule, source_lost, source_refused, State, stored_at, taken, target_lost, target_refused, target_rule, token_rule, told_broken, touches, unfit, unless_refused, unlinked, unnamed, unnamed_by, unopened, unreached, unreached_by, untrashed, upload_row, upload_rule, users_of, version_lost, version_rule, Way, way_of, ways_of}
use Rattle.nf_words.specs.declared.answer.Allowed.{Allowed}
use Rattle.nf_words.specs.declared.answer.By.{By}
use Rattle.nf_words.specs.declared.answer.Denial.{Denial}
use Rattle.nf_words.specs.Reached.{unlinked_by}
use Rattle.nf_words.specs.declared.request.Caller.{Caller}
use Rattle.nf_words.specs.declared.request.Caller.TheVariants.{Link}
use Rattle.nf_words.specs.declared.answer.Denial.TheVariants as denial
use Rattle.nf_words.specs.declared.answer.Excess.{Excess}
use Rattle.nf_words.specs.declared.answer.Goal.{Goal}
use Rattle.nf_words.specs.declared.answer.Goal.TheVariants.{Chunk, Store}
use Rattle.nf_words.specs.declared.answer.Limit.{Limit}
use Rattle.nf_words.specs.declared.answer.LockKey.{LockKey}
use Rattle.nf_words.specs.declared.answer.LockKey.TheVariants.{Node, Slot}
use Rattle.nf_words.specs.declared.answer.TargetFault.{TargetFault}
use Rattle.nf_words.specs.declared.answer.UploadFault.{UploadFault}
use Rattle.nf_words.specs.declared.history.Entry.{Entry}
use Rattle.nf_words.specs.declared.history.Event.{Event}
use Rattle.nf_words.specs.declared.history.Event.TheVariants.{Begin, End, Sweep}
use Rattle.nf_words.specs.declared.history.Mark.{Mark}
use Rattle.nf_words.specs.declared.history.Mark.TheVariants as mark
use Rattle.nf_words.specs.declared.history.Outcome.{Outcome}
use Rattle.nf_words.specs.declared.history.Outcome.TheVariants.{Body}
use Rattle.nf_words.specs.declared.request.Making.{Making}
use Rattle.nf_words.specs.declared.request.Making.TheVariants as making
use Rattle.nf_words.specs.declared.request.Places.{Places}
use Rattle.nf_words.specs.declared.request.ShareAsk.{ShareAsk}
use Rattle.nf_words.specs.declared.request.ShareAsk.TheVariants as ask
use Rattle.nf_words.specs.declared.request.Wanted.{Wanted}
use Rattle.nf_words.specs.declared.request.Wanted.TheVariants as wanted
use Rattle.nf_words.specs.declared.answer.Breach.{Breach}
use Rattle.nf_words.specs.declared.request.UploadAsk.{UploadAsk}
use Rattle.nf_words.specs.declared.request.UploadAsk.TheVariants as upload
use Rattle.nf_words.specs.declared.route.Route.TheVariants.{Assembly, Files, Upload}
use Rattle.nf_base.specs.declared.rows.ItemRow.{ItemRow}
use Rattle.nf_words.specs.declared.request.TrashAsk.{TrashAsk}
use Rattle.nf_words.specs.declared.request.TrashAsk.TheVariants as trash

-- a denial that no rule gives: the step failed, or there was no room for it
abbrev pub is_failure : Denial → Bool
is_failure denial.Store = true
is_failure denial.RunFull = true
is_failure denial.Memory = true
is_failure other = false

-- nor by the rules of who asks, of names and of places, which are tried first: it is a failure, or by a later rule
abbrev pub is_later : Denial → Bool
is_later (denial.Locked key) = true
is_later (denial.Limit limit) = true
is_later (denial.Quota excess) = true
is_later refusal = is_failure refusal

later_failure : (refusal : Denial) → is_later refusal ≡ false → is_failure refusal ≡ false
later_failure (denial.Locked key) h = refl
later_failure (denial.Limit limit) h = refl
later_failure (denial.Quota excess) h = refl
later_failure refusal h = h

-- none, or a refusal by a rule
abbrev IsRefusal : Option Denial → Type 0
IsRefusal o = IfSome o (λ (refusal : Denial). is_failure refusal ≡ false)

-- none, or a refusal by a rule that is tried first
abbrev pub IsEarly : Option Denial → Type 0
IsEarly o = IfSome o (λ (refusal : Denial). is_later refusal ≡ false)

unless_test : (b : Bool) (refusal : Denial) → is_later refusal ≡ false → IsEarly (if b then None else Some refusal)
unless_test true refusal fine = tt
unless_test false refusal fine = fine

if_test : (b : Bool) (refusal : Denial) → is_later refusal ≡ false → IsEarly (if b then Some refusal else None)
if_test true refusal fine = fine
if_test false refusal fine = tt

either : (a b : Option Denial) → IsEarly a → IsEarly b → IsEarly (option_or a b)
either None b fine more = more
either (Some refusal) b fine more = fine

faults : (o : Option TargetFault) → IsEarly (option_map denial.BadTarget o)
faults None = tt
faults (Some fault) = refl

limits : (o : Option Limit) → IsRefusal (option_map denial.Limit o)
limits None = tt
limits (Some limit) = refl

quotas : (o : Option Excess) → IsRefusal (option_map denial.Quota o)
quotas None = tt
quotas (Some excess) = refl

unfit_fine : (limit : Option Limit) (excess : Option Excess) → IsRefusal (option_or (option_map denial.Limit limit) (option_map denial.Quota excess))
unfit_fine None excess = quotas excess
unfit_fine (Some limit) excess = refl

source_fine : (o : Option Found) → IsEarly (option_and_then source_lost o)
source_fine None = tt
source_fine (Some (At node)) = tt
source_fine (Some nowhere) = refl

target_fine : (o : Option Found) → IsEarly (option_and_then target_lost o)
target_fine (Some (Missing depth)) = refl
target_fine place = tt

taken_fine : (rows : List NodeRow) (places : Places) (makes : Making) → IsEarly (taken rows places makes)
taken_fine rows places (making.File length) = if_test _ (denial.Exists Files) refl
taken_fine rows places making.Folder = if_test _ (denial.Exists Files) refl
taken_fine rows places making.Assembled = if_test _ (denial.Exists Assembly) refl
taken_fine rows places makes = tt

-- each of some rules refuses so
abbrev AreEarly : List Rule → Type 0
AreEarly [] = Unit {0}
AreEarly (rule ∷ others) = ((access : Access) (call : Call) → IsEarly (rule access call)) × AreEarly others

-- a later refusal is by the rules behind those that are tried first, which pass
pub early_pass : (all behind : List Rule) (access : Access) (call : Call) (refusal : Denial) → AreEarly all → is_later refusal ≡ true
    → first_that_holds (all ++ behind) access call ≡ Some refusal → Pass all access call × (first_that_holds behind access call ≡ Some refusal)
early_pass [] behind access call refusal early later is = (tt, is)
early_pass (rule ∷ others) behind access call refusal early later is =
    here (rule access call) refl (early.0 access call) is (λ is. early_pass others behind access call refusal early.1 later is)
  where
    here : (o : Option Denial) → rule access call ≡ o → IsEarly o → option_or o (first_that_holds (others ++ behind) access call) ≡ Some refusal
        → (first_that_holds (others ++ behind) access call ≡ Some refusal → Pass others access call × (first_that_holds behind access call ≡ Some refusal))
        → Pass (rule ∷ others) access call × (first_that_holds behind access call ≡ Some refusal)
    here None e fine is rest = let h = rest is in ((e, h.0), h.1)
    here (Some other) e fine is rest =
        absurd (both_ways (is_later refusal) (subst (λ (d : Denial). is_later d ≡ false) (same_Some other refusal is) fine) later)

token_fine : (access : Access) (call : Call) → IsEarly (token_rule access call)
unfolding token_rule
token_fine access call = unless_test (is_some (caller_row call) || asks_by_link call) denial.Token refl

not_you_fine : (access : Access) (call : Call) → IsEarly (not_you_rule access call)
unfolding not_you_rule
not_you_fine access call = unless_test (list_all (is_caller call) (users_of (asked_by call)) && may_ask call) denial.NotYou refl

forbidden_fine : (access : Access) (call : Call) → IsEarly (forbidden_rule access call)
unfolding forbidden_rule
forbidden_fine access call = if_test (list_any has_forbidden (paths_of (asked_by call))) denial.ForbiddenName refl

told_fine : (o : Option (ℕ × Cause)) → is_later (told_broken o) ≡ false
told_fine None = refl
told_fine (Some broken) = refl

broken_fine : (g : Ground) (seeker : Seeker) (now : ℕ) (act : Option Act) (mount : ℕ) → is_later (broken_by g seeker now act mount) ≡ false
broken_fine g seeker now act mount = here (first_received g.members g.shares seeker mount)
  where
    here : (o : Option ShareRow)
        → is_later (option_map_or (λ share. told_broken (broken_in g now act None (chain_of g.shares share.id))) o denial.NoShare) ≡ false
    here None = refl
    here (Some share) = told_fine (broken_in g now act None (chain_of g.shares share.id))

unreached_fine : (access : Access) (g : Ground) (seeker : Seeker) (now : ℕ) (mount : Option ℕ)
    → IsEarly (option_and_then (unreached_by access g seeker now) mount)
unreached_fine access g seeker now None = tt
unreached_fine access g seeker now (Some mount) =
    unless_test (list_any (is_open now) (access seeker mount)) (broken_by g seeker now None mount) (broken_fine g seeker now None mount)

reach_fine : (access : Access) (call : Call) (way : Way) → IsEarly (unreached access call way)
reach_fine access call way = unreached_fine access (ground_of call.state.tables) (seeker_of call) call.now way.mount

-- an upload that has to be there is or not
open_fine : (call : Call) (wanted : Wanted) → IsEarly (unopened call wanted)
open_fine call (wanted.Upload asked) = here (dir_asked asked)
  where
    here : (o : Option (List ℕ)) → IsEarly (option_and_then (lacks_upload call) o)
    here None = tt
    here (Some dir) = unless_test _ denial.NotFound refl
open_fine call other = tt

place_fine : (access : Access) (call : Call) → IsEarly (place_rule access call)
unfolding place_rule
place_fine access call =
    either (unlinked call)
    (option_or (option_and_then of_source (asked_by call).source)
    (option_or (unopened call call.request.wanted) (option_and_then of_target (asked_by call).target)))
    (linked call.request.caller)
    (either (option_and_then of_source (asked_by call).source)
    (option_or (unopened call call.request.wanted) (option_and_then of_target (asked_by call).target)) (sources (asked_by call).source)
    (either (unopened call call.request.wanted) (option_and_then of_target (asked_by call).target) (open_fine call call.request.wanted)
    (targets (asked_by call).target)))
  where
    linked : (who : Caller) → IsEarly (unlinked_by call.state who)
    linked (Link token) = unless_test (is_some (link_row call.state.tables.shares token)) denial.NotFound refl
    linked other = tt

    of_source : Spot → Option Denial
    of_source spot = source_refused access call (way_of call spot)

    of_target : Spot → Option Denial
    of_target spot = target_refused access call (way_of call spot)

    tested : (b : Bool) (way : Way) → IsEarly (if b then None else unreached access call way)
    tested true way = tt
    tested false way = reach_fine access call way

    sources : (source : Option Spot) → IsEarly (option_and_then of_source source)
    sources None = tt
    sources (Some spot) =
        let way = way_of call spot in
        either (if (asked_by call).removes && way.itself then None else unreached access call way) (source_lost way.place)
        (tested ((asked_by call).removes && way.itself) way) (source_fine (Some way.place))

    targets : (target : Option Spot) → IsEarly (option_and_then of_target target)
    targets None = tt
    targets (Some spot) =
        let way = way_of call spot in
        either (unreached access call way) (target_lost way.place) (reach_fine access call way) (target_fine (Some way.place))

needs_fine : (access : Access) (g : Ground) (seeker : Seeker) (now : ℕ) (needs : List Need) → IsEarly (first_refused access g seeker now needs)
needs_fine access g seeker now needs = here (find (is_refused access g.nodes seeker now) needs)
  where
    by_mount : (act : Act) (mount : Option ℕ) → is_later (option_map_or (broken_by g seeker now (Some act)) mount denial.NoShare) ≡ false
    by_mount act None = refl
    by_mount act (Some mount) = broken_fine g seeker now (Some act) mount

    here : (o : Option Need) → IsEarly (option_map (need_broken g seeker now) o)
    here None = tt
    here (Some need) = by_mount need.act need.mount

-- what is named is there or not
named_fine : (access : Access) (call : Call) → IsEarly (named_rule access call)
unfolding named_rule
named_fine access call = here call.request.wanted
  where
    of_ask : (asked : ShareAsk) → IsEarly (unnamed call asked)
    of_ask (ask.New spot name perms until) = unless_test _ denial.NotFound refl
    of_ask (ask.List spot with_me) = tt
    of_ask (ask.Show share) = unless_test _ denial.NotFound refl
    of_ask (ask.Set share perms until) = unless_test _ denial.NotFound refl
    of_ask (ask.End share) = unless_test _ denial.NotFound refl

    of_item : (o : Option ItemRow) → IsEarly (lacks_item o)
    of_item None = refl
    of_item (Some item) = tt

    of_trash : (asked : TrashAsk) → IsEarly (untrashed call asked)
    of_trash (trash.List user) = tt
    of_trash (trash.Drop user item) = of_item (own_item call item)
    of_trash (trash.Empty user) = tt
    of_trash (trash.Restore user item) = of_item (own_item call item)

    here : (wanted : Wanted) → IsEarly (unnamed_by call wanted)
    here (wanted.Share asked) = of_ask asked
    here (wanted.People asked) = unless_test _ denial.NotFound refl
    here (wanted.Trash asked) = of_trash asked
    here (wanted.Version asked) = unless_test _ denial.NotFound refl
    here other = tt

acts_fine : (access : Access) (call : Call) → IsEarly (acts_rule access call)
unfolding acts_rule
acts_fine access call = needs_fine access (ground_of call.state.tables) (seeker_of call) call.now
    (needed call ++ needed_for access call call.request.wanted)

-- a folder has no versions, and a file has the one that is asked about or not
version_fine : (access : Access) (call : Call) → IsEarly (version_rule access call)
unfolding version_rule
version_fine access call = here call.request.wanted
  where
    lost : (b c : Bool) → IsEarly (if b then Some denial.Kind else if c then Some denial.NotFound else None)
    lost true c = refl
    lost false true = refl
    lost false false = tt

    here : (wanted : Wanted) → IsEarly (version_lost call wanted)
    here (wanted.Version asked) = lost _ _
    here other = tt

exists_fine : (access : Access) (call : Call) → IsEarly (exists_rule access call)
unfolding exists_rule
exists_fine access call =
    either (taken call.state.tables.nodes (places_of call) (asked_by call).makes) (opened_by call call.request.wanted)
    (taken_fine call.state.tables.nodes (places_of call) (asked_by call).makes) (here call.request.wanted)
  where
    of_upload : (asked : UploadAsk) → IsEarly (opened_by call (wanted.Upload asked))
    of_upload (upload.New user dir to) = if_test _ (denial.Exists Upload) refl
    of_upload other = tt

    here : (wanted : Wanted) → IsEarly (opened_by call wanted)
    here (wanted.Upload asked) = of_upload asked
    here other = tt

fit_fine : (access : Access) (call : Call) → IsEarly (target_rule access call)
unfolding target_rule
fit_fine access call = faults (unfit call.state.tables.nodes (root_of call) (asked_by call) (ways_of call))

overwrite_fine : (access : Access) (call : Call) → IsEarly (overwrite_rule access call)
unfolding overwrite_rule
overwrite_fine access call = if_test (is_transfer (asked_by call).makes && is_kept (asked_by call).overwrites (places_of call)) denial.Overwrite refl

sharing_fine : (access : Access) (call : Call) → IsEarly (sharing_rule access call)
unfolding sharing_rule
sharing_fine access call = here (fault_by access call call.request.wanted)
  where
    here : (o : Option Breach) → IsEarly (option_map denial.Rule o)
    here None = tt
    here (Some fault) = refl

upload_fine : (access : Access) (call : Call) → IsEarly (upload_rule access call)
unfolding upload_rule
upload_fine access call = here (fault_with call call.request.wanted)
  where
    here : (o : Option UploadFault) → IsEarly (option_map denial.Upload o)
    here None = tt
    here (Some fault) = refl

keys : (o : Option LockKey) → IsRefusal (option_map denial.Locked o)
keys None = tt
keys (Some key) = refl

locked_fine : (access : Access) (call : Call) → IsRefusal (locked_rule access call)
unfolding locked_rule
locked_fine access call =
    keys (key_in_way call.state.tables.nodes call.seat (touches call.state.tables (asked_by call) (places_of call)) call.state.tickets)

limit_fine : (access : Access) (call : Call) → IsRefusal (limit_rule access call)
unfolding limit_rule
limit_fine access call = limits (limited call.state.tables (places_of call) (asked_by call).makes)

room_fine : (access : Access) (call : Call) → IsRefusal (room_rule access call)
unfolding room_rule
room_fine access call = limits (limit_by call call.request.wanted)

quota_fine : (access : Access) (call : Call) → IsRefusal (quota_rule access call)
unfolding quota_rule
quota_fine access call =
    quotas (option_or (exceeded call.state.tables (places_of call) (asked_by call).makes) (assembled_excess call call.request.wanted))

pub early : AreEarly earlier_rules
early =
    (token_fine, (not_you_fine, (forbidden_fine, (place_fine, (named_fine, (acts_fine, (version_fine, (exists_fine, (fit_fine, (overwrite_fine, (sharing_fine, (upload_fine, tt))))))))))))

any_later : (a b c d : Option Denial) → IsRefusal a → IsRefusal b → IsRefusal c → IsRefusal d
    → IsRefusal (option_or a (option_or b (option_or c (option_or d None))))
any_later None None None None one two three four = tt
any_later None None None (Some refusal) one two three four = four
any_later None None (Some refusal) d one two three four = three
any_later None (Some refusal) c d one two three four = two
any_later (Some refusal) b c d one two three four = one

refusals : (access : Access) (call : Call) → IsRefusal (refusal_of access call)
refusals access call = here (refusal_of access call) refl
  where
    here : (o : Option Denial) → refusal_of access call ≡ o → IsRefusal o
    here None is = tt
    here (Some refusal) is =
        elim (cases_Bool (is_later refusal)) [
          | inl later ↦
              (subst IsRefusal (early_pass earlier_rules later_rules access call refusal early later is).1
              (any_later (locked_rule access call) (limit_rule access call) (room_rule access call) (quota_rule access call) (locked_fine access call)
              (limit_fine access call) (room_fine access call) (quota_fine access call)))
          | inr first ↦ later_failure refusal first
        ]

-- a decision isn't a failure
abbrev IsDecided : Result Allowed Denial → Type 0
IsDecided (Ok act) = Unit {0}
IsDecided (Err refusal) = is_failure refusal ≡ false

unless_fine : (o : Option Denial) (act : Allowed) → IsRefusal o → IsDecided (unless_refused o act)
unless_fine None act fine = tt
unless_fine (Some refusal) act fine = fine

early_refusal : (o : Option Denial) → IsEarly o → IsRefusal o
early_refusal None fine = tt
early_refusal (Some refusal) fine = later_failure refusal fine

either_first : (a b : Option Denial) → IsEarly a → IsRefusal b → IsRefusal (option_or a b)
either_first None b fine more = more
either_first (Some refusal) b fine more = early_refusal (Some refusal) fine

-- the rules of an End that are tried before what its body needs
pub end_early : (access : Access) (t : Tables) (now : ℕ) (by : By) (key : LockKey)
    → IsEarly (end_unreached access t now by (node_of_key key)) × IsEarly (end_unallowed access t now by key) × IsEarly (end_lost t key)
end_early access t now by key =
    (reached (is_owner t.nodes by.seeker (node_of_key key)), needs_fine access (ground_of t) by.seeker now (needed_by by key), lost_fine key)
  where
    of_mount : (mount : Option ℕ) → IsEarly (option_and_then (unreached_by access (ground_of t) by.seeker now) mount)
    of_mount mount = unreached_fine access (ground_of t) by.seeker now mount

    reached : (b : Bool) → IsEarly (if b then None else option_and_then (unreached_by access (ground_of t) by.seeker now) by.mount)
    reached true = tt
    reached false = of_mount by.mount

    lost_fine : (key : LockKey) → IsEarly (end_lost t key)
    lost_fine (Node node) = tt
    lost_fine (Slot folder name) = if_test (is_root t.nodes folder && is_some (mount_at t.mounts (owner_of t.nodes folder) name)) denial.NotFound refl

goal_fine : (access : Access) (t : Tables) (now : ℕ) (outcome : Outcome) (goal : Goal) → IsDecided (ends_goal access t now outcome goal)
goal_fine access t now (Body digest size) (Store by key wanted) =
    let fine = end_early access t now by key in
    unless_fine (end_refusal access t now by key size) (stored_at t now key digest size)
    (either_first (end_unreached access t now by (node_of_key key)) _ fine.0
    (either_first (end_unallowed access t now by key) _ fine.1
    (either_first (end_lost t key) _ fine.2 (unfit_fine (limit_at t (pieces_of size) (place_of key)) (excess_at t size (place_of key))))))
goal_fine access t now (Body digest size) (Chunk user dir number wanted) =
    unless_fine (chunk_refusal t user dir number size) (chunk_stored t now user dir number digest size) (here (is_some (upload_row t.uploads user dir)))
  where
    here : (b : Bool) → IsRefusal (if b then option_map denial.Limit (chunk_limit t user dir size number) else Some denial.NotFound)
    here true = limits (chunk_limit t user dir size number)
    here false = refl
goal_fine access t now outcome goal = tt

at_fine : (access : Access) (t : Tables) (now : ℕ) (outcome : Outcome) (goal : Option Goal) → IsDecided (ends_at access t now outcome goal)
at_fine access t now outcome None = tt
at_fine access t now outcome (Some goal) = goal_fine access t now outcome goal

decides : (s : State) (seat now : ℕ) (event : Event) → IsDecided (decision_of s seat now event)
decides s seat now (Begin words request) =
    let call = call_of s seat now words request in
    unless_fine (refusal_of (access_of s) call) (allowed_of (access_of s) call) (refusals (access_of s) call)
decides s seat now (End outcome) = at_fine (access_of s) s.tables now outcome (goal_at s seat)
decides s seat now Sweep = tt

no_failure : (decision : Result Allowed Denial) (refusal : Denial) → IsDecided decision → is_failure refusal ≡ true
    → answered_by decision ≡ Err refusal → ⊥
no_failure (Ok act) refusal fine fails is = cc
no_failure (Err other) refusal fine fails is = let e : other ≡ refusal = cc in both_ways (is_failure refusal) (subst (λ (d : Denial). is_failure d ≡ false) e fine) fails

pub never_failed : (s : State) (seat now : ℕ) (event : Event) (refusal : Denial) → is_failure refusal ≡ true → answer_to s seat now event ≡ Err refusal → ⊥
never_failed s seat now event refusal fails is = no_failure (decision_of s seat now event) refusal (decides s seat now event) fails is

never : (s : State) (e : Entry) (refusal : Denial) → is_failure refusal ≡ true → answer_to s e.seat e.moment e.event ≡ Err refusal → ⊥
never s e refusal fails is = never_failed s e.seat e.moment e.event refusal fails is

store_marked : (s : State) (e : Entry) (m : Mark) → (answer_at s e m ≡ Err denial.Store) ↔ (m ≡ mark.Store)
store_marked s e mark.Answered = (λ is. absurd (never s e denial.Store refl is), λ is. cc)
store_marked s e mark.Store = (λ is. refl, λ is. refl)
store_marked s e mark.Memory = (λ is. cc, λ is. cc)

pub marked_store : (s : State) (e : Entry) → (answer_at s e e.mark ≡ Err denial.Store) ↔ (e.mark ≡ mark.Store)
marked_store s e = store_marked s e e.mark

memory_marked : (s : State) (e : Entry) (m : Mark) → (answer_at s e m ≡ Err denial.Memory) ↔ (m ≡ mark.Memory)
memory_marked s e mark.Answered = (λ is. absurd (never s e denial.Memory refl is), λ is. cc)
memory_marked s e mark.Store = (λ is. cc, λ is. cc)
memory_marked s e mark.Memory = (λ is. refl, λ is. refl)

pub marked_memory : (s : State) (e : Entry) → (answer_at s e e.mark ≡ Err denial.Memory) ↔ (e.mark ≡ mark.Memory)
marked_memory s e = memory_marked s e e.mark
