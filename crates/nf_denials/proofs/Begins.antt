-- Requests that are refused by shares.
use Rattle.std.proofs.Common.{◌≡◌, ◌⊎◌, inl, inr, ℕ, ◌&&◌, ◌||◌, Bool, true, false, List, [], ◌∷◌, Option, None, Some, option_map, Err, if◌then◌else◌, refl, sym, ap, ◌∙◌, subst}
use Rattle.std.specs.Prelude.{IfSome, is_some, option_and_then}
use Rattle.std.specs.List.{list_all, list_any}
use Rattle.std.specs.Option.{option_or}
use Rattle.std.proofs.lemmas.Bool.{both_ways, false≢true}
use Rattle.std.proofs.lemmas.Option.{none-some, same_Some}
use Rattle.nf_access.specs.Shares.{ground_of, link_row}
use Rattle.nf_base.specs.declared.rows.ItemRow.{ItemRow}
use Rattle.nf_base.specs.declared.rows.NodeRow.{NodeRow}
use Rattle.nf_defs.specs.declared.Found.{Found}
use Rattle.nf_defs.specs.declared.Found.TheVariants.{At, Free, Missing}
use Rattle.nf_defs.specs.Prelude.{Access, is_folder}
use Rattle.nf_defs.specs.declared.Seeker.{Seeker}
use Rattle.nf_words.proofs.Orders.{first_of}
use Rattle.nf_words.specs.Places.{has_forbidden, is_open, opened_by, taken}
use Rattle.nf_words.specs.Reached.{unlinked_by}
use Rattle.nf_words.specs.Sharing.{unnamed_by}
use Rattle.nf_words.specs.Trash.{lacks_item, untrashed}
use Rattle.nf_words.specs.Prelude.{access_of, acts_rule, allowed_of, answered_by, are_named, asked_by, asks_by_link, Call, call_of, caller_row, dir_asked, exists_rule, forbidden_rule, is_caller, is_itself, IsSound, lacks_upload, lacks_version, limit_rule, locked_rule, may_ask, mount_of, named_rule, node_asked, not_you_rule, overwrite_rule, own_item, own_upload, paths_of, place_rule, places_of, quota_rule, receiver_named, refusal_of, room_rule, root_of, seeker_of, share_shown, share_steered, sharing_rule, source_lost, source_refused, State, target_lost, target_refused, target_rule, token_rule, unless_refused, unlinked, unopened, unreached, unreached_by, upload_rule, users_of, version_lost, version_rule, Way, way_by, way_of}
use Rattle.nf_words.specs.declared.answer.Allowed.{Allowed}
use Rattle.nf_words.specs.declared.answer.Denial.{Denial}
use Rattle.nf_words.specs.declared.answer.Denial.TheVariants as denial
use Rattle.nf_words.specs.declared.request.Caller.{Caller}
use Rattle.nf_words.specs.declared.request.Caller.TheVariants as caller
use Rattle.nf_words.specs.declared.request.Making.{Making}
use Rattle.nf_words.specs.declared.request.Making.TheVariants as making
use Rattle.nf_words.specs.declared.request.Places.{Places}
use Rattle.nf_words.specs.declared.request.ShareAsk.TheVariants as ask
use Rattle.nf_words.specs.declared.request.Spot.{Spot}
use Rattle.nf_words.specs.declared.request.TrashAsk.{TrashAsk}
use Rattle.nf_words.specs.declared.request.TrashAsk.TheVariants as trash
use Rattle.nf_words.specs.declared.request.UploadAsk.TheVariants as upload
use Rattle.nf_words.specs.declared.request.Wanted.{Wanted}
use Rattle.nf_words.specs.declared.request.Wanted.TheVariants.{People, Share, Trash, Upload, Version}
use Rattle.nf_denials.proofs.Told.{acts_told, unreached_told}
use Rattle.nf_denials.specs.Laws.{BeginsTellTheirBreak, GoesBy, IsKeptOut, IsStoppedAt, IsUnmet, UnreachedIsRefused, all_needed, at_source, at_target, is_of_shares}

-- ---- rules of other things

module _ (of : Denial → Bool) where
  -- none, or a refusal that isn't one of some
  abbrev pub IsOther : Option Denial → Type 0
  IsOther o = IfSome o (λ (refusal : Denial). of refusal ≡ false)

  -- such a rule isn't the one that refuses so: it passes
  pub passed : (rule rest : Option Denial) (refusal : Denial) → IsOther rule → of refusal ≡ true → option_or rule rest ≡ Some refusal
      → (rule ≡ None) × (rest ≡ Some refusal)
  passed None rest refusal other told is = (refl, is)
  passed (Some first) rest refusal other told is =
      absurd (both_ways (of refusal) (subst (λ (d : Denial). of d ≡ false) (same_Some first refusal is) other) told)

  pub skip : (rule rest : Option Denial) (refusal : Denial) → IsOther rule → of refusal ≡ true → option_or rule rest ≡ Some refusal
      → rest ≡ Some refusal
  skip rule rest refusal other told is = (passed rule rest refusal other told is).1

  pub unless_test : (b : Bool) (refusal : Denial) → of refusal ≡ false → IsOther (if b then None else Some refusal)
  unless_test true refusal fine = tt
  unless_test false refusal fine = fine

  pub if_test : (b : Bool) (refusal : Denial) → of refusal ≡ false → IsOther (if b then Some refusal else None)
  if_test true refusal fine = fine
  if_test false refusal fine = tt

  pub or_other : (a b : Option Denial) → IsOther a → IsOther b → IsOther (option_or a b)
  or_other None b fine more = more
  or_other (Some first) b fine more = fine

  pub told_by : {X : Type 0} (tell : X → Denial) (o : Option X) → ((x : X) → of (tell x) ≡ false) → IsOther (option_map tell o)
  told_by tell None fine = tt
  told_by tell (Some x) fine = fine x

-- what shares refuse, or is told of what isn't there or has no versions
abbrev pub is_early : Denial → Bool
is_early denial.NoShare = true
is_early (denial.BrokenLink link cause) = true
is_early denial.NotFound = true
is_early denial.Kind = true
is_early other = false

early_shares : (refusal : Denial) → is_of_shares refusal ≡ true → is_early refusal ≡ true
early_shares denial.NoShare is = refl
early_shares (denial.BrokenLink link cause) is = refl
early_shares other is = absurd (false≢true is)

taken_other : (rows : List NodeRow) (places : Places) (makes : Making) → IsOther is_early (taken rows places makes)
taken_other rows places making.Nothing = tt
taken_other rows places (making.File length) = if_test is_early _ (denial.Exists _) refl
taken_other rows places making.Folder = if_test is_early _ (denial.Exists _) refl
taken_other rows places making.Moved = tt
taken_other rows places making.Copied = tt
taken_other rows places making.Shared = tt
taken_other rows places making.Told = tt
taken_other rows places (making.Restored item) = tt
taken_other rows places (making.Sent node) = tt
taken_other rows places (making.Refilled node at) = tt
taken_other rows places making.Assembled = if_test is_early _ (denial.Exists _) refl

-- an upload that is there already
opened_other : (call : Call) (wanted : Wanted) → IsOther is_early (opened_by call wanted)
opened_other call (Upload (upload.New user dir to)) = if_test is_early (is_open call dir) (denial.Exists _) refl
opened_other call other = tt

-- an item of the trash that isn't there
lacks_other : (item : Option ItemRow) → IsOther is_of_shares (lacks_item item)
lacks_other None = refl
lacks_other (Some item) = tt

trash_other : (call : Call) (asked : TrashAsk) → IsOther is_of_shares (untrashed call asked)
trash_other call (trash.List user) = tt
trash_other call (trash.Drop user item) = lacks_other (own_item call item)
trash_other call (trash.Empty user) = tt
trash_other call (trash.Restore user item) = lacks_other (own_item call item)

-- a user, a group, a share, an item of the trash or a file that isn't there
named_other : (call : Call) (wanted : Wanted) → IsOther is_of_shares (unnamed_by call wanted)
named_other call (Share (ask.New spot to perms until)) = unless_test is_of_shares (is_some (receiver_named call.state.tables to)) denial.NotFound refl
named_other call (Share (ask.List spot with_me)) = tt
named_other call (Share (ask.Show share)) = unless_test is_of_shares (is_some (share_shown call share)) denial.NotFound refl
named_other call (Share (ask.Set share perms until)) = unless_test is_of_shares (is_some (share_steered call share)) denial.NotFound refl
named_other call (Share (ask.End share)) = unless_test is_of_shares (is_some (share_steered call share)) denial.NotFound refl
named_other call (People asked) = unless_test is_of_shares (are_named call.state.tables asked) denial.NotFound refl
named_other call (Trash asked) = trash_other call asked
named_other call (Version asked) = unless_test is_of_shares _ denial.NotFound refl
named_other call other = tt

-- a folder, or a version that isn't there
version_other : (call : Call) (wanted : Wanted) → IsOther is_of_shares (version_lost call wanted)
version_other call (Version asked) =
    here (is_folder call.state.tables.nodes (node_asked asked)) (lacks_version call.state.tables.versions asked)
  where
    here : (folder lacks : Bool)
        → IsOther is_of_shares (if folder then Some denial.Kind else if lacks then Some denial.NotFound else None)
    here true lacks = refl
    here false lacks = if_test is_of_shares lacks denial.NotFound refl
version_other call other = tt

-- the rules behind those of places, of acts and of versions don't refuse so
abbrev pub behind : Access → Call → Option Denial
behind access call =
    option_or (exists_rule access call)
    (option_or (target_rule access call)
    (option_or (overwrite_rule access call)
    (option_or (sharing_rule access call)
    (option_or (upload_rule access call)
    (option_or (locked_rule access call) (option_or (limit_rule access call) (option_or (room_rule access call) (option_or (quota_rule access call) None))))))))

pub none_behind : (access : Access) (call : Call) (refusal : Denial) → is_early refusal ≡ true → behind access call ≡ Some refusal → ⊥
unfolding exists_rule target_rule overwrite_rule sharing_rule upload_rule locked_rule limit_rule room_rule quota_rule
none_behind access call refusal early is =
    none-some refusal
    (skip is_early (quota_rule access call) None refusal (told_by is_early denial.Quota _ (λ excess. refl)) early
    (skip is_early (room_rule access call) _ refusal (told_by is_early denial.Limit _ (λ limit. refl)) early
    (skip is_early (limit_rule access call) _ refusal (told_by is_early denial.Limit _ (λ limit. refl)) early
    (skip is_early (locked_rule access call) _ refusal (told_by is_early denial.Locked _ (λ key. refl)) early
    (skip is_early (upload_rule access call) _ refusal (told_by is_early denial.Upload _ (λ fault. refl)) early
    (skip is_early (sharing_rule access call) _ refusal (told_by is_early denial.Rule _ (λ fault. refl)) early
    (skip is_early (overwrite_rule access call) _ refusal (if_test is_early _ denial.Overwrite refl) early
    (skip is_early (target_rule access call) _ refusal (told_by is_early denial.BadTarget _ (λ fault. refl)) early
    (skip is_early (exists_rule access call) _ refusal
    (or_other is_early (taken call.state.tables.nodes (places_of call) (asked_by call).makes) (opened_by call call.request.wanted)
    (taken_other call.state.tables.nodes (places_of call) (asked_by call).makes) (opened_other call call.request.wanted)) early is)))))))))

-- nor do those of who asks and of names
by_rules : (access : Access) (call : Call) (refusal : Denial) → is_of_shares refusal ≡ true → refusal_of access call ≡ Some refusal
    → (place_rule access call ≡ Some refusal) ⊎ (acts_rule access call ≡ Some refusal)
unfolding token_rule not_you_rule forbidden_rule named_rule version_rule
by_rules access call refusal shares is =
    here (place_rule access call) (acts_rule access call) refl refl
    (skip is_of_shares (forbidden_rule access call) _ refusal (if_test is_of_shares (list_any has_forbidden (paths_of (asked_by call))) denial.ForbiddenName refl) shares
    (skip is_of_shares (not_you_rule access call) _ refusal (unless_test is_of_shares (list_all (is_caller call) (users_of (asked_by call)) && may_ask call) denial.NotYou refl) shares
    (skip is_of_shares (token_rule access call) _ refusal (unless_test is_of_shares (is_some (caller_row call) || asks_by_link call) denial.Token refl) shares is)))
  where
    here : (place acts : Option Denial) → place_rule access call ≡ place → acts_rule access call ≡ acts
        → option_or place (option_or (named_rule access call) (option_or acts (option_or (version_rule access call) (behind access call)))) ≡ Some refusal
        → (place_rule access call ≡ Some refusal) ⊎ (acts_rule access call ≡ Some refusal)
    here (Some first) acts e f is = inl (e ∙ is)
    here None acts e f is =
        by_acts acts f (skip is_of_shares (named_rule access call) _ refusal (named_other call call.request.wanted) shares is)
      where
        by_acts : (acts : Option Denial) → acts_rule access call ≡ acts
            → option_or acts (option_or (version_rule access call) (behind access call)) ≡ Some refusal
            → (place_rule access call ≡ Some refusal) ⊎ (acts_rule access call ≡ Some refusal)
        by_acts (Some first) f is = inr (f ∙ is)
        by_acts None f is =
            absurd (none_behind access call refusal (early_shares refusal shares)
            (skip is_of_shares (version_rule access call) _ refusal (version_other call call.request.wanted) shares is))

-- what is refused early isn't refused for the token
pub by_token : (access : Access) (call : Call) (refusal : Denial) → is_early refusal ≡ true → refusal_of access call ≡ Some refusal
    → token_rule access call ≡ None
unfolding token_rule
by_token access call refusal early is =
    (passed is_early (token_rule access call) _ refusal (unless_test is_early (is_some (caller_row call) || asks_by_link call) denial.Token refl) early is).0

-- ---- places

pub mount_is : (rows : List NodeRow) (who : Seeker) (root : ℕ) (names : List (List ℕ)) (mount : Option ℕ)
    → (way_by rows who root names mount).mount ≡ mount
mount_is rows who root names None = refl
mount_is rows who root names (Some node) = refl

pub itself_is : (rows : List NodeRow) (who : Seeker) (root : ℕ) (names : List (List ℕ)) (mount : Option ℕ) (node : ℕ) → mount ≡ Some node
    → (way_by rows who root names mount).itself ≡ is_itself who names
itself_is rows who root names None node is = absurd (cc)
itself_is rows who root names (Some other) node is = refl

-- that there is no such link isn't of shares
unlinked_other : (call : Call) → IsOther is_of_shares (unlinked call)
unlinked_other call = here call.request.caller
  where
    here : (who : Caller) → IsOther is_of_shares (unlinked_by call.state who)
    here caller.Absent = tt
    here (caller.Token digest) = tt
    here (caller.Link token) = unless_test is_of_shares (is_some (link_row call.state.tables.shares token)) denial.NotFound refl

-- nor that there is no such upload
unopened_other : (call : Call) (wanted : Wanted) → IsOther is_of_shares (unopened call wanted)
unopened_other call (Upload asked) = here (dir_asked asked)
  where
    here : (dir : Option (List ℕ)) → IsOther is_of_shares (option_and_then (lacks_upload call) dir)
    here None = tt
    here (Some dir) = unless_test is_of_shares (is_some (own_upload call dir)) denial.NotFound refl
unopened_other call other = tt

source_other : (place : Found) → IsOther is_of_shares (source_lost place)
source_other (At node) = tt
source_other (Free folder) = refl
source_other (Missing depth) = refl

target_other : (place : Found) → IsOther is_of_shares (target_lost place)
target_other (At node) = tt
target_other (Free folder) = tt
target_other (Missing depth) = refl

pub either : (a b : Option Denial) (refusal : Denial) → option_or a b ≡ Some refusal → (a ≡ Some refusal) ⊎ (b ≡ Some refusal)
either None b refusal is = inr is
either (Some first) b refusal is = inl is

pub first_one : (a b : Option Denial) (refusal : Denial) → IsOther is_of_shares b → is_of_shares refusal ≡ true → option_or a b ≡ Some refusal → a ≡ Some refusal
first_one None b refusal other shares is = skip is_of_shares b None refusal other shares (ap (λ (o : Option Denial). option_or o None) is ∙ refl)
first_one (Some first) b refusal other shares is = is

module _ (s : State) (seat now : ℕ) (call : Call) (refusal : Denial) (sound : IsSound call.state) (shares : is_of_shares refusal ≡ true) where
  by_way : (spot : Spot) → unreached (access_of call.state) call (way_of call spot) ≡ Some refusal
      → ((mount : ℕ) → mount_of call spot ≡ Some mount → GoesBy call mount) → IsKeptOut call refusal
  by_way spot is goes =
      here (mount_of call spot) refl
      (sym (ap (option_and_then (unreached_by (access_of call.state) (ground_of call.state.tables) (seeker_of call) call.now))
      (mount_is call.state.tables.nodes (seeker_of call) (root_of call) spot.path (mount_of call spot))) ∙ is)
    where
      here : (mount : Option ℕ) → mount_of call spot ≡ mount
          → option_and_then (unreached_by (access_of call.state) (ground_of call.state.tables) (seeker_of call) call.now) mount ≡ Some refusal
          → IsKeptOut call refusal
      here None e is = absurd (cc)
      here (Some mount) e is =
          record { mount = mount; goes = goes mount e; shut = unreached_told call.state (seeker_of call) call.now mount refusal sound is }

  kept_out : place_rule (access_of call.state) call ≡ Some refusal → IsKeptOut call refusal
  unfolding place_rule
  kept_out is = elim (either _ _ refusal (skip is_of_shares (unlinked call) _ refusal (unlinked_other call) shares is)) [
    | inl source ↦ at (asked_by call).source refl source
    | inr rest ↦
        to (asked_by call).target refl
        (skip is_of_shares (unopened call call.request.wanted) _ refusal (unopened_other call call.request.wanted) shares rest)
  ]
    where
      tested : (spot : Spot) (b : Bool) → (if b then None else unreached (access_of call.state) call (way_of call spot)) ≡ Some refusal
          → unreached (access_of call.state) call (way_of call spot) ≡ Some refusal
      tested spot true is = absurd (cc)
      tested spot false is = is

      at : (source : Option Spot) → (asked_by call).source ≡ source
          → option_and_then (λ spot. source_refused (access_of call.state) call (way_of call spot)) source ≡ Some refusal → IsKeptOut call refusal
      at None e is = absurd (cc)
      at (Some spot) e is =
          by_way spot
          (tested spot ((asked_by call).removes && (way_of call spot).itself)
          (first_one _ (source_lost (way_of call spot).place) refusal (source_other (way_of call spot).place) shares is))
          (λ mount by. inl (ap (option_and_then (mount_of call)) e ∙ by))

      to : (target : Option Spot) → (asked_by call).target ≡ target
          → option_and_then (λ spot. target_refused (access_of call.state) call (way_of call spot)) target ≡ Some refusal → IsKeptOut call refusal
      to None e is = absurd (cc)
      to (Some spot) e is =
          by_way spot (first_one _ (target_lost (way_of call spot).place) refusal (target_other (way_of call spot).place) shares is)
          (λ mount by. inr (ap (option_and_then (mount_of call)) e ∙ by))

  unmet : acts_rule (access_of call.state) call ≡ Some refusal → IsUnmet call.state call.now (seeker_of call) (all_needed call) refusal
  unfolding acts_rule
  unmet is = acts_told call.state (seeker_of call) call.now (all_needed call) refusal sound is

-- ---- requests

pub refused_so : (o : Option Denial) (act : Allowed) (refusal : Denial) → answered_by (unless_refused o act) ≡ Err refusal → o ≡ Some refusal
refused_so None act refusal is = absurd (cc)
refused_so (Some first) act refusal is = cc

pub begins_tell : BeginsTellTheirBreak
begins_tell s seat now words request refusal sound is shares =
    let call = call_of s seat now words request in
    let access = access_of s in
    elim (by_rules access call refusal shares (refused_so (refusal_of access call) (allowed_of access call) refusal is)) [
      | inl place ↦ inl (kept_out s seat now call refusal sound shares place)
      | inr acts ↦ inr (unmet s seat now call refusal sound shares acts)
    ]

-- ---- the mount first

-- what its way is refused for, by the mount alone
way_stopped : (call : Call) (spot : Spot) (mount : ℕ) (refusal : Denial) → mount_of call spot ≡ Some mount
    → unreached_by (access_of call.state) (ground_of call.state.tables) (seeker_of call) call.now mount ≡ Some refusal
    → unreached (access_of call.state) call (way_of call spot) ≡ Some refusal
way_stopped call spot mount refusal by is =
    ap (option_and_then (unreached_by (access_of call.state) (ground_of call.state.tables) (seeker_of call) call.now))
    (mount_is call.state.tables.nodes (seeker_of call) (root_of call) spot.path (mount_of call spot) ∙ by) ∙ is

stopped : (call : Call) (mount : ℕ) (refusal : Denial) → unlinked call ≡ None → IsStoppedAt call mount
    → unreached_by (access_of call.state) (ground_of call.state.tables) (seeker_of call) call.now mount ≡ Some refusal
    → place_rule (access_of call.state) call ≡ Some refusal
unfolding place_rule
stopped call mount refusal linked (at_source spot asked by stays) is =
    let access = access_of call.state in
    let way : Way = way_of call spot in
    let itself : ((asked_by call).removes && way.itself) ≡ false =
    ap (λ (b : Bool). (asked_by call).removes && b) (itself_is call.state.tables.nodes (seeker_of call) (root_of call) spot.path (mount_of call spot) mount by) ∙ stays in
    let source : source_refused access call way ≡ Some refusal =
    ap (λ (b : Bool). option_or (if b then None else unreached access call way) (source_lost way.place)) itself
    ∙ ap (λ (o : Option Denial). option_or o (source_lost way.place)) (way_stopped call spot mount refusal by is) in
    let behind = option_or (unopened call call.request.wanted)
    (option_and_then (λ spot. target_refused access call (way_of call spot)) (asked_by call).target) in
    ap (λ (o : Option Denial). option_or o
    (option_or (option_and_then (λ spot. source_refused access call (way_of call spot)) (asked_by call).source) behind)) linked
    ∙ ap (λ (o : Option Denial). option_or o behind) (ap (option_and_then (λ spot. source_refused access call (way_of call spot))) asked ∙ source)
stopped call mount refusal linked (at_target spot asked by passes opened) is =
    let access = access_of call.state in
    let way : Way = way_of call spot in
    let target = option_and_then (λ spot. target_refused access call (way_of call spot)) (asked_by call).target in
    ap (λ (o : Option Denial). option_or o
    (option_or (option_and_then (λ spot. source_refused access call (way_of call spot)) (asked_by call).source)
    (option_or (unopened call call.request.wanted) target))) linked
    ∙ ap (λ (o : Option Denial). option_or o (option_or (unopened call call.request.wanted) target)) passes
    ∙ ap (λ (o : Option Denial). option_or o target) opened
    ∙ ap (option_and_then (λ spot. target_refused access call (way_of call spot))) asked
    ∙ ap (λ (o : Option Denial). option_or o (target_lost way.place)) (way_stopped call spot mount refusal by is)

pub unreached_refused : UnreachedIsRefused
unreached_refused s seat now words request mount refusal well stop is =
    let call = call_of s seat now words request in
    let access = access_of s in
    ap (λ (o : Option Denial). answered_by (unless_refused o (allowed_of access call)))
    (first_of (token_rule ∷ not_you_rule ∷ forbidden_rule ∷ []) place_rule
    (named_rule ∷ acts_rule ∷ version_rule ∷ exists_rule ∷ target_rule ∷ overwrite_rule ∷ sharing_rule ∷ upload_rule ∷ locked_rule ∷ limit_rule ∷ room_rule ∷ quota_rule ∷ []) access call refusal
    (well.token, (well.not_you, (well.forbidden, tt))) (stopped call mount refusal well.linked stop is))
