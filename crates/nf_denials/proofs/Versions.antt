-- What is told where something is asked about versions.
use Rattle.std.proofs.Common.{◌≡◌, ◌⊎◌, inl, inr, ℕ, ◌&&◌, ◌||◌, ◌++◌, Bool, true, false, List, [], ◌∷◌, Option, None, Some, option_map, Err, if◌then◌else◌, refl, sym, ap, ◌∙◌, subst}
use Rattle.std.specs.Prelude.{is_some, option_and_then}
use Rattle.std.specs.List.{All, list_all, list_any}
use Rattle.std.specs.Option.{option_map_or, option_or}
use Rattle.std.proofs.lemmas.Bool.{false≢true}
use Rattle.nf_access.specs.Broken.{broken_in, first_received}
use Rattle.nf_access.specs.Shares.{chain_of, Ground, ground_of}
use Rattle.nf_access.specs.declared.Cause.{Cause}
use Rattle.nf_base.specs.declared.perms.Act.{Act}
use Rattle.nf_base.specs.declared.rows.ShareRow.{ShareRow}
use Rattle.nf_defs.specs.Prelude.{Access, is_folder}
use Rattle.nf_defs.specs.declared.Seeker.{Seeker}
use Rattle.nf_laws.specs.Reads.{IsWellAsked}
use Rattle.nf_words.proofs.Orders.{first_of}
use Rattle.nf_words.proofs.Passing.{MayDo, version_acts_pass}
use Rattle.nf_words.proofs.Starts.{only_files}
use Rattle.nf_words.specs.Asked.{asked_of}
use Rattle.nf_words.specs.Needed.{version_needs}
use Rattle.nf_words.specs.Places.{has_forbidden}
use Rattle.nf_words.specs.Reached.{unlinked_by}
use Rattle.nf_words.specs.Prelude.{access_of, acts_rule, allowed_of, answered_by, asked_by, asks_by_link, broken_by, Call, call_of, caller_row, exists_rule, first_refused, forbidden_rule, is_about_files, is_by_link, is_caller, lacks_version, limit_rule, locked_rule, may_ask, named_rule, Need, need_broken, needed, needed_for, needs_between, node_asked, not_you_rule, overwrite_rule, paths_of, place_rule, quota_rule, refusal_of, room_rule, root_of, seeker_of, sharing_rule, source_refused, target_refused, target_rule, token_rule, told_broken, unless_refused, unlinked, unnamed_by, unopened, upload_rule, users_of, version_lost, version_rule, way_of}
use Rattle.nf_words.specs.declared.answer.Denial.{Denial}
use Rattle.nf_words.specs.declared.answer.Denial.TheVariants as denial
use Rattle.nf_words.specs.declared.request.Caller.{Caller}
use Rattle.nf_words.specs.declared.request.Caller.TheVariants as caller
use Rattle.nf_words.specs.declared.request.Spot.{Spot}
use Rattle.nf_words.specs.declared.request.VersionAsk.{VersionAsk}
use Rattle.nf_words.specs.declared.request.VersionAsk.TheVariants as version
use Rattle.nf_words.specs.declared.request.Wanted.{Wanted}
use Rattle.nf_words.specs.declared.request.Wanted.TheVariants.{Version}
use Rattle.nf_denials.proofs.Begins.{behind, either, IsOther, if_test, is_early, none_behind, passed, refused_so, skip, told_by, unless_test}
use Rattle.nf_denials.specs.Laws.{IsLetAsk, VersionsTellTheirCause, is_seen}

-- ---- what is asked about versions names no path

no_source : (ask : VersionAsk) → (asked_of (Version ask)).source ≡ None
no_source (version.List user node) = refl
no_source (version.Get user node at) = refl
no_source (version.Restore user node at) = refl

no_target : (ask : VersionAsk) → (asked_of (Version ask)).target ≡ None
no_target (version.List user node) = refl
no_target (version.Get user node at) = refl
no_target (version.Restore user node at) = refl

-- whoever asks by a link is refused for the token
unlinked_none : (call : Call) → is_by_link call.request.caller ≡ false → unlinked call ≡ None
unlinked_none call other = here call.request.caller other
  where
    here : (who : Caller) → is_by_link who ≡ false → unlinked_by call.state who ≡ None
    here caller.Absent other = refl
    here (caller.Token digest) other = refl
    here (caller.Link token) other = absurd (false≢true (sym other))

-- ---- what shares refuse is neither `kind` nor `not-found`

abbrev is_lost : Denial → Bool
is_lost denial.Kind = true
is_lost denial.NotFound = true
is_lost other = false

early_lost : (refusal : Denial) → is_lost refusal ≡ true → is_early refusal ≡ true
early_lost denial.Kind is = refl
early_lost denial.NotFound is = refl
early_lost other is = absurd (false≢true is)

broken_other : (broken : Option (ℕ × Cause)) → is_lost (told_broken broken) ≡ false
broken_other None = refl
broken_other (Some broken) = refl

shared_other : (g : Ground) (now : ℕ) (act : Option Act) (share : Option ShareRow)
    → is_lost (option_map_or (λ share. told_broken (broken_in g now act None (chain_of g.shares share.id))) share denial.NoShare) ≡ false
shared_other g now act None = refl
shared_other g now act (Some share) = broken_other (broken_in g now act None (chain_of g.shares share.id))

mounted_other : (g : Ground) (who : Seeker) (now : ℕ) (act : Act) (mount : Option ℕ)
    → is_lost (option_map_or (broken_by g who now (Some act)) mount denial.NoShare) ≡ false
mounted_other g who now act None = refl
mounted_other g who now act (Some mount) = shared_other g now (Some act) (first_received g.members g.shares who mount)

acts_other : (access : Access) (call : Call) → IsOther is_lost (acts_rule access call)
unfolding acts_rule
acts_other access call =
    told_by is_lost (need_broken (ground_of call.state.tables) (seeker_of call) call.now) _
    (λ need. mounted_other (ground_of call.state.tables) (seeker_of call) call.now need.act need.mount)

-- ---- a request

-- what is told by whether it is seen, and by what the file has
abbrev told_seen : Bool → Option Denial
told_seen seen = if seen then None else Some denial.NotFound

abbrev told_had : Bool → Bool → Option Denial
told_had folder lacks = if folder then Some denial.Kind else if lacks then Some denial.NotFound else None

seen_none : (seen : Bool) → told_seen seen ≡ None → seen ≡ true
seen_none true is = refl
seen_none false is = absurd (cc)

seen_lost : (seen : Bool) → told_seen seen ≡ Some denial.NotFound → seen ≡ false
seen_lost true is = absurd (cc)
seen_lost false is = refl

seen_kind : (seen : Bool) → told_seen seen ≡ Some denial.Kind → ⊥
seen_kind true is = cc
seen_kind false is = cc

had_kind : (folder lacks : Bool) → told_had folder lacks ≡ Some denial.Kind → folder ≡ true
had_kind true lacks is = refl
had_kind false true is = absurd (cc)
had_kind false false is = absurd (cc)

had_lost : (folder lacks : Bool) → told_had folder lacks ≡ Some denial.NotFound → (folder ≡ false) × (lacks ≡ true)
had_lost true lacks is = absurd (cc)
had_lost false true is = (refl, refl)
had_lost false false is = absurd (cc)

module _ (call : Call) (ask : VersionAsk) (is : call.request.wanted ≡ Version ask) where
  abbrev access : Access
  access = access_of call.state

  abbrev needs_where : Wanted → List Need
  needs_where wanted =
      needs_between call.state.tables.nodes (root_of call) (asked_of wanted) (option_map (way_of call) (asked_of wanted).source)
      (option_map (way_of call) (asked_of wanted).target)

  none_at_paths : (asked : VersionAsk) → needs_where (Version asked) ≡ []
  none_at_paths (version.List user node) = refl
  none_at_paths (version.Get user node at) = refl
  none_at_paths (version.Restore user node at) = refl

  -- so what it needs is needed for the versions
  needed_is : needed call ++ needed_for access call call.request.wanted ≡ version_needs access call ask
  needed_is =
      ap (λ (w : Wanted). needs_where w ++ needed_for access call w) is
      ∙ ap (λ (needs : List Need). needs ++ version_needs access call ask) (none_at_paths ask)

  place_is : place_rule access call ≡ unlinked call
  unfolding place_rule
  place_is =
      ap (λ (source : Option Spot). option_or (unlinked call)
      (option_or (option_and_then (λ spot. source_refused access call (way_of call spot)) source)
      (option_or (unopened call call.request.wanted)
      (option_and_then (λ spot. target_refused access call (way_of call spot)) (asked_by call).target))))
      (ap (λ (w : Wanted). (asked_of w).source) is ∙ no_source ask)
      ∙ ap (λ (w : Wanted). option_or (unlinked call)
      (option_or (unopened call w) (option_and_then (λ spot. target_refused access call (way_of call spot)) (asked_by call).target))) is
      ∙ ap (λ (target : Option Spot). option_or (unlinked call) (option_and_then (λ spot. target_refused access call (way_of call spot)) target))
      (ap (λ (w : Wanted). (asked_of w).target) is ∙ no_target ask)
      ∙ or_none (unlinked call)
    where
      or_none : (o : Option Denial) → option_or o None ≡ o
      or_none None = refl
      or_none (Some refusal) = refl

  place_passes : token_rule access call ≡ None → place_rule access call ≡ None
  place_passes token = place_is ∙ unlinked_none call (here (is_by_link call.request.caller) refl)
    where
      here : (b : Bool) → is_by_link call.request.caller ≡ b → is_by_link call.request.caller ≡ false
      here false e = e
      here true e = absurd (false≢true (sym (ap is_about_files is) ∙ only_files call token e))

  named_is : named_rule access call ≡ told_seen (is_seen call (node_asked ask))
  unfolding named_rule
  named_is = ap (unnamed_by call) is

  version_is : version_rule access call
      ≡ told_had (is_folder call.state.tables.nodes (node_asked ask)) (lacks_version call.state.tables.versions ask)
  unfolding version_rule
  version_is = ap (version_lost call) is

  acts_is : acts_rule access call ≡ first_refused access (ground_of call.state.tables) (seeker_of call) call.now (version_needs access call ask)
  unfolding acts_rule
  acts_is = ap (first_refused access (ground_of call.state.tables) (seeker_of call) call.now) needed_is

  let_ask : named_rule access call ≡ None → acts_rule access call ≡ None → IsLetAsk call ask
  let_ask named acts = record {
    seen = seen_none (is_seen call (node_asked ask)) (sym named_is ∙ named);
    may = subst (λ (w : Wanted). All (MayDo access call) (needed_for access call w)) is (version_acts_pass access call acts);
  }

  -- `kind` and `not-found` are told of what isn't seen, or to who may do what is asked of what the file has
  abbrev HasCause : Denial → Type 0
  HasCause refusal =
      (named_rule access call ≡ Some refusal) ⊎ (IsLetAsk call ask × (version_rule access call ≡ Some refusal))

  abbrev from_acts : Option Denial
  from_acts = option_or (acts_rule access call) (option_or (version_rule access call) (behind access call))

  from_names : (refusal : Denial) → is_lost refusal ≡ true → (named : Option Denial) → named_rule access call ≡ named
      → option_or named from_acts ≡ Some refusal → HasCause refusal
  from_names refusal lost (Some first) named told = inl (named ∙ told)
  from_names refusal lost None named told =
      let acts = passed is_lost (acts_rule access call) _ refusal (acts_other access call) lost told in
      elim (either (version_rule access call) (behind access call) refusal acts.1) [
        | inl had ↦ inr (let_ask named acts.0, had)
        | inr rest ↦ absurd (none_behind access call refusal (early_lost refusal lost) rest)
      ]

  has_cause : (refusal : Denial) → is_lost refusal ≡ true → refusal_of access call ≡ Some refusal → HasCause refusal
  unfolding token_rule not_you_rule forbidden_rule
  has_cause refusal lost told =
      let token = passed is_lost (token_rule access call) _ refusal
      (unless_test is_lost (is_some (caller_row call) || asks_by_link call) denial.Token refl) lost told in
      let behind_names =
      skip is_lost (forbidden_rule access call) _ refusal (if_test is_lost (list_any has_forbidden (paths_of (asked_by call))) denial.ForbiddenName refl) lost
      (skip is_lost (not_you_rule access call) _ refusal
      (unless_test is_lost (list_all (is_caller call) (users_of (asked_by call)) && may_ask call) denial.NotYou refl) lost token.1) in
      from_names refusal lost (named_rule access call) refl
      (sym (ap (λ (place : Option Denial). option_or place (option_or (named_rule access call) from_acts)) (place_passes token.0)) ∙ behind_names)

  -- ---- of each refusal

  abbrev node : ℕ
  node = node_asked ask

  abbrev folder : Bool
  folder = is_folder call.state.tables.nodes node

  abbrev lacks : Bool
  lacks = lacks_version call.state.tables.versions ask

  kind_told : refusal_of access call ≡ Some denial.Kind → IsLetAsk call ask × (folder ≡ true)
  kind_told told = elim (has_cause denial.Kind refl told) [
    | inl named ↦ absurd (seen_kind (is_seen call node) (sym named_is ∙ named))
    | inr had ↦ (had.0, had_kind folder lacks (sym version_is ∙ had.1))
  ]

  lost_told : refusal_of access call ≡ Some denial.NotFound
      → (is_seen call node ≡ false) ⊎ (IsLetAsk call ask × (folder ≡ false) × (lacks ≡ true))
  lost_told told = elim (has_cause denial.NotFound refl told) [
    | inl named ↦ inl (seen_lost (is_seen call node) (sym named_is ∙ named))
    | inr had ↦ (let file = had_lost folder lacks (sym version_is ∙ had.1) in inr (had.0, file.0, file.1))
  ]

  unseen_told : IsWellAsked call → is_seen call node ≡ false → refusal_of access call ≡ Some denial.NotFound
  unseen_told well hidden =
      first_of (token_rule ∷ not_you_rule ∷ forbidden_rule ∷ place_rule ∷ []) named_rule
      (acts_rule ∷ version_rule ∷ exists_rule ∷ target_rule ∷ overwrite_rule ∷ sharing_rule ∷ upload_rule ∷ locked_rule ∷ limit_rule ∷ room_rule ∷ quota_rule ∷ [])
      access call denial.NotFound (well.token, (well.not_you, (well.forbidden, (place_is ∙ well.linked, tt)))) (named_is ∙ ap told_seen hidden)

  shut_told : (refusal : Denial) → IsWellAsked call → is_seen call node ≡ true
      → first_refused access (ground_of call.state.tables) (seeker_of call) call.now (version_needs access call ask) ≡ Some refusal
      → refusal_of access call ≡ Some refusal
  shut_told refusal well seen shut =
      first_of (token_rule ∷ not_you_rule ∷ forbidden_rule ∷ place_rule ∷ named_rule ∷ []) acts_rule
      (version_rule ∷ exists_rule ∷ target_rule ∷ overwrite_rule ∷ sharing_rule ∷ upload_rule ∷ locked_rule ∷ limit_rule ∷ room_rule ∷ quota_rule ∷ [])
      access call refusal
      (well.token, (well.not_you, (well.forbidden, (place_is ∙ well.linked, (named_is ∙ ap told_seen seen, tt))))) (acts_is ∙ shut)

-- ---- the law

-- what refuses a request is its answer
answered_so : (call : Call) (refusal : Denial) → refusal_of (access_of call.state) call ≡ Some refusal
    → answered_by (unless_refused (refusal_of (access_of call.state) call) (allowed_of (access_of call.state) call)) ≡ Err refusal
answered_so call refusal told =
    ap (λ (o : Option Denial). answered_by (unless_refused o (allowed_of (access_of call.state) call))) told

pub versions_tell : VersionsTellTheirCause
versions_tell = record {
  kind = λ s seat now words request ask wanted told.
      let call = call_of s seat now words request in
      kind_told call ask wanted (refused_so (refusal_of (access_of s) call) (allowed_of (access_of s) call) denial.Kind told);
  lost = λ s seat now words request ask wanted told.
      let call = call_of s seat now words request in
      lost_told call ask wanted (refused_so (refusal_of (access_of s) call) (allowed_of (access_of s) call) denial.NotFound told);
  unseen = λ s seat now words request ask wanted well hidden.
      let call = call_of s seat now words request in
      answered_so call denial.NotFound (unseen_told call ask wanted well hidden);
  shut = λ s seat now words request ask refusal wanted well seen shut.
      let call = call_of s seat now words request in
      answered_so call refusal (shut_told call ask wanted refusal well seen shut);
}
