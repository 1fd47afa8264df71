-- What is asked about users and groups changes nothing, or makes of the tables what is asked.
use Rattle.std.proofs.Common.{◌≡◌, ◌⊎◌, inl, inr, ℕ, ◌==◌, ◌||◌, not, Bool, true, false, List, [], ◌∷◌, filter, get_or, map, Option, if◌then◌else◌, refl, sym, ap, subst, ◌∙◌, flat_map}
use Rattle.std.specs.Prelude.{None, Some, is_some}
use Rattle.std.specs.List.{All, Contains, list_all}
use Rattle.std.specs.Option.{option_map_or}
use Rattle.std.proofs.lemmas.Bool.{and_parts, or_parts}
use Rattle.std.proofs.lemmas.List.Elements.{All-contains_itself, All-filter, All-map, filter_passes}
use Rattle.nf_access.specs.Mounts.{is_mounted}
use Rattle.nf_base.specs.declared.changes.Change.{Change}
use Rattle.nf_base.specs.declared.changes.Change.TheVariants.{Drop, Put}
use Rattle.nf_base.specs.declared.changes.RowKey.TheVariants as keys
use Rattle.nf_base.specs.declared.rows.MemberRow.{MemberRow}
use Rattle.nf_base.specs.declared.rows.NodeRow.{NodeRow}
use Rattle.nf_base.specs.declared.rows.Row.TheVariants as rows
use Rattle.nf_base.specs.declared.rows.ShareRow.{ShareRow}
use Rattle.nf_base.specs.declared.rows.UserRow.{UserRow}
use Rattle.nf_defs.specs.People.{is_admin}
use Rattle.nf_defs.specs.Prelude.{Access, group_named, holder_of, member_key, put, Tables, token_key, user_key, user_named}
use Rattle.nf_laws.proofs.Given.{all_mounted, ensured_with, mounts_given, mounts_put, of_passing}
use Rattle.nf_laws.proofs.Puts.{put_new}
use Rattle.nf_laws.proofs.Rows.{stamp, stamped_has}
use Rattle.nf_laws.proofs.Settling.{gone_of_user, none_settled, some_settled}
use Rattle.nf_laws.specs.Access.{by_quota, IsMountJoined, IsProviding, IsSettled, Provides, has_quota, has_token, joins, leaves, makes_group, makes_user}
use Rattle.nf_words.proofs.Begins.{wanted_passes, WantedPasses}
use Rattle.nf_words.proofs.Ensured.{each_new, each_of}
use Rattle.nf_words.proofs.Fits.{newest}
use Rattle.nf_words.proofs.Passing.{Passes}
use Rattle.nf_words.proofs.Provided.{none_of}
use Rattle.nf_words.specs.Prelude.{access_of, altered, AreSound, asked_by, asker_of, Call, call_of, changed, deed_done, done, given, gone_of, is_about_people, is_caller, is_joined, is_member, is_taken, joined_by, IsInBounds, IsSound, items_of, left_by, may_ask, MayWant, membership, mounts_joined, new_root, new_user, nothing_done, not_you_rule, people_changed, people_done, places_of, put_mounts, raised, requoted, row_named, State, told, users_of, settled_by, charged_to, requoting, unsettled, purged_by}
use Rattle.nf_words.specs.declared.answer.Allowed.TheVariants as allowed
use Rattle.nf_words.specs.declared.answer.Breach.{Breach}
use Rattle.nf_words.specs.declared.answer.Breach.TheVariants as rule
use Rattle.nf_words.specs.declared.answer.Deed.TheVariants as deed
use Rattle.nf_words.specs.declared.answer.Denial.{Denial}
use Rattle.nf_words.specs.declared.answer.Denial.TheVariants as denial
use Rattle.nf_words.specs.declared.answer.Report.TheVariants as report
use Rattle.nf_words.specs.declared.history.Entry.{Entry}
use Rattle.nf_words.specs.declared.history.Event.TheVariants.{Begin}
use Rattle.nf_words.specs.declared.request.PeopleAsk.{PeopleAsk}
use Rattle.nf_words.specs.declared.request.PeopleAsk.TheVariants as people
use Rattle.nf_words.specs.declared.request.Request.{Request}
use Rattle.nf_words.specs.declared.request.Wanted.TheVariants as wanted
use Rattle.nf_words.specs.declared.request.Words.{Words}

module _ (t : Tables) (now : ℕ) (sound : AreSound t) where
  -- the tables after some changes
  abbrev pub with_changes : List Change → Tables
  with_changes changes = changed t now (allowed.Change changes None report.Plain)

  abbrev pub ProvidesAtMost : PeopleAsk → List Change → Type 0
  ProvidesAtMost asked changes = (with_changes changes ≡ t) ⊎ Provides t now (with_changes changes) asked

  -- ---- a new member

  module _ (user group : List ℕ) (row : MemberRow) (named : membership t user group ≡ Some row) where
    abbrev pairs : List (ℕ × ℕ)
    pairs = map (λ share. (row.user, share.node)) (filter (is_joined row) t.shares)

    -- each is of what is shared with the group
    abbrev Shared : ℕ × ℕ → Type 0
    Shared of = (share : ShareRow) × Contains t.shares share × (is_joined row share ≡ true) × (of.0 ≡ row.user) × (of.1 ≡ share.node)

    all_shared : All Shared pairs
    all_shared =
        All-map Shared (λ (share : ShareRow). (row.user, share.node)) (filter (is_joined row) t.shares) (λ k d within. (
          get_or (filter (is_joined row) t.shares) k d,
          All-filter (is_joined row) (Contains t.shares) t.shares (All-contains_itself t.shares) k d within,
          filter_passes (is_joined row) t.shares k d within,
          refl,
          refl,
        ))

    each_joined : All (IsMountJoined t row) (mounts_joined t row)
    each_joined k d within =
        let of = each_of t.users t.nodes Shared pairs t.mounts all_shared k d within in
        let new = each_new t.users t.nodes pairs t.mounts k d within in
        record { share = of.0; among = of.1; joined = of.2; user = of.3; node = of.4; stays = new.0; none = new.1 }

    joined : (b : Bool) → is_member t row ≡ b
        → ProvidesAtMost (people.AddMember user group) (if b then [] else Put (rows.Member row) ∷ put_mounts (mounts_joined t row))
    joined true is = inl refl
    joined false is =
        let changes = Put (rows.Member row) ∷ put_mounts (mounts_joined t row) in
        let meta = record (raised t now changes None).meta { last = now } in
        inr (subst (λ (u : Tables). Provides t now (record u { meta = meta }) (people.AddMember user group))
        (sym (mounts_put (record t { members = put member_key row t.members }) (mounts_joined t row)))
        (joins user group row named is refl (mounts_given t.users t.nodes pairs t.mounts (IsMountJoined t row) sound.others.mounts_rise each_joined)
        (of_passing (λ (of : ℕ × ℕ). is_mounted (ensured_with t.users t.nodes pairs t.mounts) of.0 of.1 ≡ true) (λ share. (row.user, share.node))
        (is_joined row) t.shares (all_mounted t.users t.nodes pairs t.mounts))))

    left : (b : Bool) → is_member t row ≡ b
        → ProvidesAtMost (people.DropMember user group) (if b then Drop (keys.Member row.group row.user) ∷ [] else [])
    left true is = inr (leaves user group row named is refl)
    left false is = inl refl

  -- ---- what is asked

  pub provides : (asked : PeopleAsk) → is_taken t asked ≡ false → ProvidesAtMost asked (people_changed t now asked)
  provides (people.NewUser name token quota) free =
      let off = or_parts (is_some (user_named t.users name)) (is_some (holder_of t.tokens token)) free in
      let meta = (with_changes (people_changed t now (people.NewUser name token quota))).meta in
      inr (makes_user name token quota (none_of (user_named t.users name) off.0) (none_of (holder_of t.tokens token) off.1)
      (ap (λ (nodes : List NodeRow). record t {
        meta = meta;
        users = put user_key (new_user t name quota) t.users;
        tokens = put token_key (record { digest = token; user = t.meta.next_user }) t.tokens;
        nodes = nodes;
      })
      (put_new (new_root t now name) t.nodes (newest t sound))))
  provides (people.NewGroup name) free = inr (makes_group name (none_of (group_named t.groups name) free) refl)
  provides (people.AddMember user group) free = here (membership t user group) refl
    where
      here : (o : Option MemberRow) → membership t user group ≡ o → ProvidesAtMost (people.AddMember user group) (option_map_or (joined_by t) o [])
      here None e = inl refl
      here (Some row) e = joined user group row e (is_member t row) refl
  provides (people.DropMember user group) free = here (membership t user group) refl
    where
      here : (o : Option MemberRow) → membership t user group ≡ o → ProvidesAtMost (people.DropMember user group) (option_map_or (left_by t) o [])
      here None e = inl refl
      here (Some row) e = left user group row e (is_member t row) refl
  provides (people.SetQuota user quota) free = inl refl
  provides (people.AddToken user token) free = here (user_named t.users user) refl
    where
      here : (o : Option ℕ) → user_named t.users user ≡ o
          → ProvidesAtMost (people.AddToken user token) (option_map_or (λ id. Put (rows.Token (record { digest = token; user = id })) ∷ []) o [])
      here None e = inl refl
      here (Some id) e = inr (has_token user token id e (none_of (holder_of t.tokens token) free) refl)

-- ---- a Begin

-- only a member of the group `admin` passes the rule of who asks
asks_admin : (access : Access) (call : Call) → not_you_rule access call ≡ None → is_about_people call.request.wanted ≡ true
    → is_admin call.state.tables.groups call.state.tables.members (asker_of call) ≡ true
unfolding not_you_rule
asks_admin access call none about =
    let may = and_parts (list_all (is_caller call) (users_of (asked_by call))) (may_ask call) (passed _ none) in
    ap (λ (b : Bool). not b || is_admin call.state.tables.groups call.state.tables.members (asker_of call)) (sym about) ∙ may.1
  where
    passed : (b : Bool) → ◌≡◌ {A = Option Denial} (if b then None else Some denial.NotYou) None → b ≡ true
    passed true none = refl
    passed false none = absurd (cc)

-- of what is asked about users and groups: the tables with it done, and what goes then
pub record Provided (s : State) (e : Entry) (made : Tables) : Type 0 where
  pub between : Tables
  pub provides : (between ≡ s.tables) ⊎ IsProviding s e between
  pub settled : IsSettled s e between made

module _ (s : State) (e : Entry) (words : Words) (request : Request) (begins : e.event ≡ Begin words request) (sound : IsSound s)
    (may : MayWant request) (passes : Passes (access_of s) (call_of s e.seat e.moment words request)) where
  abbrev call : Call
  call = call_of s e.seat e.moment words request

  abbrev all : Tables
  all = s.tables

  abbrev Does : PeopleAsk → Type 0
  Does asked = request.wanted ≡ wanted.People asked → Provided s e (changed all e.moment (people_done all e.moment asked))

  providing : (asked : PeopleAsk) (made : Tables) → request.wanted ≡ wanted.People asked → Provides all e.moment made asked → IsProviding s e made
  providing asked made want provides = record {
    words = words;
    request = request;
    begins = begins;
    asked = asked;
    wanted = want;
    by_admin = asks_admin (access_of s) call passes.not_you (ap is_about_people want);
    modest = subst IsInBounds want may.bounds;
    few = (subst (WantedPasses call) want (wanted_passes call may passes)).room;
    provides = provides;
  }

  same_provided : Provided s e all
  same_provided = record { between = all; provides = inl refl; settled = none_settled s e all }

  -- rows of users, groups, tokens and members
  rows_provided : (asked : PeopleAsk) → request.wanted ≡ wanted.People asked
      → Provided s e (with_changes all e.moment sound.rows (people_changed all e.moment asked))
  rows_provided asked want =
      let made = with_changes all e.moment sound.rows (people_changed all e.moment asked) in
      let p = subst (WantedPasses call) want (wanted_passes call may passes) in
      record {
        between = made;
        provides = elim (provides all e.moment sound.rows asked (untaken (is_taken all asked) p.sharing)) [
          | inl same ↦ inl same
          | inr is ↦ inr (providing asked made want is)
        ];
        settled = none_settled s e made;
      }
    where
      untaken : (b : Bool) → ◌≡◌ {A = Option Breach} (if b then Some rule.Taken else None) None → b ≡ false
      untaken false none = refl
      untaken true none = absurd (cc)

  -- another quota, with which some of the user's trash goes
  quota_provided : (user : List ℕ) (quota : ℕ) → Does (people.SetQuota user quota)
  quota_provided user quota want = here (row_named all user) refl
    where
      another : (row : UserRow) → row_named all user ≡ Some row → (b : Bool)
          → Provided s e (changed all e.moment (if b then nothing_done
          else done (settled_by all (charged_to all quota row) (requoting all e.moment quota row)) report.Plain))
      another row named true = same_provided
      another row named false =
          let did = deed.Requote (record row { quota = quota }) in
          let gone = gone_of all e.moment quota (items_of all row.id) in
          let versions = unsettled all (charged_to all quota row) (flat_map purged_by (requoting all e.moment quota row)) in
          let act = done (settled_by all (charged_to all quota row) (requoting all e.moment quota row)) report.Plain in
          let made = deed_done all did in
          stamped_has (Provided s e) all (altered all e.moment act) e.moment (told all act) same_provided
          (record {
            between = stamp made e.moment;
            provides = inr (providing (people.SetQuota user quota) (stamp made e.moment) want (has_quota user quota row named refl));
            settled = some_settled s e made row.id gone versions (gone_of_user all sound.rows e.moment quota row.id)
                (by_quota words request user quota row begins want named);
          })

      here : (o : Option UserRow) → row_named all user ≡ o → Provided s e (changed all e.moment (option_map_or (requoted all e.moment quota) o nothing_done))
      here None named = same_provided
      here (Some row) named = another row named (row.quota == quota)

  asked_provided : (asked : PeopleAsk) → Does asked
  asked_provided (people.SetQuota user quota) want = quota_provided user quota want
  asked_provided (people.NewUser name token quota) want = rows_provided (people.NewUser name token quota) want
  asked_provided (people.NewGroup name) want = rows_provided (people.NewGroup name) want
  asked_provided (people.AddMember user group) want = rows_provided (people.AddMember user group) want
  asked_provided (people.DropMember user group) want = rows_provided (people.DropMember user group) want
  asked_provided (people.AddToken user token) want = rows_provided (people.AddToken user token) want

  pub people_provide : (asked : PeopleAsk) → request.wanted ≡ wanted.People asked
      → Provided s e (changed all e.moment (given (access_of s) call (places_of call) (wanted.People asked)))
  people_provide asked want = asked_provided asked want
