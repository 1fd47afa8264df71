-- Tables of which users, groups, tokens and members are others, as they are asked for.
use Rattle.std.proofs.Common.{◌≡◌, ◌≢◌, ℕ, ◌+◌, ◌<◌, ◌≤◌, ◌==◌, not, inl, inr, Bool, true, false, find, List, [], ◌∷◌, ◌++◌, length, get_or, Option, option_map, if◌then◌else◌, refl, sym, ap, ◌∙◌, subst, arith, bytes_eq}
use Rattle.std.specs.Prelude.{None, Some, is_some, nat_lt}
use Rattle.std.specs.List.{All, AllPairs, list_any}
use Rattle.std.specs.Option.{option_and_then, option_map_or}
use Rattle.std.proofs.lemmas.Bool.{both_ways, cases_Bool, cases_order, eq-eqb, eqb-true, ltb-false, or_parts}
use Rattle.std.proofs.lemmas.List.{get_or_default}
use Rattle.std.proofs.lemmas.List.Elements.{All-cons, All-contains, All-filter, All-nil, All-weaker}
use Rattle.std.proofs.lemmas.List.Folds.{Any-from_list_any}
use Rattle.std.proofs.lemmas.Slice.Eq.{bytes_eq-Decides}
use Rattle.nf_access.proofs.Kept.{share_row_each}
use Rattle.nf_access.proofs.LookUps.{find_among}
use Rattle.nf_base.specs.declared.limits.TheConstants.{MAX_GROUPS, MAX_MEMBERS, MAX_QUOTA, MAX_TOKENS, MAX_USERS}
use Rattle.nf_base.specs.declared.rows.GroupRow.{GroupRow}
use Rattle.nf_base.specs.declared.rows.MemberRow.{MemberRow}
use Rattle.nf_base.specs.declared.rows.NodeRow.{NodeRow}
use Rattle.nf_base.specs.declared.rows.ShareRow.{ShareRow}
use Rattle.nf_base.specs.declared.rows.TokenRow.{TokenRow}
use Rattle.nf_base.specs.declared.rows.UserRow.{UserRow}
use Rattle.nf_defs.proofs.Loads.{rises}
use Rattle.nf_defs.proofs.Puts.{all_put, dropped_length, dropped_rising, put_length, put_rising}
use Rattle.nf_defs.specs.Prelude.{dropped, group_key, group_named, group_row, IsRising, member_key, node_row, put, Tables, token_key, user_key, user_named, user_row}
use Rattle.nf_laws.proofs.Leaning.{any_found}
use Rattle.nf_laws.proofs.Peopled.{group_put}
use Rattle.nf_laws.proofs.Rows.{each_fails, found_is, no_value, row_is, row_joined}
use Rattle.nf_laws.proofs.Upwards.{owners_there}
use Rattle.nf_laws.specs.Access.{has_quota, has_token, IsMountJoined, IsProviding, joins, leaves, makes_group, makes_user, MountsGiven, Provides}
use Rattle.nf_laws.specs.Numbers.{AreHigher}
use Rattle.nf_words.proofs.Asks.{named_there}
use Rattle.nf_words.proofs.Found.{put_is_found, put_leaves, put_length_over}
use Rattle.nf_words.proofs.Provided.{membership_there, one_passes, row_there, three_pass}
use Rattle.nf_words.specs.Prelude.{AreSound, HasRoot, is_member, IsModest, join_limit, last_short, membership, mount_limit, mounts_joined, new_root, new_user, people_limit, State}
use Rattle.nf_words.specs.People.{are_many_groups, are_many_nodes, are_many_tokens, are_many_users}
use Rattle.nf_words.specs.declared.answer.Limit.TheVariants as limit
use Rattle.nf_words.specs.declared.history.Entry.{Entry}
use Rattle.nf_words.specs.declared.request.PeopleAsk.{PeopleAsk}
use Rattle.nf_words.specs.declared.request.PeopleAsk.TheVariants as people
use Rattle.nf_rules.proofs.After.{share_ruled, still_given, user_was}
use Rattle.nf_rules.proofs.Items.{items_as_were, items_ruled}
use Rattle.nf_rules.proofs.Kept.{filed}
use Rattle.nf_rules.proofs.OneShare.{node_given}
use Rattle.nf_rules.proofs.Pairs.{pairs_put}
use Rattle.nf_rules.proofs.Rising.{nodes_rise}
use Rattle.nf_rules.proofs.Shares.{given}
use Rattle.nf_rules.specs.Ruled.{AreOrdered, AreTokensApart, IsGiven, IsGroupRuled, IsItemRuled, IsMemberRuled, IsMountRuled, IsShareRuled, IsTokenRuled, IsUserRuled}
use Rattle.nf_rules.specs.Rules.{are_share_numbers, is_folder_for, is_group, is_user}

-- ---- who is there stays there

-- what is found by a number is found, or another row of that number, where a row is put
put_found : {R : Type 0} (id : R → ℕ) (row : R) (rows : List R) (number : ℕ) → is_some (find (λ x. id x == number) rows) ≡ true
    → is_some (find (λ x. id x == number) (put (λ x. id x ∷ []) row rows)) ≡ true
put_found {R = R} id row rows number there =
    elim (cases_Bool (id row == number)) [
      | inl e ↦
          ap is_some (put_is_found (λ x. id x ∷ []) (λ x. id x == number) row rows e
          (λ x same. ap (λ (n : ℕ). n ∷ []) (eqb-true (id x) number same ∙ sym (eqb-true (id row) number e))))
      | inr e ↦
          ap is_some (put_leaves (λ x. id x ∷ []) (λ x. id x == number) row rows e
          (λ x key. ap (λ (n : ℕ). n == number) (sym (first key)) ∙ e)) ∙ there
    ]
  where
    first : {a b : ℕ} → a ∷ [] ≡ b ∷ [] → a ≡ b
    first same = cc

-- a name that nobody has is none's
unnamed : {R : Type 0} (name : R → List ℕ) (number : R → ℕ) (rows : List R) (wanted : List ℕ)
    → option_map number (find (λ x. bytes_eq (name x) wanted) rows) ≡ None → All (λ (x : R). wanted ≢ name x) rows
unnamed name number rows wanted none k d within same =
    both_ways (bytes_eq (name (get_or rows k d)) wanted)
    (each_fails (λ x. bytes_eq (name x) wanted) rows (no_value number (find (λ x. bytes_eq (name x) wanted) rows) none) k d within)
    ((bytes_eq-Decides (name (get_or rows k d)) wanted).1 (sym same))

-- ---- what the old rows keep

module _ (t made : Tables) (h : AreOrdered t) (sound : AreSound made) (up : AreHigher t.meta made.meta) (items : All (IsItemRuled made) made.items)
    (users_stay : (user : ℕ) → is_user t user ≡ true → is_user made user ≡ true)
    (groups_stay : (group : ℕ) → is_group t group ≡ true → is_group made group ≡ true) where
  old_user : (row : UserRow) → IsUserRuled t row → IsUserRuled made row
  old_user row own = record {
    id = still_given t.meta.next_user made.meta.next_user row.id up.users own.id;
    root = still_given t.meta.next_node made.meta.next_node row.root up.nodes own.root;
    quota = own.quota;
  }

  old_users : All (IsUserRuled made) t.users
  old_users = All-weaker (IsUserRuled t) (IsUserRuled made) old_user t.users h.users

  old_tokens : All (IsTokenRuled made) t.tokens
  old_tokens =
      All-weaker (IsTokenRuled t) (IsTokenRuled made)
      (λ row own. record {
        given = still_given t.meta.next_user made.meta.next_user row.user up.users own.given;
        user = users_stay row.user own.user;
      }) t.tokens h.tokens

  old_groups : All (IsGroupRuled made) t.groups
  old_groups =
      All-weaker (IsGroupRuled t) (IsGroupRuled made)
      (λ row own. record { id = still_given t.meta.next_group made.meta.next_group row.id up.groups own.id }) t.groups h.groups

  old_members : All (IsMemberRuled made) t.members
  old_members =
      All-weaker (IsMemberRuled t) (IsMemberRuled made)
      (λ row own. record {
        given_group = still_given t.meta.next_group made.meta.next_group row.group up.groups own.given_group;
        given_user = still_given t.meta.next_user made.meta.next_user row.user up.users own.given_user;
        group = groups_stay row.group own.group;
        user = users_stay row.user own.user;
      }) t.members h.members

  old_mounts : All (IsMountRuled made) t.mounts
  old_mounts =
      All-weaker (IsMountRuled t) (IsMountRuled made)
      (λ row own. record {
        user = still_given t.meta.next_user made.meta.next_user row.user up.users own.user;
        node = still_given t.meta.next_node made.meta.next_node row.node up.nodes own.node;
      }) t.mounts h.mounts

  old_shares : made.shares ≡ t.shares → All (IsShareRuled made) made.shares
  old_shares same k d within =
      let row : ShareRow = get_or made.shares k d in
      share_ruled t.meta made row sound up
      (subst (All (λ (row : ShareRow). are_share_numbers t.meta row ≡ true)) (sym same)
      (All-weaker (IsShareRuled t) (λ (row : ShareRow). are_share_numbers t.meta row ≡ true) (λ row own. own.numbers) t.shares h.shares) k d within)
      (sound.others.shares k d within) (share_row_each made.shares sound.others.shares_rise k d within)

  -- a user who is there was given
  still_user : (user : ℕ) → is_user t user ≡ true → IsGiven made.meta.next_user user
  still_user user is = still_given t.meta.next_user made.meta.next_user user up.users (user_was t user h is)

  -- ---- by the kinds of rows

  record UsersKept : Type 0 where
    each : All (IsUserRuled made) made.users
    rising : IsRising user_key made.users
    names : AllPairs (λ (a b : UserRow). a.name ≢ b.name) made.users
    few : length made.users ≤ MAX_USERS

  record TokensKept : Type 0 where
    each : All (IsTokenRuled made) made.tokens
    rising : IsRising token_key made.tokens
    few : length made.tokens ≤ MAX_TOKENS

  record GroupsKept : Type 0 where
    each : All (IsGroupRuled made) made.groups
    rising : IsRising group_key made.groups
    names : AllPairs (λ (a b : GroupRow). a.name ≢ b.name) made.groups
    few : length made.groups ≤ MAX_GROUPS

  record MembersKept : Type 0 where
    each : All (IsMemberRuled made) made.members
    rising : IsRising member_key made.members
    few : length made.members ≤ MAX_MEMBERS

  same_users : made.users ≡ t.users → UsersKept
  same_users same = record {
    each = subst (All (IsUserRuled made)) (sym same) old_users;
    rising = subst (IsRising user_key) (sym same) h.rising.users;
    names = subst (AllPairs (λ (a b : UserRow). a.name ≢ b.name)) (sym same) h.user_names;
    few = omega (arith, ap length same, h.few_users);
  }

  same_tokens : made.tokens ≡ t.tokens → TokensKept
  same_tokens same = record {
    each = subst (All (IsTokenRuled made)) (sym same) old_tokens;
    rising = subst (IsRising token_key) (sym same) h.rising.tokens;
    few = omega (arith, ap length same, h.few_tokens);
  }

  same_groups : made.groups ≡ t.groups → GroupsKept
  same_groups same = record {
    each = subst (All (IsGroupRuled made)) (sym same) old_groups;
    rising = subst (IsRising group_key) (sym same) h.rising.groups;
    names = subst (AllPairs (λ (a b : GroupRow). a.name ≢ b.name)) (sym same) h.group_names;
    few = omega (arith, ap length same, h.few_groups);
  }

  same_members : made.members ≡ t.members → MembersKept
  same_members same = record {
    each = subst (All (IsMemberRuled made)) (sym same) old_members;
    rising = subst (IsRising member_key) (sym same) h.rising.members;
    few = omega (arith, ap length same, h.few_members);
  }

  same_mounts : made.mounts ≡ t.mounts → All (IsMountRuled made) made.mounts
  same_mounts same = subst (All (IsMountRuled made)) (sym same) old_mounts

  -- a further token
  more_tokens : (row : TokenRow) → made.tokens ≡ put token_key row t.tokens → IsTokenRuled made row → nat_lt MAX_TOKENS (length t.tokens + 1) ≡ false
      → TokensKept
  more_tokens row is ruled few = record {
    each = subst (All (IsTokenRuled made)) (sym is) (all_put token_key (IsTokenRuled made) row t.tokens ruled old_tokens);
    rising = subst (IsRising token_key) (sym is) (put_rising token_key row t.tokens h.rising.tokens);
    few = omega (arith, ap length is, put_length token_key row t.tokens, ltb-false _ _ few);
  }

  ruled_by : UsersKept → TokensKept → GroupsKept → MembersKept → made.shares ≡ t.shares → All (IsMountRuled made) made.mounts → AreOrdered made
  ruled_by users tokens groups members shares mounts = record {
    sound = sound;
    rising = rises made users.rising tokens.rising groups.rising members.rising (nodes_rise made.nodes sound.rising) sound.others.shares_rise
        sound.others.mounts_rise sound.others.versions_rise sound.others.items_rise
        sound.others.uploads_rise sound.others.chunks_rise;
    owners = owners_there made sound;
    users = users.each;
    tokens = tokens.each;
    groups = groups.each;
    members = members.each;
    shares = old_shares shares;
    mounts = mounts;
    items = items;
    user_names = users.names;
    group_names = groups.names;
    tokens_apart = subst (AllPairs AreTokensApart) (sym shares) h.tokens_apart;
    few_users = users.few;
    few_groups = groups.few;
    few_tokens = tokens.few;
    few_members = members.few;
  }

-- ---- each of what is asked

module _ (t made : Tables) (now : ℕ) (h : AreOrdered t) (sound : AreSound made) (up : AreHigher t.meta made.meta)
    (items : All (IsItemRuled made) made.items) where
  abbrev UsersStay : Type 0
  UsersStay = (user : ℕ) → is_user t user ≡ true → is_user made user ≡ true

  abbrev GroupsStay : Type 0
  GroupsStay = (group : ℕ) → is_group t group ≡ true → is_group made group ≡ true

  users_as_were : made.users ≡ t.users → UsersStay
  users_as_were same user there = ap (λ (rows : List UserRow). is_some (user_row rows user)) same ∙ there

  users_put : (row : UserRow) → made.users ≡ put user_key row t.users → UsersStay
  users_put row is user there =
      ap (λ (rows : List UserRow). is_some (user_row rows user)) is ∙ put_found (λ (x : UserRow). x.id) row t.users user there

  groups_as_were : made.groups ≡ t.groups → GroupsStay
  groups_as_were same group there = ap (λ (rows : List GroupRow). list_any (λ row. row.id == group) rows) same ∙ there

  -- a new user, who has a root and a token
  user_ruled : (name token : List ℕ) (quota : ℕ) → user_named t.users name ≡ None → quota ≤ MAX_QUOTA
      → people_limit t (people.NewUser name token quota) ≡ None
      → made ≡ filed (record t {
        meta = made.meta;
        users = put user_key (new_user t name quota) t.users;
        tokens = put token_key (record { digest = token; user = t.meta.next_user }) t.tokens;
        nodes = t.nodes ++ new_root t now name ∷ [];
      }) made
      → AreOrdered made
  user_ruled name token quota free modest few is =
      let row : UserRow = new_user t name quota in
      let holds : TokenRow = record { digest = token; user = t.meta.next_user } in
      let passed = three_pass (are_many_users t) (are_many_tokens t) (are_many_nodes t) few in
      let limits = or_parts (nat_lt MAX_USERS (length t.users + 1)) (nat_lt last_short (t.meta.next_user + 1)) passed.0 in
      let users : made.users ≡ put user_key row t.users = ap (λ (u : Tables). u.users) is in
      let stays : UsersStay = users_put row users in
      let kept : GroupsStay = groups_as_were (ap (λ (u : Tables). u.groups) is) in
      let found : user_row made.users row.id ≡ Some row =
      ap (λ (rows : List UserRow). user_row rows row.id) users
      ∙ put_is_found user_key (λ (x : UserRow). x.id == row.id) row t.users (eq-eqb row.id row.id refl)
      (λ x same. ap (λ (n : ℕ). n ∷ []) (eqb-true x.id row.id same)) in
      let own = found_is (HasRoot made) (λ (x : UserRow). x.id == row.id) made.users row sound.roots found in
      let below = found_is (λ (x : UserRow). x.id < made.meta.next_user) (λ (x : UserRow). x.id == row.id) made.users row sound.users_given found in
      let root = row_is made row.root own.1.row sound own.1.there in
      let first : 1 ≤ row.id = h.sound.counters.users in
      ruled_by t made h sound up items stays kept
      (record {
        each = subst (All (IsUserRuled made)) (sym users)
            (all_put user_key (IsUserRuled made) row t.users
            (record {
              id = record { first = first; below = below.1 };
              root = record { first = omega (arith, root.0, root.1.some); below = omega (arith, root.0, root.1.given) };
              quota = modest;
            })
            (old_users t made h sound up items stays kept));
        rising = subst (IsRising user_key) (sym users) (put_rising user_key row t.users h.rising.users);
        names = subst (AllPairs (λ (a b : UserRow). a.name ≢ b.name)) (sym users)
            (pairs_put (λ (x : UserRow). x.id) (λ (a b : UserRow). a.name ≢ b.name) (λ a b apart same. apart (sym same)) row t.users h.rising.users
            (All-weaker (λ (x : UserRow). name ≢ x.name) (λ (x : UserRow). x.id ≢ row.id → name ≢ x.name) (λ x apart other. apart) t.users
            (unnamed (λ (x : UserRow). x.name) (λ (x : UserRow). x.id) t.users name free))
            h.user_names);
        few = omega (arith, ap length users, put_length user_key row t.users, ltb-false MAX_USERS (length t.users + 1) limits.0);
      })
      (more_tokens t made h sound up items stays kept holds (ap (λ (u : Tables). u.tokens) is)
      (record { given = record { first = first; below = below.1 }; user = ap is_some found }) passed.1)
      (same_groups t made h sound up items stays kept (ap (λ (u : Tables). u.groups) is))
      (same_members t made h sound up items stays kept (ap (λ (u : Tables). u.members) is)) (ap (λ (u : Tables). u.shares) is)
      (same_mounts t made h sound up items stays kept (ap (λ (u : Tables). u.mounts) is))

  group_ruled : (name : List ℕ) → group_named t.groups name ≡ None → people_limit t (people.NewGroup name) ≡ None
      → made ≡ filed (record t { meta = made.meta; groups = put group_key (record { id = t.meta.next_group; name = name }) t.groups }) made
      → AreOrdered made
  group_ruled name free few is =
      let row : GroupRow = record { id = t.meta.next_group; name = name } in
      let limits = or_parts (nat_lt MAX_GROUPS (length t.groups + 1)) (nat_lt last_short (t.meta.next_group + 1))
      (one_passes (are_many_groups t) limit.Groups few) in
      let groups : made.groups ≡ put group_key row t.groups = ap (λ (u : Tables). u.groups) is in
      let stays : UsersStay = users_as_were (ap (λ (u : Tables). u.users) is) in
      let kept : GroupsStay = λ group there.
      ap (λ (rows : List GroupRow). list_any (λ row. row.id == group) rows) groups ∙ group_put row t.groups group there in
      let found : group_row made.groups row.id ≡ Some row =
      ap (λ (rows : List GroupRow). group_row rows row.id) groups
      ∙ put_is_found group_key (λ (x : GroupRow). x.id == row.id) row t.groups (eq-eqb row.id row.id refl)
      (λ x same. ap (λ (n : ℕ). n ∷ []) (eqb-true x.id row.id same)) in
      let below = found_is (λ (x : GroupRow). x.id < made.meta.next_group) (λ (x : GroupRow). x.id == row.id) made.groups row sound.groups_given found in
      ruled_by t made h sound up items stays kept (same_users t made h sound up items stays kept (ap (λ (u : Tables). u.users) is))
      (same_tokens t made h sound up items stays kept (ap (λ (u : Tables). u.tokens) is))
      (record {
        each = subst (All (IsGroupRuled made)) (sym groups)
            (all_put group_key (IsGroupRuled made) row t.groups (record { id = record { first = h.sound.counters.groups; below = below.1 } })
            (old_groups t made h sound up items stays kept));
        rising = subst (IsRising group_key) (sym groups) (put_rising group_key row t.groups h.rising.groups);
        names = subst (AllPairs (λ (a b : GroupRow). a.name ≢ b.name)) (sym groups)
            (pairs_put (λ (x : GroupRow). x.id) (λ (a b : GroupRow). a.name ≢ b.name) (λ a b apart same. apart (sym same)) row t.groups h.rising.groups
            (All-weaker (λ (x : GroupRow). name ≢ x.name) (λ (x : GroupRow). x.id ≢ row.id → name ≢ x.name) (λ x apart other. apart) t.groups
            (unnamed (λ (x : GroupRow). x.name) (λ (x : GroupRow). x.id) t.groups name free))
            h.group_names);
        few = omega (arith, ap length groups, put_length group_key row t.groups, ltb-false MAX_GROUPS (length t.groups + 1) limits.0);
      })
      (same_members t made h sound up items stays kept (ap (λ (u : Tables). u.members) is)) (ap (λ (u : Tables). u.shares) is)
      (same_mounts t made h sound up items stays kept (ap (λ (u : Tables). u.mounts) is))

  -- a user with another quota has the number and the name that it had
  pub quota_ruled : (quota : ℕ) (row : UserRow) → user_row t.users row.id ≡ Some row → quota ≤ MAX_QUOTA
      → made ≡ filed (record t { meta = made.meta; users = put user_key (record row { quota = quota }) t.users }) made
      → AreOrdered made
  quota_ruled quota row there modest is =
      let new : UserRow = record row { quota = quota } in
      let users : made.users ≡ put user_key new t.users = ap (λ (u : Tables). u.users) is in
      let stays : UsersStay = users_put new users in
      let kept : GroupsStay = groups_as_were (ap (λ (u : Tables). u.groups) is) in
      let old = found_is (IsUserRuled t) (λ (x : UserRow). x.id == row.id) t.users row h.users there in
      let own = old_user t made h sound up items stays kept row old.1 in
      ruled_by t made h sound up items stays kept
      (record {
        each = subst (All (IsUserRuled made)) (sym users)
            (all_put user_key (IsUserRuled made) new t.users (record { id = own.id; root = own.root; quota = modest })
            (old_users t made h sound up items stays kept));
        rising = subst (IsRising user_key) (sym users) (put_rising user_key new t.users h.rising.users);
        names = subst (AllPairs (λ (a b : UserRow). a.name ≢ b.name)) (sym users)
            (pairs_put (λ (x : UserRow). x.id) (λ (a b : UserRow). a.name ≢ b.name) (λ a b apart same. apart (sym same)) new t.users h.rising.users
            (apart_from row there) h.user_names);
        few = omega (
          arith,
          ap length users,
          put_length_over user_key (λ (x : UserRow). x.id == row.id) new row t.users (λ x same. ap (λ (n : ℕ). n ∷ []) (eqb-true x.id row.id same))
              h.rising.users there,
          h.few_users,
        );
      })
      (same_tokens t made h sound up items stays kept (ap (λ (u : Tables). u.tokens) is))
      (same_groups t made h sound up items stays kept (ap (λ (u : Tables). u.groups) is))
      (same_members t made h sound up items stays kept (ap (λ (u : Tables). u.members) is)) (ap (λ (u : Tables). u.shares) is)
      (same_mounts t made h sound up items stays kept (ap (λ (u : Tables). u.mounts) is))
    where
      -- a user and another one
      apart_from : (row : UserRow) → user_row t.users row.id ≡ Some row → All (λ (x : UserRow). x.id ≢ row.id → row.name ≢ x.name) t.users
      apart_from row there k d within other same =
          let among = (find_among (λ (x : UserRow). x.id == row.id) t.users row there).0 in
          let at : get_or t.users among.0 d ≡ row = get_or_default t.users among.0 d row among.1 ∙ among.2 in
          elim (cases_order among.0 k) [
            | inl here ↦ other (ap (λ (r : UserRow). r.id) (sym (ap (λ (n : ℕ). get_or t.users n d) here) ∙ at))
            | inr (inl before) ↦ h.user_names among.0 k d before within (ap (λ (r : UserRow). r.name) at ∙ same)
            | inr (inr behind) ↦ h.user_names k among.0 d behind among.1 (sym same ∙ sym (ap (λ (r : UserRow). r.name) at))
          ]

  token_ruled : (token : List ℕ) (name : List ℕ) (user : ℕ) → user_named t.users name ≡ Some user
      → people_limit t (people.AddToken name token) ≡ None
      → made ≡ filed (record t { meta = made.meta; tokens = put token_key (record { digest = token; user = user }) t.tokens }) made
      → AreOrdered made
  token_ruled token name user named few is =
      let row : TokenRow = record { digest = token; user = user } in
      let stays : UsersStay = users_as_were (ap (λ (u : Tables). u.users) is) in
      let kept : GroupsStay = groups_as_were (ap (λ (u : Tables). u.groups) is) in
      let there = named_there t.users name user named in
      ruled_by t made h sound up items stays kept (same_users t made h sound up items stays kept (ap (λ (u : Tables). u.users) is))
      (more_tokens t made h sound up items stays kept row (ap (λ (u : Tables). u.tokens) is)
      (record { given = still_user t made h sound up items stays kept user there; user = stays user there }) (one_passes _ limit.Tokens few))
      (same_groups t made h sound up items stays kept (ap (λ (u : Tables). u.groups) is))
      (same_members t made h sound up items stays kept (ap (λ (u : Tables). u.members) is)) (ap (λ (u : Tables). u.shares) is)
      (same_mounts t made h sound up items stays kept (ap (λ (u : Tables). u.mounts) is))

  -- a new member, and its mounts
  joins_ruled : (user group : List ℕ) (row : MemberRow) → membership t user group ≡ Some row → is_member t row ≡ false
      → people_limit t (people.AddMember user group) ≡ None
      → made ≡ filed (record t { meta = made.meta; members = put member_key row t.members; mounts = made.mounts }) made
      → MountsGiven t.mounts made.mounts (IsMountJoined t row) → AreOrdered made
  joins_ruled user group row named none few is mounts =
      let stays : UsersStay = users_as_were (ap (λ (u : Tables). u.users) is) in
      let kept : GroupsStay = groups_as_were (ap (λ (u : Tables). u.groups) is) in
      let there = membership_there t now h.sound user group row named in
      let any_group = any_of_row t.groups row.group there.group in
      let members : made.members ≡ put member_key row t.members = ap (λ (u : Tables). u.members) is in
      ruled_by t made h sound up items stays kept (same_users t made h sound up items stays kept (ap (λ (u : Tables). u.users) is))
      (same_tokens t made h sound up items stays kept (ap (λ (u : Tables). u.tokens) is))
      (same_groups t made h sound up items stays kept (ap (λ (u : Tables). u.groups) is))
      (record {
        each = subst (All (IsMemberRuled made)) (sym members)
            (all_put member_key (IsMemberRuled made) row t.members
            (record {
              given_group = group_given row.group any_group;
              given_user = still_user t made h sound up items stays kept row.user there.user;
              group = kept row.group any_group;
              user = stays row.user there.user;
            })
            (old_members t made h sound up items stays kept));
        rising = subst (IsRising member_key) (sym members) (put_rising member_key row t.members h.rising.members);
        few = omega (
          arith,
          ap length members,
          put_length member_key row t.members,
          ltb-false _ _ (room row none (subst (λ (o : Option MemberRow). option_and_then (join_limit t) o ≡ None) named few)),
        );
      })
      (ap (λ (u : Tables). u.shares) is)
      (λ k d within. elim (mounts.each k d within) [
        | inl among ↦ All-contains (IsMountRuled made) t.mounts (get_or made.mounts k d) (old_mounts t made h sound up items stays kept) among
        | inr of ↦ record {
          user = subst (IsGiven made.meta.next_user) (sym of.user) (still_user t made h sound up items stays kept row.user there.user);
          node = subst (IsGiven made.meta.next_node) (sym of.node)
              (still_given t.meta.next_node made.meta.next_node of.share.node up.nodes
              (given t.meta.next_node of.share.node
              (node_given t.meta of.share (All-contains (IsShareRuled t) t.shares of.share h.shares of.among).numbers)));
        }
      ])
    where
      room : (row : MemberRow) → is_member t row ≡ false → join_limit t row ≡ None → nat_lt MAX_MEMBERS (length t.members + 1) ≡ false
      room row none few = here (nat_lt MAX_MEMBERS (length t.members + 1)) (sym (ap (λ (b : Bool). if b then None else
          (if nat_lt MAX_MEMBERS (length t.members + 1) then Some limit.Members else mount_limit t.mounts (mounts_joined t row))) none) ∙ few)
        where
          here : (b : Bool) → (if b then Some limit.Members else mount_limit t.mounts (mounts_joined t row)) ≡ None → b ≡ false
          here true few = absurd (cc)
          here false few = refl

      any_of_row : (groups : List GroupRow) (group : ℕ) → is_some (group_row groups group) ≡ true → list_any (λ row. row.id == group) groups ≡ true
      any_of_row groups group some = any_found (λ (row : GroupRow). row.id == group) groups ∙ some

      group_given : (group : ℕ) → is_group t group ≡ true → IsGiven made.meta.next_group group
      group_given group any =
          let at = Any-from_list_any (λ (row : GroupRow). row.id == group) t.groups any in
          still_given t.meta.next_group made.meta.next_group group up.groups
          (subst (IsGiven t.meta.next_group) (eqb-true at.1.id group at.4)
          (subst (λ (g : GroupRow). IsGiven t.meta.next_group g.id) at.3 (h.groups at.0 at.1 at.2).id))

  leaves_ruled : (row : MemberRow)
      → made ≡ filed (record t { meta = made.meta; members = dropped member_key (row.group ∷ row.user ∷ []) t.members }) made
      → AreOrdered made
  leaves_ruled row is =
      let stays : UsersStay = users_as_were (ap (λ (u : Tables). u.users) is) in
      let kept : GroupsStay = groups_as_were (ap (λ (u : Tables). u.groups) is) in
      let numbers : List ℕ = row.group ∷ row.user ∷ [] in
      let members : made.members ≡ dropped member_key numbers t.members = ap (λ (u : Tables). u.members) is in
      ruled_by t made h sound up items stays kept (same_users t made h sound up items stays kept (ap (λ (u : Tables). u.users) is))
      (same_tokens t made h sound up items stays kept (ap (λ (u : Tables). u.tokens) is))
      (same_groups t made h sound up items stays kept (ap (λ (u : Tables). u.groups) is))
      (record {
        each = subst (All (IsMemberRuled made)) (sym members)
            (All-filter (λ (x : MemberRow). not (bytes_eq numbers (member_key x))) (IsMemberRuled made) t.members (old_members t made h sound up items stays kept));
        rising = subst (IsRising member_key) (sym members) (dropped_rising member_key numbers t.members h.rising.members);
        few = omega (
          arith,
          ap length members,
          dropped_length member_key numbers t.members,
          h.few_members,
        );
      })
      (ap (λ (u : Tables). u.shares) is) (same_mounts t made h sound up items stays kept (ap (λ (u : Tables). u.mounts) is))

-- what is asked about users and groups, and versions, uploads and chunks of other tables
module _ (t between beside : Tables) (now : ℕ) (h : AreOrdered t) (up : AreHigher t.meta between.meta) where
  abbrev later : Tables
  later = filed between beside

  provided_ruled : AreSound later → All (IsItemRuled later) between.items → (asked : PeopleAsk) → IsModest asked → people_limit t asked ≡ None
      → Provides t now between asked → AreOrdered later
  provided_ruled sound items _ modest few (makes_user name token quota free fresh is) =
      user_ruled t later now h sound up items name token quota free modest few (ap (λ (u : Tables). filed u beside) is)
  provided_ruled sound items _ modest few (makes_group name free is) =
      group_ruled t later now h sound up items name free few (ap (λ (u : Tables). filed u beside) is)
  provided_ruled sound items _ modest few (joins user group row named none is mounts all) =
      joins_ruled t later now h sound up items user group row named none few (ap (λ (u : Tables). filed u beside) is) mounts
  provided_ruled sound items _ modest few (leaves user group row named there is) =
      leaves_ruled t later now h sound up items row (ap (λ (u : Tables). filed u beside) is)
  provided_ruled sound items _ modest few (has_quota user quota row named is) =
      quota_ruled t later now h sound up items quota row (row_there t now h.sound user row named) modest (ap (λ (u : Tables). filed u beside) is)
  provided_ruled sound items _ modest few (has_token user token id named free is) =
      token_ruled t later now h sound up items token user id named few (ap (λ (u : Tables). filed u beside) is)

  -- no item is another, nor is a node that was there
  provided_items : (asked : PeopleAsk) → Provides t now between asked → All (IsItemRuled later) between.items
  provided_items _ (makes_user name token quota free fresh is) =
      items_ruled t later h up (ap (λ (u : Tables). u.items) is) (λ item from kept.
      ap (λ (o : Option NodeRow). option_map_or (is_folder_for item) o true)
      (ap (λ (u : Tables). node_row u.nodes item.from) is
      ∙ row_joined t.nodes (new_root t now name ∷ []) item.from
      (All-cons (λ (r : NodeRow). r.id ≢ item.from) (new_root t now name) [] (λ same. absurd (omega (arith, same, from.below)))
      (All-nil (λ (r : NodeRow). r.id ≢ item.from)))) ∙ kept)
  provided_items _ (makes_group name free is) = items_as_were t later h up (ap (λ (u : Tables). u.items) is) (ap (λ (u : Tables). u.nodes) is)
  provided_items _ (joins user group row named none is mounts all) =
      items_as_were t later h up (ap (λ (u : Tables). u.items) is) (ap (λ (u : Tables). u.nodes) is)
  provided_items _ (leaves user group row named there is) =
      items_as_were t later h up (ap (λ (u : Tables). u.items) is) (ap (λ (u : Tables). u.nodes) is)
  provided_items _ (has_quota user quota row named is) =
      items_as_were t later h up (ap (λ (u : Tables). u.items) is) (ap (λ (u : Tables). u.nodes) is)
  provided_items _ (has_token user token id named free is) =
      items_as_were t later h up (ap (λ (u : Tables). u.items) is) (ap (λ (u : Tables). u.nodes) is)

-- what is asked about users and groups keeps the rules
pub people_ruled : (s : State) (e : Entry) (between beside : Tables) → AreOrdered s.tables → AreSound (filed between beside)
    → AreHigher s.tables.meta between.meta → IsProviding s e between → AreOrdered (filed between beside)
people_ruled s e between beside h sound up is =
    let items = provided_items s.tables between beside e.moment h up is.asked is.provides in
    provided_ruled s.tables between beside e.moment h up sound items is.asked is.modest is.few is.provides
