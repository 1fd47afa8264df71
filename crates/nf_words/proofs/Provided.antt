-- What is known of what is asked about users and groups.
use Rattle.std.proofs.Common.{◌≡◌, ◌≢◌, ℕ, ◌+◌, ◌<◌, ◌==◌, ◌&&◌, ◌||◌, not, filter, find, get_or, length, map, bytes_eq, Bool, true, false, List, [], ◌∷◌, Option, option_map, if◌then◌else◌, refl, ap, sym, subst, ◌∙◌, arith, le_refl}
use Rattle.std.specs.Prelude.{None, Some, is_some, nat_lt}
use Rattle.std.specs.List.{All}
use Rattle.std.specs.Option.{IfSome, option_and_then, option_map_or}
use Rattle.std.proofs.lemmas.Bool.{and_from, and_parts, both_ways, eq-eqb, eqb-true, ltb-false, not-true}
use Rattle.std.proofs.lemmas.List.Elements.{All-cons, All-filter, All-map, All-nil, All-weaker, filter_passes}
use Rattle.std.proofs.lemmas.List.Kept.{AllPairs-cons}
use Rattle.std.proofs.lemmas.List.Folds.{list_any-from_Any}
use Rattle.std.proofs.lemmas.Option.{none-some, same_Some}
use Rattle.std.proofs.lemmas.Slice.Eq.{bytes_eq-Decides}
use Rattle.nf_access.proofs.LookUps.{find_among}
use Rattle.nf_base.specs.declared.changes.Change.{Change}
use Rattle.nf_base.specs.declared.changes.Change.TheVariants.{Drop, Put}
use Rattle.nf_base.specs.declared.changes.RowKey.TheVariants as keys
use Rattle.nf_base.specs.declared.limits.TheConstants.{MAX_MEMBERS, MAX_TOKENS}
use Rattle.nf_base.specs.declared.rows.GroupRow.{GroupRow}
use Rattle.nf_base.specs.declared.rows.MemberRow.{MemberRow}
use Rattle.nf_base.specs.declared.rows.MetaRow.{MetaRow}
use Rattle.nf_base.specs.declared.rows.MountRow.{MountRow}
use Rattle.nf_base.specs.declared.rows.Row.TheVariants as rows
use Rattle.nf_base.specs.declared.rows.ShareRow.{ShareRow}
use Rattle.nf_base.specs.declared.rows.TokenRow.{TokenRow}
use Rattle.nf_base.specs.declared.rows.UserRow.{UserRow}
use Rattle.nf_defs.specs.Prelude.{dropped, group_key, group_named, group_row, holder_of, is_member_of, made, member_key, node_row, put, Tables, token_key, user_key, user_named, user_row}
use Rattle.nf_words.proofs.Asks.{Differs, ensured_lean, found_any, lean_with, mounts_fit, named_there, nothing_known, Once}
use Rattle.nf_words.proofs.Ensured.{ensured_known, IsMountable}
use Rattle.nf_words.proofs.Fits.{KnownChange, newest, no_more, not_there, one_more, put_found, user_more}
use Rattle.nf_words.proofs.Found.{found_has, found_passes, put_is_found}
use Rattle.nf_words.proofs.Ways.{present_row}
use Rattle.nf_words.specs.Prelude.{AreSound, counted, is_joined, is_member, is_taken, IsLean, IsMountSound, IsShareSound, join_limit, joined_by, left_by, membership, mount_limit, mounts_joined, new_root, new_user, people_changed, people_limit, put_mounts, raised, row_named, user_made}
use Rattle.nf_words.specs.declared.answer.Breach.{Breach}
use Rattle.nf_words.specs.declared.answer.Limit.{Limit}
use Rattle.nf_words.specs.declared.answer.Limit.TheVariants as limit
use Rattle.nf_words.specs.declared.request.PeopleAsk.{PeopleAsk}
use Rattle.nf_words.specs.declared.request.PeopleAsk.TheVariants as ask

-- ---- changes that stand alone

one_lean : (t : Tables) (change : Change) → Differs t change → IsLean t (change ∷ [])
one_lean t change differs = record {
  once = λ i j d before within. absurd (omega arith);
  differ = All-cons (Differs t) change [] differs (All-nil (Differs t));
}

-- ---- rows that differ

-- what is put is found, so that a row that isn't there makes other tables
user_differs : (t : Tables) (row : UserRow) → user_row t.users row.id ≢ Some row → Differs t (Put (rows.User row))
user_differs t row other = λ same.
    other (sym (ap (λ (u : Tables). user_row u.users row.id) same)
    ∙ put_is_found user_key (λ (x : UserRow). x.id == row.id) row t.users (eq-eqb row.id row.id refl)
    (λ x is. ap (λ (n : ℕ). n ∷ []) (eqb-true x.id row.id is)))

group_differs : (t : Tables) (row : GroupRow) → group_row t.groups row.id ≢ Some row → Differs t (Put (rows.Group row))
group_differs t row other = λ same.
    other (sym (ap (λ (u : Tables). group_row u.groups row.id) same)
    ∙ put_is_found group_key (λ (x : GroupRow). x.id == row.id) row t.groups (eq-eqb row.id row.id refl)
    (λ x is. ap (λ (n : ℕ). n ∷ []) (eqb-true x.id row.id is)))

token_differs : (t : Tables) (row : TokenRow) → holder_of t.tokens row.digest ≡ None → Differs t (Put (rows.Token row))
token_differs t row none = λ same.
    let found = put_is_found token_key (λ (x : TokenRow). bytes_eq x.digest row.digest) row t.tokens
    ((bytes_eq-Decides row.digest row.digest).1 refl) (λ x is. (bytes_eq-Decides x.digest row.digest).0 is) in
    none-some row.user (sym none ∙ sym (ap (λ (u : Tables). holder_of u.tokens row.digest) same) ∙ ap (option_map (λ x. x.user)) found)

abbrev is_row : MemberRow → MemberRow → Bool
is_row row x = x.group == row.group && x.user == row.user

row_itself : (row : MemberRow) → is_row row row ≡ true
row_itself row = and_from (row.group == row.group) (row.user == row.user) (eq-eqb row.group row.group refl) (eq-eqb row.user row.user refl)

member_differs : (t : Tables) (row : MemberRow) → is_member t row ≡ false → Differs t (Put (rows.Member row))
member_differs t row none = λ same.
    let found = put_is_found member_key (is_row row) row t.members (row_itself row) keyed in
    let among = (find_among (is_row row) (put member_key row t.members) row found).0 in
    let there = list_any-from_Any (is_row row) (put member_key row t.members) (among.0, row, among.1, among.2, row_itself row) in
    both_ways (is_member t row) none (sym (ap (λ (u : Tables). is_member_of u.members row.group row.user) same) ∙ there)
  where
    keyed : (x : MemberRow) → is_row row x ≡ true → member_key x ≡ member_key row
    keyed x is =
        let both = and_parts (x.group == row.group) (x.user == row.user) is in
        ap (λ (n : ℕ). n ∷ x.user ∷ []) (eqb-true x.group row.group both.0) ∙ ap (λ (n : ℕ). row.group ∷ n ∷ []) (eqb-true x.user row.user both.1)

-- who is dropped is no member any more
pub none_left : (group user : ℕ) (members : List MemberRow)
    → is_member_of (dropped member_key (group ∷ user ∷ []) members) group user ≡ false
none_left group user [] = refl
none_left group user (x ∷ members) = here (bytes_eq (group ∷ user ∷ []) (member_key x)) refl (none_left group user members)
  where
    other : bytes_eq (group ∷ user ∷ []) (member_key x) ≡ false → (x.group == group && x.user == user) ≡ false
    other off = here (x.group == group) (x.user == user) refl refl
      where
        here : (a b : Bool) → (x.group == group) ≡ a → (x.user == user) ≡ b → (a && b) ≡ false
        here true true g u =
            absurd (both_ways (bytes_eq (group ∷ user ∷ []) (member_key x)) off
            ((bytes_eq-Decides (group ∷ user ∷ []) (member_key x)).1
            (ap (λ (n : ℕ). n ∷ user ∷ []) (sym (eqb-true x.group group g)) ∙ ap (λ (n : ℕ). x.group ∷ n ∷ []) (sym (eqb-true x.user user u)))))
        here true false g u = refl
        here false b g u = refl

    here : (b : Bool) → bytes_eq (group ∷ user ∷ []) (member_key x) ≡ b
        → is_member_of (dropped member_key (group ∷ user ∷ []) members) group user ≡ false
        → is_member_of (if not b then x ∷ dropped member_key (group ∷ user ∷ []) members else dropped member_key (group ∷ user ∷ []) members) group user
        ≡ false
    here true e rest = rest
    here false e rest = rw (other e) rest

left_differs : (t : Tables) (row : MemberRow) → is_member t row ≡ true → Differs t (Drop (keys.Member row.group row.user))
left_differs t row is = λ same.
    both_ways (is_member t row)
    (sym (ap (λ (u : Tables). is_member_of u.members row.group row.user) same) ∙ none_left row.group row.user t.members) is

-- ---- what passes

pub one_passes : (a : Bool) (which : Limit) → (if a then Some which else None) ≡ None → a ≡ false
one_passes false which none = refl
one_passes true which none = absurd (cc)

pub either_off : (a b : Bool) → (a || b) ≡ false → (a ≡ false) × (b ≡ false)
either_off false b off = (refl, off)
either_off true b off = absurd (cc)

pub three_pass : (a b c : Bool) → (if a then Some limit.Users else if b then Some limit.Tokens else if c then Some limit.Nodes else None) ≡ None
    → (a ≡ false) × (b ≡ false) × (c ≡ false)
three_pass false false false none = (refl, refl, refl)
three_pass a b c none = absurd (cc)

pub none_of : {X : Type 0} (o : Option X) → is_some o ≡ false → o ≡ None
none_of None off = refl
none_of (Some x) off = absurd (cc)

-- the group of a name is there
group_row_there : (groups : List GroupRow) (name : List ℕ) (id : ℕ) → group_named groups name ≡ Some id → is_some (group_row groups id) ≡ true
group_row_there groups name id is = here (find (λ (row : GroupRow). bytes_eq row.name name) groups) refl is
  where
    here : (o : Option GroupRow) → find (λ (row : GroupRow). bytes_eq row.name name) groups ≡ o → option_map (λ row. row.id) o ≡ Some id
        → is_some (group_row groups id) ≡ true
    here None e is = absurd (none-some id is)
    here (Some row) e is =
        let among = (find_among (λ (row : GroupRow). bytes_eq row.name name) groups row e).0 in
        found_any (λ (x : GroupRow). x.id == id) groups
        (list_any-from_Any (λ (x : GroupRow). x.id == id) groups
        (among.0, row, among.1, among.2, eq-eqb row.id id (same_Some row.id id is)))

module _ (t : Tables) (now : ℕ) (sound : AreSound t) where
  -- ---- a new user

  user_fresh : (row : UserRow) → row.id ≡ t.meta.next_user → user_row t.users row.id ≢ Some row
  user_fresh row id = λ is.
      let given = subst (λ (o : Option UserRow). IfSome o (λ (old : UserRow). old.id < t.meta.next_user)) is
      (found_has (λ (old : UserRow). old.id < t.meta.next_user) (λ (old : UserRow). old.id == row.id) t.users sound.users_given) in
      absurd (omega (arith, given, id))

  user_known : (name token : List ℕ) (quota : ℕ) → (is_some (user_named t.users name) || is_some (holder_of t.tokens token)) ≡ false
      → people_limit t (ask.NewUser name token quota) ≡ None → KnownChange t now (user_made t now name token quota) None
  user_known name token quota free few =
      let unnamed = either_off (is_some (user_named t.users name)) (is_some (holder_of t.tokens token)) free in
      let passed = three_pass _ _ _ few in
      let users = either_off _ _ passed.0 in
      let nodes = either_off _ _ passed.2 in
      let row = new_user t name quota in
      let root = new_root t now name in
      let holds : TokenRow = record { digest = token; user = t.meta.next_user } in
      let changes = user_made t now name token quota in
      let up = raised t now changes None in
      let made_user = made (made up (Put (rows.User row))) (Put (rows.Node root)) in
      record {
        rows = user_more up row root (Put (rows.Token holds) ∷ []) (
          refl,
          record {
            newest = sound.users_given;
            given = omega arith;
            unnamed = none_of _ unnamed.0;
            few = ltb-false _ _ users.0;
            of_user = refl;
            owner = refl;
            place = refl;
            name = refl;
            folder = refl;
            empty = refl;
            newest_node = newest t sound;
            unshared = All-weaker (IsShareSound t) (λ (share : ShareRow). share.node < t.meta.next_node) (λ share s. s.node) t.shares sound.others.shares;
            unused = All-weaker (IsMountSound t) (λ (mount : MountRow). mount.node < t.meta.next_node) (λ mount s. s.node) t.mounts sound.others.mounts;
            given_node = omega arith;
            changed = le_refl _;
            few_nodes = ltb-false _ _ nodes.0;
          },
          le_refl _,
        )
            (one_more made_user (Put (rows.Token holds)) [] (
              refl,
              record {
                fresh = none_of _ unnamed.1;
                user = ap is_some (put_is_found user_key (λ (x : UserRow). x.id == row.id) row t.users (eq-eqb row.id row.id refl)
                    (λ x is. ap (λ (n : ℕ). n ∷ []) (eqb-true x.id row.id is)));
                few = ltb-false _ _ passed.1;
              },
            )
            (no_more (made made_user (Put (rows.Token holds)))));
        lean = record {
          once = AllPairs-cons Once (Put (rows.User row)) (Put (rows.Node root) ∷ Put (rows.Token holds) ∷ [])
              (All-cons (Once (Put (rows.User row))) (Put (rows.Node root)) (Put (rows.Token holds) ∷ []) (λ same. absurd (cc))
              (All-cons (Once (Put (rows.User row))) (Put (rows.Token holds)) [] (λ same. absurd (cc)) (All-nil (Once (Put (rows.User row))))))
              (AllPairs-cons Once (Put (rows.Node root)) (Put (rows.Token holds) ∷ [])
              (All-cons (Once (Put (rows.Node root))) (Put (rows.Token holds)) [] (λ same. absurd (cc)) (All-nil (Once (Put (rows.Node root)))))
              (λ i j d before within. absurd (omega arith)));
          differ = All-cons (Differs t) (Put (rows.User row)) (Put (rows.Node root) ∷ Put (rows.Token holds) ∷ []) (user_differs t row (user_fresh row refl))
              (All-cons (Differs t) (Put (rows.Node root)) (Put (rows.Token holds) ∷ [])
              (λ same. not_there t root sound refl (sym (ap (λ (u : Tables). node_row u.nodes root.id) same) ∙ put_found root t.nodes))
              (All-cons (Differs t) (Put (rows.Token holds)) [] (token_differs t holds (none_of _ unnamed.1)) (All-nil (Differs t))));
        };
        stored = λ none. refl;
        next = tt;
        next_user = omega (arith, ltb-false _ _ users.1);
        next_group = omega arith;
        next_node = omega (arith, ltb-false _ _ nodes.1);
        next_share = omega arith;
        next_blob = omega arith;
      }

  -- ---- a new group, and a further token

  group_known : (name : List ℕ) → is_some (group_named t.groups name) ≡ false → people_limit t (ask.NewGroup name) ≡ None
      → KnownChange t now (people_changed t now (ask.NewGroup name)) None
  group_known name free few =
      let row : GroupRow = record { id = t.meta.next_group; name = name } in
      let passed = either_off _ _ (one_passes _ limit.Groups few) in
      let up = raised t now (Put (rows.Group row) ∷ []) None in
      record {
        rows = one_more up (Put (rows.Group row)) []
            (refl, record { newest = sound.groups_given; given = omega arith; unnamed = none_of _ free; few = ltb-false _ _ passed.0 })
            (no_more (made up (Put (rows.Group row))));
        lean = one_lean t (Put (rows.Group row)) (group_differs t row fresh);
        stored = λ none. refl;
        next = tt;
        next_user = omega arith;
        next_group = omega (arith, ltb-false _ _ passed.1);
        next_node = omega arith;
        next_share = omega arith;
        next_blob = omega arith;
      }
    where
      fresh : group_row t.groups t.meta.next_group ≢ Some (record { id = t.meta.next_group; name = name })
      fresh is =
          let given = subst (λ (o : Option GroupRow). IfSome o (λ (old : GroupRow). old.id < t.meta.next_group)) is
          (found_has (λ (old : GroupRow). old.id < t.meta.next_group) (λ (old : GroupRow). old.id == t.meta.next_group) t.groups sound.groups_given) in
          absurd (omega (arith, given))

  token_known : (user : ℕ) (token : List ℕ) → is_some (user_row t.users user) ≡ true → is_some (holder_of t.tokens token) ≡ false
      → nat_lt MAX_TOKENS (length t.tokens + 1) ≡ false
      → KnownChange t now (Put (rows.Token (record { digest = token; user = user })) ∷ []) None
  token_known user token there free few =
      let row : TokenRow = record { digest = token; user = user } in
      let up = raised t now (Put (rows.Token row) ∷ []) None in
      record {
        rows = one_more up (Put (rows.Token row)) [] (refl, record { fresh = none_of _ free; user = there; few = ltb-false _ _ few })
            (no_more (made up (Put (rows.Token row))));
        lean = one_lean t (Put (rows.Token row)) (token_differs t row (none_of _ free));
        stored = λ none. refl;
        next = tt;
        next_user = omega arith;
        next_group = omega arith;
        next_node = omega arith;
        next_share = omega arith;
        next_blob = omega arith;
      }

  -- ---- members

  -- who is to be a member is there, and so is the group
  pub record AreThere (row : MemberRow) : Type 0 where
    pub group : is_some (group_row t.groups row.group) ≡ true
    pub user : is_some (user_row t.users row.user) ≡ true

  -- what is shared with the group is there and another's
  joinable : (row : MemberRow) → AreThere row → All (IsMountable t) (map (λ share. (row.user, share.node)) (filter (is_joined row) t.shares))
  joinable row there =
      All-map (IsMountable t) (λ (share : ShareRow). (row.user, share.node)) (filter (is_joined row) t.shares)
      (λ k d within.
      one (get_or (filter (is_joined row) t.shares) k d) (filter_passes (is_joined row) t.shares k d within)
      (All-filter (is_joined row) (IsShareSound t) t.shares sound.others.shares k d within))
    where
      one : (share : ShareRow) → is_joined row share ≡ true → IsShareSound t share → IsMountable t (row.user, share.node)
      one share joined fine =
          let outer = and_parts _ _ joined in
          let inner = and_parts _ _ outer.0 in
          let node = present_row t.nodes share.node (fine.present (not-true share.ended inner.0)) in
          record {
            node = node.0;
            there = node.1;
            others = λ same. both_ways (share.owner == row.user) (not-true _ outer.1)
                (eq-eqb share.owner row.user (sym ((fine.of_node node.0 node.1).owner) ∙ same));
            user = there.user;
          }

  counted_mounts : (meta : MetaRow) (mounts : List MountRow) → counted meta (put_mounts mounts) ≡ meta
  counted_mounts meta [] = refl
  counted_mounts meta (m ∷ mounts) = counted_mounts meta mounts

  joins_known : (row : MemberRow) → AreThere row → join_limit t row ≡ None → KnownChange t now (joined_by t row) None
  joins_known row there few = here (is_member t row) refl few
    where
      mounts : List MountRow
      mounts = mounts_joined t row

      pairs : List (ℕ × ℕ)
      pairs = map (λ (share : ShareRow). (row.user, share.node)) (filter (is_joined row) t.shares)

      passed : (b : Bool) (o : Option Limit) → (if b then Some limit.Members else o) ≡ None → (b ≡ false) × (o ≡ None)
      passed false o none = (refl, none)
      passed true o none = absurd (cc)

      here : (b : Bool) → is_member t row ≡ b
          → (if b then None else if nat_lt MAX_MEMBERS (length t.members + 1) then Some limit.Members else mount_limit t.mounts mounts) ≡ None
          → KnownChange t now (if b then [] else Put (rows.Member row) ∷ put_mounts mounts) None
      here true e few = nothing_known t now
      here false e few =
          let fits = passed (nat_lt MAX_MEMBERS (length t.members + 1)) (mount_limit t.mounts mounts) few in
          let up = raised t now (Put (rows.Member row) ∷ put_mounts mounts) None in
          let meta : counted t.meta (Put (rows.Member row) ∷ put_mounts mounts) ≡ t.meta = counted_mounts t.meta mounts in
          let fine = All-weaker (IsMountable t) (IsMountable (made up (Put (rows.Member row))))
          (λ of is. record { node = is.node; there = is.there; others = is.others; user = is.user }) pairs (joinable row there) in
          record {
            rows = one_more up (Put (rows.Member row)) (put_mounts mounts)
                (refl, record { fresh = e; group = there.group; user = there.user; few = ltb-false _ _ fits.0 })
                (ensured_known t (made up (Put (rows.Member row))) pairs sound.few_nodes sound.others.mounts_rise fine
                (mounts_fit t.mounts mounts fits.1));
            lean = lean_with t (Put (rows.Member row)) mounts (λ m same. absurd (cc)) (member_differs t row e) (ensured_lean t pairs);
            stored = λ none. refl;
            next = tt;
            next_user = rw meta (omega arith);
            next_group = rw meta (omega arith);
            next_node = rw meta (omega arith);
            next_share = rw meta (omega arith);
            next_blob = omega arith;
          }

  leaves_known : (row : MemberRow) → KnownChange t now (left_by t row) None
  leaves_known row = here (is_member t row) refl
    where
      here : (b : Bool) → is_member t row ≡ b → KnownChange t now (if b then Drop (keys.Member row.group row.user) ∷ [] else []) None
      here true e =
          let up = raised t now (Drop (keys.Member row.group row.user) ∷ []) None in
          record {
            rows = one_more up (Drop (keys.Member row.group row.user)) [] (refl, e) (no_more (made up (Drop (keys.Member row.group row.user))));
            lean = one_lean t (Drop (keys.Member row.group row.user)) (left_differs t row e);
            stored = λ none. refl;
            next = tt;
            next_user = omega arith;
            next_group = omega arith;
            next_node = omega arith;
            next_share = omega arith;
            next_blob = omega arith;
          }
      here false e = nothing_known t now

  -- ---- what is asked

  -- a membership is of rows that are there
  pub membership_there : (user group : List ℕ) (row : MemberRow) → membership t user group ≡ Some row → AreThere row
  membership_there user group row is = here (group_named t.groups group) (user_named t.users user) refl refl is
    where
      here : (g u : Option ℕ) → group_named t.groups group ≡ g → user_named t.users user ≡ u
          → option_and_then (λ group. option_map (λ user. record { group = group; user = user }) u) g ≡ Some row → AreThere row
      here None u e f is = absurd (none-some row is)
      here (Some g) None e f is = absurd (none-some row is)
      here (Some g) (Some u) e f is =
          subst AreThere (same_Some (record { group = g; user = u }) row is)
          (record { group = group_row_there t.groups group g e; user = named_there t.users user u f })

  -- so is the row of a user by name
  pub row_there : (name : List ℕ) (row : UserRow) → row_named t name ≡ Some row → user_row t.users row.id ≡ Some row
  row_there name row is = here (user_named t.users name) is
    where
      here : (o : Option ℕ) → option_and_then (user_row t.users) o ≡ Some row → user_row t.users row.id ≡ Some row
      here None is = absurd (none-some row is)
      here (Some id) is =
          subst (λ (n : ℕ). user_row t.users n ≡ Some row) (sym (eqb-true row.id id (found_passes (λ (x : UserRow). x.id == id) t.users row is))) is

pub people_known : (t : Tables) (now : ℕ) (asked : PeopleAsk) → AreSound t → is_taken t asked ≡ false → people_limit t asked ≡ None
    → KnownChange t now (people_changed t now asked) None
people_known t now (ask.NewUser name token quota) sound free few = user_known t now sound name token quota free few
people_known t now (ask.NewGroup name) sound free few = group_known t now sound name free few
people_known t now (ask.AddMember user group) sound free few = here (membership t user group) refl few
  where
    here : (o : Option MemberRow) → membership t user group ≡ o → option_and_then (join_limit t) o ≡ None
        → KnownChange t now (option_map_or (joined_by t) o []) None
    here None e few = nothing_known t now
    here (Some row) e few = joins_known t now sound row (membership_there t now sound user group row e) few
people_known t now (ask.DropMember user group) sound free few = here (membership t user group)
  where
    here : (o : Option MemberRow) → KnownChange t now (option_map_or (left_by t) o []) None
    here None = nothing_known t now
    here (Some row) = leaves_known t now sound row
people_known t now (ask.SetQuota user quota) sound free few = nothing_known t now
people_known t now (ask.AddToken user token) sound free few = here (user_named t.users user) refl
  where
    here : (o : Option ℕ) → user_named t.users user ≡ o
        → KnownChange t now (option_map_or (λ user. Put (rows.Token (record { digest = token; user = user })) ∷ []) o []) None
    here None e = nothing_known t now
    here (Some id) e = token_known t now sound id token (named_there t.users user id e) free (one_passes _ limit.Tokens few)

-- what isn't taken
pub not_taken : (b : Bool) (fault : Breach) → (if b then Some fault else None) ≡ None → b ≡ false
not_taken false fault none = refl
not_taken true fault none = absurd (cc)
