-- The tables with a new user and its root, and those with changes of people alone, are sound.
use Rattle.std.proofs.Common.{ℕ, ◌==◌, ◌&&◌, ◌||◌, ◌≡◌, ◌<◌, ◌≤◌, Bool, false, true, not, List, [], ◌∷◌, ◌++◌, Option, None, Some, bytes_eq, find, inl, inr, length, option_map, get_or, suc, zero, refl, sym, ap, subst, ◌∙◌, arith, le_refl, length-append}
use Rattle.std.specs.Prelude.{is_some}
use Rattle.std.specs.List.{All, AllPairs, list_any}
use Rattle.std.specs.Option.{option_map_or, option_or}
use Rattle.std.proofs.lemmas.Bool.{both_ways, cases_Bool, eq-eqb, eqb-true, or_right}
use Rattle.std.proofs.lemmas.List.Elements.{All-filter, All-nil, All-push, All-weaker}
use Rattle.std.proofs.lemmas.List.Folds.{find-append}
use Rattle.std.proofs.lemmas.List.Quantifiers.{all_pairs_push}
use Rattle.std.proofs.lemmas.List.Sums.{sum_by_push}
use Rattle.std.proofs.lemmas.Option.{same_Some}
use Rattle.std.proofs.lemmas.Slice.Eq.{bytes_eq-Decides}
use Rattle.std.specs.declared.cmp.Ordering.{Ordering}
use Rattle.std.specs.declared.cmp.Ordering.TheVariants.{Equal, Greater, Less}
use Rattle.nf_access.specs.Mounts.{root_folder}
use Rattle.nf_base.specs.declared.changes.Change.{Change}
use Rattle.nf_base.specs.declared.changes.Change.TheVariants.{Drop, Put}
use Rattle.nf_base.specs.declared.changes.RowKey.TheVariants as keys
use Rattle.nf_base.specs.declared.content.Piece.{Piece}
use Rattle.nf_base.specs.declared.limits.TheConstants.{MAX_NODES, MAX_STORED_PIECES}
use Rattle.nf_base.specs.declared.rows.GroupRow.{GroupRow}
use Rattle.nf_base.specs.declared.rows.MemberRow.{MemberRow}
use Rattle.nf_base.specs.declared.rows.MountRow.{MountRow}
use Rattle.nf_base.specs.declared.rows.NodeRow.{NodeRow}
use Rattle.nf_base.specs.declared.rows.Place.{Place}
use Rattle.nf_base.specs.declared.rows.Place.TheVariants.{Inside, Root, Trash}
use Rattle.nf_base.specs.declared.rows.Row.TheVariants as rows
use Rattle.nf_base.specs.declared.rows.ShareKind.{ShareKind}
use Rattle.nf_base.specs.declared.rows.ShareKind.TheVariants as to
use Rattle.nf_base.specs.declared.rows.ShareRow.{ShareRow}
use Rattle.nf_base.specs.declared.rows.TokenRow.{TokenRow}
use Rattle.nf_base.specs.declared.rows.UserRow.{UserRow}
use Rattle.nf_defs.proofs.Lookups.{equal_bytes}
use Rattle.nf_defs.proofs.Puts.{all_put}
use Rattle.nf_defs.specs.Prelude.{by_order, child_of, dropped, folder_of, group_key, is_in, is_place_in, key_cmp, made, member_key, node_row, put, Tables, token_key, user_key, user_row}
use Rattle.nf_laws.proofs.Added.{new_there}
use Rattle.nf_laws.proofs.Climbs.{some_there}
use Rattle.nf_laws.proofs.Files.{files_kept, versions_still}
use Rattle.nf_laws.proofs.Others.{items_still, others_from, trash_kept}
use Rattle.nf_laws.proofs.Present.{kept_leads}
use Rattle.nf_laws.proofs.Puts.{number_found, other_number, put_new}
use Rattle.nf_laws.proofs.Rows.{AreKept, climb_kept, folder_kept, found_is, kept_joined, kept_row, node_still, or_none, root_still, row_joined, top_kept}
use Rattle.nf_laws.proofs.Uploads.{uploads_still}
use Rattle.nf_words.proofs.Fits.{with_user}
use Rattle.nf_words.specs.Others.{IsKindSound, IsMountSound, IsShareSound}
use Rattle.nf_words.specs.Prelude.{AreApart, AreSound, HasRoot, IsNewGroup, IsNewMember, IsNewUser, IsNodeSound, IsOfPeople, IsPieceSound, IsPlaceSound, IsRequoted, root_of_user, stored_pieces}

-- ---- tables with other people

-- the tables with other users, tokens, groups and members, and with other nodes
abbrev pub peopled : Tables → List UserRow → List TokenRow → List GroupRow → List MemberRow → List NodeRow → Tables
peopled t users tokens groups members nodes =
    record t { users = users; tokens = tokens; groups = groups; members = members; nodes = nodes }

-- a user's row is there, with the same root
abbrev HasUser : List UserRow → ℕ → UserRow → Type 0
HasUser users user old = (row : UserRow) × (user_row users user ≡ Some row) × (row.root ≡ old.root)

-- a group is there
abbrev is_group : List GroupRow → ℕ → Bool
is_group groups group = list_any (λ row. row.id == group) groups

-- who was there is, and the nodes of shares and mounts are as they were
pub record StillSeen (t : Tables) (users : List UserRow) (groups : List GroupRow) (nodes : List NodeRow) : Type 0 where
  who : (user : ℕ) (old : UserRow) → user_row t.users user ≡ Some old → HasUser users user old
  grouped : (group : ℕ) → is_group t.groups group ≡ true → is_group groups group ≡ true
  kept : AreKept t.nodes nodes
  children : (folder : ℕ) (name : List ℕ) → child_of nodes folder name ≡ child_of t.nodes folder name
  of_shares : All (λ (share : ShareRow). node_row nodes share.node ≡ node_row t.nodes share.node) t.shares
  of_mounts : All (λ (mount : MountRow). node_row nodes mount.node ≡ node_row t.nodes mount.node) t.mounts

module _ (t : Tables) (users : List UserRow) (tokens : List TokenRow) (groups : List GroupRow) (members : List MemberRow) (nodes : List NodeRow)
    (seen : StillSeen t users groups nodes) where
  abbrev after : Tables
  after = peopled t users tokens groups members nodes

  user_seen : (user : ℕ) → is_some (user_row t.users user) ≡ true → is_some (user_row users user) ≡ true
  user_seen user is = let old = some_there (user_row t.users user) is in ap is_some (seen.who user old.0 old.1).1

  root_seen : (user : ℕ) → is_some (user_row t.users user) ≡ true → root_folder users user ≡ root_folder t.users user
  root_seen user is =
      let old = some_there (user_row t.users user) is in
      let new = seen.who user old.0 old.1 in
      ap (λ (o : Option UserRow). option_map_or (λ row. row.root) o 0) new.1 ∙ new.2
      ∙ sym (ap (λ (o : Option UserRow). option_map_or (λ row. row.root) o 0) old.1)

  kind_seen : (kind : ShareKind) → IsKindSound t kind → IsKindSound after kind
  kind_seen (to.User user) is = user_seen user is
  kind_seen (to.Group group) is = seen.grouped group is
  kind_seen (to.Link token) is = tt

  share_seen : (share : ShareRow) → node_row nodes share.node ≡ node_row t.nodes share.node → IsShareSound t share → IsShareSound after share
  share_seen share same fine = record {
    some = fine.some;
    given = fine.given;
    made = fine.made;
    node = fine.node;
    owner = user_seen share.owner fine.owner;
    initiator = user_seen share.initiator fine.initiator;
    kind = kind_seen share.kind fine.kind;
    chained = fine.chained;
    parent = fine.parent;
    present = λ live. kept_leads t.nodes nodes share.node seen.kept (fine.present live);
    of_node = λ of there. fine.of_node of (sym same ∙ there);
  }

  mount_seen : (mount : MountRow) → node_row nodes mount.node ≡ node_row t.nodes mount.node → IsMountSound t mount → IsMountSound after mount
  mount_seen mount same fine = record {
    user = user_seen mount.user fine.user;
    node = fine.node;
    others = λ of there. fine.others of (sym same ∙ there);
    free = λ shown.
        ap (λ (folder : ℕ). child_of nodes folder mount.name) (root_seen mount.user fine.user)
        ∙ seen.children (root_folder t.users mount.user) mount.name ∙ fine.free shown;
  }

  -- a root is its owner's, who is there
  place_seen : (row : NodeRow) (place : Place) → 1 ≤ row.id → IsPlaceSound t row place → IsPlaceSound after row place
  place_seen row Root some fine = here (user_row t.users row.owner) refl fine
    where
      here : (o : Option UserRow) → user_row t.users row.owner ≡ o → row.id ≡ option_map_or (λ row. row.root) o 0 → row.id ≡ root_of_user after row.owner
      here None e none = absurd (omega (arith, some, none))
      here (Some user) e root =
          let new = seen.who row.owner user e in
          root ∙ sym new.2 ∙ sym (ap (λ (o : Option UserRow). option_map_or (λ row. row.root) o 0) new.1)
  place_seen row (Inside folder) some fine = let h = folder_kept t.nodes nodes folder seen.kept fine.0 in (h.0, h.1 ∙ fine.1)
  place_seen row Trash some fine = (user_seen row.owner fine.0, fine.1)

  pub node_seen : (row : NodeRow) → IsNodeSound t row → IsNodeSound after row
  node_seen row fine =
      node_still t after row row.place row.name (le_refl _) (le_refl _) (le_refl _) fine (place_seen row row.place fine.some fine.place)
      (record {
        steps = fine.steps;
        shallow = fine.shallow;
        top = fine.top;
        climbs = climb_kept fine.steps t.nodes nodes row.id fine.top seen.kept fine.climbs;
        ends = top_kept t.nodes nodes fine.top seen.kept fine.ends;
      })

  pub root_left : (user : UserRow) → HasRoot t user → HasRoot after user
  root_left user root = root_still t after user root (seen.kept user.root root.row root.there)

  -- what the users, groups and members keep, and new nodes, makes them sound
  pub peopled_sound : AreSound t → AllPairs (λ (a b : NodeRow). a.id < b.id) nodes → All (IsNodeSound after) nodes → AllPairs AreApart nodes
      → All (HasRoot after) users → All (λ (row : UserRow). row.id < t.meta.next_user) users
      → All (λ (row : MemberRow). is_some (user_row users row.user) ≡ true) members → All (λ (row : GroupRow). row.id < t.meta.next_group) groups
      → length nodes ≤ MAX_NODES → stored_pieces after ≤ MAX_STORED_PIECES → AreSound after
  peopled_sound sound rising fine names roots users_given members_there groups_given few_nodes few_pieces = record {
    counters = sound.counters;
    rising = rising;
    nodes = fine;
    names = names;
    roots = roots;
    users_given = users_given;
    members_there = members_there;
    groups_given = groups_given;
    few_nodes = few_nodes;
    few_pieces = few_pieces;
    others = others_from after (uploads_still t after refl refl user_seen (le_refl _) (le_refl _) sound)
        (λ k d within. share_seen _ (seen.of_shares k d within) (sound.others.shares k d within)) sound.others.shares_rise sound.others.few_shares
        (λ k d within. mount_seen _ (seen.of_mounts k d within) (sound.others.mounts k d within)) sound.others.mounts_rise
        sound.others.mounts_apart sound.others.few_mounts (versions_still t after t.versions (le_refl _) (le_refl _) sound.others.versions (files_kept t nodes sound seen.kept)) sound.others.versions_rise sound.others.few_versions
        (items_still t after (le_refl _) (trash_kept t.nodes nodes seen.kept) sound.others.items)
        sound.others.items_rise;
  }

-- where the nodes are as they were
module _ (t : Tables) (users : List UserRow) (tokens : List TokenRow) (groups : List GroupRow) (members : List MemberRow)
    (there : (user : ℕ) (old : UserRow) → user_row t.users user ≡ Some old → HasUser users user old)
    (grouped : (group : ℕ) → is_group t.groups group ≡ true → is_group groups group ≡ true) where
  same_seen : StillSeen t users groups t.nodes
  same_seen = record {
    who = there;
    grouped = grouped;
    kept = kept_row t.nodes;
    children = λ folder name. refl;
    of_shares = λ k d within. refl;
    of_mounts = λ k d within. refl;
  }

  nodes_same_sound : AreSound t → All (HasRoot t) users → All (λ (row : UserRow). row.id < t.meta.next_user) users
      → All (λ (row : MemberRow). is_some (user_row users row.user) ≡ true) members → All (λ (row : GroupRow). row.id < t.meta.next_group) groups
      → AreSound (record t { users = users; tokens = tokens; groups = groups; members = members })
  nodes_same_sound sound roots users_given members_there groups_given =
      let made = peopled t users tokens groups members t.nodes in
      peopled_sound t users tokens groups members t.nodes same_seen sound sound.rising
      (All-weaker (IsNodeSound t) (IsNodeSound made) (node_seen t users tokens groups members t.nodes same_seen) t.nodes sound.nodes) sound.names
      (All-weaker (HasRoot t) (HasRoot made) (root_left t users tokens groups members t.nodes same_seen) users roots) users_given members_there groups_given
      sound.few_nodes sound.few_pieces

-- who is there is there
pub user_same : (users : List UserRow) (user : ℕ) (old : UserRow) → user_row users user ≡ Some old → HasUser users user old
user_same users user old there = (old, there, refl)

-- ---- a user's row that is put

user_put : (row : UserRow) (users : List UserRow) → user_row (put user_key row users) row.id ≡ Some row
user_put = number_found (λ (row : UserRow). row.id)

-- who was there is, where the row of its number has the same root
put_seen : (row : UserRow) (users : List UserRow) → ((old : UserRow) → user_row users row.id ≡ Some old → row.root ≡ old.root)
    → (user : ℕ) (old : UserRow) → user_row users user ≡ Some old → HasUser (put user_key row users) user old
put_seen row users so user old there =
    elim (cases_Bool (user == row.id)) [
      | inl e ↦
          (let same = eqb-true user row.id e in
          (row, ap (user_row (put user_key row users)) same ∙ user_put row users, so old (subst (λ (n : ℕ). user_row users n ≡ Some old) same there)))
      | inr e ↦ (
        old,
        other_number (λ (r : UserRow). r.id) row users user (λ same. both_ways (user == row.id) e (eq-eqb user row.id same)) ∙ there,
        refl,
      )
    ]

-- members are there as they were
members_kept : (t : Tables) (users : List UserRow)
    → ((user : ℕ) (old : UserRow) → user_row t.users user ≡ Some old → HasUser users user old) → AreSound t
    → All (λ (row : MemberRow). is_some (user_row users row.user) ≡ true) t.members
members_kept t users there sound =
    All-weaker (λ (row : MemberRow). is_some (user_row t.users row.user) ≡ true) (λ (row : MemberRow). is_some (user_row users row.user) ≡ true)
    (λ row is. let old = some_there (user_row t.users row.user) is in ap is_some (there row.user old.0 old.1).1) t.members sound.members_there

-- ---- changes of people

requoted_sound : (t : Tables) (row : UserRow) → AreSound t → IsRequoted t row → AreSound (made t (Put (rows.User row)))
requoted_sound t row sound is =
    let users = put user_key row t.users in
    let same = λ (old : UserRow) (there : user_row t.users row.id ≡ Some old).
    ap (λ (r : UserRow). r.root) is.same ∙ ap (λ (r : UserRow). r.root) (same_Some is.old old (sym is.there ∙ there)) in
    let there = put_seen row t.users same in
    let of = found_is (HasRoot t) (λ (x : UserRow). x.id == row.id) t.users is.old sound.roots is.there in
    let given = found_is (λ (x : UserRow). x.id < t.meta.next_user) (λ (x : UserRow). x.id == row.id) t.users is.old sound.users_given is.there in
    nodes_same_sound t users t.tokens t.groups t.members there (λ group is. is) sound
    (all_put user_key (HasRoot t) row t.users (subst (HasRoot t) (sym is.same) (rooted of.1)) sound.roots)
    (all_put user_key (λ (x : UserRow). x.id < t.meta.next_user) row t.users
    (subst (λ (n : ℕ). n < t.meta.next_user) (eqb-true is.old.id row.id given.0) given.1) sound.users_given)
    (members_kept t users there sound) sound.groups_given
  where
    rooted : HasRoot t is.old → HasRoot t (record is.old { quota = row.quota })
    rooted root = record { row = root.row; there = root.there; place = root.place; folder = root.folder; owner = root.owner; name = root.name }

-- what passes a test is there with a row that is put, where that passes over it
pub any_put : {R : Type 0} (key : R → List ℕ) (test : R → Bool) (row : R) (rows : List R)
    → ((x : R) → key x ≡ key row → test x ≡ true → test row ≡ true) → list_any test rows ≡ true → list_any test (put key row rows) ≡ true
any_put key test row [] over any = absurd (cc)
any_put {R = R} key test row (x ∷ rows) over any =
    here (key_cmp (key row) (key x)) refl (test x) refl any (any_put key test row rows over)
  where
    here : (o : Ordering) → key_cmp (key row) (key x) ≡ o → (b : Bool) → test x ≡ b → (b || list_any test rows) ≡ true
        → (list_any test rows ≡ true → list_any test (put key row rows) ≡ true)
        → list_any test (by_order o (row ∷ x ∷ rows) (row ∷ rows) (x ∷ put key row rows)) ≡ true
    here Less e b is any rest = or_right (test row) (test x || list_any test rows) (ap (λ (c : Bool). c || list_any test rows) is ∙ any)
    here Equal e true is any rest =
        ap (λ (c : Bool). c || list_any test rows)
        (over x (sym ((bytes_eq-Decides (key row) (key x)).0 (equal_bytes (key row) (key x) Equal e))) is)
    here Equal e false is any rest = or_right (test row) (list_any test rows) any
    here Greater e true is any rest = ap (λ (c : Bool). c || list_any test (put key row rows)) is
    here Greater e false is any rest = or_right (test x) (list_any test (put key row rows)) (rest any)

-- a group that is put is there with the others
pub group_put : (row : GroupRow) (groups : List GroupRow) (group : ℕ) → is_group groups group ≡ true → is_group (put group_key row groups) group ≡ true
group_put row groups group =
    any_put group_key (λ (x : GroupRow). x.id == group) row groups (λ x same is. ap (λ (n : ℕ). n == group) (sym (first same)) ∙ is)
  where
    first : {a b : ℕ} → a ∷ [] ≡ b ∷ [] → a ≡ b
    first same = cc

new_group_sound : (t : Tables) (row : GroupRow) → AreSound t → IsNewGroup t row → AreSound (made t (Put (rows.Group row)))
new_group_sound t row sound is =
    nodes_same_sound t t.users t.tokens (put group_key row t.groups) t.members (user_same t.users) (group_put row t.groups) sound sound.roots sound.users_given
    sound.members_there (all_put group_key (λ (x : GroupRow). x.id < t.meta.next_group) row t.groups is.given sound.groups_given)

new_token_sound : (t : Tables) (row : TokenRow) → AreSound t → AreSound (made t (Put (rows.Token row)))
new_token_sound t row sound =
    nodes_same_sound t t.users (put token_key row t.tokens) t.groups t.members (user_same t.users) (λ group is. is) sound sound.roots sound.users_given
    sound.members_there sound.groups_given

new_member_sound : (t : Tables) (row : MemberRow) → AreSound t → IsNewMember t row → AreSound (made t (Put (rows.Member row)))
new_member_sound t row sound is =
    nodes_same_sound t t.users t.tokens t.groups (put member_key row t.members) (user_same t.users) (λ group is. is) sound sound.roots sound.users_given
    (all_put member_key (λ (x : MemberRow). is_some (user_row t.users x.user) ≡ true) row t.members is.user sound.members_there) sound.groups_given

left_sound : (t : Tables) (group user : ℕ) → AreSound t → AreSound (made t (Drop (keys.Member group user)))
left_sound t group user sound =
    nodes_same_sound t t.users t.tokens t.groups (dropped member_key (group ∷ user ∷ []) t.members) (user_same t.users) (λ group is. is) sound sound.roots
    sound.users_given
    (All-filter (λ (row : MemberRow). not (bytes_eq (group ∷ user ∷ []) (member_key row))) (λ (x : MemberRow). is_some (user_row t.users x.user) ≡ true)
    t.members sound.members_there)
    sound.groups_given

pub people_sound : (t : Tables) (change : Change) → AreSound t → IsOfPeople t change → AreSound (made t change)
people_sound t (Put (rows.User row)) sound is = requoted_sound t row sound is
people_sound t (Put (rows.Token row)) sound is = new_token_sound t row sound
people_sound t (Put (rows.Group row)) sound is = new_group_sound t row sound is
people_sound t (Put (rows.Member row)) sound is = new_member_sound t row sound is
people_sound t (Drop (keys.Member group user)) sound is = left_sound t group user sound
people_sound t change sound is = absurd is

-- they touch no node, share and mount
pub people_alone : (t : Tables) (change : Change) → IsOfPeople t change
    → made t change
    ≡ record t {
      users = (made t change).users;
      tokens = (made t change).tokens;
      groups = (made t change).groups;
      members = (made t change).members;
    }
people_alone t (Put (rows.User row)) is = refl
people_alone t (Put (rows.Token row)) is = refl
people_alone t (Put (rows.Group row)) is = refl
people_alone t (Put (rows.Member row)) is = refl
people_alone t (Drop (keys.Member group user)) is = refl
people_alone t change is = absurd is

pub people_nodes : (t : Tables) (change : Change) → IsOfPeople t change → (made t change).nodes ≡ t.nodes
people_nodes t change is = ap (λ (u : Tables). u.nodes) (people_alone t change is)

pub people_shares : (t : Tables) (change : Change) → IsOfPeople t change → (made t change).shares ≡ t.shares
people_shares t change is = ap (λ (u : Tables). u.shares) (people_alone t change is)

-- ---- a new user

-- the tables with a new user, and its root behind the other nodes
abbrev pub with_rooted : Tables → UserRow → NodeRow → Tables
with_rooted t row root = record t { users = put user_key row t.users; nodes = t.nodes ++ root ∷ [] }

pub rooted_made : (t : Tables) (row : UserRow) (root : NodeRow) → IsNewUser t row root → with_user t row root ≡ with_rooted t row root
rooted_made t row root is =
    ap (λ (nodes : List NodeRow). record t { users = put user_key row t.users; nodes = nodes }) (put_new root t.nodes is.newest_node)

module _ (t : Tables) (row : UserRow) (root : NodeRow) (sound : AreSound t) (is : IsNewUser t row root) where
  abbrev users : List UserRow
  users = put user_key row t.users

  abbrev nodes : List NodeRow
  nodes = t.nodes ++ root ∷ []

  -- a root is nobody's child
  no_child : (folder : ℕ) (name : List ℕ) → child_of nodes folder name ≡ child_of t.nodes folder name
  no_child folder name =
      ap (option_map (λ (r : NodeRow). r.id))
      (find-append (λ (r : NodeRow). is_in folder r && bytes_eq r.name name) t.nodes (root ∷ [])
      ∙ ap (option_or (find (λ (r : NodeRow). is_in folder r && bytes_eq r.name name) t.nodes)) none
      ∙ or_none (find (λ (r : NodeRow). is_in folder r && bytes_eq r.name name) t.nodes))
    where
      outside : is_in folder root ≡ false
      outside = ap (is_place_in folder) is.place

      none : find (λ (r : NodeRow). is_in folder r && bytes_eq r.name name) (root ∷ []) ≡ None
      none = simp outside refl

  -- nodes of lower numbers are as they were
  lower_same : (node : ℕ) → node < root.id → node_row nodes node ≡ node_row t.nodes node
  lower_same node less =
      row_joined t.nodes (root ∷ []) node (λ k d within same. absurd (differs k d within same))
    where
      differs : (k : ℕ) (d : NodeRow) → k < length (root ∷ []) → (get_or (root ∷ []) k d).id ≡ node → ⊥
      differs zero d within same = absurd (omega (arith, same, less))
      differs (suc k) d within same = absurd (omega arith)

  new_seen : StillSeen t users t.groups nodes
  new_seen = record {
    who = put_seen row t.users (λ old there.
        let lower = found_is (λ (x : UserRow). x.id < row.id) (λ (x : UserRow). x.id == row.id) t.users old is.newest there in
        absurd (omega (arith, lower.1, eqb-true old.id row.id lower.0)));
    grouped = λ group is. is;
    kept = kept_joined t.nodes (root ∷ []);
    children = no_child;
    of_shares = λ k d within. lower_same _ (is.unshared k d within);
    of_mounts = λ k d within. lower_same _ (is.unused k d within);
  }

  abbrev new_made : Tables
  new_made = peopled t users t.tokens t.groups t.members nodes

  root_there : node_row nodes root.id ≡ Some root
  root_there = new_there t.nodes root is.newest_node

  owner_there : user_row users root.owner ≡ Some row
  owner_there = ap (user_row users) is.owner ∙ user_put row t.users

  root_sound : 1 ≤ root.id → IsNodeSound new_made root
  root_sound some = record {
    some = some;
    given = is.given_node;
    changed = is.changed;
    pieces = subst (All (IsPieceSound new_made)) (sym is.empty) (All-nil (IsPieceSound new_made));
    folder = λ folder. is.empty;
    place = subst (λ (p : Place). IsPlaceSound new_made root p) (sym is.place)
        (sym is.of_user ∙ sym (ap (λ (o : Option UserRow). option_map_or (λ r. r.root) o 0) owner_there));
    steps = 0;
    shallow = omega arith;
    top = root.id;
    climbs = refl;
    ends = record { row = root; there = root_there; ends = ap folder_of is.place };
  }

  pub new_user_sound : 1 ≤ root.id → AreSound (with_rooted t row root)
  new_user_sound some =
      peopled_sound t users t.tokens t.groups t.members nodes new_seen sound
      (all_pairs_push (λ (a b : NodeRow). a.id < b.id) t.nodes root sound.rising is.newest_node)
      (All-push (IsNodeSound new_made) t.nodes root
      (All-weaker (IsNodeSound t) (IsNodeSound new_made) (node_seen t users t.tokens t.groups t.members nodes new_seen) t.nodes sound.nodes) (root_sound some))
      (all_pairs_push AreApart t.nodes root sound.names (λ k d within folder first second. absurd (cc)))
      (all_put user_key (HasRoot new_made) row t.users
      (record {
        row = root;
        there = ap (node_row nodes) is.of_user ∙ root_there;
        place = is.place;
        folder = is.folder;
        owner = is.owner;
        name = is.name;
      })
      (All-weaker (HasRoot t) (HasRoot new_made) (root_left t users t.tokens t.groups t.members nodes new_seen) t.users sound.roots))
      (all_put user_key (λ (x : UserRow). x.id < t.meta.next_user) row t.users is.given sound.users_given)
      (members_kept t users new_seen.who sound) sound.groups_given
      (omega (arith, is.few_nodes, length-append t.nodes (root ∷ [])))
      (omega (arith, sound.few_pieces, sum_by_push (λ row. length row.content) t.nodes root, ap (λ (c : List Piece). length c) is.empty))
