-- The rows of tables that keep the rules break none.
use Rattle.std.proofs.Common.{arith, ◌≡◌, ℕ, ◌==◌, Bool, true, false, not, List, length, Option, None, Some, refl, sym, ap, subst, ◌∙◌, ◌≢◌, ◌<◌, [], ◌∷◌}
use Rattle.std.specs.Prelude.{is_some, nat_lt}
use Rattle.std.specs.List.{All, AllByRecursion}
use Rattle.std.specs.Option.{option_map_or}
use Rattle.std.proofs.lemmas.Bool.{and_from, and_right, eq-eqb, eqb-true, false≢true, le-ltb, lt-ltb, not_from_false, not_from_true, or_from}
use Rattle.std.proofs.lemmas.Slice.Eq.{bytes_eq-Decides}
use Rattle.nf_base.specs.declared.limits.TheConstants.{MAX_GROUPS, MAX_MEMBERS, MAX_MOUNTS, MAX_QUOTA, MAX_SHARES, MAX_TOKENS, MAX_USERS, MAX_VERSIONS}
use Rattle.nf_base.specs.declared.content.Piece.{Piece}
use Rattle.nf_base.specs.declared.rows.MetaRow.{MetaRow}
use Rattle.nf_base.specs.declared.rows.NodeRow.{NodeRow}
use Rattle.nf_base.specs.declared.rows.Place.{Place}
use Rattle.nf_base.specs.declared.rows.Place.TheVariants.{Root, Inside, Trash}
use Rattle.nf_base.specs.declared.rows.Row.{Row}
use Rattle.nf_base.specs.declared.rows.Row.TheVariants as rows
use Rattle.nf_base.specs.declared.rows.UserRow.{UserRow}
use Rattle.nf_defs.proofs.Tables.{tables_again}
use Rattle.nf_defs.proofs.Walks.{node_row_each}
use Rattle.nf_defs.specs.Prelude.{is_root_place, node_row, rows_of, Tables, tables_of, user_row, owner_of}
use Rattle.nf_laws.proofs.Rows.{folder_there, found_is}
use Rattle.nf_rows.specs.Spelling.{Fits}
use Rattle.nf_words.specs.Others.{IsChunkSound, IsItemSound, IsMountSound, IsUploadSound, IsVersionSound}
use Rattle.nf_words.specs.Prelude.{AreCounters, count_of, HasRoot, IsNodeSound, IsPlaceSound, charge_of, quota_of, stored_pieces}
use Rattle.nf_words.specs.declared.answer.Limit.TheVariants as limit
use Rattle.nf_rules.specs.Keys.{name_key}
use Rattle.nf_rules.specs.Laws.{RuledAreUnbroken}
use Rattle.nf_rules.specs.Ruled.{AreOrdered, IsGiven, IsGroupRuled, IsItemRuled, IsMemberRuled, IsMountRuled, IsShareRuled, IsTokenRuled, IsUserRuled, AreSettled, AreTrashesBounded}
use Rattle.nf_rules.specs.Rules.{are_counters, are_numbers, is_beyond, is_place_given, is_place_there, is_placed, is_root_of, is_shared_well, is_user, names_are_there, rules, is_over, held_bytes, trash_bytes}
use Rattle.nf_rules.proofs.Apart.{keys_unshared, names_unshared}
use Rattle.nf_rules.proofs.Firsts.{Keep, none_broken}
use Rattle.nf_rules.proofs.Items.{item_names, item_numbers, item_placed}
use Rattle.nf_rules.proofs.Leading.{sound_leads}
use Rattle.nf_rules.proofs.Shared.{AreUnshared, of_among}
use Rattle.nf_rules.proofs.Shares.{is_given_from, mount_well}
use Rattle.nf_rules.proofs.Stacked.{IsOf, rows_have}
use Rattle.nf_rules.proofs.Blobs.{blobs_given}
use Rattle.nf_rules.proofs.Uploads.{chunk_fits, chunk_numbers, chunk_user, upload_fits, upload_numbers}
use Rattle.nf_base.specs.declared.rows.VersionRow.{VersionRow}
use Rattle.nf_retention.specs.Budget.{trash_bound, versions_bound}
use Rattle.nf_laws.proofs.Files.{file_row}

-- ---- numbers

counters_are : (meta : MetaRow) → AreCounters meta → are_counters meta ≡ true
counters_are meta h =
    and_from _ _
    (and_from _ _
    (and_from _ _ (and_from _ _ (lt-ltb 0 meta.next_user h.users) (lt-ltb 0 meta.next_group h.groups)) (lt-ltb 0 meta.next_node h.nodes))
    (lt-ltb 0 meta.next_share h.shares)) (lt-ltb 0 meta.next_blob h.blobs)

-- the number of a user that is there was given
user_given : (t : Tables) (user : ℕ) → AreOrdered t → is_user t user ≡ true → IsGiven t.meta.next_user user
user_given t user h is = here (user_row t.users user) refl is
  where
    here : (o : Option UserRow) → user_row t.users user ≡ o → is_some o ≡ true → IsGiven t.meta.next_user user
    here None e is = absurd (false≢true is)
    here (Some row) e is =
        let found = found_is (IsUserRuled t) (λ (row : UserRow). row.id == user) t.users row h.users e in
        subst (IsGiven t.meta.next_user) (eqb-true row.id user found.0) found.1.id

place_given : (t : Tables) (row : NodeRow) (place : Place) → AreOrdered t
    → IsPlaceSound t row place → is_place_given t.meta.next_node place ≡ true
place_given t row Root h sound = refl
place_given t row (Inside folder) h sound =
    let parent = folder_there t.nodes folder sound.0 in
    let found = found_is (IsNodeSound t) (λ row. row.id == folder) t.nodes parent.0 h.sound.nodes parent.1 in
    let same : parent.0.id ≡ folder = eqb-true parent.0.id folder found.0 in
    is_given_from t.meta.next_node folder
    (subst (IsGiven t.meta.next_node) same (record { first = found.1.some; below = found.1.given }))
place_given t row Trash h sound = refl

node_numbers : (t : Tables) (row : NodeRow) → AreOrdered t → IsNodeSound t row
    → is_user t row.owner ≡ true → are_numbers t.meta (rows.Node row) ≡ true
node_numbers t row h sound owner =
    and_from _ _
    (and_from _ _
    (and_from _ _
    (and_from _ _ (is_given_from t.meta.next_node row.id (record { first = sound.some; below = sound.given }))
    (is_given_from t.meta.next_user row.owner (user_given t row.owner h owner)))
    (place_given t row row.place h sound.place))
    (not_from_false _ (blobs_given t row.content sound.pieces)))
    (not_from_false _ (le-ltb t.meta.last row.changed sound.changed))

-- a version's file is there, and its number was given
version_numbers : (t : Tables) (row : VersionRow) → AreOrdered t → IsVersionSound t row → are_numbers t.meta (rows.Version row) ≡ true
version_numbers t row h sound =
    let file = file_row t.nodes row.node sound.file in
    let found = found_is (IsNodeSound t) (λ (of : NodeRow). of.id == row.node) t.nodes file.0 h.sound.nodes file.1 in
    let same : file.0.id ≡ row.node = eqb-true file.0.id row.node found.0 in
    and_from _ _
    (and_from _ _
    (is_given_from t.meta.next_node row.node
    (subst (IsGiven t.meta.next_node) same (record { first = found.1.some; below = found.1.given })))
    (not_from_false _ (blobs_given t row.content sound.pieces)))
    (not_from_false _ (le-ltb t.meta.last row.at sound.at))

-- a content that isn't empty has pieces
some_content : (content : List Piece) → content ≢ [] → 0 < length content
some_content [] some = absurd (some refl)
some_content (piece ∷ content) some = omega arith

numbers_are : (t : Tables) (row : Row) → AreOrdered t → IsOf t row → are_numbers t.meta row ≡ true
numbers_are t (rows.Meta row) h is = subst (λ (meta : MetaRow). are_counters meta ≡ true) (sym is) (counters_are t.meta h.sound.counters)
numbers_are t (rows.User row) h among =
    let own = of_among (IsUserRuled t) t.users row h.users among in
    and_from _ _ (is_given_from t.meta.next_user row.id own.id) (is_given_from t.meta.next_node row.root own.root)
numbers_are t (rows.Token row) h among =
    is_given_from t.meta.next_user row.user (of_among (IsTokenRuled t) t.tokens row h.tokens among).given
numbers_are t (rows.Group row) h among = is_given_from t.meta.next_group row.id (of_among (IsGroupRuled t) t.groups row h.groups among).id
numbers_are t (rows.Member row) h among =
    let own = of_among (IsMemberRuled t) t.members row h.members among in
    and_from _ _ (is_given_from t.meta.next_group row.group own.given_group) (is_given_from t.meta.next_user row.user own.given_user)
numbers_are t (rows.Node row) h among =
    node_numbers t row h (of_among (IsNodeSound t) t.nodes row h.sound.nodes among)
    (of_among (λ (row : NodeRow). is_user t row.owner ≡ true) t.nodes row h.owners among)
numbers_are t (rows.Share row) h among = (of_among (IsShareRuled t) t.shares row h.shares among).numbers
numbers_are t (rows.Mount row) h among =
    let own = of_among (IsMountRuled t) t.mounts row h.mounts among in
    and_from _ _ (is_given_from t.meta.next_user row.user own.user) (is_given_from t.meta.next_node row.node own.node)
numbers_are t (rows.Version row) h among = version_numbers t row h (of_among (IsVersionSound t) t.versions row h.sound.others.versions among)
numbers_are t (rows.Item row) h among =
    item_numbers t row (of_among (IsItemSound t) t.items row h.sound.others.items among) (of_among (IsItemRuled t) t.items row h.items among)
numbers_are t (rows.Upload row) h among =
    let own = of_among (IsUploadSound t) t.uploads row h.sound.others.uploads among in
    upload_numbers t row own (user_given t row.user h own.user)
numbers_are t (rows.Chunk row) h among =
    let own = of_among (IsChunkSound t) t.chunks row h.sound.others.chunks among in
    chunk_numbers t row own (user_given t row.user h (chunk_user t row h.sound.others.uploads own))

-- ---- what is named is there

place_there : (t : Tables) (row : NodeRow) (place : Place) → IsPlaceSound t row place → is_place_there t place ≡ true
place_there t row Root sound = refl
place_there t row (Inside folder) sound = ap (λ (o : Option NodeRow). is_some o) (folder_there t.nodes folder sound.0).1
place_there t row Trash sound = refl

names_there : (t : Tables) (row : Row) → AreOrdered t → IsOf t row → names_are_there t row ≡ true
names_there t (rows.User row) h among =
    ap (λ (o : Option NodeRow). is_some o) (of_among (HasRoot t) t.users row h.sound.roots among).there
names_there t (rows.Token row) h among = (of_among (IsTokenRuled t) t.tokens row h.tokens among).user
names_there t (rows.Member row) h among =
    let own = of_among (IsMemberRuled t) t.members row h.members among in and_from _ _ own.group own.user
names_there t (rows.Node row) h among =
    and_from (is_user t row.owner) (is_place_there t row.place)
    (of_among (λ (row : NodeRow). is_user t row.owner ≡ true) t.nodes row h.owners among)
    (place_there t row row.place (of_among (IsNodeSound t) t.nodes row h.sound.nodes among).place)
names_there t (rows.Share row) h among = (of_among (IsShareRuled t) t.shares row h.shares among).names
names_there t (rows.Mount row) h among = (of_among (IsMountSound t) t.mounts row h.sound.others.mounts among).user
names_there t (rows.Version row) h among =
    ap (λ (o : Option NodeRow). is_some o) (file_row t.nodes row.node (of_among (IsVersionSound t) t.versions row h.sound.others.versions among).file).1
names_there t (rows.Item row) h among =
    let there = item_names t row h.owners (of_among (IsItemSound t) t.items row h.sound.others.items among) in and_from _ _ there.0 there.1
names_there t (rows.Upload row) h among = (of_among (IsUploadSound t) t.uploads row h.sound.others.uploads among).user
names_there t (rows.Chunk row) h among = (of_among (IsChunkSound t) t.chunks row h.sound.others.chunks among).upload
names_there t other h among = refl

-- ---- roots

root_placed : (t : Tables) (user : UserRow) → HasRoot t user → is_placed t (rows.User user) ≡ true
root_placed t user root =
    ap (λ (o : Option NodeRow). option_map_or (is_root_of user) o false) root.there
    ∙ and_from _ _
    (and_from _ _ (and_from _ _ (ap is_root_place root.place) root.folder) (eq-eqb root.row.owner user.id root.owner))
    ((bytes_eq-Decides root.row.name user.name).1 root.name)

all_placed : (t : Tables) (row : Row) → AreOrdered t → IsOf t row → is_placed t row ≡ true
all_placed t (rows.User row) h among = root_placed t row (of_among (HasRoot t) t.users row h.sound.roots among)
all_placed t (rows.Node row) h among =
    sound_leads t row h.sound (of_among (IsNodeSound t) t.nodes row h.sound.nodes among)
    (of_among (λ (row : NodeRow). node_row t.nodes row.id ≡ Some row) t.nodes row (node_row_each t.nodes h.sound.rising) among)
all_placed t (rows.Version row) h among =
    let own = of_among (IsVersionSound t) t.versions row h.sound.others.versions among in
    and_from _ _ own.file (lt-ltb 0 (length row.content) (some_content row.content own.some))
all_placed t (rows.Item row) h among =
    item_placed t row (of_among (IsItemSound t) t.items row h.sound.others.items among) (of_among (IsItemRuled t) t.items row h.items among)
all_placed t other h among = refl

-- ---- shares and mounts

shared_well : (t : Tables) (row : Row) → AreOrdered t → IsOf t row → is_shared_well t row ≡ true
shared_well t (rows.Share row) h among = (of_among (IsShareRuled t) t.shares row h.shares among).kept
shared_well t (rows.Mount row) h among = mount_well t row (of_among (IsMountSound t) t.mounts row h.sound.others.mounts among)
shared_well t other h among = refl

-- ---- limits

all_within : (t : Tables) (row : Row) → AreOrdered t → IsOf t row → is_beyond t row ≡ false
all_within t (rows.User row) h among = le-ltb MAX_USERS (length t.users) h.few_users
all_within t (rows.Token row) h among = le-ltb MAX_TOKENS (length t.tokens) h.few_tokens
all_within t (rows.Group row) h among = le-ltb MAX_GROUPS (length t.groups) h.few_groups
all_within t (rows.Member row) h among = le-ltb MAX_MEMBERS (length t.members) h.few_members
all_within t (rows.Node row) h among =
    or_from _ _ (le-ltb (count_of limit.Nodes) (length t.nodes) h.sound.few_nodes)
    (and_right (nat_lt 0 (length row.content)) _
    (le-ltb (count_of limit.Pieces) (stored_pieces t) h.sound.few_pieces))
all_within t (rows.Share row) h among = le-ltb MAX_SHARES (length t.shares) h.sound.others.few_shares
all_within t (rows.Mount row) h among = le-ltb MAX_MOUNTS (length t.mounts) h.sound.others.few_mounts
all_within t (rows.Version row) h among =
    or_from _ _ (le-ltb MAX_VERSIONS (length t.versions) h.sound.others.few_versions)
    (le-ltb (count_of limit.Pieces) (stored_pieces t) h.sound.few_pieces)
all_within t (rows.Upload row) h among = upload_fits t row h.sound.others.few_uploads
all_within t (rows.Chunk row) h among =
    chunk_fits t row (of_among (IsChunkSound t) t.chunks row h.sound.others.chunks among) h.sound.few_pieces h.sound.others.few_pending
all_within t other h among = refl

none_over : (t : Tables) (row : Row) → AreOrdered t → AreSettled t → AreTrashesBounded t → IsOf t row → is_over t row ≡ false
none_over t (rows.User row) h settled bounded among = le-ltb MAX_QUOTA row.quota (of_among (IsUserRuled t) t.users row h.users among).quota
none_over t (rows.Version row) h settled bounded among =
    let user = owner_of t.nodes row.node in le-ltb (versions_bound (quota_of t user) (charge_of t user)) (held_bytes t user) (settled user)
none_over t (rows.Item row) h settled bounded among =
    le-ltb (trash_bound (quota_of t row.owner)) (trash_bytes t row.owner) (bounded row.owner)
none_over t other h settled bounded among = refl

-- ---- all rules

-- a test that no row of the tables fails, in the tables that their rows make
none_fails : (test : Tables → Row → Bool) (t : Tables) → tables_of (rows_of t) ≡ t → ((row : Row) → IsOf t row → test t row ≡ true)
    → All (λ row. not (test (tables_of (rows_of t)) row) ≡ false) (rows_of t)
none_fails test t again each =
    subst (λ (u : Tables). All (λ row. not (test u row) ≡ false) (rows_of t)) (sym again)
    (rows_have (λ row. not (test t row) ≡ false) t (λ row among. not_from_true (test t row) (each row among)))

each_kept : (t : Tables) → All Fits (rows_of t) → AreOrdered t → AreSettled t → AreTrashesBounded t → AllByRecursion (Keep (rows_of t)) rules
each_kept t fits h settled bounded =
    let all : List Row = rows_of t in
    let again : tables_of all ≡ t = tables_again t h.rising in
    let names = subst (λ (u : Tables). AreUnshared (name_key u) all) (sym again) (names_unshared t h) in
    let within = subst (λ (u : Tables). All (λ row. is_beyond u row ≡ false) all) (sym again)
    (rows_have (λ row. is_beyond t row ≡ false) t (λ row among. all_within t row h among)) in
    let over = subst (λ (u : Tables). All (λ row. is_over u row ≡ false) all) (sym again)
    (rows_have (λ row. is_over t row ≡ false) t (λ row among. none_over t row h settled bounded among)) in
    keep_more (keys_unshared t fits h.rising, refl)
    (keep_more (none_fails (λ t row. are_numbers t.meta row) t again (λ row among. numbers_are t row h among), refl)
    (keep_more (none_fails names_are_there t again (λ row among. names_there t row h among), refl)
    (keep_more (names, refl)
    (keep_more (none_fails is_placed t again (λ row among. all_placed t row h among), refl)
    (keep_more (none_fails is_shared_well t again (λ row among. shared_well t row h among), refl)
    (keep_more (within, refl)
    (keep_more (over, refl) tt)))))))
  where
    keep_more : {A B : Type 0} → A → B → A × B
    keep_more one rest = (one, rest)

pub ruled_are_unbroken : RuledAreUnbroken
ruled_are_unbroken t fits h = none_broken rules (rows_of t) (each_kept t fits h.ordered h.settled h.bounded)
