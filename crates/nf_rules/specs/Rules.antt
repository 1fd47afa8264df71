-- The rules that stored rows keep. A row breaks a rule among all the rows that were loaded; rows that break a rule together each
-- break it.
use Rattle.std.specs.Prelude.{◌≡◌, ℕ, zero, suc, ◌==◌, ◌&&◌, ◌||◌, Bool, false, true, not, nat_le, nat_lt, bytes_eq, List, [], ◌∷◌, filter, map, length, sum_by, Option, None, Some, option_map, is_some, if◌then◌else◌}
use Rattle.std.specs.List.{list_any}
use Rattle.std.specs.Option.{option_map_or, option_or}
use Rattle.nf_access.specs.Shares.{chain_within, perms_of_share, share_row}
use Rattle.nf_base.specs.declared.limits.TheConstants.{MAX_CHAIN, MAX_DEPTH, MAX_GROUPS, MAX_MEMBERS, MAX_MOUNTS, MAX_PIECES, MAX_QUOTA, MAX_SHARES, MAX_TOKENS, MAX_USERS, MAX_VERSIONS}
use Rattle.nf_base.specs.declared.content.Piece.{Piece}
use Rattle.nf_base.specs.declared.rows.MetaRow.{MetaRow}
use Rattle.nf_base.specs.declared.rows.NodeRow.{NodeRow}
use Rattle.nf_base.specs.declared.rows.UserRow.{UserRow}
use Rattle.nf_base.specs.declared.rows.GroupRow.{GroupRow}
use Rattle.nf_base.specs.declared.rows.ItemRow.{ItemRow}
use Rattle.nf_base.specs.declared.rows.VersionRow.{VersionRow}
use Rattle.nf_base.specs.declared.rows.UploadRow.{UploadRow}
use Rattle.nf_base.specs.declared.rows.ChunkRow.{ChunkRow}
use Rattle.nf_base.specs.declared.rows.Row.{Row}
use Rattle.nf_base.specs.declared.rows.Row.TheVariants as rows
use Rattle.nf_base.specs.declared.rows.ShareKind.{ShareKind}
use Rattle.nf_base.specs.declared.rows.ShareKind.TheVariants as to
use Rattle.nf_base.specs.declared.rows.ShareRow.{ShareRow}
use Rattle.nf_base.specs.declared.rows.Place.{Place}
use Rattle.nf_base.specs.declared.rows.Place.TheVariants.{Root, Inside, Trash}
use Rattle.nf_defs.specs.Prelude.{is_file, is_folder_kind, is_root_place, is_under, item_row, node_row, owner_of, Tables, tables_of, user_row}
use Rattle.nf_retention.specs.Budget.{trash_bound, versions_bound}
use Rattle.nf_words.specs.Charges.{charge_of}
use Rattle.nf_words.specs.Prelude.{count_of, is_end_moment, item_size, items_of, pending_of, quota_of, root_of_user, stored_pieces, upload_row, uploads_of}
use Rattle.nf_words.specs.Versions.{content_size}
use Rattle.nf_words.specs.declared.answer.Limit.TheVariants as limit
use Rattle.nf_words.specs.declared.limits.TheConstants.{MAX_PENDING, MAX_UPLOADS}
use Rattle.nf_rules.specs.Keys.{is_shared, name_key, spelled_key}

-- ---- 1: there is one meta row, and no key comes twice

abbrev pub is_twice : List Row → Row → Bool
is_twice all row = is_shared (map spelled_key all) (spelled_key row)

abbrev pub is_meta : Row → Bool
is_meta (rows.Meta row) = true
is_meta other = false

abbrev pub lacks_meta : List Row → Bool
lacks_meta all = not (list_any is_meta all)

-- ---- 2: each number was given, from 1 on, and no moment is to come

-- the number was given, where that is the next
abbrev pub is_given : ℕ → ℕ → Bool
is_given next id = nat_lt 0 id && nat_lt id next

abbrev pub are_counters : MetaRow → Bool
are_counters meta =
    nat_lt 0 meta.next_user && nat_lt 0 meta.next_group && nat_lt 0 meta.next_node && nat_lt 0 meta.next_share && nat_lt 0 meta.next_blob

abbrev pub is_place_given : ℕ → Place → Bool
is_place_given next Root = true
is_place_given next (Inside folder) = is_given next folder
is_place_given next Trash = true

abbrev pub has_ungiven_blob : ℕ → List Piece → Bool
has_ungiven_blob next content = list_any (λ (piece : Piece). not (is_given next piece.blob)) content

abbrev pub is_recipient_given : MetaRow → ShareKind → Bool
is_recipient_given meta (to.User user) = is_given meta.next_user user
is_recipient_given meta (to.Group group) = is_given meta.next_group group
is_recipient_given meta (to.Link token) = true

abbrev pub are_share_numbers : MetaRow → ShareRow → Bool
are_share_numbers meta row =
    is_given meta.next_share row.id && is_given meta.next_node row.node && is_given meta.next_user row.owner
    && is_given meta.next_user row.initiator && is_recipient_given meta row.kind
    && option_map_or (is_given meta.next_share) row.parent true && option_map_or is_end_moment row.until true
    && not (nat_lt meta.last row.made)

-- the item's node was given, its owner and the folder that it was in, and it isn't of a moment to come
abbrev pub are_item_numbers : MetaRow → ItemRow → Bool
are_item_numbers meta row =
    is_given meta.next_node row.node && is_given meta.next_user row.owner && is_given meta.next_node row.from && not (nat_lt meta.last row.at)

-- the version's node was given, and the blobs of its content, and it isn't of a moment to come
abbrev pub are_version_numbers : MetaRow → VersionRow → Bool
are_version_numbers meta row =
    is_given meta.next_node row.node && not (has_ungiven_blob meta.next_blob row.content) && not (nat_lt meta.last row.at)

-- the upload's user was given, and it wasn't touched at a moment to come
abbrev pub are_upload_numbers : MetaRow → UploadRow → Bool
are_upload_numbers meta row = is_given meta.next_user row.user && not (nat_lt meta.last row.touched)

-- the chunk's user was given, and the blob of its content
abbrev pub are_chunk_numbers : MetaRow → ChunkRow → Bool
are_chunk_numbers meta row = is_given meta.next_user row.user && not (has_ungiven_blob meta.next_blob row.content)

abbrev pub are_numbers : MetaRow → Row → Bool
are_numbers meta (rows.Meta row) = are_counters row
are_numbers meta (rows.User row) = is_given meta.next_user row.id && is_given meta.next_node row.root
are_numbers meta (rows.Token row) = is_given meta.next_user row.user
are_numbers meta (rows.Group row) = is_given meta.next_group row.id
are_numbers meta (rows.Member row) = is_given meta.next_group row.group && is_given meta.next_user row.user
are_numbers meta (rows.Node row) =
    is_given meta.next_node row.id && is_given meta.next_user row.owner && is_place_given meta.next_node row.place
    && not (has_ungiven_blob meta.next_blob row.content) && not (nat_lt meta.last row.changed)
are_numbers meta (rows.Share row) = are_share_numbers meta row
are_numbers meta (rows.Mount row) = is_given meta.next_user row.user && is_given meta.next_node row.node
are_numbers meta (rows.Version row) = are_version_numbers meta row
are_numbers meta (rows.Item row) = are_item_numbers meta row
are_numbers meta (rows.Upload row) = are_upload_numbers meta row
are_numbers meta (rows.Chunk row) = are_chunk_numbers meta row

-- ---- 3: what a row names is there

abbrev pub is_user : Tables → ℕ → Bool
is_user t user = is_some (user_row t.users user)

abbrev pub is_group : Tables → ℕ → Bool
is_group t group = list_any (λ (row : GroupRow). row.id == group) t.groups

abbrev pub is_node : Tables → ℕ → Bool
is_node t node = is_some (node_row t.nodes node)

abbrev pub is_place_there : Tables → Place → Bool
is_place_there t Root = true
is_place_there t (Inside folder) = is_node t folder
is_place_there t Trash = true

abbrev pub is_share : Tables → ℕ → Bool
is_share t share = is_some (share_row t.shares share)

abbrev pub is_recipient_there : Tables → ShareKind → Bool
is_recipient_there t (to.User user) = is_user t user
is_recipient_there t (to.Group group) = is_group t group
is_recipient_there t (to.Link token) = true

-- the node of a share may be gone where it is ended, and that of a mount always
abbrev pub are_share_names_there : Tables → ShareRow → Bool
are_share_names_there t row =
    is_user t row.owner && is_user t row.initiator && is_recipient_there t row.kind && option_map_or (is_share t) row.parent true
    && (row.ended || is_node t row.node)

-- the user has an upload under that name
abbrev pub is_upload : Tables → ℕ → List ℕ → Bool
is_upload t user dir = is_some (upload_row t.uploads user dir)

-- the folder that an item was in may be gone
abbrev pub names_are_there : Tables → Row → Bool
names_are_there t (rows.User row) = is_node t row.root
names_are_there t (rows.Token row) = is_user t row.user
names_are_there t (rows.Member row) = is_group t row.group && is_user t row.user
names_are_there t (rows.Node row) = is_user t row.owner && is_place_there t row.place
names_are_there t (rows.Share row) = are_share_names_there t row
names_are_there t (rows.Mount row) = is_user t row.user
names_are_there t (rows.Version row) = is_node t row.node
names_are_there t (rows.Item row) = is_user t row.owner && is_node t row.node
names_are_there t (rows.Upload row) = is_user t row.user
names_are_there t (rows.Chunk row) = is_upload t row.user row.dir
names_are_there t other = true

-- ---- 4: no name is there twice, among the users, the groups, the tokens of links, or the children of a folder with the mounts of a root

abbrev pub is_namesake : List Row → Row → Bool
is_namesake all row = let t = tables_of all in is_shared (map (name_key t) all) (name_key t row)

-- ---- 5: users have their roots, nodes lead to them or into the trash, items are of what is in the trash, and versions of files

abbrev pub is_root_of : UserRow → NodeRow → Bool
is_root_of user node = is_root_place node.place && is_folder_kind node.kind && node.owner == user.id && bytes_eq node.name user.name

-- the node is its owner's root, or in a folder of the same owner from which a way leads on, or in the trash of a user, with its item
abbrev pub leads_from : Tables → NodeRow → Place → (NodeRow → Bool) → Bool
leads_from t row Root onward = row.id == root_of_user t row.owner
leads_from t row (Inside folder) onward =
    option_map_or (λ parent. is_folder_kind parent.kind && parent.owner == row.owner && onward parent) (node_row t.nodes folder) false
leads_from t row Trash onward = is_user t row.owner && is_some (item_row t.items row.id)

-- it leads to its owner's root or into the trash, at most so many folders up
unfoldable pub leads_within : ℕ → Tables → NodeRow → Bool
leads_within zero t row = leads_from t row row.place (λ parent. false)
leads_within (suc k) t row = leads_from t row row.place (leads_within k t)

unfoldable pub leads : Tables → NodeRow → Bool
leads t row = leads_within MAX_DEPTH t row

abbrev pub is_trash_place : Place → Bool
is_trash_place Root = false
is_trash_place (Inside folder) = false
is_trash_place Trash = true

-- the node is in the trash of the item's owner
abbrev pub is_trashed_as : ItemRow → NodeRow → Bool
is_trashed_as item of = is_trash_place of.place && of.owner == item.owner

-- the node is a folder of the item's owner
abbrev pub is_folder_for : ItemRow → NodeRow → Bool
is_folder_for item from = is_folder_kind from.kind && from.owner == item.owner

-- where the folder that an item was in is there, it is a folder of the item's owner
abbrev pub is_from_kept : Tables → ItemRow → Bool
is_from_kept t row = option_map_or (is_folder_for row) (node_row t.nodes row.from) true

abbrev pub is_item_kept : Tables → ItemRow → Bool
is_item_kept t row = option_map_or (is_trashed_as row) (node_row t.nodes row.node) false && is_from_kept t row

-- a version is of a file, and has a content
abbrev pub is_version_kept : Tables → VersionRow → Bool
is_version_kept t row = is_file t.nodes row.node && nat_lt 0 (length row.content)

abbrev pub is_placed : Tables → Row → Bool
is_placed t (rows.User row) = option_map_or (is_root_of row) (node_row t.nodes row.root) false
is_placed t (rows.Node row) = leads t row
is_placed t (rows.Version row) = is_version_kept t row
is_placed t (rows.Item row) = is_item_kept t row
is_placed t other = true

-- ---- 6: shares have chains and are of their owners' nodes, and mounts of others'

-- the first share of a chain was made by the node's owner, and each other comes after the one that it passes on
abbrev pub is_linked : Tables → ShareRow → Bool
is_linked t row =
    option_map_or (λ parent. nat_lt parent row.id) row.parent (row.initiator == row.owner)
    && is_some (chain_within MAX_CHAIN t.shares row.id)

-- the node is the owner's and no root, and a share of it may allow what this one does
abbrev pub is_of_node : ShareRow → NodeRow → Bool
is_of_node row of = of.owner == row.owner && not (is_root_place of.place) && perms_of_share of.kind row.kind row.perms == row.perms

-- the node leads to its owner's root
abbrev pub is_in_root : Tables → NodeRow → Bool
is_in_root t of = is_under t.nodes of.id (root_of_user t of.owner)

-- where it isn't ended its node is neither gone nor in the trash
abbrev pub is_share_kept : Tables → ShareRow → Bool
is_share_kept t row =
    is_linked t row && (row.ended || option_map_or (is_in_root t) (node_row t.nodes row.node) false)
    && option_map_or (is_of_node row) (node_row t.nodes row.node) true

abbrev pub is_shared_well : Tables → Row → Bool
is_shared_well t (rows.Share row) = is_share_kept t row
is_shared_well t (rows.Mount row) = option_map_or (λ of. not (of.owner == row.user)) (node_row t.nodes row.node) true
is_shared_well t other = true

-- ---- 7: the limits

-- the number is one of a chunk
abbrev pub is_chunk_number : ℕ → Bool
is_chunk_number number = nat_le 1 number && nat_le number MAX_PIECES

-- the chunk's number is none of a chunk, or its piece is one of too many, or its bytes are among too many of its user's
abbrev pub is_chunk_beyond : Tables → ChunkRow → Bool
is_chunk_beyond t row =
    not (is_chunk_number row.number)
    || nat_lt 0 (length row.content) && nat_lt (count_of limit.Pieces) (stored_pieces t)
    || nat_lt 0 (content_size row.content) && nat_lt MAX_PENDING (pending_of t.chunks row.user)

-- the row is one of too many
abbrev pub is_beyond : Tables → Row → Bool
is_beyond t (rows.User row) = nat_lt MAX_USERS (length t.users)
is_beyond t (rows.Token row) = nat_lt MAX_TOKENS (length t.tokens)
is_beyond t (rows.Group row) = nat_lt MAX_GROUPS (length t.groups)
is_beyond t (rows.Member row) = nat_lt MAX_MEMBERS (length t.members)
is_beyond t (rows.Node row) =
    nat_lt (count_of limit.Nodes) (length t.nodes)
    || nat_lt 0 (length row.content) && nat_lt (count_of limit.Pieces) (stored_pieces t)
is_beyond t (rows.Share row) = nat_lt MAX_SHARES (length t.shares)
is_beyond t (rows.Mount row) = nat_lt MAX_MOUNTS (length t.mounts)
is_beyond t (rows.Version row) = nat_lt MAX_VERSIONS (length t.versions) || nat_lt (count_of limit.Pieces) (stored_pieces t)
is_beyond t (rows.Upload row) = nat_lt MAX_UPLOADS (length (uploads_of t.uploads row.user))
is_beyond t (rows.Chunk row) = is_chunk_beyond t row
is_beyond t other = false

-- ---- 8: the quotas, and the bounds of versions and of trashes

abbrev pub is_lavish : Row → Bool
is_lavish (rows.User row) = nat_lt MAX_QUOTA row.quota
is_lavish other = false

-- the bytes of the versions of a user's files, in the trash too
abbrev pub held_bytes : Tables → ℕ → ℕ
held_bytes t user =
    sum_by (λ (row : VersionRow). content_size row.content) (filter (λ (row : VersionRow). owner_of t.nodes row.node == user) t.versions)

-- they are beyond half of what the charge leaves of the quota
abbrev pub are_unsettled : Tables → ℕ → Bool
are_unsettled t user = nat_lt (versions_bound (quota_of t user) (charge_of t user)) (held_bytes t user)

abbrev pub is_unsettled : Tables → VersionRow → Bool
is_unsettled t row = are_unsettled t (owner_of t.nodes row.node)

-- the bytes of a user's items
abbrev pub trash_bytes : Tables → ℕ → ℕ
trash_bytes t user = sum_by (item_size t) (items_of t user)

-- they are beyond half of the quota
abbrev pub is_heaped : Tables → ℕ → Bool
is_heaped t user = nat_lt (trash_bound (quota_of t user)) (trash_bytes t user)

abbrev pub is_over : Tables → Row → Bool
is_over t (rows.Version row) = is_unsettled t row
is_over t (rows.Item row) = is_heaped t row.owner
is_over t other = is_lavish other

-- ---- all of them

-- a rule: its number, whether a row breaks it, and whether a row is missing
pub record Rule : Type 0 where
  pub number : ℕ
  pub breaks : List Row → Row → Bool
  pub lacks : List Row → Bool

abbrev nothing : List Row → Bool
nothing all = false

-- by rising number. What comes later adds a line
abbrev pub rules : List Rule
rules =
    record { number = 1; breaks = is_twice; lacks = lacks_meta }
    ∷ record { number = 2; breaks = λ all row. not (are_numbers (tables_of all).meta row); lacks = nothing }
    ∷ record { number = 3; breaks = λ all row. not (names_are_there (tables_of all) row); lacks = nothing }
    ∷ record { number = 4; breaks = is_namesake; lacks = nothing }
    ∷ record { number = 5; breaks = λ all row. not (is_placed (tables_of all) row); lacks = nothing }
    ∷ record { number = 6; breaks = λ all row. not (is_shared_well (tables_of all) row); lacks = nothing }
    ∷ record { number = 7; breaks = λ all row. is_beyond (tables_of all) row; lacks = nothing }
    ∷ record { number = 8; breaks = λ all row. is_over (tables_of all) row; lacks = nothing }
    ∷ []

-- the first index of a row that passes the test
abbrev pub first_index : {X : Type 0} → (X → Bool) → List X → Option ℕ
first_index test [] = None
first_index test (x ∷ xs) = if test x then Some 0 else option_map suc (first_index test xs)

-- the first row that breaks a rule; a missing row would come behind the last
abbrev pub broken_at : Rule → List Row → Option ℕ
broken_at rule all = option_or (first_index (rule.breaks all) all) (if rule.lacks all then Some (length all) else None)

-- a rule that is broken, and where
pub record Broken : Type 0 where
  pub rule : ℕ
  pub index : ℕ

-- the first of some rules that is broken, and the first row that breaks it
abbrev pub first_broken : List Rule → List Row → Option Broken
first_broken [] all = None
first_broken (rule ∷ others) all =
    option_or (option_map (λ at. record { rule = rule.number; index = at }) (broken_at rule all)) (first_broken others all)

-- no rule is broken
abbrev pub AreUnbroken : List Row → Type 0
AreUnbroken all = first_broken rules all ≡ None
