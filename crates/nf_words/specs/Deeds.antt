-- What is done to nodes: the tables after it, and the list of what changed.
use Rattle.std.specs.Prelude.{ℕ, ◌+◌, ◌&&◌, not, Bool, true, List, [], ◌∷◌, ◌++◌, filter, length, map, Option, is_some, if◌then◌else◌}
use Rattle.std.specs.Option.{option_map_or}
use Rattle.nf_base.specs.declared.changes.Change.{Change}
use Rattle.nf_base.specs.declared.changes.Change.TheVariants.{Put, Drop}
use Rattle.nf_base.specs.declared.changes.RowKey.TheVariants as keys
use Rattle.nf_base.specs.declared.rows.ItemRow.{ItemRow}
use Rattle.nf_base.specs.declared.rows.NodeRow.{NodeRow}
use Rattle.nf_base.specs.declared.rows.Row.TheVariants as kinds
use Rattle.nf_base.specs.declared.rows.ShareRow.{ShareRow}
use Rattle.nf_defs.specs.Prelude.{dropped, is_under, item_key, item_row, node_row, put, put_all, relinked, Tables, upload_key, user_key, version_key, walk_of, with_node, without_under}
use Rattle.nf_defs.specs.Tree.{trashed}
use Rattle.nf_words.specs.declared.answer.Deed.{Deed}
use Rattle.nf_words.specs.declared.answer.Deed.TheVariants as deed
use Rattle.nf_words.specs.Counters.{counted}
use Rattle.nf_words.specs.Uploads.{chunks_of, is_chunk_of}
use Rattle.nf_words.specs.Versions.{forgotten_under, versions_there}

-- ---- what goes for good

-- a share that ended
abbrev pub ended_row : ShareRow → ShareRow
ended_row row = record row { ended = true }

-- the shares, where those of nodes under one are ended
abbrev pub ended_under : List NodeRow → ℕ → List ShareRow → List ShareRow
ended_under rows top shares = map (λ share. if is_under rows share.node top then ended_row share else share) shares

-- the nodes under one are dropped
abbrev pub dropped_under : List NodeRow → ℕ → List Change
dropped_under nodes top = map (λ node. Drop (keys.Node node)) (walk_of nodes top)

-- the shares of nodes under one are ended, where they weren't
abbrev pub is_closing : List NodeRow → ℕ → ShareRow → Bool
is_closing nodes top share = not share.ended && is_under nodes share.node top

abbrev pub closed_under : List NodeRow → List ShareRow → ℕ → List Change
closed_under nodes shares top = map (λ share. Put (kinds.Share (ended_row share))) (filter (is_closing nodes top) shares)

-- what becomes of the rows of a node and of those under it, where it is removed
abbrev pub gone_under : List NodeRow → List ShareRow → ℕ → List Change
gone_under nodes shares top = dropped_under nodes top ++ closed_under nodes shares top

-- ---- the tables after a deed

-- a node is in the trash as that item, and the shares of what is under it are ended
abbrev pub discarded : Tables → ItemRow → Tables
discarded t item = record t {
  nodes = with_node t.nodes item.node trashed;
  shares = ended_under t.nodes item.node t.shares;
  items = put item_key item t.items;
}

-- the nodes under one are gone for good, and so are its item and their versions; their shares are ended
abbrev pub purged : Tables → ℕ → Tables
purged t node = record t {
  nodes = without_under t.nodes node;
  shares = ended_under t.nodes node t.shares;
  items = dropped item_key (node ∷ []) t.items;
  versions = versions_there (without_under t.nodes node) t.versions;
}

-- a version is there no more
abbrev pub forgotten : Tables → ℕ → ℕ → Tables
forgotten t node at = record t { versions = dropped version_key (node ∷ at ∷ []) t.versions }

-- the node of an item is in a folder again
abbrev pub restored : Tables → ℕ → ℕ → List ℕ → Tables
restored t node folder name = record t {
  nodes = with_node t.nodes node (relinked folder name);
  items = dropped item_key (node ∷ []) t.items;
}

-- some nodes are there more
abbrev pub joined : Tables → List NodeRow → Tables
joined t rows = record t { meta = record t.meta { next_node = t.meta.next_node + length rows }; nodes = t.nodes ++ rows }

-- an upload is there no more, and so are its chunks
abbrev pub abandoned : Tables → ℕ → List ℕ → Tables
abandoned t user dir = record t {
  uploads = dropped upload_key (user ∷ length dir ∷ dir) t.uploads;
  chunks = filter (λ row. not (is_chunk_of user dir row)) t.chunks;
}

-- rows are put and dropped, and each counter is above the numbers that are put
abbrev pub replaced : Tables → List Change → Tables
replaced t changes = record (put_all t changes) { meta = counted t.meta changes }

abbrev pub deed_done : Tables → Deed → Tables
deed_done t (deed.Discard item) = discarded t item
deed_done t (deed.Purge node) = purged t node
deed_done t (deed.Restore node folder name) = restored t node folder name
deed_done t (deed.Relink node folder name) = record t { nodes = with_node t.nodes node (relinked folder name) }
deed_done t (deed.Join rows) = joined t rows
deed_done t (deed.Requote row) = record t { users = put user_key row t.users }
deed_done t (deed.Forget node at) = forgotten t node at
deed_done t (deed.Store changes) = replaced t changes
deed_done t (deed.Abandon user dir) = abandoned t user dir

-- one after the other
abbrev pub deeds_done : Tables → List Deed → Tables
deeds_done t [] = t
deeds_done t (deed ∷ deeds) = deeds_done (deed_done t deed) deeds

-- ---- the same, told as a list

-- a node's row becomes another, if it is there
abbrev pub told_node : Option NodeRow → (NodeRow → NodeRow) → List Change
told_node row change = option_map_or (λ row. Put (kinds.Node (change row)) ∷ []) row []

-- the item of a node is dropped, if it is there
abbrev pub told_item : Tables → ℕ → List Change
told_item t node = if is_some (item_row t.items node) then Drop (keys.Item node) ∷ [] else []

abbrev pub told_chunks : Tables → ℕ → List ℕ → List Change
told_chunks t user dir = map (λ row. Drop (keys.Chunk row.user row.dir row.number)) (chunks_of t.chunks user dir)

abbrev pub told_deed : Tables → Deed → List Change
told_deed t (deed.Discard item) =
    told_node (node_row t.nodes item.node) trashed ++ Put (kinds.Item item) ∷ closed_under t.nodes t.shares item.node
told_deed t (deed.Purge node) = forgotten_under t.nodes t.versions node ++ (gone_under t.nodes t.shares node ++ told_item t node)
told_deed t (deed.Restore node folder name) = Drop (keys.Item node) ∷ told_node (node_row t.nodes node) (relinked folder name)
told_deed t (deed.Relink node folder name) = told_node (node_row t.nodes node) (relinked folder name)
told_deed t (deed.Join rows) = map (λ row. Put (kinds.Node row)) rows
told_deed t (deed.Requote row) = Put (kinds.User row) ∷ []
told_deed t (deed.Forget node at) = Drop (keys.Version node at) ∷ []
told_deed t (deed.Store changes) = changes
told_deed t (deed.Abandon user dir) = told_chunks t user dir ++ Drop (keys.Upload user dir) ∷ []

-- each is told of the tables after those before it
abbrev pub told_deeds : Tables → List Deed → List Change
told_deeds t [] = []
told_deeds t (deed ∷ deeds) = told_deed t deed ++ told_deeds (deed_done t deed) deeds
