-- The versions of files: which a file has, which it keeps when its content becomes another, and which of an owner's go.
use Rattle.std.specs.Prelude.{ℕ, ◌==◌, ◌&&◌, ◌||◌, not, Bool, false, List, [], ◌∷◌, ◌++◌, filter, find, length, map, reverse, sum_by, Option, None, Some, is_none, is_some, if◌then◌else◌}
use Rattle.std.specs.List.{flat_map, list_any}
use Rattle.std.specs.Option.{option_map_or}
use Rattle.nf_base.specs.Content.{content_eq}
use Rattle.nf_base.specs.declared.changes.Change.{Change}
use Rattle.nf_base.specs.declared.changes.Change.TheVariants.{Put, Drop}
use Rattle.nf_base.specs.declared.changes.RowKey.TheVariants as keys
use Rattle.nf_base.specs.declared.content.Piece.{Piece}
use Rattle.nf_base.specs.declared.rows.NodeRow.{NodeRow}
use Rattle.nf_base.specs.declared.rows.Row.TheVariants as rows
use Rattle.nf_base.specs.declared.rows.VersionRow.{VersionRow}
use Rattle.nf_defs.specs.Prelude.{is_under, node_row, owner_of, put, Tables, version_key, walk_of}
use Rattle.nf_retention.specs.Budget.{versions_bound}
use Rattle.nf_retention.specs.Thinning.{thinned}
use Rattle.nf_retention.specs.Versions.{beyond}
use Rattle.nf_retention.specs.declared.versions.Version.{Version}
use Rattle.nf_words.specs.declared.listing.VersionLine.{VersionLine}

-- ---- which there are

-- the versions of a node, the oldest first
abbrev pub versions_of : List VersionRow → ℕ → List VersionRow
versions_of versions node = filter (λ row. row.node == node) versions

-- the one of that moment
abbrev pub version_row : List VersionRow → ℕ → ℕ → Option VersionRow
version_row versions node at = find (λ row. row.node == node && row.at == at) versions

-- those of nodes that are there
abbrev pub versions_there : List NodeRow → List VersionRow → List VersionRow
versions_there nodes versions = filter (λ row. is_some (node_row nodes row.node)) versions

-- a content of no bytes
abbrev pub is_empty : List Piece → Bool
is_empty content = length content == 0

-- the bytes of a content
abbrev pub content_size : List Piece → ℕ
content_size content = sum_by (λ piece. piece.size) content

-- what is told of them, newest first
abbrev pub version_line : VersionRow → VersionLine
version_line row = record { at = row.at; size = content_size row.content }

abbrev pub version_lines : List VersionRow → ℕ → List VersionLine
version_lines versions node = reverse (map version_line (versions_of versions node))

-- ---- which of an owner's go

-- what the bound sees of one
abbrev pub held : VersionRow → Version
held row = record { node = row.node; at = row.at; size = content_size row.content }

-- those of a user's files
abbrev pub is_held_by : List NodeRow → ℕ → VersionRow → Bool
is_held_by nodes user row = owner_of nodes row.node == user

-- a node is under one of some
abbrev pub is_under_any : List NodeRow → List ℕ → ℕ → Bool
is_under_any nodes tops node = list_any (λ top. is_under nodes node top) tops

-- of a user's files but those under some nodes
abbrev pub held_without : Tables → ℕ → List ℕ → List Version
held_without t user gone =
    map held (filter (λ row. not (is_under_any t.nodes gone row.node)) (filter (is_held_by t.nodes user) t.versions))

-- where the files of a user take up so many bytes and may take up so many, those of the user's that go
abbrev pub beyond_bound : ℕ → ℕ → List Version → List Version
beyond_bound quota charge versions = beyond (versions_bound quota charge) versions

-- ---- a content becomes another

-- the moment is that of the version that comes back
abbrev pub is_at : Option ℕ → ℕ → Bool
is_at None at = false
is_at (Some back) at = back == at

-- what a file has becomes a version when it is replaced, unless it is empty or a version of that moment stays
abbrev pub becomes_version : List VersionRow → Option ℕ → NodeRow → Bool
becomes_version versions back row =
    not (is_empty row.content) && (is_at back row.changed || is_none (version_row versions row.id row.changed))

-- what a file has, as a version
abbrev pub version_for : NodeRow → VersionRow
version_for row = record { node = row.id; at = row.changed; content = row.content }

-- a file's versions but for the one that comes back
abbrev pub staying : List VersionRow → Option ℕ → ℕ → List VersionRow
staying versions back node = filter (λ row. not (is_at back row.at)) (versions_of versions node)

-- with what is replaced among them, the oldest first
abbrev pub with_replaced : List VersionRow → Option ℕ → NodeRow → List VersionRow
with_replaced versions back row =
    let others = staying versions back row.id in
    if becomes_version versions back row then put version_key (version_for row) others else others

-- the moments of those that thin out then, where there was something to replace
abbrev pub thinned_out : ℕ → NodeRow → List VersionRow → List ℕ
thinned_out now row versions = if is_empty row.content then [] else thinned now (reverse (map (λ row. row.at) versions))

abbrev pub is_among : List ℕ → ℕ → Bool
is_among moments at = list_any (λ moment. moment == at) moments

-- of a file's versions, newest first, those of some moments, and the others
abbrev pub those_at : List ℕ → List VersionRow → List Version
those_at moments versions = filter (λ version. is_among moments version.at) (reverse (map held versions))

abbrev pub those_but : List ℕ → List VersionRow → List Version
those_but moments versions = filter (λ version. not (is_among moments version.at)) (reverse (map held versions))

-- those of a user's other files
abbrev pub held_beside : Tables → ℕ → ℕ → List Version
held_beside t user node = map held (filter (is_held_by t.nodes user) (filter (λ row. not (row.node == node)) t.versions))

-- the versions that go where so many bytes take the place of what a file has, and its owner's files then take up `charge` of `quota`: of
-- the file those that thin out, and then of all of the owner's those that are beyond the bound
abbrev pub gone_after : Tables → ℕ → Option ℕ → NodeRow → ℕ → ℕ → List Version
gone_after t now back row quota charge =
    let versions = with_replaced t.versions back row in
    let thin = thinned_out now row versions in
    those_at thin versions ++ beyond_bound quota charge (held_beside t row.owner row.id ++ those_but thin versions)

-- ---- told as changes

abbrev pub is_version : ℕ → ℕ → Version → Bool
is_version node at version = version.node == node && version.at == at

-- what is replaced is a version then
abbrev pub stays_version : Tables → Option ℕ → NodeRow → List Version → Bool
stays_version t back row gone = becomes_version t.versions back row && not (list_any (is_version row.id row.changed) gone)

-- the file has a version of that moment and content already
abbrev pub has_already : List VersionRow → NodeRow → Bool
has_already versions row = option_map_or (λ version. content_eq version.content row.content) (version_row versions row.id row.changed) false

-- so it is put, unless it is there already
abbrev pub put_replaced : Tables → NodeRow → Bool → List Change
put_replaced t row stays = if stays && not (has_already t.versions row) then Put (rows.Version (version_for row)) ∷ [] else []

-- the one that comes back is dropped, unless what is replaced takes its place
abbrev pub drop_back : Option ℕ → NodeRow → Bool → List Change
drop_back None row stays = []
drop_back (Some at) row stays = if stays && at == row.changed then [] else Drop (keys.Version row.id at) ∷ []

abbrev pub drop_version : Version → Change
drop_version version = Drop (keys.Version version.node version.at)

-- those that go are dropped, but for what is replaced, which was none
abbrev pub drop_gone : Bool → NodeRow → List Version → List Change
drop_gone becomes row gone = map drop_version (filter (λ version. not (becomes && is_version row.id row.changed version)) gone)

-- what becomes of the versions where a content becomes another
abbrev pub turned_over : Tables → Option ℕ → NodeRow → List Version → List Change
turned_over t back row gone =
    let stays = stays_version t back row gone in
    put_replaced t row stays ++ (drop_back back row stays ++ drop_gone (becomes_version t.versions back row) row gone)

-- the versions of a node are dropped
abbrev pub forgotten_of : List VersionRow → ℕ → List Change
forgotten_of versions node = map (λ row. Drop (keys.Version row.node row.at)) (versions_of versions node)

-- and those of all nodes under one
abbrev pub forgotten_under : List NodeRow → List VersionRow → ℕ → List Change
forgotten_under nodes versions top = flat_map (forgotten_of versions) (walk_of nodes top)
