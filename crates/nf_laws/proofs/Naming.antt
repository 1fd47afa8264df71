-- What the pieces of all rows have, where nothing is stored: each content that a row gets is none, or was that of rows before.
use Rattle.std.proofs.Common.{◌≡◌, ◌⊎◌, ◌==◌, ◌&&◌, inl, inr, ℕ, List, [], ◌∷◌, Option, None, bytes_eq, not, flat_map, get_or, sym, subst}
use Rattle.std.specs.Prelude.{is_some}
use Rattle.std.specs.List.{All}
use Rattle.std.proofs.lemmas.List.Elements.{All-append, All-filter, All-head, All-nil, All-push, All-tail}
use Rattle.std.proofs.lemmas.Option.{slice_get-get_or}
use Rattle.nf_base.specs.declared.changes.Change.{Change}
use Rattle.nf_base.specs.declared.changes.Change.TheVariants.{Drop, Put}
use Rattle.nf_base.specs.declared.changes.RowKey.TheVariants as keys
use Rattle.nf_base.specs.declared.content.Piece.{Piece}
use Rattle.nf_base.specs.declared.rows.ChunkRow.{ChunkRow}
use Rattle.nf_base.specs.declared.rows.NodeRow.{NodeRow}
use Rattle.nf_base.specs.declared.rows.Row.TheVariants as rows
use Rattle.nf_base.specs.declared.rows.VersionRow.{VersionRow}
use Rattle.nf_defs.proofs.Puts.{all_put}
use Rattle.nf_defs.specs.Prelude.{chunk_key, filled, made, node_row, relinked, Tables, version_key, without_under}
use Rattle.nf_defs.specs.Tree.{trashed}
use Rattle.nf_laws.proofs.Contents.{EachHas}
use Rattle.nf_laws.proofs.Gone.{is_left}
use Rattle.nf_laws.proofs.InTurn.{Fit, Joins}
use Rattle.nf_laws.proofs.Lists.{changes_have, IsAside, store_altered}
use Rattle.nf_laws.proofs.OneRow.{with_all}
use Rattle.nf_laws.proofs.Peopled.{people_alone}
use Rattle.nf_laws.proofs.Rows.{found_is}
use Rattle.nf_words.proofs.Bodies.{IsOfBody}
use Rattle.nf_words.proofs.Fits.{IsAgain, IsOfUpload, IsOfVersion, KnownChange}
use Rattle.nf_words.specs.Prelude.{altered, AreSound, chunks_of, deed_done, is_chunk_of, IsOfPeople}
use Rattle.nf_words.specs.declared.answer.Allowed.TheVariants as allowed
use Rattle.nf_words.specs.declared.answer.Deed.{Deed}
use Rattle.nf_words.specs.declared.answer.Deed.TheVariants as deed
use Rattle.nf_words.specs.declared.answer.Report.{Report}
use Rattle.nf_words.specs.declared.answer.Report.TheVariants as report

module _ (Q : Piece → Type 0) where
  abbrev pub Have : Tables → Type 0
  Have t = EachHas (All Q) t

  abbrev NodeHas : NodeRow → Type 0
  NodeHas row = All Q row.content

  abbrev VersionHas : VersionRow → Type 0
  VersionHas row = All Q row.content

  abbrev ChunkHas : ChunkRow → Type 0
  ChunkHas row = All Q row.content

  no_pieces : (content : List Piece) → content ≡ [] → All Q content
  no_pieces content none = subst (All Q) (sym none) (All-nil Q)

  -- ---- contents that rows have

  chunks_have : (chunks : List ChunkRow) → All ChunkHas chunks → All Q (flat_map (λ row. row.content) chunks)
  chunks_have [] all = All-nil Q
  chunks_have (row ∷ chunks) all =
      All-append Q row.content (flat_map (λ row. row.content) chunks) (All-head ChunkHas row chunks all)
      (chunks_have chunks (All-tail ChunkHas row chunks all))

  upload_has : (t : Tables) (content : List Piece) → Have t → IsOfUpload t content → All Q content
  upload_has t content have (user, dir, is) =
      subst (All Q) (sym is) (chunks_have (chunks_of t.chunks user dir) (All-filter (is_chunk_of user dir) ChunkHas t.chunks have.chunks))

  pub version_has : (t : Tables) (node : ℕ) (content : List Piece) → Have t → IsOfVersion t node content → All Q content
  version_has t node content have (version, at, found, is) =
      subst (All Q) (sym is) (found_is VersionHas (λ (row : VersionRow). row.node == node && row.at == at) t.versions version have.versions found).1

  born_has : (t : Tables) (content : List Piece) → Have t
      → IsOfBody t.meta None content ⊎ ((◌≡◌ {A = Option ℕ} None None) × IsOfUpload t content) → All Q content
  born_has t content have (inl none) = no_pieces content none
  born_has t content have (inr (same, of)) = upload_has t content have of

  filled_has : (t : Tables) (node : ℕ) (content : List Piece) → Have t
      → IsOfBody t.meta None content ⊎ ((◌≡◌ {A = Option ℕ} None None) × IsAgain t node content) → All Q content
  filled_has t node content have (inl none) = no_pieces content none
  filled_has t node content have (inr (same, inl of)) = version_has t node content have of
  filled_has t node content have (inr (same, inr of)) = upload_has t content have of

  -- ---- known changes

  aside_has : (t u : Tables) (change : Change) → Have t → Have u → IsAside t None u change → Have (made u change)
  aside_has t u (Put (rows.Version row)) first have known = record {
    nodes = have.nodes;
    versions = all_put version_key VersionHas row u.versions
        (subst VersionHas (sym known.of_was)
        (found_is NodeHas (λ (one : NodeRow). one.id == row.node) t.nodes known.was first.nodes known.there).1) have.versions;
    chunks = have.chunks;
  }
  aside_has t u (Drop (keys.Version node at)) first have known = record {
    nodes = have.nodes;
    versions = All-filter (λ (row : VersionRow). not (bytes_eq (node ∷ at ∷ []) (version_key row))) VersionHas u.versions have.versions;
    chunks = have.chunks;
  }
  aside_has t u (Put (rows.Upload row)) first have known = record { nodes = have.nodes; versions = have.versions; chunks = have.chunks }
  aside_has t u (Put (rows.Chunk row)) first have known = record {
    nodes = have.nodes;
    versions = have.versions;
    chunks = all_put chunk_key ChunkHas row u.chunks (no_pieces row.content known.body) have.chunks;
  }
  aside_has t u change first have known = absurd known

  people_have : (u : Tables) (change : Change) → Have u → IsOfPeople u change → Have (made u change)
  people_have u change have known =
      subst Have (sym (people_alone u change known)) (record { nodes = have.nodes; versions = have.versions; chunks = have.chunks })

  pub changes_named : (t : Tables) (now : ℕ) (changes : List Change) (told : Report) → AreSound t → KnownChange t now changes None → Have t
      → Have (altered t now (allowed.Change changes None told))
  changes_named t now changes told sound known first =
      changes_have Have t now changes None told sound.rising known
      (λ u row have it. record {
        nodes = All-push NodeHas u.nodes row have.nodes (born_has t row.content first it.body);
        versions = have.versions;
        chunks = have.chunks;
      })
      (λ u row have it. record {
        nodes = with_all NodeHas u.nodes row.id (filled row.content row.changed) (λ old was. filled_has t row.id row.content first it.body) have.nodes;
        versions = have.versions;
        chunks = have.chunks;
      })
      (λ u row have it. record { nodes = have.nodes; versions = have.versions; chunks = have.chunks })
      (λ u row have it. record { nodes = have.nodes; versions = have.versions; chunks = have.chunks })
      (λ u change have it. people_have u change have it) (λ u change have it. aside_has t u change first have it)
      (λ u row root have it. record {
        nodes = All-push NodeHas u.nodes root have.nodes (no_pieces root.content it.1.empty);
        versions = have.versions;
        chunks = have.chunks;
      })
      (record { nodes = first.nodes; versions = first.versions; chunks = first.chunks })

  -- ---- deeds

  -- a copy has the content of a node that is there
  copies_have : (u : Tables) (now : ℕ) (copies : List NodeRow) → Joins u now copies → All NodeHas u.nodes → All NodeHas copies
  copies_have u now copies joins have k d within =
      let copy = joins.mirrors.each k (get_or copies k d) (slice_get-get_or copies k d within) in
      subst (All Q) (sym copy.content) (found_is NodeHas (λ row. row.id == copy.node) u.nodes copy.of have copy.there).1

  -- what is moved, put in the trash or comes back keeps its content
  pub deed_named : (u : Tables) (now : ℕ) (one : Deed) → AreSound u → u.meta.last ≡ now → Fit u now one → Have u → Have (deed_done u one)
  deed_named u now (deed.Discard item) sound at fit have =
      record { nodes = with_all NodeHas u.nodes item.node trashed (λ row h. h) have.nodes; versions = have.versions; chunks = have.chunks }
  deed_named u now (deed.Purge node) sound at fit have = record {
    nodes = All-filter (λ row. is_left u.nodes node row.id) NodeHas u.nodes have.nodes;
    versions = All-filter (λ (row : VersionRow). is_some (node_row (without_under u.nodes node) row.node)) VersionHas u.versions have.versions;
    chunks = have.chunks;
  }
  deed_named u now (deed.Restore node folder name) sound at fit have =
      record { nodes = with_all NodeHas u.nodes node (relinked folder name) (λ row h. h) have.nodes; versions = have.versions; chunks = have.chunks }
  deed_named u now (deed.Relink node folder name) sound at fit have =
      record { nodes = with_all NodeHas u.nodes node (relinked folder name) (λ row h. h) have.nodes; versions = have.versions; chunks = have.chunks }
  deed_named u now (deed.Join copies) sound at joins have = record {
    nodes = All-append NodeHas u.nodes copies have.nodes (copies_have u now copies joins have.nodes);
    versions = have.versions;
    chunks = have.chunks;
  }
  deed_named u now (deed.Requote row) sound at fit have = record { nodes = have.nodes; versions = have.versions; chunks = have.chunks }
  deed_named u now (deed.Forget node moment) sound at fit have = record {
    nodes = have.nodes;
    versions = All-filter (λ (row : VersionRow). not (bytes_eq (node ∷ moment ∷ []) (version_key row))) VersionHas u.versions have.versions;
    chunks = have.chunks;
  }
  deed_named u now (deed.Store changes) sound at known have =
      subst Have (sym (store_altered u now changes report.Done at)) (changes_named u now changes report.Done sound known have)
  deed_named u now (deed.Abandon user dir) sound at fit have = record {
    nodes = have.nodes;
    versions = have.versions;
    chunks = All-filter (λ (row : ChunkRow). not (is_chunk_of user dir row)) ChunkHas u.chunks have.chunks;
  }
