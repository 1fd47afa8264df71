-- What the contents of nodes, versions and chunks have, told apart by the kind of their rows and put together.
use Rattle.std.proofs.Common.{List, [], ◌∷◌, ◌++◌, map, sym, subst}
use Rattle.std.specs.List.{All}
use Rattle.std.proofs.lemmas.List.{append-nil}
use Rattle.std.proofs.lemmas.List.Elements.{All-append, All-cons, All-head, All-map, All-nil, All-tail, All-weaker}
use Rattle.nf_base.specs.declared.content.Piece.{Piece}
use Rattle.nf_base.specs.declared.rows.ChunkRow.{ChunkRow}
use Rattle.nf_base.specs.declared.rows.NodeRow.{NodeRow}
use Rattle.nf_base.specs.declared.rows.Row.{Row}
use Rattle.nf_base.specs.declared.rows.Row.TheVariants as rows
use Rattle.nf_base.specs.declared.rows.VersionRow.{VersionRow}
use Rattle.nf_defs.proofs.Puts.{all_put}
use Rattle.nf_defs.specs.Prelude.{chunk_key, no_rows, node_key, put_row, put_rows, Tables, tables_of, version_key}
use Rattle.nf_words.specs.Others.{IsChunkSound, IsVersionSound}
use Rattle.nf_words.specs.Prelude.{AreSound, contents_of, IsNodeSound, IsPieceSound, row_content}

-- what all of a list's values have, and all of another list
apart : {X Y : Type 0} (P : Y → Type 0) (f : X → Y) (xs : List X) (ys : List Y) → All P (map f xs ++ ys)
    → All (λ (x : X). P (f x)) xs × All P ys
apart P f [] ys all = (All-nil (λ x. P (f x)), all)
apart P f (x ∷ xs) ys all =
    let rest = apart P f xs ys (All-tail P (f x) (map f xs ++ ys) all) in
    (All-cons (λ x. P (f x)) x xs (All-head P (f x) (map f xs ++ ys) all) rest.0, rest.1)

module _ (P : List Piece → Type 0) where
  -- the contents of each kind have it
  pub record EachHas (t : Tables) : Type 0 where
    pub nodes : All (λ (row : NodeRow). P row.content) t.nodes
    pub versions : All (λ (row : VersionRow). P row.content) t.versions
    pub chunks : All (λ (row : ChunkRow). P row.content) t.chunks

  pub by_kind : (t : Tables) → All P (contents_of t) → EachHas t
  by_kind t all =
      let chunks = map (λ (row : ChunkRow). row.content) t.chunks in
      let nodes = apart P (λ (row : NodeRow). row.content) t.nodes (map (λ (row : VersionRow). row.content) t.versions ++ chunks) all in
      let versions = apart P (λ (row : VersionRow). row.content) t.versions chunks nodes.1 in
      let last = apart P (λ (row : ChunkRow). row.content) t.chunks [] (subst (All P) (sym (append-nil chunks)) versions.1) in
      record { nodes = nodes.0; versions = versions.0; chunks = last.0 }

  pub all_have : (t : Tables) → EachHas t → All P (contents_of t)
  all_have t each =
      let of_nodes = All-map P (λ (row : NodeRow). row.content) t.nodes each.nodes in
      let of_versions = All-map P (λ (row : VersionRow). row.content) t.versions each.versions in
      let of_chunks = All-map P (λ (row : ChunkRow). row.content) t.chunks each.chunks in
      All-append P _ _ of_nodes (All-append P _ _ of_versions of_chunks)

  -- ---- tables that are made of rows

  put_has : (t : Tables) (row : Row) → P (row_content row) → EachHas t → EachHas (put_row t row)
  put_has t (rows.Node row) one has = record {
    nodes = all_put node_key (λ (row : NodeRow). P row.content) row t.nodes one has.nodes;
    versions = has.versions;
    chunks = has.chunks;
  }
  put_has t (rows.Version row) one has = record {
    nodes = has.nodes;
    versions = all_put version_key (λ (row : VersionRow). P row.content) row t.versions one has.versions;
    chunks = has.chunks;
  }
  put_has t (rows.Chunk row) one has = record {
    nodes = has.nodes;
    versions = has.versions;
    chunks = all_put chunk_key (λ (row : ChunkRow). P row.content) row t.chunks one has.chunks;
  }
  put_has t other one has = record { nodes = has.nodes; versions = has.versions; chunks = has.chunks }

  abbrev HasIt : Row → Type 0
  HasIt row = P (row_content row)

  puts_have : (t : Tables) (all : List Row) → All HasIt all → EachHas t → EachHas (put_rows t all)
  puts_have t [] each has = has
  puts_have t (row ∷ all) each has =
      puts_have (put_row t row) all (All-tail HasIt row all each) (put_has t row (All-head HasIt row all each) has)

  -- what each row's content has, all contents of the tables have
  pub given_have : (all : List Row) → All (λ (row : Row). P (row_content row)) all → All P (contents_of (tables_of all))
  given_have all each =
      all_have (tables_of all) (puts_have no_rows all each (record {
        nodes = All-nil (λ (row : NodeRow). P row.content);
        versions = All-nil (λ (row : VersionRow). P row.content);
        chunks = All-nil (λ (row : ChunkRow). P row.content);
      }))

-- ---- sound tables

-- all pieces are sound
pub contents_sound : (t : Tables) → AreSound t → All (All (IsPieceSound t)) (contents_of t)
contents_sound t sound =
    let Sound : List Piece → Type 0 = All (IsPieceSound t) in
    let others = sound.others in
    all_have Sound t (record {
      nodes = All-weaker (IsNodeSound t) (λ (row : NodeRow). Sound row.content) (λ row is. is.pieces) t.nodes sound.nodes;
      versions = All-weaker (IsVersionSound t) (λ (row : VersionRow). Sound row.content) (λ row is. is.pieces) t.versions others.versions;
      chunks = All-weaker (IsChunkSound t) (λ (row : ChunkRow). Sound row.content) (λ row is. is.pieces) t.chunks others.chunks;
    })
