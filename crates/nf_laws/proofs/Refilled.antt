-- The tables where a file has another content, and with a new file: but for its node only versions are others.
use Rattle.std.proofs.Common.{◌≡◌, ◌==◌, ◌&&◌, ℕ, not, Bool, true, false, List, [], ◌∷◌, ◌++◌, ◌∙◌, filter, map, if◌then◌else◌, refl, ap, ◌≢◌, subst}
use Rattle.std.specs.Prelude.{None, Option, Some}
use Rattle.std.specs.List.{All}
use Rattle.std.proofs.lemmas.Bool.{cond_both, and_parts, eqb-true}
use Rattle.std.proofs.lemmas.List.Elements.{All-append, All-cons, All-head, All-map, All-nil, All-tail}
use Rattle.nf_base.specs.declared.changes.Change.{Change}
use Rattle.nf_base.specs.declared.changes.Change.TheVariants.{Drop, Put}
use Rattle.nf_base.specs.declared.changes.RowKey.TheVariants as keys
use Rattle.nf_base.specs.declared.content.Piece.{Piece}
use Rattle.nf_base.specs.declared.rows.NodeRow.{NodeRow}
use Rattle.nf_base.specs.declared.rows.Row.TheVariants as rows
use Rattle.nf_defs.specs.Prelude.{filled, made, node_key, put, put_all, Tables, node_row}
use Rattle.nf_retention.specs.declared.versions.Version.{Version}
use Rattle.nf_words.specs.Prelude.{becomes_version, changed, charged, content_size, drop_version, gone_after, is_same, refilled, refills, turned_over, turns_over, above, counted, AreSound}
use Rattle.nf_words.specs.Versions.{drop_back, drop_gone, has_already, is_version, put_replaced, stays_version, version_for}
use Rattle.nf_words.specs.declared.answer.Allowed.TheVariants as allowed
use Rattle.nf_words.specs.declared.answer.Report.{Report}
use Rattle.nf_base.specs.declared.rows.MetaRow.{MetaRow}
use Rattle.nf_base.specs.Content.{content_eq}
use Rattle.nf_words.proofs.Bodies.{content_decides}
use Rattle.nf_words.proofs.Fits.{put_found}
use Rattle.nf_laws.proofs.Puts.{put_other}
use Rattle.nf_laws.proofs.Rows.{row_is}

-- ---- changes of versions alone

abbrev pub IsOfVersions : Change → Type 0
IsOfVersions (Put (rows.Version row)) = Unit {0}
IsOfVersions (Drop (keys.Version node at)) = Unit {0}
IsOfVersions change = ⊥

pub versions_only : (u : Tables) (changes : List Change) → All IsOfVersions changes → put_all u changes ≡ record u { versions = (put_all u changes).versions }
versions_only u [] of = refl
versions_only u (change ∷ changes) of =
    here change (All-head IsOfVersions change changes of) (versions_only (made u change) changes (All-tail IsOfVersions change changes of))
  where
    here : (change : Change) → IsOfVersions change → put_all (made u change) changes ≡ record (made u change) { versions = (put_all (made u change) changes).versions }
        → put_all (made u change) changes ≡ record u { versions = (put_all (made u change) changes).versions }
    here (Put (rows.Version row)) of rest = rest
    here (Drop (keys.Version node at)) of rest = rest
    here change of rest = absurd of

-- they count for nothing
pub versions_count : (meta : MetaRow) (changes : List Change) → All IsOfVersions changes → counted meta changes ≡ meta
versions_count meta [] of = refl
versions_count meta (change ∷ changes) of =
    here change (All-head IsOfVersions change changes of) (versions_count meta changes (All-tail IsOfVersions change changes of))
  where
    here : (change : Change) → IsOfVersions change → counted meta changes ≡ meta → counted (above meta change) changes ≡ meta
    here (Put (rows.Version row)) of rest = rest
    here (Drop (keys.Version node at)) of rest = rest
    here change of rest = absurd of

pub drops_only : (gone : List Version) → All IsOfVersions (map drop_version gone)
drops_only gone = All-map IsOfVersions drop_version gone (λ k d within. tt)

pub turned_only : (t : Tables) (back : Option ℕ) (row : NodeRow) (gone : List Version) → All IsOfVersions (turned_over t back row gone)
turned_only t back row gone =
    let stays = stays_version t back row gone in
    All-append IsOfVersions (put_replaced t row stays) (drop_back back row stays ++ drop_gone (becomes_version t.versions back row) row gone)
    (cond_both (stays && not (has_already t.versions row)) (Put (rows.Version (version_for row)) ∷ []) [] (All IsOfVersions)
    (λ e. All-cons IsOfVersions (Put (rows.Version (version_for row))) [] tt (All-nil IsOfVersions)) (λ e. All-nil IsOfVersions))
    (All-append IsOfVersions (drop_back back row stays) (drop_gone (becomes_version t.versions back row) row gone) (here back stays)
    (drops_only (filter (λ version. not (becomes_version t.versions back row && is_version row.id row.changed version)) gone)))
  where
    here : (o : Option ℕ) (b : Bool) → All IsOfVersions (drop_back o row b)
    here None b = All-nil IsOfVersions
    here (Some at) b =
        cond_both (b && at == row.changed) [] (Drop (keys.Version row.id at) ∷ []) (All IsOfVersions) (λ e. All-nil IsOfVersions)
        (λ e. All-cons IsOfVersions (Drop (keys.Version row.id at)) [] tt (All-nil IsOfVersions))

-- ---- another content

-- the nodes, where the file has that content since then
abbrev pub nodes_filled : Tables → ℕ → List Piece → NodeRow → List NodeRow
nodes_filled t now content row = if is_same now content row then t.nodes else put node_key (filled content now row) t.nodes

pub refills_made : (t : Tables) (now : ℕ) (back : Option ℕ) (content : List Piece) (row : NodeRow)
    → put_all t (refills t now back content row)
    ≡ record t { nodes = nodes_filled t now content row; versions = (put_all t (refills t now back content row)).versions }
refills_made t now back content row =
    here (is_same now content row) (turns_over t now back content row)
    (let to = charged t row.owner (content_size row.content) (content_size content) in turned_only t back row (gone_after t now back row to.quota to.charge))
  where
    here : (b : Bool) (more : List Change) → All IsOfVersions more
        → put_all t ((if b then [] else Put (rows.Node (filled content now row)) ∷ []) ++ more)
        ≡ record t {
          nodes = if b then t.nodes else put node_key (filled content now row) t.nodes;
          versions = (put_all t ((if b then [] else Put (rows.Node (filled content now row)) ∷ []) ++ more)).versions;
        }
    here true more of = versions_only t more of
    here false more of = versions_only (made t (Put (rows.Node (filled content now row)))) more of

pub refilled_made : (t : Tables) (now : ℕ) (content : List Piece) (row : NodeRow)
    → put_all t (refilled t now content row)
    ≡ record t { nodes = nodes_filled t now content row; versions = (put_all t (refilled t now content row)).versions }
refilled_made t now content row = here (is_same now content row) refl
  where
    here : (b : Bool) → is_same now content row ≡ b
        → put_all t (if b then [] else refills t now None content row)
        ≡ record t {
          nodes = if b then t.nodes else put node_key (filled content now row) t.nodes;
          versions = (put_all t (if b then [] else refills t now None content row)).versions;
        }
    here true e = refl
    here false e =
        refills_made t now None content row
        ∙ ap (λ (b : Bool). record t {
          nodes = if b then t.nodes else put node_key (filled content now row) t.nodes;
          versions = (put_all t (refills t now None content row)).versions;
        }) e

-- ---- a new file

pub added_made : (t : Tables) (row : NodeRow) (gone : List Version)
    → put_all t (Put (rows.Node row) ∷ map drop_version gone)
    ≡ record t { nodes = put node_key row t.nodes; versions = (put_all t (Put (rows.Node row) ∷ map drop_version gone)).versions }
added_made t row gone = versions_only (made t (Put (rows.Node row))) (map drop_version gone) (drops_only gone)

-- ---- the tables after a list

pub changed_nodes : (t : Tables) (now : ℕ) (changes : List Change) (blob : Option ℕ) (report : Report)
    → (changed t now (allowed.Change changes blob report)).nodes ≡ (put_all t changes).nodes
changed_nodes t now [] blob report = refl
changed_nodes t now (change ∷ changes) blob report = refl

pub changed_rest : (t : Tables) (now : ℕ) (changes : List Change) (blob : Option ℕ) (report : Report)
    → changed t now (allowed.Change changes blob report)
    ≡ record (put_all t changes) { meta = (changed t now (allowed.Change changes blob report)).meta }
changed_rest t now [] blob report = refl
changed_rest t now (change ∷ changes) blob report = refl

-- ---- a file that is filled

-- a node has another content since that moment, and no other is another
pub record IsFilledAt (before after : List NodeRow) (now node : ℕ) (content : List Piece) : Type 0 where
  pub row : NodeRow
  pub there : node_row before node ≡ Some row
  pub itself : node_row after node ≡ Some (record row { content = content; changed = now })
  pub others : (other : ℕ) → other ≢ node → node_row after other ≡ node_row before other

-- a row that has the content since then
pub filled_same : (row : NodeRow) (content : List Piece) (now : ℕ) → is_same now content row ≡ true
    → row ≡ record row { content = content; changed = now }
filled_same row content now e =
    let parts = and_parts (content_eq row.content content) (row.changed == now) e in
    let same = (content_decides row.content content).0 parts.0 in
    let moment = eqb-true row.changed now parts.1 in λ i. record row { content = same i; changed = moment i }

pub filled_at : (t : Tables) (now node : ℕ) (content : List Piece) (row : NodeRow) → AreSound t → node_row t.nodes node ≡ Some row
    → IsFilledAt t.nodes (nodes_filled t now content row) now node content
filled_at t now node content row sound there = here (is_same now content row) refl
  where
    new : NodeRow
    new = filled content now row

    here : (b : Bool) → is_same now content row ≡ b → IsFilledAt t.nodes (if b then t.nodes else put node_key new t.nodes) now node content
    here true e = record {
      row = row;
      there = there;
      itself = there ∙ ap (λ (r : NodeRow). Some r) (filled_same row content now e);
      others = λ other differs. refl;
    }
    here false e =
        let id = (row_is t node row sound there).0 in
        record {
          row = row;
          there = there;
          itself = subst (λ (n : ℕ). node_row (put node_key new t.nodes) n ≡ Some new) id (put_found new t.nodes);
          others = λ other differs. put_other new t.nodes other (λ is. differs (is ∙ id));
        }
