-- What is known of a new node, and of another content of a file, where no limit is passed.
use Rattle.std.proofs.Common.{◌≡◌, ◌≢◌, ◌⊎◌, ℕ, ◌+◌, ◌<◌, ◌≤◌, ◌==◌, ◌||◌, flat_map, inl, inr, sym, Bool, true, false, List, [], ◌∷◌, length, map, max, ◌∙◌, Option, if◌then◌else◌, refl, ap, subst, arith, le_refl}
use Rattle.std.specs.Prelude.{None, Some}
use Rattle.std.specs.List.{All, AllPairs}
use Rattle.std.specs.Option.{IfSome}
use Rattle.std.proofs.lemmas.Bool.{eq-eqb, eqb-true, ltb-false}
use Rattle.std.proofs.lemmas.List.Elements.{All-append, All-cons, All-filter, All-head, All-map, All-nil, All-tail, All-weaker}
use Rattle.std.proofs.lemmas.List.Kept.{AllPairs-cons}
use Rattle.nf_base.specs.declared.changes.Change.{Change}
use Rattle.nf_base.specs.declared.changes.Change.TheVariants.{Drop, Put}
use Rattle.nf_base.specs.declared.changes.RowKey.TheVariants as keys
use Rattle.nf_base.specs.declared.content.Piece.{Piece}
use Rattle.nf_base.specs.declared.limits.TheConstants.{MAX_DEPTH, MAX_NODES, MAX_STORED_PIECES, MAX_VERSIONS}
use Rattle.nf_base.specs.declared.rows.NodeKind.{NodeKind}
use Rattle.nf_base.specs.declared.rows.MountRow.{MountRow}
use Rattle.nf_base.specs.declared.rows.NodeRow.{NodeRow}
use Rattle.nf_base.specs.declared.rows.Row.TheVariants as rows
use Rattle.nf_base.specs.declared.rows.ShareRow.{ShareRow}
use Rattle.nf_base.specs.declared.rows.MetaRow.{MetaRow}
use Rattle.nf_base.specs.declared.rows.UserRow.{UserRow}
use Rattle.nf_base.specs.declared.rows.ChunkRow.{ChunkRow}
use Rattle.nf_base.specs.declared.rows.VersionRow.{VersionRow}
use Rattle.nf_retention.specs.declared.versions.Version.{Version}
use Rattle.nf_words.proofs.Forgetting.{AreTwo, drop_differs, IsVersion, pairs_map}
use Rattle.nf_words.specs.Lean.{changed_key}
use Rattle.nf_words.specs.Versions.{drop_version, version_for, version_row}
use Rattle.nf_defs.specs.Prelude.{child_of, depth, is_folder, is_folder_kind, made, node_key, node_row, put, Tables}
use Rattle.nf_words.proofs.Bodies.{IsOfBody, body_sound, IsNext, body_next, next_le, none_next, pieces_still}
use Rattle.nf_words.proofs.Found.{found_has, put_is_found}
use Rattle.nf_words.specs.Prelude.{AreSound, blob_after, chunks_of, counted, IsBorn, is_chunk_of, IsChunkSound, IsFilled, IsLean, IsMountSound, IsNewChunk, IsNewMount, IsNewShare, IsNewUpload, IsNewUser, IsNewVersion, IsNodeSound, IsOfPeople, IsOtherShare, IsPieceSound, IsRemounted, IsShareSound, IsTouched, IsUnmounted, last_number, LeadsToRoot, last_short, limit_passed, new_node, raised, stored_pieces, whole_of}
use Rattle.nf_words.specs.declared.answer.Limit.TheVariants as limit

-- ---- limits

-- so many nodes, versions and pieces more, and a node so deep, pass no limit
pub record Within (t : Tables) (n d v p b : ℕ) : Type 0 where
  pub nodes : length t.nodes + n ≤ MAX_NODES
  pub next_node : t.meta.next_node + n ≤ last_number
  pub deep : d ≤ MAX_DEPTH
  pub versions : length t.versions + v ≤ MAX_VERSIONS
  pub pieces : stored_pieces t + p ≤ MAX_STORED_PIECES
  pub next_blob : t.meta.next_blob + b ≤ last_number

none_passed : (a b c v d e : Bool)
    → (if a || b then Some limit.Nodes else if c then Some limit.Depth else if v then Some limit.Versions
    else if d || e then Some limit.Pieces else None) ≡ None
    → (a ≡ false) × (b ≡ false) × (c ≡ false) × (v ≡ false) × (d ≡ false) × (e ≡ false)
none_passed false false false false false false none = (refl, refl, refl, refl, refl, refl)
none_passed a b c v d e none = absurd (cc)

pub within : (t : Tables) (nodes deep versions pieces blobs : ℕ) → limit_passed t nodes deep versions pieces blobs ≡ None
    → Within t nodes deep versions pieces blobs
within t nodes deep versions pieces blobs none =
    let h = none_passed _ _ _ _ _ _ none in
    record {
      nodes = ltb-false _ _ h.0;
      next_node = ltb-false _ _ h.1;
      deep = ltb-false _ _ h.2;
      versions = ltb-false _ _ h.3;
      pieces = ltb-false _ _ h.4;
      next_blob = ltb-false _ _ h.5;
    }

-- ---- what is known of changes

-- what the chunks of an upload have together
abbrev pub IsOfUpload : Tables → List Piece → Type 0
IsOfUpload t content = (user : ℕ) × (dir : List ℕ) × (content ≡ whole_of t.chunks user dir)

-- the pieces of chunks, one after the other
whole_has : (P : Piece → Type 0) (chunks : List ChunkRow) → All (λ (row : ChunkRow). All P row.content) chunks
    → All P (flat_map (λ row. row.content) chunks)
whole_has P [] all = All-nil P
whole_has P (row ∷ chunks) all =
    All-append P row.content (flat_map (λ row. row.content) chunks) (All-head (λ (row : ChunkRow). All P row.content) row chunks all)
    (whole_has P chunks (All-tail (λ (row : ChunkRow). All P row.content) row chunks all))

-- they are sound, since those of each chunk are
pub upload_sound : (t u : Tables) (content : List Piece) → All (IsChunkSound t) t.chunks → t.meta.next_blob ≤ u.meta.next_blob → IsOfUpload t content
    → All (IsPieceSound u) content
upload_sound t u content chunks up of =
    subst (λ (c : List Piece). All (IsPieceSound u) c) (sym of.2)
    (pieces_still t u (whole_of t.chunks of.0 of.1) up
    (whole_has (IsPieceSound t) (chunks_of t.chunks of.0 of.1)
    (All-filter (is_chunk_of of.0 of.1) (λ (row : ChunkRow). All (IsPieceSound t) row.content) t.chunks
    (All-weaker (IsChunkSound t) (λ (row : ChunkRow). All (IsPieceSound t) row.content) (λ row s. s.pieces) t.chunks chunks))))

-- a new node, with a number that wasn't given before and the content of a body or of an upload
pub record KnownBorn (first : Tables) (blob : Option ℕ) (t : Tables) (row : NodeRow) : Type 0 where
  pub born : IsBorn t row
  pub fresh : first.meta.next_node ≤ row.id
  pub body : IsOfBody first.meta blob row.content ⊎ ((blob ≡ None) × IsOfUpload first row.content)

-- the content of a version of a file
abbrev pub IsOfVersion : Tables → ℕ → List Piece → Type 0
IsOfVersion t node content = (version : VersionRow) × (at : ℕ) × (version_row t.versions node at ≡ Some version) × (content ≡ version.content)

-- a content that rows have already: that of a version of the file, or of an upload
abbrev pub IsAgain : Tables → ℕ → List Piece → Type 0
IsAgain t node content = IsOfVersion t node content ⊎ IsOfUpload t content

-- a file, with the content of a body, of a version of it or of an upload
pub record KnownFilled (first : Tables) (blob : Option ℕ) (t : Tables) (row : NodeRow) : Type 0 where
  pub filled : IsFilled t row
  pub given : row.id < first.meta.next_node
  pub body : IsOfBody first.meta blob row.content ⊎ ((blob ≡ None) × IsAgain first row.id row.content)

-- a version, of what a file had before the step
pub record KnownVersion (first t : Tables) (row : VersionRow) : Type 0 where
  pub version : IsNewVersion t row
  pub was : NodeRow
  pub there : node_row first.nodes row.node ≡ Some was
  pub of_was : row ≡ version_for was

-- what becomes of versions
abbrev pub IsTurned : Tables → Tables → Change → Type 0
IsTurned first t (Put (rows.Version row)) = KnownVersion first t row
IsTurned first t (Drop (keys.Version node at)) = Unit {0}
IsTurned first t other = ⊥

-- a chunk, with the content of a body
pub record KnownChunk (first : Tables) (blob : Option ℕ) (t : Tables) (row : ChunkRow) : Type 0 where
  pub chunk : IsNewChunk t row
  pub body : IsOfBody first.meta blob row.content

-- what is known of a change in the tables that it meets, by the kind of its row
abbrev pub KnownRow : Tables → Option ℕ → Tables → Change → Type 0
KnownRow first blob t (Put (rows.Node row)) = KnownBorn first blob t row ⊎ KnownFilled first blob t row
KnownRow first blob t (Put (rows.Mount row)) = (blob ≡ None) × (IsRemounted t row ⊎ IsNewMount t row)
KnownRow first blob t (Put (rows.Share row)) =
    (blob ≡ None) × ((IsNewShare t row × (first.meta.next_share ≤ row.id)) ⊎ (IsOtherShare t row × (row.id < first.meta.next_share)))
KnownRow first blob t (Put (rows.Version row)) = IsTurned first t (Put (rows.Version row))
KnownRow first blob t (Put (rows.Upload row)) = IsNewUpload t row ⊎ IsTouched t row
KnownRow first blob t (Put (rows.Chunk row)) = KnownChunk first blob t row
KnownRow first blob t (Drop (keys.Version node at)) = IsTurned first t (Drop (keys.Version node at))
KnownRow first blob t other = (blob ≡ None) × IsOfPeople t other

-- a new user and its root, which has a number that wasn't given before
abbrev pub KnownUser : Tables → Option ℕ → Tables → UserRow → NodeRow → Type 0
KnownUser first blob t row root = (blob ≡ None) × IsNewUser t row root × (first.meta.next_node ≤ root.id)

-- the tables with them
abbrev pub with_user : Tables → UserRow → NodeRow → Tables
with_user t row root = made (made t (Put (rows.User row))) (Put (rows.Node root))

-- each in the tables that those before it make, but for a new user and its root, which are new together
pub data KnownRows (first : Tables) (blob : Option ℕ) : Tables → List Change → Type 0 where
  no_more : (t : Tables) → KnownRows first blob t []
  one_more : (t : Tables) (change : Change) (changes : List Change) → KnownRow first blob t change
      → KnownRows first blob (made t change) changes → KnownRows first blob t (change ∷ changes)
  user_more : (t : Tables) (row : UserRow) (root : NodeRow) (changes : List Change) → KnownUser first blob t row root
      → KnownRows first blob (with_user t row root) changes → KnownRows first blob t (Put (rows.User row) ∷ Put (rows.Node root) ∷ changes)

-- some changes, and the blob that is stored with them
pub record KnownChange (t : Tables) (now : ℕ) (changes : List Change) (blob : Option ℕ) : Type 0 where
  pub rows : KnownRows t blob (raised t now changes blob) changes
  pub lean : IsLean t changes
  pub stored : changes ≡ [] → blob ≡ None
  pub next : IsNext t.meta.next_blob blob
  pub next_user : (counted t.meta changes).next_user ≤ max t.meta.next_user last_short
  pub next_group : (counted t.meta changes).next_group ≤ max t.meta.next_group last_short
  pub next_node : (counted t.meta changes).next_node ≤ max t.meta.next_node last_number
  pub next_share : (counted t.meta changes).next_share ≤ max t.meta.next_share last_number
  pub next_blob : blob_after t.meta.next_blob blob ≤ max t.meta.next_blob last_number

-- ---- rows that differ

-- a node that is put is found
pub put_found : (row : NodeRow) (old : List NodeRow) → node_row (put node_key row old) row.id ≡ Some row
put_found row old =
    put_is_found node_key (λ (x : NodeRow). x.id == row.id) row old (eq-eqb row.id row.id refl)
    (λ x same. ap (λ (n : ℕ). n ∷ []) (eqb-true x.id row.id same))

-- so one whose row isn't there makes other tables
pub put_differs : (t : Tables) (row : NodeRow) → node_row t.nodes row.id ≢ Some row → made t (Put (rows.Node row)) ≢ t
put_differs t row other = λ same. other (sym (ap (λ (u : Tables). node_row u.nodes row.id) same) ∙ put_found row t.nodes)

-- ---- versions that go beside

abbrev pub drops : List Version → List Change
drops gone = map drop_version gone

-- they count for nothing
pub drops_count : (meta : MetaRow) (gone : List Version) → counted meta (drops gone) ≡ meta
drops_count meta [] = refl
drops_count meta (version ∷ gone) = drops_count meta gone

pub drops_rows : (first : Tables) (blob : Option ℕ) (u : Tables) (gone : List Version) → KnownRows first blob u (drops gone)
drops_rows first blob u [] = no_more u
drops_rows first blob u (version ∷ gone) =
    one_more u (drop_version version) (drops gone) tt (drops_rows first blob (made u (drop_version version)) gone)

abbrev pub Differs : Tables → Change → Type 0
Differs t change = made t change ≢ t

abbrev pub AreApart : Change → Change → Type 0
AreApart a b = changed_key a ≢ changed_key b

pub drops_lean : (t : Tables) (gone : List Version) → All (IsVersion t) gone → AllPairs AreTwo gone → IsLean t (drops gone)
drops_lean t gone there two = record {
  once = pairs_map AreApart drop_version gone (λ i j d before within same. two i j d before within (cc) (cc));
  differ = All-map (Differs t) drop_version gone (All-weaker (IsVersion t) (λ (version : Version). Differs t (drop_version version)) (drop_differs t) gone there);
}

-- a change of another row in front
pub lean_more : (t : Tables) (change : Change) (changes : List Change) → Differs t change → All (AreApart change) changes → IsLean t changes
    → IsLean t (change ∷ changes)
lean_more t change changes differs apart lean = record {
  once = AllPairs-cons AreApart change changes apart lean.once;
  differ = All-cons (Differs t) change changes differs lean.differ;
}

pub node_apart : (row : NodeRow) (gone : List Version) → All (AreApart (Put (rows.Node row))) (drops gone)
node_apart row gone = All-map (AreApart (Put (rows.Node row))) drop_version gone (λ k d within same. cc)

pub none_lean : (t : Tables) → IsLean t []
none_lean t = record { once = λ i j d before within. absurd (omega arith); differ = All-nil (λ (change : Change). made t change ≢ t) }

-- ---- a new node

-- its pieces are sound, be they of a body or of an upload
born_sound : (t u : Tables) (blob : Option ℕ) (content : List Piece) → AreSound t
    → IsOfBody t.meta blob content ⊎ ((blob ≡ None) × IsOfUpload t content) → blob_after t.meta.next_blob blob ≤ u.meta.next_blob
    → All (IsPieceSound u) content
born_sound t u blob content sound (inl of) given = body_sound t.meta u blob content sound.counters of given
born_sound t u blob content sound (inr (none, of)) given =
    upload_sound t u content sound.others.chunks (omega (arith, given, next_le t.meta.next_blob blob)) of

born_next : (t : Tables) (blob : Option ℕ) (content : List Piece) → IsOfBody t.meta blob content ⊎ ((blob ≡ None) × IsOfUpload t content)
    → IsNext t.meta.next_blob blob
born_next t blob content (inl of) = body_next t.meta blob content of
born_next t blob content (inr (none, of)) = none_next t.meta.next_blob blob none

-- its number is above all others
pub newest : (t : Tables) → AreSound t → All (λ (old : NodeRow). old.id < t.meta.next_node) t.nodes
newest t sound = All-weaker (IsNodeSound t) (λ (old : NodeRow). old.id < t.meta.next_node) (λ old s. s.given) t.nodes sound.nodes

pub not_there : (t : Tables) (row : NodeRow) → AreSound t → row.id ≡ t.meta.next_node → node_row t.nodes row.id ≢ Some row
not_there t row sound id = λ is.
    let given = subst (λ (o : Option NodeRow). IfSome o (λ (old : NodeRow). old.id < t.meta.next_node)) is
    (found_has (λ (old : NodeRow). old.id < t.meta.next_node) (λ (old : NodeRow). old.id == row.id) t.nodes (newest t sound)) in
    absurd (omega (arith, given, id))

pub new_known : (t : Tables) (now folder : ℕ) (name : List ℕ) (kind : NodeKind) (content : List Piece) (blob : Option ℕ) (blobs : ℕ) (gone : List Version)
    → AreSound t → is_folder t.nodes folder ≡ true → LeadsToRoot t.nodes folder → child_of t.nodes folder name ≡ None → IsUnmounted t folder name
    → Within t 1 (depth t.nodes folder + 1) 0 (length content) blobs → blob_after t.meta.next_blob blob ≤ t.meta.next_blob + blobs
    → IsOfBody t.meta blob content ⊎ ((blob ≡ None) × IsOfUpload t content) → (is_folder_kind kind ≡ true → content ≡ [])
    → All (IsVersion t) gone → AllPairs AreTwo gone
    → KnownChange t now (Put (rows.Node (new_node t now folder name kind content)) ∷ drops gone) blob
new_known t now folder name kind content blob blobs gone sound there present free unmounted fits counts body empty versions two =
    let row = new_node t now folder name kind content in
    let up = raised t now (Put (rows.Node row) ∷ drops gone) blob in
    let count = drops_count (record t.meta { next_node = max t.meta.next_node (row.id + 1) }) gone in
    let next = ap (λ (meta : MetaRow). meta.next_node) count in
    record {
      rows = one_more up (Put (rows.Node row)) (drops gone)
          (inl (record {
            born = record {
              folder = folder;
              place = refl;
              in_folder = there;
              present = present;
              owner = refl;
              free = free;
              unmounted = unmounted;
              newest = newest t sound;
              unshared = All-weaker (IsShareSound t) (λ (share : ShareRow). share.node < t.meta.next_node) (λ share s. s.node) t.shares sound.others.shares;
              unused = All-weaker (IsMountSound t) (λ (mount : MountRow). mount.node < t.meta.next_node) (λ mount s. s.node) t.mounts sound.others.mounts;
              given = omega (arith, next);
              changed = le_refl _;
              pieces = born_sound t up blob content sound body (le_refl _);
              empty = empty;
              deep = fits.deep;
              few_nodes = fits.nodes;
              few_pieces = fits.pieces;
            };
            fresh = le_refl _;
            body = body;
          }))
          (drops_rows t blob (made up (Put (rows.Node row))) gone);
      lean = lean_more t (Put (rows.Node row)) (drops gone) (put_differs t row (not_there t row sound refl)) (node_apart row gone) (drops_lean t gone versions two);
      stored = λ none. absurd (cc);
      next = born_next t blob content body;
      next_user = omega (arith, ap (λ (meta : MetaRow). meta.next_user) count);
      next_group = omega (arith, ap (λ (meta : MetaRow). meta.next_group) count);
      next_node = omega (arith, fits.next_node, next);
      next_share = omega (arith, ap (λ (meta : MetaRow). meta.next_share) count);
      next_blob = omega (arith, fits.next_blob, counts);
    }
