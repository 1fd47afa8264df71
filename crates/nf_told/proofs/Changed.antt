-- The rows of the tables in segments, and how each change changes them.
use Rattle.std.proofs.Common.{◌≡◌, ◌≢◌, ℕ, ◌+◌, ◌<◌, List, [], ◌∷◌, ◌++◌, map, get_or, set, refl, sym, ap, subst, ◌∙◌, arith}
use Rattle.std.specs.List.{All}
use Rattle.std.specs.Ordering.{nat_cmp, ordering_then}
use Rattle.std.specs.Cmp.{nat_cmp_is}
use Rattle.std.specs.Cmp.Lexicographic.{slice_cmp}
use Rattle.std.specs.declared.cmp.Ordering.{Ordering}
use Rattle.std.specs.declared.cmp.Ordering.TheVariants.{Equal}
use Rattle.std.proofs.lemmas.List.{append-nil}
use Rattle.std.proofs.lemmas.List.Elements.{All-cons, All-map, All-nil, All-weaker}
use Rattle.nf_base.specs.Keys.{key_of}
use Rattle.nf_base.specs.declared.changes.Change.{Change}
use Rattle.nf_base.specs.declared.changes.Change.TheVariants.{Put, Drop}
use Rattle.nf_base.specs.declared.changes.RowKey.{RowKey}
use Rattle.nf_base.specs.declared.changes.RowKey.TheVariants as keys
use Rattle.nf_base.specs.declared.rows.Row.{Row}
use Rattle.nf_base.specs.declared.rows.Row.TheVariants as rows
use Rattle.nf_defs.specs.Prelude.{AreRising, chunk_key, drop_row, dropped, group_key, IsDroppable, IsRising, item_key, key_cmp, made, member_key, mount_key, node_key, numbers_of, put, put_row, rows_of, share_key, Tables, token_key, upload_key, user_key, version_key}
use Rattle.nf_rows.specs.Spelling.{Fits, FitsKey, key_spelling, kind_of}
use Rattle.nf_told.specs.Told.{AreFit, FitsChange, numbers_of_key}
use Rattle.nf_told.proofs.Mapped.{Agree, Alike, All-from_map, dropped_map, map_rising, put_map}
use Rattle.nf_told.proofs.Orders.{keys_keep_order}
use Rattle.nf_told.proofs.Segments.{AreKinds, Segments, all_at, dropped_at, joined, joined_rising, put_at, row_key, row_kind}

-- the numbers of two keys of one kind are in the order of their spelling, with the kind before it
keys_agree : (a b : RowKey) → kind_of a ≡ kind_of b → FitsKey a → FitsKey b
    → key_cmp (numbers_of a) (numbers_of b) ≡ key_cmp (numbers_of_key (key_spelling a)) (numbers_of_key (key_spelling b))
keys_agree a b same a_fits b_fits =
    keys_keep_order a b same a_fits b_fits
    ∙ ap (λ (o : Ordering). ordering_then o (slice_cmp nat_cmp (key_spelling a).bytes (key_spelling b).bytes))
    (nat_cmp_is (kind_of a) (kind_of b) Equal same)

abbrev pub segments : Tables → Segments
segments t =
    (rows.Meta t.meta ∷ [])
    ∷ map rows.User t.users
    ∷ map rows.Token t.tokens
    ∷ map rows.Group t.groups
    ∷ map rows.Member t.members
    ∷ map rows.Node t.nodes
    ∷ map rows.Share t.shares
    ∷ map rows.Mount t.mounts
    ∷ map rows.Version t.versions
    ∷ map rows.Item t.items
    ∷ map rows.Upload t.uploads
    ∷ map rows.Chunk t.chunks
    ∷ []

pub rows_are : (t : Tables) → rows_of t ≡ joined (segments t)
rows_are t =
    ap (λ (xs : List Row). rows.Meta t.meta
    ∷ (map rows.User t.users
    ++ (map rows.Token t.tokens
    ++ (map rows.Group t.groups
    ++ (map rows.Member t.members
    ++ (map rows.Node t.nodes
    ++ (map rows.Share t.shares
    ++ (map rows.Mount t.mounts
    ++ (map rows.Version t.versions
    ++ (map rows.Item t.items
    ++ (map rows.Upload t.uploads
    ++ xs)))))))))))
    (sym (append-nil (map rows.Chunk t.chunks)))

-- rows of one kind, and what follows
are_kind : {R : Type 0} (row_of : R → Row) (kind : ℕ) → ((r : R) → row_kind (row_of r) ≡ kind) → (all : List R) {A : Type 0} → A
    → All (λ row. row_kind row ≡ kind) (map row_of all) × A
are_kind row_of kind of_kind all rest = (All-map (λ row. row_kind row ≡ kind) row_of all (λ k d within. of_kind _), rest)

kinds_are : (t : Tables) → AreKinds 1 (segments t)
kinds_are t = (
  All-cons (λ row. row_kind row ≡ 1) (rows.Meta t.meta) [] refl (All-nil (λ row. row_kind row ≡ 1)),
  are_kind rows.User 2 (λ r. refl) t.users
      (are_kind rows.Token 3 (λ r. refl) t.tokens
      (are_kind rows.Group 4 (λ r. refl) t.groups
      (are_kind rows.Member 5 (λ r. refl) t.members
      (are_kind rows.Node 6 (λ r. refl) t.nodes
      (are_kind rows.Share 7 (λ r. refl) t.shares
      (are_kind rows.Mount 8 (λ r. refl) t.mounts
      (are_kind rows.Version 9 (λ r. refl) t.versions
      (are_kind rows.Item 10 (λ r. refl) t.items
      (are_kind rows.Upload 11 (λ r. refl) t.uploads
      (are_kind rows.Chunk 12 (λ r. refl) t.chunks
      tt)))))))))),
)

joined_fit : (t : Tables) → AreFit t → All Fits (joined (segments t))
joined_fit t fits = subst (λ (xs : List Row). All Fits xs) (rows_are t) fits

-- ---- the rows of one kind, which is the i-th after the meta row's

module _ {R : Type 0} (key : R → List ℕ) (row_of : R → Row) (i : ℕ) (numbers : (r : R) → numbers_of (key_of (row_of r)) ≡ key r)
    (of_kind : (r : R) → row_kind (row_of r) ≡ 1 + i) where
  abbrev FitsRow : R → Type 0
  FitsRow r = Fits (row_of r)

  rows_agree : (a b : R) → FitsRow a → FitsRow b → key_cmp (key a) (key b) ≡ key_cmp (row_key (row_of a)) (row_key (row_of b))
  rows_agree a b a_fits b_fits =
      sym (ap (λ (xs : List ℕ). key_cmp xs (numbers_of (key_of (row_of b)))) (numbers a) ∙ ap (key_cmp (key a)) (numbers b))
      ∙ keys_agree (key_of (row_of a)) (key_of (row_of b)) (of_kind a ∙ sym (of_kind b)) a_fits.key b_fits.key

  key_agrees : (k : RowKey) (b : R) → kind_of k ≡ 1 + i → FitsKey k → FitsRow b
      → key_cmp (numbers_of k) (key b) ≡ key_cmp (numbers_of_key (key_spelling k)) (row_key (row_of b))
  key_agrees k b same k_fits b_fits =
      sym (ap (key_cmp (numbers_of k)) (numbers b))
      ∙ keys_agree k (key_of (row_of b)) (same ∙ sym (of_kind b)) k_fits b_fits.key

  -- those of the tables fit
  all_fit : (t : Tables) (all : List R) → get_or (segments t) i [] ≡ map row_of all → AreFit t → All FitsRow all
  all_fit t all seg fits =
      All-from_map Fits row_of all (subst (λ (xs : List Row). All Fits xs) seg (all_at Fits (segments t) i (joined_fit t fits)))

  -- a row that is put into its segment is put among the rows of the tables
  put_step : (t more : Tables) (all : List R) (row : R) → i < 12 → get_or (segments t) i [] ≡ map row_of all
      → segments more ≡ set (segments t) i (map row_of (put key row all)) → AreFit t → FitsRow row
      → rows_of more ≡ put row_key (row_of row) (rows_of t)
  put_step t more all row within seg made fits row_fits =
      rows_are more
      ∙ ap joined made
      ∙ ap (λ (xs : List Row). joined (set (segments t) i xs))
      (put_map row_of key row_key row all
      (All-weaker FitsRow (Agree row_of key row_key row) (λ b b_fits. rows_agree row b row_fits b_fits) all (all_fit t all seg fits))
      ∙ ap (put row_key (row_of row)) (sym seg))
      ∙ sym (put_at (row_of row) 1 (segments t) i (kinds_are t) (of_kind row) within)
      ∙ ap (put row_key (row_of row)) (sym (rows_are t))

  -- a key that is dropped from it is dropped from them
  dropped_step : (t less : Tables) (all : List R) (k : RowKey) → i < 12 → get_or (segments t) i [] ≡ map row_of all
      → segments less ≡ set (segments t) i (map row_of (dropped key (numbers_of k) all)) → AreFit t → kind_of k ≡ 1 + i → FitsKey k
      → rows_of less ≡ dropped row_key (numbers_of_key (key_spelling k)) (rows_of t)
  dropped_step t less all k within seg made fits same k_fits =
      rows_are less
      ∙ ap joined made
      ∙ ap (λ (xs : List Row). joined (set (segments t) i xs))
      (dropped_map row_of key row_key (numbers_of k) (numbers_of_key (key_spelling k)) all
      (All-weaker FitsRow (Alike row_of key row_key (numbers_of k) (numbers_of_key (key_spelling k))) (λ b b_fits. key_agrees k b same k_fits b_fits) all
      (all_fit t all seg fits))
      ∙ ap (dropped row_key (numbers_of_key (key_spelling k))) (sym seg))
      ∙ sym (dropped_at (kind_of k) (key_spelling k).bytes 1 (segments t) i (kinds_are t) same within)
      ∙ ap (dropped row_key (numbers_of_key (key_spelling k))) (sym (rows_are t))

  -- the segment rises, and what follows
  rising_step : (t : Tables) (all : List R) {A : Type 0} → get_or (segments t) i [] ≡ map row_of all → AreFit t → IsRising key all → A
      → IsRising row_key (map row_of all) × A
  rising_step t all seg fits rising rest = (map_rising row_of key row_key FitsRow rows_agree all (all_fit t all seg fits) rising, rest)

-- ---- all of them

-- a row that is put into the tables is put among their rows
put_made : (t : Tables) (row : Row) → AreFit t → Fits row → rows_of (put_row t row) ≡ put row_key row (rows_of t)
put_made t (rows.Meta row) fits fit = refl
put_made t (rows.User row) fits fit =
    put_step user_key rows.User 1 (λ r. refl) (λ r. refl) t _ t.users row (omega arith) refl refl fits fit
put_made t (rows.Token row) fits fit =
    put_step token_key rows.Token 2 (λ r. refl) (λ r. refl) t _ t.tokens row (omega arith) refl refl fits fit
put_made t (rows.Group row) fits fit =
    put_step group_key rows.Group 3 (λ r. refl) (λ r. refl) t _ t.groups row (omega arith) refl refl fits fit
put_made t (rows.Member row) fits fit =
    put_step member_key rows.Member 4 (λ r. refl) (λ r. refl) t _ t.members row (omega arith) refl refl fits fit
put_made t (rows.Node row) fits fit =
    put_step node_key rows.Node 5 (λ r. refl) (λ r. refl) t _ t.nodes row (omega arith) refl refl fits fit
put_made t (rows.Share row) fits fit =
    put_step share_key rows.Share 6 (λ r. refl) (λ r. refl) t _ t.shares row (omega arith) refl refl fits fit
put_made t (rows.Mount row) fits fit =
    put_step mount_key rows.Mount 7 (λ r. refl) (λ r. refl) t _ t.mounts row (omega arith) refl refl fits fit
put_made t (rows.Version row) fits fit =
    put_step version_key rows.Version 8 (λ r. refl) (λ r. refl) t _ t.versions row (omega arith) refl refl fits fit
put_made t (rows.Item row) fits fit =
    put_step item_key rows.Item 9 (λ r. refl) (λ r. refl) t _ t.items row (omega arith) refl refl fits fit
put_made t (rows.Upload row) fits fit =
    put_step upload_key rows.Upload 10 (λ r. refl) (λ r. refl) t _ t.uploads row (omega arith) refl refl fits fit
put_made t (rows.Chunk row) fits fit =
    put_step chunk_key rows.Chunk 11 (λ r. refl) (λ r. refl) t _ t.chunks row (omega arith) refl refl fits fit

-- a key that is dropped from the tables is dropped from their rows
dropped_made : (t : Tables) (key : RowKey) → AreFit t → FitsKey key → key ≢ keys.Meta
    → rows_of (drop_row t key) ≡ dropped row_key (numbers_of_key (key_spelling key)) (rows_of t)
dropped_made t keys.Meta fits fit not_meta = absurd (not_meta refl)
dropped_made t (keys.User id) fits fit not_meta =
    dropped_step user_key rows.User 1 (λ r. refl) (λ r. refl) t _ t.users (keys.User id) (omega arith) refl refl fits refl fit
dropped_made t (keys.Token digest) fits fit not_meta =
    dropped_step token_key rows.Token 2 (λ r. refl) (λ r. refl) t _ t.tokens (keys.Token digest) (omega arith) refl refl fits refl fit
dropped_made t (keys.Group id) fits fit not_meta =
    dropped_step group_key rows.Group 3 (λ r. refl) (λ r. refl) t _ t.groups (keys.Group id) (omega arith) refl refl fits refl fit
dropped_made t (keys.Member group user) fits fit not_meta =
    dropped_step member_key rows.Member 4 (λ r. refl) (λ r. refl) t _ t.members (keys.Member group user) (omega arith) refl refl fits refl fit
dropped_made t (keys.Node id) fits fit not_meta =
    dropped_step node_key rows.Node 5 (λ r. refl) (λ r. refl) t _ t.nodes (keys.Node id) (omega arith) refl refl fits refl fit
dropped_made t (keys.Share id) fits fit not_meta =
    dropped_step share_key rows.Share 6 (λ r. refl) (λ r. refl) t _ t.shares (keys.Share id) (omega arith) refl refl fits refl fit
dropped_made t (keys.Mount user node) fits fit not_meta =
    dropped_step mount_key rows.Mount 7 (λ r. refl) (λ r. refl) t _ t.mounts (keys.Mount user node) (omega arith) refl refl fits refl fit
dropped_made t (keys.Version node at) fits fit not_meta =
    dropped_step version_key rows.Version 8 (λ r. refl) (λ r. refl) t _ t.versions (keys.Version node at) (omega arith) refl refl fits refl fit
dropped_made t (keys.Item node) fits fit not_meta =
    dropped_step item_key rows.Item 9 (λ r. refl) (λ r. refl) t _ t.items (keys.Item node) (omega arith) refl refl fits refl fit
dropped_made t (keys.Upload user dir) fits fit not_meta =
    dropped_step upload_key rows.Upload 10 (λ r. refl) (λ r. refl) t _ t.uploads (keys.Upload user dir) (omega arith) refl refl fits refl fit
dropped_made t (keys.Chunk user dir number) fits fit not_meta =
    dropped_step chunk_key rows.Chunk 11 (λ r. refl) (λ r. refl) t _ t.chunks (keys.Chunk user dir number) (omega arith) refl refl fits refl fit

-- a change, among the rows of all kinds
abbrev pub changed : List Row → Change → List Row
changed all (Put row) = put row_key row all
changed all (Drop key) = dropped row_key (numbers_of_key (key_spelling key)) all

pub made_is : (t : Tables) (change : Change) → AreFit t → FitsChange change → IsDroppable change
    → rows_of (made t change) ≡ changed (rows_of t) change
made_is t (Put row) fits fit droppable = put_made t row fits fit
made_is t (Drop key) fits fit droppable = dropped_made t key fits fit droppable

-- ---- they rise

pub rows_rise : (t : Tables) → AreRising t → AreFit t → IsRising row_key (rows_of t)
rows_rise t h fits =
    subst (λ (xs : List Row). IsRising row_key xs) (sym (rows_are t))
    (joined_rising 1 (segments t) (kinds_are t) (
      (λ i j d before within. absurd (omega arith)),
      rising_step user_key rows.User 1 (λ r. refl) (λ r. refl) t t.users refl fits h.users
          (rising_step token_key rows.Token 2 (λ r. refl) (λ r. refl) t t.tokens refl fits h.tokens
          (rising_step group_key rows.Group 3 (λ r. refl) (λ r. refl) t t.groups refl fits h.groups
          (rising_step member_key rows.Member 4 (λ r. refl) (λ r. refl) t t.members refl fits h.members
          (rising_step node_key rows.Node 5 (λ r. refl) (λ r. refl) t t.nodes refl fits h.nodes
          (rising_step share_key rows.Share 6 (λ r. refl) (λ r. refl) t t.shares refl fits h.shares
          (rising_step mount_key rows.Mount 7 (λ r. refl) (λ r. refl) t t.mounts refl fits h.mounts
          (rising_step version_key rows.Version 8 (λ r. refl) (λ r. refl) t t.versions refl fits h.versions
          (rising_step item_key rows.Item 9 (λ r. refl) (λ r. refl) t t.items refl fits h.items
          (rising_step upload_key rows.Upload 10 (λ r. refl) (λ r. refl) t t.uploads refl fits h.uploads
          (rising_step chunk_key rows.Chunk 11 (λ r. refl) (λ r. refl) t t.chunks refl fits h.chunks
          tt)))))))))),
    ))
