-- The keys and the names of the rows of tables are apart.
use Rattle.std.proofs.Common.{◌≡◌, ◌≢◌, ℕ, ◌<◌, ◌==◌, if◌then◌else◌, List, ◌∷◌, get_or, None, Some, refl, sym, ap, ◌∙◌, arith}
use Rattle.std.specs.List.{All, AllPairs}
use Rattle.std.proofs.lemmas.Bool.Decides.{nat_tests}
use Rattle.std.proofs.lemmas.Option.{none-some, same_Some}
use Rattle.nf_access.specs.Mounts.{root_folder}
use Rattle.nf_base.specs.Keys.{key_of}
use Rattle.nf_base.specs.declared.changes.RowKey.{RowKey}
use Rattle.nf_base.specs.declared.rows.MountRow.{MountRow}
use Rattle.nf_base.specs.declared.rows.NodeRow.{NodeRow}
use Rattle.nf_base.specs.declared.rows.Place.TheVariants.{Inside}
use Rattle.nf_base.specs.declared.rows.Row.{Row}
use Rattle.nf_base.specs.declared.rows.Row.TheVariants as rows
use Rattle.nf_base.specs.declared.rows.ShareKind.{ShareKind}
use Rattle.nf_base.specs.declared.rows.ShareKind.TheVariants as to
use Rattle.nf_base.specs.declared.rows.ShareRow.{ShareRow}
use Rattle.nf_defs.specs.Prelude.{AreRising, chunk_key, group_key, IsRising, item_key, member_key, mount_key, node_key, numbers_of, rows_of, share_key, Tables, token_key, upload_key, user_key, version_key}
use Rattle.nf_rows.proofs.Whole.{one_key}
use Rattle.nf_rows.specs.Spelling.{Fits, Keyed, key_spelling, kind_of, spelled}
use Rattle.nf_told.specs.Told.{numbers_of_key}
use Rattle.nf_words.specs.Others.{AreMountsApart, IsMountSound}
use Rattle.nf_words.specs.Sound as sound
use Rattle.nf_rules.specs.Keys.{link_key, name_key, spelled_key}
use Rattle.nf_rules.specs.Ruled.{AreOrdered}
use Rattle.nf_rules.proofs.Shared.{AreApart, AreUnshared, of_among, unshared}
use Rattle.nf_rules.proofs.Shares.{no_child, of_child, of_mount, same_user}
use Rattle.nf_rules.proofs.Stacked.{IsOf, each_two, kind, rows_have}
use Rattle.nf_rules.proofs.Unbroken.{not_below}

-- the first number
abbrev first : List ℕ → ℕ
first key = get_or key 0 0

-- ---- keys

abbrev AreKeysApart : Row → Row → Type 0
AreKeysApart a b = Fits a → Fits b → AreApart spelled_key a b

abbrev keyed : ℕ → List ℕ → Keyed
keyed kind bytes = record { kind = kind; bytes = bytes }

same_keyed : (a b : Keyed) → numbers_of_key a ≡ numbers_of_key b → a ≡ b
same_keyed a b same =
    let kinds : a.kind ≡ b.kind = cc in
    let bytes : a.bytes ≡ b.bytes = cc in
    ap (λ (kind : ℕ). keyed kind a.bytes) kinds ∙ ap (keyed b.kind) bytes

-- two rows that are spelled with one key have one
one_of_both : (a b : Row) (key : List ℕ) → Fits a → Fits b → spelled_key a ≡ Some key → spelled_key b ≡ Some key → key_of a ≡ key_of b
one_of_both a b key fits_a fits_b is same =
    let spelled_a : numbers_of_key (key_spelling (key_of a)) ≡ key = same_Some _ key is in
    let spelled_b : numbers_of_key (key_spelling (key_of b)) ≡ key = same_Some _ key same in
    one_key (key_of a) (key_of b) fits_a.key fits_b.key
    (same_keyed (key_spelling (key_of a)) (key_spelling (key_of b)) (spelled_a ∙ sym spelled_b))

keys_differ : (a b : Row) → kind a < kind b → AreKeysApart a b
keys_differ a b less fits_a fits_b key is same =
    let kinds : kind a ≡ kind b = ap (λ (k : RowKey). kind_of k) (one_of_both a b key fits_a fits_b is same) in
    absurd (omega arith)

rising_apart : {R : Type 0} (key : R → List ℕ) (row_of : R → Row) → ((row : R) → numbers_of (key_of (row_of row)) ≡ key row)
    → (some : List R) → IsRising key some → AllPairs (λ a b. AreKeysApart (row_of a) (row_of b)) some
rising_apart {R = R} key row_of keyed some rising i j d before within fits_a fits_b spelled is same =
    let a : R = get_or some i d in
    let b : R = get_or some j d in
    not_below (key a) (key b) (rising i j d before within)
    (sym (keyed a) ∙ ap numbers_of (one_of_both (row_of a) (row_of b) spelled fits_a fits_b is same) ∙ keyed b)

pub keys_unshared : (t : Tables) → All Fits (rows_of t) → AreRising t → AreUnshared spelled_key (rows_of t)
keys_unshared t fits rising =
    let pairs = each_two AreKeysApart keys_differ t
    (rising_apart user_key rows.User (λ row. refl) t.users rising.users)
    (rising_apart token_key rows.Token (λ row. refl) t.tokens rising.tokens)
    (rising_apart group_key rows.Group (λ row. refl) t.groups rising.groups)
    (rising_apart member_key rows.Member (λ row. refl) t.members rising.members)
    (rising_apart node_key rows.Node (λ row. refl) t.nodes rising.nodes)
    (rising_apart share_key rows.Share (λ row. refl) t.shares rising.shares)
    (rising_apart mount_key rows.Mount (λ row. refl) t.mounts rising.mounts)
    (rising_apart version_key rows.Version (λ row. refl) t.versions rising.versions)
    (rising_apart item_key rows.Item (λ row. refl) t.items rising.items)
    (rising_apart upload_key rows.Upload (λ row. refl) t.uploads rising.uploads)
    (rising_apart chunk_key rows.Chunk (λ row. refl) t.chunks rising.chunks) in
    unshared spelled_key (rows_of t)
    (λ i j d before within. pairs i j d before within (fits i d (omega arith)) (fits j d within))

-- ---- names

-- a name's key begins with the kind of its row, and a mount's as a node's
abbrev first_of : ℕ → ℕ
first_of kind = if kind == 8 then 6 else kind

of_link : (link : ShareKind) (key : List ℕ) → link_key link ≡ Some key → (token : List ℕ) × (link ≡ to.Link token) × (key ≡ 7 ∷ token)
of_link (to.User user) key is = absurd (none-some key is)
of_link (to.Group group) key is = absurd (none-some key is)
of_link (to.Link token) key is = (token, refl, sym (same_Some (7 ∷ token) key is))

of_kind : (t : Tables) (row : Row) (key : List ℕ) → name_key t row ≡ Some key → first key ≡ first_of (kind row)
of_kind t (rows.User row) key is = sym (ap first (same_Some (2 ∷ row.name) key is))
of_kind t (rows.Group row) key is = sym (ap first (same_Some (4 ∷ row.name) key is))
of_kind t (rows.Node row) key is = ap first (of_child row.place row.name key is).is
of_kind t (rows.Share row) key is = ap first (of_link row.kind key is).2
of_kind t (rows.Mount row) key is = ap first (of_mount t row key is).is
of_kind t row key is = absurd (none-some key is)

module _ (t : Tables) (h : AreOrdered t) where
  abbrev AreNamesApart : Row → Row → Type 0
  AreNamesApart a b = IsOf t a → IsOf t b → AreApart (name_key t) a b

  -- no child of a root has the name of a mount there
  node_and_mount : (a b : Row) → kind a ≡ 6 → kind b ≡ 8 → AreNamesApart a b
  node_and_mount (rows.Node a) (rows.Mount b) six eight of_a of_b key is same =
      let own = of_among (IsMountSound t) t.mounts b h.sound.others.mounts of_b in
      let child = of_child a.place a.name key is in
      let mount = of_mount t b key same in
      let both : 6 ∷ child.folder ∷ a.name ≡ 6 ∷ root_folder t.users b.user ∷ b.name = sym child.is ∙ mount.is in
      let folder : child.folder ≡ root_folder t.users b.user = cc in
      let name : a.name ≡ b.name = cc in
      no_child t.nodes (root_folder t.users b.user) b.name a (own.free mount.shown) of_a (child.inside ∙ ap Inside folder) name
  node_and_mount (rows.Node a) b six eight of_a of_b key is same = absurd (omega arith)
  node_and_mount a b six eight of_a of_b key is same = absurd (omega arith)

  names_differ : (a b : Row) → kind a < kind b → AreNamesApart a b
  names_differ a b less of_a of_b key is same =
      let kinds = alone (kind a) (kind b) less (sym (of_kind t a key is) ∙ of_kind t b key same) in
      node_and_mount a b kinds.0 kinds.1 of_a of_b key is same
    where
      alone : (a b : ℕ) → a < b → first_of a ≡ first_of b → (a ≡ 6) × (b ≡ 8)
      alone a b less same = (grind (arith, nat_tests), grind (arith, nat_tests))

  -- children of one folder with one name are one
  children_apart : (a b : NodeRow) → sound.AreApart a b → AreApart (name_key t) (rows.Node a) (rows.Node b)
  children_apart a b apart key is same =
      let one = of_child a.place a.name key is in
      let other = of_child b.place b.name key same in
      let both : 6 ∷ one.folder ∷ a.name ≡ 6 ∷ other.folder ∷ b.name = sym one.is ∙ other.is in
      let folders : one.folder ≡ other.folder = cc in
      let names : a.name ≡ b.name = cc in
      apart one.folder one.inside (other.inside ∙ ap Inside (sym folders)) names

  links_apart : (a b : ShareRow) → ((token : List ℕ) → a.kind ≡ to.Link token → b.kind ≢ to.Link token)
      → AreApart (name_key t) (rows.Share a) (rows.Share b)
  links_apart a b apart key is same =
      let one = of_link a.kind key is in
      let other = of_link b.kind key same in
      let both : 7 ∷ one.0 ≡ 7 ∷ other.0 = sym one.2 ∙ other.2 in
      let tokens : one.0 ≡ other.0 = cc in
      apart one.0 one.1 (other.1 ∙ ap to.Link (sym tokens))

  mounts_apart : (a b : MountRow) → IsMountSound t a → IsMountSound t b → AreMountsApart a b → AreApart (name_key t) (rows.Mount a) (rows.Mount b)
  mounts_apart a b own_a own_b apart key is same =
      let one = of_mount t a key is in
      let other = of_mount t b key same in
      let both : 6 ∷ root_folder t.users a.user ∷ a.name ≡ 6 ∷ root_folder t.users b.user ∷ b.name = sym one.is ∙ other.is in
      let roots : root_folder t.users a.user ≡ root_folder t.users b.user = cc in
      let names : a.name ≡ b.name = cc in
      apart (same_user t a.user b.user h.sound.roots own_a.user own_b.user roots) one.shown other.shown names

  -- rows of a kind without names
  nameless : {X : Type 0} (row_of : X → Row) (some : List X) → ((x : X) → name_key t (row_of x) ≡ None)
      → AllPairs (λ a b. AreNamesApart (row_of a) (row_of b)) some
  nameless row_of some none i j d before within of_a of_b key is same = none-some key (sym (none (get_or some i d)) ∙ is)

  pub names_unshared : AreUnshared (name_key t) (rows_of t)
  names_unshared =
      let pairs = each_two AreNamesApart names_differ t
      (λ i j d before within of_a of_b key is same. h.user_names i j d before within
      (names 2 (get_or t.users i d).name (get_or t.users j d).name key is same))
      (nameless rows.Token t.tokens (λ row. refl))
      (λ i j d before within of_a of_b key is same. h.group_names i j d before within
      (names 4 (get_or t.groups i d).name (get_or t.groups j d).name key is same))
      (nameless rows.Member t.members (λ row. refl))
      (λ i j d before within of_a of_b. children_apart (get_or t.nodes i d) (get_or t.nodes j d) (h.sound.names i j d before within))
      (λ i j d before within of_a of_b. links_apart (get_or t.shares i d) (get_or t.shares j d) (h.tokens_apart i j d before within))
      (λ i j d before within of_a of_b. mounts_apart (get_or t.mounts i d) (get_or t.mounts j d)
      (h.sound.others.mounts i d (omega arith)) (h.sound.others.mounts j d within) (h.sound.others.mounts_apart i j d before within))
      (nameless rows.Version t.versions (λ row. refl))
      (nameless rows.Item t.items (λ row. refl))
      (nameless rows.Upload t.uploads (λ row. refl))
      (nameless rows.Chunk t.chunks (λ row. refl)) in
      let each = rows_have (IsOf t) t (λ row of. of) in
      unshared (name_key t) (rows_of t) (λ i j d before within. pairs i j d before within (each i d (omega arith)) (each j d within))
    where
      names : (n : ℕ) (a b key : List ℕ) → Some (n ∷ a) ≡ Some key → Some (n ∷ b) ≡ Some key → a ≡ b
      names n a b key is same = let both : n ∷ a ≡ n ∷ b = same_Some _ key is ∙ sym (same_Some _ key same) in cc
