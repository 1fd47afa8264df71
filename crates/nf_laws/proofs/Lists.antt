-- Lists of changed rows: what each known change keeps, all of them keep. By the kind of the row, whatever the act.
use Rattle.std.proofs.Common.{◌≡◌, ◌⊎◌, ℕ, ◌<◌, ◌≤◌, inl, inr, List, [], ◌∷◌, ◌++◌, Option, None, refl, sym, ap, subst, ◌∙◌, arith, le_refl}
use Rattle.std.specs.List.{All, AllPairs}
use Rattle.std.proofs.lemmas.List.Elements.{All-cons, All-head, All-nil, All-tail}
use Rattle.std.proofs.lemmas.List.Quantifiers.{all_pairs_push}
use Rattle.nf_base.specs.declared.changes.Change.{Change}
use Rattle.nf_base.specs.declared.changes.Change.TheVariants.{Drop, Put}
use Rattle.nf_base.specs.declared.changes.RowKey.TheVariants as keys
use Rattle.nf_base.specs.declared.rows.MetaRow.{MetaRow}
use Rattle.nf_base.specs.declared.rows.MountRow.{MountRow}
use Rattle.nf_base.specs.declared.rows.NodeRow.{NodeRow}
use Rattle.nf_base.specs.declared.rows.Row.TheVariants.{Chunk, Group, Member, Mount, Node, Share, Token, Upload, User, Version}
use Rattle.nf_defs.specs.Prelude.{filled, IsDroppable, made, mount_key, node_key, put, put_all, Tables, with_node, share_key}
use Rattle.nf_laws.proofs.Added.{born_sound}
use Rattle.nf_laws.proofs.Mounted.{mounted_sound}
use Rattle.nf_laws.proofs.Sharing.{new_share_sound, other_share_sound}
use Rattle.nf_laws.proofs.Puts.{put_changed, put_new}
use Rattle.nf_laws.proofs.Replaced.{filled_sound}
use Rattle.nf_laws.proofs.Others.{meta_sound}
use Rattle.nf_laws.proofs.Rows.{blob_up, row_is}
use Rattle.nf_laws.proofs.Sent.{chunk_sound, new_upload_sound, touched_sound}
use Rattle.nf_laws.proofs.Turned.{forgotten_sound, version_sound}
use Rattle.nf_base.specs.declared.rows.ChunkRow.{ChunkRow}
use Rattle.nf_base.specs.declared.rows.UploadRow.{UploadRow}
use Rattle.nf_base.specs.declared.rows.VersionRow.{VersionRow}
use Rattle.nf_laws.specs.Numbers.{AreHigher}
use Rattle.nf_laws.proofs.OneRow.{rising_with}
use Rattle.nf_laws.proofs.Peopled.{new_user_sound, people_nodes, people_sound, rooted_made, with_rooted}
use Rattle.nf_words.proofs.Fits.{IsTurned, KnownBorn, KnownChange, KnownChunk, KnownFilled, KnownRow, KnownRows, KnownUser, KnownVersion, no_more, one_more, user_more, with_user}
use Rattle.nf_words.specs.Prelude.{above, altered, AreSound, counted, IsBorn, IsFilled, IsNewMount, IsNewShare, IsNewUpload, IsOfPeople, IsOtherShare, IsRemounted, IsTouched, raised, replaced}
use Rattle.nf_words.specs.declared.answer.Allowed.TheVariants as allowed
use Rattle.nf_words.specs.declared.answer.Report.{Report}
use Rattle.nf_base.specs.declared.rows.ShareRow.{ShareRow}
use Rattle.nf_base.specs.declared.rows.UserRow.{UserRow}

-- ---- the counters, which are raised first

higher_then : (a b c : MetaRow) → AreHigher a b → AreHigher b c → AreHigher a c
higher_then a b c first second = record {
  users = omega (arith, first.users, second.users);
  groups = omega (arith, first.groups, second.groups);
  nodes = omega (arith, first.nodes, second.nodes);
  shares = omega (arith, first.shares, second.shares);
  blobs = omega (arith, first.blobs, second.blobs);
}

above_higher : (meta : MetaRow) (change : Change) → AreHigher meta (above meta change)
above_higher meta (Put (User row)) = record { users = omega arith; groups = le_refl _; nodes = le_refl _; shares = le_refl _; blobs = le_refl _ }
above_higher meta (Put (Group row)) = record { users = le_refl _; groups = omega arith; nodes = le_refl _; shares = le_refl _; blobs = le_refl _ }
above_higher meta (Put (Node row)) = record { users = le_refl _; groups = le_refl _; nodes = omega arith; shares = le_refl _; blobs = le_refl _ }
above_higher meta (Put (Share row)) = record { users = le_refl _; groups = le_refl _; nodes = le_refl _; shares = omega arith; blobs = le_refl _ }
above_higher meta change = record { users = le_refl _; groups = le_refl _; nodes = le_refl _; shares = le_refl _; blobs = le_refl _ }

pub counted_higher : (meta : MetaRow) (changes : List Change) → AreHigher meta (counted meta changes)
counted_higher meta [] = record { users = le_refl _; groups = le_refl _; nodes = le_refl _; shares = le_refl _; blobs = le_refl _ }
counted_higher meta (change ∷ changes) =
    higher_then meta (above meta change) (counted (above meta change) changes) (above_higher meta change) (counted_higher (above meta change) changes)

pub raised_higher : (t : Tables) (now : ℕ) (changes : List Change) (blob : Option ℕ) → AreHigher t.meta (raised t now changes blob).meta
raised_higher t now changes blob =
    let up = counted_higher t.meta changes in
    record {
      users = up.users;
      groups = up.groups;
      nodes = up.nodes;
      shares = up.shares;
      blobs = blob_up t.meta.next_blob blob;
    }

pub raised_sound : (t : Tables) (now : ℕ) (changes : List Change) (blob : Option ℕ) → AreSound t → t.meta.last ≤ now
    → AreSound (raised t now changes blob)
raised_sound t now changes blob sound later =
    meta_sound t (raised t now changes blob).meta sound (raised_higher t now changes blob) later

-- ---- the rows

-- the tables with a new node, and those with another content of a file
abbrev pub with_born : Tables → NodeRow → Tables
with_born t row = record t { nodes = t.nodes ++ row ∷ [] }

abbrev pub with_filled : Tables → NodeRow → Tables
with_filled t row = record t { nodes = with_node t.nodes row.id (filled row.content row.changed) }

-- those with a row of a mount, new or another, and with one of a share
abbrev pub with_remounted : Tables → MountRow → Tables
with_remounted t row = record t { mounts = put mount_key row t.mounts }

abbrev pub with_share : Tables → ShareRow → Tables
with_share t row = record t { shares = put share_key row t.shares }

-- what is known of such rows
abbrev pub IsMounting : Tables → MountRow → Type 0
IsMounting t row = IsRemounted t row ⊎ IsNewMount t row

abbrev pub KnownShare : Tables → Tables → ShareRow → Type 0
KnownShare first t row = (IsNewShare t row × (first.meta.next_share ≤ row.id)) ⊎ (IsOtherShare t row × (row.id < first.meta.next_share))

abbrev pub Rising : List NodeRow → Type 0
Rising rows = AllPairs (λ (a b : NodeRow). a.id < b.id) rows

pub born_made : (t : Tables) (row : NodeRow) → IsBorn t row → made t (Put (Node row)) ≡ with_born t row
born_made t row born = ap (λ (nodes : List NodeRow). record t { nodes = nodes }) (put_new row t.nodes born.newest)

pub filled_made : (t : Tables) (row : NodeRow) → Rising t.nodes → IsFilled t row → made t (Put (Node row)) ≡ with_filled t row
filled_made t row rising is =
    ap (λ (nodes : List NodeRow). record t { nodes = nodes })
    (ap (λ (r : NodeRow). put node_key r t.nodes) is.same
    ∙ put_changed t.nodes row.id (filled row.content row.changed) is.old refl rising is.there)

-- what becomes of versions, of uploads and of chunks
abbrev pub IsAside : Tables → Option ℕ → Tables → Change → Type 0
IsAside first blob t (Put (Upload row)) = IsNewUpload t row ⊎ IsTouched t row
IsAside first blob t (Put (Chunk row)) = KnownChunk first blob t row
IsAside first blob t change = IsTurned first t change

-- what is so of each kind of them
pub aside_each : (Q : Change → Type 0) (first : Tables) (blob : Option ℕ) (t : Tables) (change : Change) → IsAside first blob t change
    → ((row : VersionRow) → Q (Put (Version row))) → ((node at : ℕ) → Q (Drop (keys.Version node at))) → ((row : UploadRow) → Q (Put (Upload row)))
    → ((row : ChunkRow) → Q (Put (Chunk row))) → Q change
aside_each Q first blob t (Put (Version row)) known versions drops uploads chunks = versions row
aside_each Q first blob t (Drop (keys.Version node at)) known versions drops uploads chunks = drops node at
aside_each Q first blob t (Put (Upload row)) known versions drops uploads chunks = uploads row
aside_each Q first blob t (Put (Chunk row)) known versions drops uploads chunks = chunks row
aside_each Q first blob t change known versions drops uploads chunks = absurd known

-- touches nothing else
pub aside_only : (first : Tables) (blob : Option ℕ) (t : Tables) (change : Change) → IsAside first blob t change
    → made t change ≡ record t { versions = (made t change).versions; uploads = (made t change).uploads; chunks = (made t change).chunks }
aside_only first blob t change known =
    aside_each
    (λ (change : Change). made t change ≡ record t { versions = (made t change).versions; uploads = (made t change).uploads; chunks = (made t change).chunks })
    first blob t change known (λ row. refl) (λ node at. refl) (λ row. refl) (λ row. refl)

-- nor a node
pub aside_nodes : (first : Tables) (blob : Option ℕ) (t : Tables) (change : Change) → IsAside first blob t change → (made t change).nodes ≡ t.nodes
aside_nodes first blob t change known = ap (λ (u : Tables). u.nodes) (aside_only first blob t change known)

-- ---- lists of changed rows

-- what may be in a list: all but the meta row and kinds that aren't built yet, and no drop but that of a member or a version
abbrev pub IsBuilt : Change → Type 0
IsBuilt (Put (Node row)) = Unit {0}
IsBuilt (Put (Mount row)) = Unit {0}
IsBuilt (Put (Share row)) = Unit {0}
IsBuilt (Put (User row)) = Unit {0}
IsBuilt (Put (Token row)) = Unit {0}
IsBuilt (Put (Group row)) = Unit {0}
IsBuilt (Put (Member row)) = Unit {0}
IsBuilt (Put (Version row)) = Unit {0}
IsBuilt (Put (Upload row)) = Unit {0}
IsBuilt (Put (Chunk row)) = Unit {0}
IsBuilt (Drop (keys.Member group user)) = Unit {0}
IsBuilt (Drop (keys.Version node at)) = Unit {0}
IsBuilt change = ⊥

abbrev pub AreBuilt : List Change → Type 0
AreBuilt [] = Unit {0}
AreBuilt (change ∷ changes) = IsBuilt change × AreBuilt changes

-- the meta row may be set before or behind them
pub meta_one : (t : Tables) (meta : MetaRow) (change : Change) → IsBuilt change
    → made (record t { meta = meta }) change ≡ record (made t change) { meta = meta }
meta_one t meta (Put (Node row)) built = refl
meta_one t meta (Put (Mount row)) built = refl
meta_one t meta (Put (Share row)) built = refl
meta_one t meta (Put (User row)) built = refl
meta_one t meta (Put (Token row)) built = refl
meta_one t meta (Put (Group row)) built = refl
meta_one t meta (Put (Member row)) built = refl
meta_one t meta (Put (Version row)) built = refl
meta_one t meta (Put (Upload row)) built = refl
meta_one t meta (Put (Chunk row)) built = refl
meta_one t meta (Drop (keys.Member group user)) built = refl
meta_one t meta (Drop (keys.Version node at)) built = refl
meta_one t meta change built = absurd built

pub meta_first : (t : Tables) (meta : MetaRow) (changes : List Change) → AreBuilt changes
    → put_all (record t { meta = meta }) changes ≡ record (put_all t changes) { meta = meta }
meta_first t meta [] built = refl
meta_first t meta (change ∷ changes) built =
    ap (λ (u : Tables). put_all u changes) (meta_one t meta change built.0) ∙ meta_first (made t change) meta changes built.1

droppable_one : (change : Change) → IsBuilt change → IsDroppable change
droppable_one (Put row) built = tt
droppable_one (Drop (keys.Member group user)) built = λ is. cc
droppable_one (Drop (keys.Version node at)) built = λ is. cc
droppable_one (Drop key) built = absurd built

pub built_droppable : (changes : List Change) → AreBuilt changes → All IsDroppable changes
built_droppable [] built = All-nil IsDroppable
built_droppable (change ∷ changes) built = All-cons IsDroppable change changes (droppable_one change built.0) (built_droppable changes built.1)

pub put_more : (t : Tables) (changes more : List Change) → put_all t (changes ++ more) ≡ put_all (put_all t changes) more
put_more t [] more = refl
put_more t (change ∷ changes) more = put_more (made t change) changes more

-- what is known of a list's changes, in the tables before it
module _ (first : Tables) (blob : Option ℕ) where
  -- what a new node keeps, another content, a row of a mount or of a share, and a change of people, each change keeps; it may have a
  -- further property
  row_has : (P : Tables → Type 0) (Q : Change → Type 0) (t : Tables) (change : Change) → Rising t.nodes → KnownRow first blob t change
      → ((row : NodeRow) → KnownBorn first blob t row → Q (Put (Node row)) → P (with_born t row))
      → ((row : NodeRow) → KnownFilled first blob t row → Q (Put (Node row)) → P (with_filled t row))
      → ((row : MountRow) → IsMounting t row → Q (Put (Mount row)) → P (with_remounted t row))
      → ((row : ShareRow) → KnownShare first t row → Q (Put (Share row)) → P (with_share t row))
      → ((change : Change) → IsOfPeople t change → P (made t change)) → ((change : Change) → IsAside first blob t change → P (made t change))
      → Q change → P (made t change)
  row_has P Q t (Put (Node row)) rising known born fills mounts shares people turns has =
      elim known [
        | inl it ↦ subst P (sym (born_made t row it.born)) (born row it has)
        | inr it ↦ subst P (sym (filled_made t row rising it.filled)) (fills row it has)
      ]
  row_has P Q t (Put (Mount row)) rising known born fills mounts shares people turns has = mounts row known.1 has
  row_has P Q t (Put (Share row)) rising known born fills mounts shares people turns has = shares row known.1 has
  row_has P Q t (Put (Version row)) rising known born fills mounts shares people turns has = turns (Put (Version row)) known
  row_has P Q t (Put (Upload row)) rising known born fills mounts shares people turns has = turns (Put (Upload row)) known
  row_has P Q t (Put (Chunk row)) rising known born fills mounts shares people turns has = turns (Put (Chunk row)) known
  row_has P Q t (Drop (keys.Version node at)) rising known born fills mounts shares people turns has = turns (Drop (keys.Version node at)) known
  row_has P Q t change rising known born fills mounts shares people turns has = people change known.1

  pub rising_row : (t : Tables) (change : Change) → Rising t.nodes → KnownRow first blob t change → Rising (made t change).nodes
  rising_row t change rising known =
      row_has (λ (u : Tables). Rising u.nodes) (λ change. Unit {0}) t change rising known
      (λ row it any. all_pairs_push (λ (a b : NodeRow). a.id < b.id) t.nodes row rising it.born.newest)
      (λ row it any. rising_with t.nodes row.id (filled row.content row.changed) (λ r. refl) rising) (λ row it any. rising)
      (λ row it any. rising) (λ change is. subst Rising (sym (people_nodes t change is)) rising)
      (λ change is. subst Rising (sym (aside_nodes first blob t change is)) rising) tt

  -- and all of them; a new user comes with its root
  rows_have : (P : Tables → Type 0) (Q : Change → Type 0)
      → ((t : Tables) (row : NodeRow) → P t → KnownBorn first blob t row → Q (Put (Node row)) → P (with_born t row))
      → ((t : Tables) (row : NodeRow) → P t → KnownFilled first blob t row → Q (Put (Node row)) → P (with_filled t row))
      → ((t : Tables) (row : MountRow) → P t → IsMounting t row → Q (Put (Mount row)) → P (with_remounted t row))
      → ((t : Tables) (row : ShareRow) → P t → KnownShare first t row → Q (Put (Share row)) → P (with_share t row))
      → ((t : Tables) (change : Change) → P t → IsOfPeople t change → P (made t change))
      → ((t : Tables) (change : Change) → P t → IsAside first blob t change → P (made t change))
      → ((t : Tables) (row : UserRow) (root : NodeRow) → P t → KnownUser first blob t row root → P (with_rooted t row root))
      → (t : Tables) (changes : List Change) → Rising t.nodes → P t → KnownRows first blob t changes → All Q changes → P (put_all t changes)
  rows_have P Q born fills mounts shares people turns users _ _ rising has (no_more t) each = has
  rows_have P Q born fills mounts shares people turns users _ _ rising has (one_more t change changes known rest) each =
      rows_have P Q born fills mounts shares people turns users (made t change) changes (rising_row t change rising known)
      (row_has P Q t change rising known (λ row it is. born t row has it is) (λ row it is. fills t row has it is)
      (λ row it is. mounts t row has it is) (λ row it is. shares t row has it is) (λ change is. people t change has is)
      (λ change is. turns t change has is) (All-head Q change changes each))
      rest (All-tail Q change changes each)
  rows_have P Q born fills mounts shares people turns users _ _ rising has (user_more t row root changes known rest) each =
      let made = rooted_made t row root known.1 in
      rows_have P Q born fills mounts shares people turns users (with_user t row root) changes
      (subst (λ (u : Tables). Rising u.nodes) (sym made)
      (all_pairs_push (λ (a b : NodeRow). a.id < b.id) t.nodes root rising known.1.newest_node))
      (subst P (sym made) (users t row root has known)) rest
      (All-tail Q (Put (Node root)) changes (All-tail Q (Put (User row)) (Put (Node root) ∷ changes) each))

  -- of which none is of another kind
  one_built : (t : Tables) (change : Change) → KnownRow first blob t change → IsBuilt change
  one_built t (Put (Node row)) known = tt
  one_built t (Put (Mount row)) known = tt
  one_built t (Put (Share row)) known = tt
  one_built t (Put (User row)) known = tt
  one_built t (Put (Token row)) known = tt
  one_built t (Put (Group row)) known = tt
  one_built t (Put (Member row)) known = tt
  one_built t (Put (Version row)) known = tt
  one_built t (Put (Upload row)) known = tt
  one_built t (Put (Chunk row)) known = tt
  one_built t (Drop (keys.Member group user)) known = tt
  one_built t (Drop (keys.Version node at)) known = tt
  one_built t change known = absurd known.1

  pub only_built : (t : Tables) (changes : List Change) → KnownRows first blob t changes → AreBuilt changes
  only_built _ _ (no_more t) = tt
  only_built _ _ (one_more t change changes known rest) = (one_built t change known, only_built (made t change) changes rest)
  only_built _ _ (user_more t row root changes known rest) = (tt, (tt, only_built (with_user t row root) changes rest))

-- what the tables with raised counters have, and each change of some further property keeps, the tables have after them
pub changes_all : (P : Tables → Type 0) (Q : Change → Type 0) (t : Tables) (now : ℕ) (changes : List Change) (blob : Option ℕ)
    (report : Report) → Rising t.nodes → KnownChange t now changes blob → All Q changes
    → ((u : Tables) (row : NodeRow) → P u → KnownBorn t blob u row → Q (Put (Node row)) → P (with_born u row))
    → ((u : Tables) (row : NodeRow) → P u → KnownFilled t blob u row → Q (Put (Node row)) → P (with_filled u row))
    → ((u : Tables) (row : MountRow) → P u → IsMounting u row → Q (Put (Mount row)) → P (with_remounted u row))
    → ((u : Tables) (row : ShareRow) → P u → KnownShare t u row → Q (Put (Share row)) → P (with_share u row))
    → ((u : Tables) (change : Change) → P u → IsOfPeople u change → P (made u change))
    → ((u : Tables) (change : Change) → P u → IsAside t blob u change → P (made u change))
    → ((u : Tables) (row : UserRow) (root : NodeRow) → P u → KnownUser t blob u row root → P (with_rooted u row root))
    → P (raised t now changes blob) → P (altered t now (allowed.Change changes blob report))
changes_all P Q t now changes blob report rising known each born fills mounts shares people turns users has =
    let up = raised t now changes blob in
    subst P (meta_first t up.meta changes (only_built t blob up changes known.rows))
    (rows_have t blob P Q born fills mounts shares people turns users up changes rising has known.rows each)

-- where they have none
pub changes_have : (P : Tables → Type 0) (t : Tables) (now : ℕ) (changes : List Change) (blob : Option ℕ) (report : Report)
    → Rising t.nodes → KnownChange t now changes blob
    → ((u : Tables) (row : NodeRow) → P u → KnownBorn t blob u row → P (with_born u row))
    → ((u : Tables) (row : NodeRow) → P u → KnownFilled t blob u row → P (with_filled u row))
    → ((u : Tables) (row : MountRow) → P u → IsMounting u row → P (with_remounted u row))
    → ((u : Tables) (row : ShareRow) → P u → KnownShare t u row → P (with_share u row))
    → ((u : Tables) (change : Change) → P u → IsOfPeople u change → P (made u change))
    → ((u : Tables) (change : Change) → P u → IsAside t blob u change → P (made u change))
    → ((u : Tables) (row : UserRow) (root : NodeRow) → P u → KnownUser t blob u row root → P (with_rooted u row root))
    → P (raised t now changes blob) → P (altered t now (allowed.Change changes blob report))
changes_have P t now changes blob report rising known born fills mounts shares people turns users has =
    changes_all P (λ change. Unit {0}) t now changes blob report rising known (λ k d within. tt)
    (λ u row h it any. born u row h it) (λ u row h it any. fills u row h it) (λ u row h it any. mounts u row h it)
    (λ u row h it any. shares u row h it) people turns users has

-- of the nodes alone: no change but those of nodes, and a new user's root, touches them
pub nodes_have : (P : List NodeRow → Type 0) (Q : Change → Type 0) (t : Tables) (now : ℕ) (changes : List Change) (blob : Option ℕ)
    (report : Report) → Rising t.nodes → KnownChange t now changes blob → All Q changes
    → ((u : Tables) (row : NodeRow) → P u.nodes → KnownBorn t blob u row → Q (Put (Node row)) → P (with_born u row).nodes)
    → ((u : Tables) (row : NodeRow) → P u.nodes → KnownFilled t blob u row → Q (Put (Node row)) → P (with_filled u row).nodes)
    → ((u : Tables) (row : UserRow) (root : NodeRow) → P u.nodes → KnownUser t blob u row root → P (u.nodes ++ root ∷ []))
    → P t.nodes → P (altered t now (allowed.Change changes blob report)).nodes
nodes_have P Q t now changes blob report rising known each born fills users has =
    changes_all (λ (u : Tables). P u.nodes) Q t now changes blob report rising known each born fills (λ u row h it is. h) (λ u row h it is. h)
    (λ u change h is. subst P (sym (people_nodes u change is)) h) (λ u change h is. subst P (sym (aside_nodes t blob u change is)) h) users has

-- ---- so they stay sound

-- a version that is put is of a moment that was
version_at : (first u : Tables) (row : VersionRow) → AreSound first → KnownVersion first u row → row.at ≤ first.meta.last
version_at first u row sound known =
    let is = (row_is first row.node known.was sound known.there).1 in
    subst (λ (n : ℕ). n ≤ first.meta.last) (sym (ap (λ (one : VersionRow). one.at) known.of_was)) is.changed

aside_sound : (first : Tables) (blob : Option ℕ) (u : Tables) (change : Change) → AreSound first → AreSound u → first.meta.last ≤ u.meta.last
    → IsAside first blob u change → AreSound (made u change)
aside_sound first blob u (Put (Version row)) sound fine later known =
    version_sound first u row fine (omega (arith, version_at first u row sound known, later)) known
aside_sound first blob u (Drop (keys.Version node at)) sound fine later known = forgotten_sound u node at fine
aside_sound first blob u (Put (Upload row)) sound fine later known =
    elim known [ inl new ↦ new_upload_sound u row fine new | inr again ↦ touched_sound u row fine again ]
aside_sound first blob u (Put (Chunk row)) sound fine later known = chunk_sound u row fine known.chunk
aside_sound first blob u change sound fine later known = absurd known

-- no change of people touches the moment
people_last : (u : Tables) (change : Change) → IsOfPeople u change → (made u change).meta ≡ u.meta
people_last u (Put (User row)) known = refl
people_last u (Put (Token row)) known = refl
people_last u (Put (Group row)) known = refl
people_last u (Put (Member row)) known = refl
people_last u (Drop (keys.Member group user)) known = refl
people_last u change known = absurd known

pub changes_sound : (t : Tables) (now : ℕ) (changes : List Change) (blob : Option ℕ) (report : Report)
    → AreSound t → t.meta.last ≤ now → KnownChange t now changes blob → AreSound (altered t now (allowed.Change changes blob report))
changes_sound t now changes blob report sound later known =
    (changes_have (λ (u : Tables). AreSound u × (t.meta.last ≤ u.meta.last)) t now changes blob report sound.rising known
    (λ u row s it. (born_sound u row s.0 it.born, s.1)) (λ u row s it. (filled_sound u row s.0 it.filled, s.1))
    (λ u row s it. (mounted_sound u row s.0 it, s.1))
    (λ u row s it. (
      elim it [
        | inl new ↦ new_share_sound u row s.0 new.0 (omega (arith, sound.counters.shares, new.1))
        | inr other ↦ other_share_sound u row s.0 other.0
      ],
      s.1,
    ))
    (λ u change s it. (people_sound u change s.0 it, subst (λ (meta : MetaRow). t.meta.last ≤ meta.last) (sym (people_last u change it)) s.1))
    (λ u change s it. (
      aside_sound t blob u change sound s.0 s.1 it,
      subst (λ (v : Tables). t.meta.last ≤ v.meta.last) (sym (aside_only t blob u change it)) s.1,
    ))
    (λ u row root s it. (new_user_sound u row root s.0 it.1 (omega (arith, sound.counters.nodes, it.2)), s.1))
    (raised_sound t now changes blob sound later, later)).0

-- ---- a deed that stores changes

above_rest : (meta : MetaRow) (change : Change) → ((above meta change).last ≡ meta.last) × ((above meta change).next_blob ≡ meta.next_blob)
above_rest meta (Put (User row)) = (refl, refl)
above_rest meta (Put (Group row)) = (refl, refl)
above_rest meta (Put (Node row)) = (refl, refl)
above_rest meta (Put (Share row)) = (refl, refl)
above_rest meta change = (refl, refl)

-- counting changes leaves the moment, and the number of the next blob
counted_rest : (meta : MetaRow) (changes : List Change) → ((counted meta changes).last ≡ meta.last) × ((counted meta changes).next_blob ≡ meta.next_blob)
counted_rest meta [] = (refl, refl)
counted_rest meta (change ∷ changes) =
    let first = above_rest meta change in
    let rest = counted_rest (above meta change) changes in
    (rest.0 ∙ first.0, rest.1 ∙ first.1)

pub counted_blob : (meta : MetaRow) (changes : List Change) → (counted meta changes).next_blob ≡ meta.next_blob
counted_blob meta changes = (counted_rest meta changes).1

pub counted_last : (meta : MetaRow) (changes : List Change) → (counted meta changes).last ≡ meta.last
counted_last meta changes = (counted_rest meta changes).0

-- at the moment of the tables it makes what an act of the changes does
pub store_altered : (t : Tables) (now : ℕ) (changes : List Change) (report : Report) → t.meta.last ≡ now
    → replaced t changes ≡ altered t now (allowed.Change changes None report)
store_altered t now changes report at =
    let meta = counted t.meta changes in
    let rest = counted_rest t.meta changes in
    ap (λ (n : ℕ). record (put_all t changes) { meta = record meta { next_blob = n } }) rest.1
    ∙ ap (λ (n : ℕ). record (put_all t changes) { meta = record meta { next_blob = t.meta.next_blob; last = n } }) (rest.0 ∙ at)
