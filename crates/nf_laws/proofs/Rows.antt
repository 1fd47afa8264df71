-- Rows that may change while each node keeps its owner, place, name and kind.
use Rattle.std.proofs.Common.{ℕ, ◌==◌, ◌≡◌, ◌≢◌, ◌≤◌, Bool, true, false, List, [], ◌∷◌, ◌++◌, Option, None, Some, find, length, option_map, refl, sym, ap, subst, ◌∙◌, arith, le_refl}
use Rattle.std.specs.List.{All}
use Rattle.std.specs.Option.{IfSome, option_map_or, option_or}
use Rattle.std.proofs.lemmas.Bool.{cond_both, eqb-true, ne_eqb}
use Rattle.std.proofs.lemmas.List.Elements.{All-cons, All-head, All-nil, All-tail, All-weaker}
use Rattle.std.proofs.lemmas.List.Folds.{find-append}
use Rattle.std.proofs.lemmas.Option.{none-some, option_and_then_some, same_Some}
use Rattle.nf_base.specs.declared.limits.TheConstants.{MAX_DEPTH}
use Rattle.nf_base.specs.declared.changes.Change.{Change}
use Rattle.nf_base.specs.declared.content.Piece.{Piece}
use Rattle.nf_base.specs.declared.rows.MetaRow.{MetaRow}
use Rattle.nf_base.specs.declared.rows.NodeRow.{NodeRow}
use Rattle.nf_base.specs.declared.rows.Place.{Place}
use Rattle.nf_base.specs.declared.rows.Place.TheVariants.{Inside, Root, Trash}
use Rattle.nf_base.specs.declared.rows.UserRow.{UserRow}
use Rattle.nf_defs.proofs.Climbs.{holds_some}
use Rattle.nf_defs.specs.Prelude.{climb, content_of, folder_of, is_folder, is_folder_kind, node_row, owner_of, parent_of, Tables}
use Rattle.nf_laws.proofs.Climbs.{climb_same}
use Rattle.nf_laws.specs.Numbers.{AreHigher}
use Rattle.nf_words.proofs.Found.{found_has, found_passes}
use Rattle.nf_words.specs.Prelude.{AreCounters, AreSound, blob_after, HasRoot, IsNodeSound, IsPieceSound, IsPlaceSound, IsTop, stamped}

-- ---- what a look-up finds

-- what is found passes the test, and has what each element has
pub found_is : {X : Type 0} (P : X → Type 0) (test : X → Bool) (xs : List X) (found : X)
    → All P xs → find test xs ≡ Some found → (test found ≡ true) × P found
found_is {X = X} P test xs found all is =
    (found_passes test xs found is, subst (λ (o : Option X). IfSome o P) is (found_has P test xs all))

-- a node's row has its number
pub row_id : (rows : List NodeRow) (node : ℕ) (row : NodeRow) → node_row rows node ≡ Some row → row.id ≡ node
row_id rows node row is = eqb-true row.id node (found_passes (λ row. row.id == node) rows row is)

-- and is sound
pub row_is : (t : Tables) (node : ℕ) (row : NodeRow) → AreSound t → node_row t.nodes node ≡ Some row → (row.id ≡ node) × IsNodeSound t row
row_is t node row sound is =
    (row_id t.nodes node row is, (found_is (IsNodeSound t) (λ row. row.id == node) t.nodes row sound.nodes is).1)

-- what all pieces of rows have, those of a node have
pub content_has : (P : Piece → Type 0) (rows : List NodeRow) (node : ℕ) → All (λ (row : NodeRow). All P row.content) rows → All P (content_of rows node)
content_has P rows node all = here (node_row rows node) (found_has (λ (row : NodeRow). All P row.content) (λ row. row.id == node) rows all)
  where
    here : (o : Option NodeRow) → IfSome o (λ (row : NodeRow). All P row.content) → All P (option_map_or (λ row. row.content) o [])
    here None all = All-nil P
    here (Some row) all = all

-- ---- look-ups that find nothing

pub finds_none : {X : Type 0} (test : X → Bool) (xs : List X) → All (λ x. test x ≡ false) xs → find test xs ≡ None
finds_none test [] fail = refl
finds_none test (x ∷ xs) fail = simp (All-head (λ x. test x ≡ false) x xs fail) (finds_none test xs (All-tail (λ x. test x ≡ false) x xs fail))

pub each_fails : {X : Type 0} (test : X → Bool) (xs : List X) → find test xs ≡ None → All (λ x. test x ≡ false) xs
each_fails test [] none = All-nil (λ x. test x ≡ false)
each_fails {X = X} test (x ∷ xs) none =
    cond_both (test x) (Some x) (find test xs) (λ (o : Option X). o ≡ None → All (λ x. test x ≡ false) (x ∷ xs))
    (λ e none. absurd (none-some x (sym none))) (λ e none. All-cons (λ x. test x ≡ false) x xs e (each_fails test xs none)) none

pub no_value : {X : Type 0} (f : X → ℕ) (o : Option X) → option_map f o ≡ None → o ≡ None
no_value f None none = refl
no_value f (Some x) none = absurd (none-some (f x) (sym none))

pub or_none : {X : Type 0} (o : Option X) → option_or o None ≡ o
or_none None = refl
or_none (Some x) = refl

-- a node's row is the same with rows of other nodes
pub row_joined : (rows more : List NodeRow) (node : ℕ) → All (λ (row : NodeRow). row.id ≢ node) more
    → node_row (rows ++ more) node ≡ node_row rows node
row_joined rows more node others =
    let none : node_row more node ≡ None = finds_none (λ row. row.id == node) more (λ k d within. ne_eqb _ node (others k d within)) in
    find-append (λ row. row.id == node) rows more ∙ ap (option_or (node_row rows node)) none ∙ or_none (node_row rows node)

-- ---- what is there

-- the row of a folder
pub folder_there : (rows : List NodeRow) (node : ℕ) → is_folder rows node ≡ true
    → (row : NodeRow) × (node_row rows node ≡ Some row) × (is_folder_kind row.kind ≡ true)
folder_there rows node is = holds_some (λ row. is_folder_kind row.kind) (node_row rows node) is

-- no folder is above a top
pub none_over : (rows : List NodeRow) (top : ℕ) → IsTop rows top → parent_of rows top ≡ None
none_over rows top is = rw is.there is.ends

-- ---- what is in a folder

pub inside_folder : (place : Place) (parent : ℕ) → folder_of place ≡ Some parent → place ≡ Inside parent
inside_folder Root parent is = absurd (none-some parent is)
inside_folder (Inside folder) parent is = ap Inside (same_Some folder parent is)
inside_folder Trash parent is = absurd (none-some parent is)

-- its folder is there
pub child_folder : (t : Tables) (row : NodeRow) (place : Place) (folder : ℕ) → IsPlaceSound t row place → place ≡ Inside folder
    → is_folder t.nodes folder ≡ true
child_folder t row place folder sound is = (subst (IsPlaceSound t row) is sound).0

-- and has its owner
pub child_owner : (t : Tables) (row : NodeRow) (place : Place) (folder : ℕ) → IsPlaceSound t row place → place ≡ Inside folder
    → owner_of t.nodes folder ≡ row.owner
child_owner t row place folder sound is = (subst (IsPlaceSound t row) is sound).1

-- so what a node that is there is in is a folder of its owner's
pub parent_there : (t : Tables) (node parent : ℕ) (row : NodeRow) → AreSound t → node_row t.nodes node ≡ Some row
    → parent_of t.nodes node ≡ Some parent
    → (folder : NodeRow) × (node_row t.nodes parent ≡ Some folder) × (is_folder_kind folder.kind ≡ true) × (folder.owner ≡ row.owner)
parent_there t node parent row sound there above =
    let place = inside_folder row.place parent (rw there at above) in
    let h = (row_is t node row sound there).1.place in
    let folder = folder_there t.nodes parent (child_folder t row row.place parent h place) in
    (folder.0, folder.1, folder.2, rw folder.1 at (child_owner t row row.place parent h place))

-- ---- what stays where each node keeps its owner, place, name and kind

-- the node is there, and has these of the old row
pub record Kept (rows : List NodeRow) (node : ℕ) (old : NodeRow) : Type 0 where
  pub row : NodeRow
  pub there : node_row rows node ≡ Some row
  pub owner : row.owner ≡ old.owner
  pub place : row.place ≡ old.place
  pub name : row.name ≡ old.name
  pub kind : row.kind ≡ old.kind

abbrev pub AreKept : List NodeRow → List NodeRow → Type 0
AreKept rows others = (node : ℕ) (old : NodeRow) → node_row rows node ≡ Some old → Kept others node old

pub folder_kept : (rows others : List NodeRow) (node : ℕ) → AreKept rows others → is_folder rows node ≡ true
    → (is_folder others node ≡ true) × (owner_of others node ≡ owner_of rows node)
folder_kept rows others node kept is =
    let h = folder_there rows node is in
    let k = kept node h.0 h.1 in
    (rw k.there (ap is_folder_kind k.kind ∙ h.2), rw (k.there, h.1) k.owner)

parent_kept : (rows others : List NodeRow) (node parent : ℕ) → AreKept rows others
    → parent_of rows node ≡ Some parent → parent_of others node ≡ Some parent
parent_kept rows others node parent kept is =
    option_and_then_some (λ row. folder_of row.place) (node_row rows node) parent is (λ row there placed.
    let k = kept node row there in rw k.there (ap folder_of k.place ∙ placed))

pub climb_kept : (k : ℕ) (rows others : List NodeRow) (node top : ℕ) → AreKept rows others
    → climb rows k node ≡ Some top → climb others k node ≡ Some top
climb_kept k rows others node top kept is =
    climb_same rows others (λ k node. climb rows k node ≡ Some top) (λ k node parent is above. rw above at is)
    (λ k node is. option_and_then_some (climb rows k) (parent_of rows node) top is
    (λ parent above rest. parent_kept rows others node parent kept above ∙ sym above)) k node is ∙ is

-- a top stays one
pub top_kept : (rows others : List NodeRow) (top : ℕ) → AreKept rows others → IsTop rows top → IsTop others top
top_kept rows others top kept is =
    let k = kept top is.row is.there in record { row = k.row; there = k.there; ends = ap folder_of k.place ∙ is.ends }

-- a row that is there as it was
pub kept_row : (rows : List NodeRow) (node : ℕ) (old : NodeRow) → node_row rows node ≡ Some old → Kept rows node old
kept_row rows node old is = record { row = old; there = is; owner = refl; place = refl; name = refl; kind = refl }

-- with more rows those before are kept
pub kept_joined : (rows more : List NodeRow) → AreKept rows (rows ++ more)
kept_joined rows more node old is =
    kept_row (rows ++ more) node old
    (find-append (λ row. row.id == node) rows more ∙ ap (λ (o : Option NodeRow). option_or o (node_row more node)) is)

-- the tables with other rows and counters
abbrev pub with_nodes : Tables → MetaRow → List NodeRow → Tables
with_nodes t meta others = record t { meta = meta; nodes = others }

pub place_kept : (t : Tables) (meta : MetaRow) (others : List NodeRow) (row : NodeRow) (place : Place) → AreKept t.nodes others
    → IsPlaceSound t row place → IsPlaceSound (with_nodes t meta others) row place
place_kept t meta others row Root kept sound = sound
place_kept t meta others row (Inside folder) kept sound =
    let h = folder_kept t.nodes others folder kept sound.0 in (h.0, h.1 ∙ sound.1)
place_kept t meta others row Trash kept sound = sound

-- pieces stay sound in other tables, where no given blob's number is taken back
pub pieces_kept : (t made : Tables) (pieces : List Piece) → t.meta.next_blob ≤ made.meta.next_blob
    → All (IsPieceSound t) pieces → All (IsPieceSound made) pieces
pieces_kept t made pieces grows =
    All-weaker (IsPieceSound t) (IsPieceSound made)
    (λ piece sound. record { some = sound.some; few = sound.few; first = sound.first; given = omega (arith, sound.given) }) pieces

-- a node leads to a top
pub record IsRooted (t : Tables) (node : ℕ) : Type 0 where
  pub steps : ℕ
  pub shallow : steps ≤ MAX_DEPTH
  pub top : ℕ
  pub climbs : climb t.nodes steps node ≡ Some top
  pub ends : IsTop t.nodes top

-- a sound row stays so in other tables and in another place, where it is rooted in them
pub node_still : (t made : Tables) (row : NodeRow) (place : Place) (name : List ℕ) → t.meta.next_node ≤ made.meta.next_node
    → t.meta.next_blob ≤ made.meta.next_blob → t.meta.last ≤ made.meta.last → IsNodeSound t row
    → IsPlaceSound made (record row { place = place; name = name }) place → IsRooted made row.id
    → IsNodeSound made (record row { place = place; name = name })
node_still t made row place name nodes blobs later sound in_place rooted = record {
  some = sound.some;
  given = omega (arith, sound.given);
  changed = omega (arith, sound.changed);
  pieces = pieces_kept t made row.content blobs sound.pieces;
  folder = sound.folder;
  place = in_place;
  steps = rooted.steps;
  shallow = rooted.shallow;
  top = rooted.top;
  climbs = rooted.climbs;
  ends = rooted.ends;
}

pub node_kept : (t : Tables) (meta : MetaRow) (others : List NodeRow) (row : NodeRow) → AreKept t.nodes others
    → t.meta.next_node ≤ meta.next_node → t.meta.next_blob ≤ meta.next_blob → t.meta.last ≤ meta.last
    → IsNodeSound t row → IsNodeSound (with_nodes t meta others) row
node_kept t meta others row kept nodes blobs later sound =
    node_still t (with_nodes t meta others) row row.place row.name nodes blobs later sound (place_kept t meta others row row.place kept sound.place)
    (record {
      steps = sound.steps;
      shallow = sound.shallow;
      top = sound.top;
      climbs = climb_kept sound.steps t.nodes others row.id sound.top kept sound.climbs;
      ends = top_kept t.nodes others sound.top kept sound.ends;
    })

-- so does a root, where it is there
pub root_still : (t made : Tables) (user : UserRow) (root : HasRoot t user) → Kept made.nodes user.root root.row → HasRoot made user
root_still t made user root k = record {
  row = k.row;
  there = k.there;
  place = k.place ∙ root.place;
  folder = ap is_folder_kind k.kind ∙ root.folder;
  owner = k.owner ∙ root.owner;
  name = k.name ∙ root.name;
}

pub root_kept : (t : Tables) (meta : MetaRow) (others : List NodeRow) → AreKept t.nodes others
    → (user : UserRow) → HasRoot t user → HasRoot (with_nodes t meta others) user
root_kept t meta others kept user root = root_still t (with_nodes t meta others) user root (kept user.root root.row root.there)

-- no counter falls below 1
pub counters_up : (before after : MetaRow) → AreCounters before → AreHigher before after → AreCounters after
counters_up before after counters up = record {
  users = omega (arith, counters.users, up.users);
  groups = omega (arith, counters.groups, up.groups);
  nodes = omega (arith, counters.nodes, up.nodes);
  shares = omega (arith, counters.shares, up.shares);
  blobs = omega (arith, counters.blobs, up.blobs);
}

pub none_higher : (meta : MetaRow) (now : ℕ) → AreHigher meta (record meta { last = now })
none_higher meta now = record { users = le_refl _; groups = le_refl _; nodes = le_refl _; shares = le_refl _; blobs = le_refl _ }

-- no blob's number is taken back
pub blob_up : (next : ℕ) (blob : Option ℕ) → next ≤ blob_after next blob
blob_up next None = omega arith
blob_up next (Some id) = omega arith

-- ---- tables as they stand once the moment is stamped

abbrev pub stamp : Tables → ℕ → Tables
stamp t now = record t { meta = record t.meta { last = now } }

-- what both have, the tables have whether or not the moment is stamped
pub stamped_has : (P : Tables → Type 0) (t made : Tables) (now : ℕ) (changes : List Change) → P t → P (stamp made now) → P (stamped t made now changes)
stamped_has P t made now [] same stamps = same
stamped_has P t made now (change ∷ changes) same stamps = stamps

-- where a row differs it is
pub stamped_some : (t made : Tables) (now : ℕ) (changes : List Change) → 1 ≤ length changes → stamped t made now changes ≡ stamp made now
stamped_some t made now [] some = absurd (omega arith)
stamped_some t made now (change ∷ changes) some = refl

-- and the nodes are those of the tables made
pub stamped_nodes : (t made : Tables) (now : ℕ) (changes : List Change) → 1 ≤ length changes → (stamped t made now changes).nodes ≡ made.nodes
stamped_nodes t made now changes some = ap (λ (u : Tables). u.nodes) (stamped_some t made now changes some)
