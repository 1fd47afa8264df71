-- What a step leaves alone, and what each kind of change does.
use Rattle.std.proofs.Common.{◌≡◌, ◌≢◌, ℕ, ◌<◌, ◌≤◌, ◌==◌, ◌&&◌, ◌||◌, not, filter, Bool, true, false, List, [], ◌∷◌, ◌++◌, length, Option, if◌then◌else◌, refl, sym, subst, arith, ◌⊎◌, map, flat_map}
use Rattle.std.specs.Prelude.{None, Some}
use Rattle.std.specs.List.{All, list_any}
use Rattle.std.specs.Option.{IfSome, option_map_or}
use Rattle.std.proofs.lemmas.Bool.{cond_both, eq-eqb, eqb-true}
use Rattle.std.proofs.lemmas.List.Elements.{All-append, All-cons, All-map, All-nil}
use Rattle.std.proofs.lemmas.Slice.Eq.{bytes_eq-Decides}
use Rattle.nf_base.specs.Content.{content_eq}
use Rattle.nf_base.specs.declared.changes.Change.{Change}
use Rattle.nf_base.specs.declared.changes.Change.TheVariants.{Drop, Put}
use Rattle.nf_base.specs.declared.changes.RowKey.TheVariants as keys
use Rattle.nf_base.specs.declared.content.Piece.{Piece}
use Rattle.nf_base.specs.declared.rows.ChunkRow.{ChunkRow}
use Rattle.nf_base.specs.declared.rows.NodeKind.{NodeKind}
use Rattle.nf_base.specs.declared.rows.NodeKind.TheVariants.{File}
use Rattle.nf_base.specs.declared.rows.NodeRow.{NodeRow}
use Rattle.nf_base.specs.declared.rows.Place.TheVariants.{Inside}
use Rattle.nf_base.specs.declared.rows.Row.TheVariants as rows
use Rattle.nf_base.specs.declared.rows.UploadRow.{UploadRow}
use Rattle.nf_defs.specs.Prelude.{filled, is_under, node_row, owner_of, Tables}
use Rattle.nf_words.proofs.Found.{found_has, found_passes}
use Rattle.nf_words.proofs.Known.{IsItem}
use Rattle.nf_words.specs.Prelude.{AreKeysApart, AreSound, chunk_put, chunk_row, copies_to, is_exclusive, IsNodeSound, new_file, new_node, node_of_key, same_key, Touch, becomes_version, charged, content_size, drop_version, forgets, gone_after, is_same, purged_by, refilled, refills, settled_by, turned_over, turns_over, unsettled, touched_row, upload_touched}
use Rattle.nf_words.specs.declared.answer.Allowed.{Allowed}
use Rattle.nf_words.specs.declared.answer.Allowed.TheVariants as allowed
use Rattle.nf_words.specs.declared.answer.Hold.{Hold}
use Rattle.nf_words.specs.declared.answer.LockKey.{LockKey}
use Rattle.nf_words.specs.declared.answer.LockKey.TheVariants.{Node, Slot}
use Rattle.nf_words.specs.declared.answer.Mode.{Mode}
use Rattle.nf_words.specs.declared.answer.Mode.TheVariants.{Exclusive, Shared}
use Rattle.nf_words.specs.declared.request.Transfer.{Transfer}
use Rattle.nf_words.specs.declared.answer.Deed.{Deed}
use Rattle.nf_words.specs.declared.answer.Deed.TheVariants as deed
use Rattle.nf_retention.specs.declared.versions.Version.{Version}
use Rattle.nf_words.specs.Changes.{Charged}
use Rattle.nf_words.specs.Versions.{drop_back, drop_gone, has_already, is_version, put_replaced, stays_version, version_for}

-- ---- what a step leaves alone

-- a file that is there and put again isn't held, and no new row is under a name that is
pub record SparesRow (t : Tables) (key : LockKey) (row : NodeRow) : Type 0 where
  pub node : row.id < t.meta.next_node → key ≢ Node row.id
  pub slot : t.meta.next_node ≤ row.id → (folder : ℕ) → row.place ≡ Inside folder → key ≢ Slot folder row.name

abbrev pub SparesChange : Tables → LockKey → Change → Type 0
SparesChange t key (Put (rows.Node row)) = SparesRow t key row
SparesChange t key other = Unit {0}

-- what is held isn't under a node
abbrev pub SparesUnder : Tables → LockKey → ℕ → Type 0
SparesUnder t key top = is_under t.nodes (node_of_key key) top ≡ false

-- nothing is put under a name that is held, nor what is held replaced
pub record SparesTarget (t : Tables) (key : LockKey) (transfer : Transfer) (name : List ℕ) : Type 0 where
  pub slot : key ≢ Slot transfer.folder name
  pub replaced : IfSome transfer.replaced (SparesUnder t key)

-- a deed leaves alone what is held: that isn't under what leaves its place, unless that is an item, since what is held isn't in the
-- trash; and nothing is put under a name that is held
abbrev pub SparesDeed : Tables → ℕ → LockKey → Deed → Type 0
SparesDeed t now key (deed.Discard item) = SparesUnder t key item.node
SparesDeed t now key (deed.Purge node) = IsItem t node ⊎ SparesUnder t key node
SparesDeed t now key (deed.Restore node folder name) = key ≢ Slot folder name
SparesDeed t now key (deed.Relink node folder name) = SparesUnder t key node × key ≢ Slot folder name
SparesDeed t now key (deed.Join rows) =
    (transfer : Transfer) × (name : List ℕ) × (rows ≡ copies_to t now transfer name) × key ≢ Slot transfer.folder name
SparesDeed t now key (deed.Requote row) = Unit {0}
SparesDeed t now key (deed.Forget node at) = Unit {0}
SparesDeed t now key (deed.Store changes) = All (SparesChange t key) changes
SparesDeed t now key (deed.Abandon user dir) = Unit {0}

-- an act leaves alone what is held, and what it grants is another key, or both read
abbrev pub Spares : Tables → ℕ → Hold → Allowed → Type 0
Spares t now hold (allowed.Get node content) = AreKeysApart (Node node) Shared hold.key hold.mode
Spares t now hold (allowed.List listing) = Unit {0}
Spares t now hold (allowed.Put by key length) = AreKeysApart key Exclusive hold.key hold.mode
Spares t now hold (allowed.Chunk user dir number length) = Unit {0}
Spares t now hold (allowed.Change changes blob report) = All (SparesChange t hold.key) changes
Spares t now hold (allowed.Deeds deeds report) = All (SparesDeed t now hold.key) deeds
Spares t now hold allowed.Close = Unit {0}

-- ---- keys

pub same_self : (key : LockKey) → same_key key key ≡ true
same_self (Node node) = eq-eqb node node refl
same_self (Slot folder name) = simp (eq-eqb folder folder refl) ((bytes_eq-Decides name name).1 refl)

both_read : (a b : Mode) → is_exclusive a b ≡ false → (a ≡ Shared) × (b ≡ Shared)
both_read Shared Shared h = (refl, refl)
both_read Shared Exclusive h = absurd (cc)
both_read Exclusive Shared h = absurd (cc)
both_read Exclusive Exclusive h = absurd (cc)

pub alone : (b : Bool) (mode : Mode) → (b && is_exclusive Exclusive mode) ≡ false → b ≡ false
alone false mode h = refl
alone true Shared h = absurd (cc)
alone true Exclusive h = absurd (cc)

-- a key that doesn't clash is another, or both read
pub apart : (key : LockKey) (mode : Mode) (hold : Hold) → (same_key key hold.key && is_exclusive mode hold.mode) ≡ false
    → AreKeysApart key mode hold.key hold.mode
apart key mode hold clear same =
    both_read mode hold.mode (simp (subst (λ (k : LockKey). same_key key k ≡ true) same (same_self key)) at clear)

-- one that is to be alone is another
pub other_key : (key : LockKey) (hold : Hold) → AreKeysApart key Exclusive hold.key hold.mode → hold.key ≢ key
other_key key hold apart = λ same. let both = apart (sym same) in absurd (cc)

pub no_other : (f : Touch → Bool) (touch : Touch) (others : List Touch) → list_any f (touch ∷ others) ≡ false → (f touch ≡ false) × (list_any f others ≡ false)
no_other f touch others = here (f touch) (list_any f others)
  where
    here : (a b : Bool) → (a || b) ≡ false → (a ≡ false) × (b ≡ false)
    here false false h = (refl, refl)
    here false true h = absurd (cc)
    here true b h = absurd (cc)

-- ---- rows

-- a new row is under no name that is held
pub new_spared : (t : Tables) (now folder : ℕ) (name : List ℕ) (kind : NodeKind) (content : List Piece) (hold : Hold) (more : List Change)
    → hold.key ≢ Slot folder name → All (SparesChange t hold.key) more
    → All (SparesChange t hold.key) (Put (rows.Node (new_node t now folder name kind content)) ∷ more)
new_spared t now folder name kind content hold more other rest =
    All-cons (SparesChange t hold.key) (Put (rows.Node (new_node t now folder name kind content))) more
    (record {
      node = λ given. absurd (omega (arith, given));
      slot = λ fresh at place. subst (λ (n : ℕ). hold.key ≢ Slot n name) (inside folder at place) other;
    }) rest
  where
    inside : (a b : ℕ) → Inside a ≡ Inside b → a ≡ b
    inside a b same = cc

-- ---- versions, which nobody holds

-- those that go behind other deeds
pub settled_spared : (t : Tables) (now : ℕ) (key : LockKey) (to : Charged) (deeds : List Deed) → All (SparesDeed t now key) deeds
    → All (SparesDeed t now key) (settled_by t to deeds)
settled_spared t now key to deeds all =
    let gone = unsettled t to (flat_map purged_by deeds) in
    All-append (SparesDeed t now key) deeds (forgets gone) all
    (All-map (SparesDeed t now key) (λ (version : Version). deed.Forget version.node version.at) gone (λ k d within. tt))

pub drops_spared : (t : Tables) (key : LockKey) (gone : List Version) → All (SparesChange t key) (map drop_version gone)
drops_spared t key gone = All-map (SparesChange t key) drop_version gone (λ k d within. tt)

-- what becomes of them where a content becomes another
turned_spared : (t : Tables) (key : LockKey) (back : Option ℕ) (row : NodeRow) (gone : List Version) → All (SparesChange t key) (turned_over t back row gone)
turned_spared t key back row gone =
    let stays = stays_version t back row gone in
    All-append (SparesChange t key) (put_replaced t row stays) (drop_back back row stays ++ drop_gone (becomes_version t.versions back row) row gone)
    (cond_both (stays && not (has_already t.versions row)) (Put (rows.Version (version_for row)) ∷ []) [] (All (SparesChange t key))
    (λ e. All-cons (SparesChange t key) (Put (rows.Version (version_for row))) [] tt (All-nil (SparesChange t key))) (λ e. All-nil (SparesChange t key)))
    (All-append (SparesChange t key) (drop_back back row stays) (drop_gone (becomes_version t.versions back row) row gone) (here back stays)
    (drops_spared t key (filter (λ version. not (becomes_version t.versions back row && is_version row.id row.changed version)) gone)))
  where
    here : (o : Option ℕ) (b : Bool) → All (SparesChange t key) (drop_back o row b)
    here None b = All-nil (SparesChange t key)
    here (Some at) b =
        cond_both (b && at == row.changed) [] (Drop (keys.Version row.id at) ∷ []) (All (SparesChange t key)) (λ e. All-nil (SparesChange t key))
        (λ e. All-cons (SparesChange t key) (Drop (keys.Version row.id at)) [] tt (All-nil (SparesChange t key)))

-- a file that is there and isn't held
pub refills_spared : (t : Tables) (now node : ℕ) (back : Option ℕ) (content : List Piece) (row : NodeRow) (key : LockKey) → AreSound t → key ≢ Node node
    → node_row t.nodes node ≡ Some row → All (SparesChange t key) (refills t now back content row)
refills_spared t now node back content row key sound other there =
    let to = charged t row.owner (content_size row.content) (content_size content) in
    All-append (SparesChange t key) (if is_same now content row then [] else Put (rows.Node (filled content now row)) ∷ []) (turns_over t now back content row)
    (cond_both (is_same now content row) [] (Put (rows.Node (filled content now row)) ∷ []) (All (SparesChange t key)) (λ e. All-nil (SparesChange t key))
    (λ e. All-cons (SparesChange t key) (Put (rows.Node (filled content now row))) [] one (All-nil (SparesChange t key))))
    (turned_spared t key back row (gone_after t now back row to.quota to.charge))
  where
    one : SparesRow t key (filled content now row)
    one =
        let id : row.id ≡ node = eqb-true row.id node (found_passes (λ (row : NodeRow). row.id == node) t.nodes row there) in
        let is = subst (λ (o : Option NodeRow). IfSome o (IsNodeSound t)) there
        (found_has (IsNodeSound t) (λ (row : NodeRow). row.id == node) t.nodes sound.nodes) in
        record {
          node = λ given. subst (λ (n : ℕ). key ≢ Node n) (sym id) other;
          slot = λ fresh folder place. absurd (omega (arith, fresh, is.given));
        }

-- a content over that of a file that isn't held, unless the file has it since that moment
pub over_spared : (t : Tables) (now node : ℕ) (content : List Piece) (key : LockKey) → AreSound t → key ≢ Node node
    → All (SparesChange t key) (option_map_or (refilled t now content) (node_row t.nodes node) [])
over_spared t now node content key sound other = here (node_row t.nodes node) refl
  where
    here : (o : Option NodeRow) → node_row t.nodes node ≡ o → All (SparesChange t key) (option_map_or (refilled t now content) o [])
    here None there = All-nil (SparesChange t key)
    here (Some row) there =
        cond_both (is_same now content row) [] (refills t now None content row) (All (SparesChange t key)) (λ e. All-nil (SparesChange t key))
        (λ e. refills_spared t now node None content row key sound other there)

-- a new file under a name that isn't held
pub file_spared : (t : Tables) (now folder : ℕ) (name : List ℕ) (content : List Piece) (hold : Hold) → hold.key ≢ Slot folder name
    → All (SparesChange t hold.key) (new_file t (new_node t now folder name File content))
file_spared t now folder name content hold other =
    let gone = unsettled t (charged t (owner_of t.nodes folder) 0 (content_size content)) [] in
    new_spared t now folder name File content hold (map drop_version gone) other (drops_spared t hold.key gone)

-- a chunk, and that its upload is touched
pub chunk_spared : (t : Tables) (now : ℕ) (key : LockKey) (row : ChunkRow) (upload : Option UploadRow)
    → All (SparesChange t key) (chunk_put t row ++ option_map_or (upload_touched now) upload [])
chunk_spared t now key row upload =
    All-append (SparesChange t key) (chunk_put t row) (option_map_or (upload_touched now) upload [])
    (cond_both (option_map_or (λ old. content_eq old.content row.content) (chunk_row t.chunks row.user row.dir row.number) false) []
    (Put (rows.Chunk row) ∷ []) (All (SparesChange t key)) (λ e. All-nil (SparesChange t key))
    (λ e. All-cons (SparesChange t key) (Put (rows.Chunk row)) [] tt (All-nil (SparesChange t key)))) (here upload)
  where
    here : (o : Option UploadRow) → All (SparesChange t key) (option_map_or (upload_touched now) o [])
    here None = All-nil (SparesChange t key)
    here (Some one) =
        cond_both (one.touched == now) [] (Put (rows.Upload (touched_row now one)) ∷ []) (All (SparesChange t key)) (λ e. All-nil (SparesChange t key))
        (λ e. All-cons (SparesChange t key) (Put (rows.Upload (touched_row now one))) [] tt (All-nil (SparesChange t key)))
