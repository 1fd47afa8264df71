-- The deeds of a step, each known in the tables that it is done in.
use Rattle.std.proofs.Common.{◌≡◌, ◌≢◌, ◌≤◌, ℕ, zero, suc, ◌+◌, true, ◌==◌, not, false, List, [], ◌∷◌, ◌++◌, Option, None, Some, length, get_or, inl, inr, refl, sym, ap, subst, ◌∙◌, arith}
use Rattle.std.specs.Prelude.{is_some}
use Rattle.std.specs.List.{All, AllPairs, Contains, slice_get}
use Rattle.std.specs.Option.{option_map_or}
use Rattle.std.proofs.lemmas.Bool.{cond_both, eqb-true, false_from_ne_true, ne_eqb}
use Rattle.std.proofs.lemmas.List.Elements.{All-contains_itself, All-head, All-tail}
use Rattle.std.proofs.lemmas.List.Sums.{sum_by-cons}
use Rattle.std.proofs.lemmas.Option.{get_or_from_slice_get, none-some, slice_get_within}
use Rattle.nf_base.specs.declared.changes.Change.TheVariants.{Put}
use Rattle.nf_base.specs.declared.limits.TheConstants.{MAX_NODES, MAX_STORED_PIECES}
use Rattle.nf_base.specs.declared.rows.ItemRow.{ItemRow}
use Rattle.nf_base.specs.declared.rows.NodeRow.{NodeRow}
use Rattle.nf_base.specs.declared.rows.Row.TheVariants as rows
use Rattle.nf_defs.specs.Prelude.{dropped, item_key, content_of, is_under, node_row, owner_of, Tables, walk_of}
use Rattle.nf_laws.proofs.Copied.{joined_sound}
use Rattle.nf_laws.proofs.Into.{below_out, folder_out, into, known_into, walk_so}
use Rattle.nf_laws.proofs.Left.{Left}
use Rattle.nf_laws.proofs.Lists.{changes_sound, counted_last, store_altered}
use Rattle.nf_laws.proofs.Mirrored.{mirrored}
use Rattle.nf_laws.proofs.Moved.{deep_below, Fits, relinked_sound}
use Rattle.nf_laws.proofs.Others.{item_other, items_all}
use Rattle.nf_laws.proofs.Peopled.{people_sound}
use Rattle.nf_laws.proofs.Present.{never_trash}
use Rattle.nf_laws.proofs.Sent.{abandoned_sound}
use Rattle.nf_laws.proofs.Turned.{forgotten_sound}
use Rattle.nf_laws.proofs.Trashed.{discarded_sound, Goes, item_top, purged_sound}
use Rattle.nf_laws.proofs.Walked.{walks_take}
use Rattle.nf_laws.proofs.Upwards.{climbs_is_under}
use Rattle.nf_laws.specs.Transfers.{IsPlacedCopy, Mirrors}
use Rattle.nf_base.specs.declared.rows.MetaRow.{MetaRow}
use Rattle.nf_base.specs.declared.rows.Place.TheVariants.{Inside}
use Rattle.nf_defs.proofs.Climbs.{under_climb}
use Rattle.nf_defs.proofs.Walks.{walk_climbs}
use Rattle.nf_words.proofs.Fits.{KnownChange}
use Rattle.nf_words.proofs.Found.{child_parent, found_passes}
use Rattle.nf_words.proofs.Known.{IsItem, KnownCopies, KnownLeaving, KnownTransfer}
use Rattle.nf_words.proofs.Ways.{inside_there}
use Rattle.nf_words.specs.Prelude.{AreSound, copies, copies_to, deed_done, deeds_done, discard, goes_itself, IsRequoted, item_for, joined, LeadsToRoot, last_number, pieces_in, purged, purges, row_at, stored_pieces}
use Rattle.nf_words.specs.declared.answer.Deed.{Deed}
use Rattle.nf_words.specs.declared.answer.Deed.TheVariants as deed
use Rattle.nf_words.specs.declared.answer.Report.TheVariants as report
use Rattle.nf_words.specs.declared.request.Transfer.{Transfer}

-- copies of a node where nothing is replaced
pub record Joins (t : Tables) (now : ℕ) (rows : List NodeRow) : Type 0 where
  pub transfer : Transfer
  pub name : List ℕ
  pub known : KnownTransfer t transfer name
  pub alone : transfer.replaced ≡ None
  pub mirrors : Mirrors t now transfer name rows
  pub nodes : length t.nodes + length (walk_of t.nodes transfer.node) ≤ MAX_NODES
  pub next_node : t.meta.next_node + length (walk_of t.nodes transfer.node) ≤ last_number
  pub pieces : stored_pieces t + pieces_in t.nodes (walk_of t.nodes transfer.node) ≤ MAX_STORED_PIECES
  pub next_blob : t.meta.next_blob ≤ last_number

abbrev pub Fit : Tables → ℕ → Deed → Type 0
Fit t now (deed.Discard item) = (row : NodeRow) × KnownLeaving t row × (item ≡ item_for now row)
Fit t now (deed.Purge node) = Goes t node
Fit t now (deed.Restore node folder name) = (row : NodeRow) × Fits t (dropped item_key (node ∷ []) t.items) node folder name row
Fit t now (deed.Relink node folder name) = (row : NodeRow) × Fits t t.items node folder name row
Fit t now (deed.Join copies) = Joins t now copies
Fit t now (deed.Requote row) = IsRequoted t row
Fit t now (deed.Forget node at) = Unit {0}
Fit t now (deed.Store changes) = KnownChange t now changes None
Fit t now (deed.Abandon user dir) = Unit {0}

abbrev pub InTurn : Tables → ℕ → List Deed → Type 0
InTurn t now [] = Unit {0}
InTurn t now (one ∷ deeds) = Fit t now one × InTurn (deed_done t one) now deeds

-- no deed touches the moment
pub deed_moment : (t : Tables) (one : Deed) → (deed_done t one).meta.last ≡ t.meta.last
deed_moment t (deed.Discard item) = refl
deed_moment t (deed.Purge node) = refl
deed_moment t (deed.Restore node folder name) = refl
deed_moment t (deed.Relink node folder name) = refl
deed_moment t (deed.Join copies) = refl
deed_moment t (deed.Requote row) = refl
deed_moment t (deed.Forget node at) = refl
deed_moment t (deed.Store changes) = counted_last t.meta changes
deed_moment t (deed.Abandon user dir) = refl

-- what is done at the moment of sound tables leaves them sound
pub fit_sound : (t : Tables) (now : ℕ) (one : Deed) → AreSound t → t.meta.last ≡ now → Fit t now one → AreSound (deed_done t one)
fit_sound t now (deed.Discard item) sound at (row, known, is) =
    subst (λ (i : ItemRow). AreSound (deed_done t (deed.Discard i))) (sym is)
    (discarded_sound t (item_for now row) row known.folder sound (omega (arith, at)) known.there known.inside known.present refl)
fit_sound t now (deed.Purge node) sound at goes = purged_sound t node sound goes
fit_sound t now (deed.Restore node folder name) sound at (row, fits) =
    relinked_sound t (dropped item_key (node ∷ []) t.items) node folder name row sound fits
fit_sound t now (deed.Relink node folder name) sound at (row, fits) = relinked_sound t t.items node folder name row sound fits
fit_sound t now (deed.Join copies) sound at joins =
    subst (λ (n : ℕ). AreSound (record (joined t copies) { meta = record (joined t copies).meta { last = n } })) (sym at)
    (joined_sound t now joins.transfer joins.name copies joins.mirrors sound joins.known joins.alone (omega (arith, at))
    (walks_take.once t joins.transfer.node sound) joins.nodes joins.pieces)
fit_sound t now (deed.Requote row) sound at known = people_sound t (Put (rows.User row)) sound known
fit_sound t now (deed.Forget node moment) sound at known = forgotten_sound t node moment sound
fit_sound t now (deed.Store changes) sound at known =
    subst AreSound (sym (store_altered t now changes report.Done at)) (changes_sound t now changes None report.Done sound (omega (arith, at)) known)
fit_sound t now (deed.Abandon user dir) sound at known = abandoned_sound t user dir sound

-- what each deed keeps of a property of sound tables, all of them keep
pub deeds_have : (P : Tables → Type 0) (now : ℕ)
    → ((u : Tables) (one : Deed) → AreSound u → u.meta.last ≡ now → Fit u now one → P u → P (deed_done u one))
    → (t : Tables) (deeds : List Deed) → AreSound t → t.meta.last ≡ now → InTurn t now deeds → P t → P (deeds_done t deeds)
deeds_have P now keeps t [] sound at turn has = has
deeds_have P now keeps t (one ∷ deeds) sound at turn has =
    deeds_have P now keeps (deed_done t one) deeds (fit_sound t now one sound at turn.0) (deed_moment t one ∙ at) turn.1 (keeps t one sound at turn.0 has)

-- what each deed keeps of a property of tables, known or not, all of them keep
pub deeds_keep : (P : Tables → Type 0) → ((u : Tables) (one : Deed) → P u → P (deed_done u one)) → (t : Tables) (deeds : List Deed) → P t
    → P (deeds_done t deeds)
deeds_keep P keeps t [] has = has
deeds_keep P keeps t (one ∷ deeds) has = deeds_keep P keeps (deed_done t one) deeds (keeps t one has)

pub deeds_sound : (t : Tables) (now : ℕ) (deeds : List Deed) → AreSound t → t.meta.last ≡ now → InTurn t now deeds → AreSound (deeds_done t deeds)
deeds_sound t now deeds sound at turn =
    deeds_have AreSound now (λ u one fine is fit has. fit_sound u now one fine is fit) t deeds sound at turn sound

-- deeds behind others
pub deeds_append : (t : Tables) (xs ys : List Deed) → deeds_done t (xs ++ ys) ≡ deeds_done (deeds_done t xs) ys
deeds_append t [] ys = refl
deeds_append t (x ∷ xs) ys = deeds_append (deed_done t x) xs ys

pub turn_append : (t : Tables) (now : ℕ) (xs ys : List Deed) → InTurn t now xs → InTurn (deeds_done t xs) now ys → InTurn t now (xs ++ ys)
turn_append t now [] ys first second = second
turn_append t now (x ∷ xs) ys first second = (first.0, turn_append (deed_done t x) now xs ys first.1 second)

-- ---- items that go

-- an item stays one where another goes
pub item_stays : (t : Tables) (node : ℕ) (nodes : List ℕ) → AllPairs (λ (a b : ℕ). a ≢ b) (node ∷ nodes) → All (IsItem t) nodes
    → All (IsItem (purged t node)) nodes
item_stays t node nodes once items k d within =
    ap is_some (item_other node (get_or nodes k d) t.items (λ same. once 0 (suc k) d (omega arith) (omega (arith, within)) (sym same))) ∙ items k d within

pub goes_turn : (t : Tables) (now : ℕ) (nodes : List ℕ) → AllPairs (λ (a b : ℕ). a ≢ b) nodes → All (IsItem t) nodes → InTurn t now (purges nodes)
goes_turn t now [] once items = tt
goes_turn t now (node ∷ nodes) once items = (
  inl (All-head (IsItem t) node nodes items),
  goes_turn (purged t node) now nodes (λ i j d before within. once (suc i) (suc j) d (omega (arith, before)) (omega (arith, within)))
      (item_stays t node nodes once (All-tail (IsItem t) node nodes items)),
)

-- what is present isn't under one
pub item_outside : (u : Tables) (item node : ℕ) → AreSound u → IsItem u item → LeadsToRoot u.nodes node → is_under u.nodes node item ≡ false
item_outside u item node sound is present =
    let top = item_top u item sound is in
    false_from_ne_true (is_under u.nodes node item) (λ under.
    let c = under_climb u.nodes node item under in never_trash c.0 u.nodes node item top.0 present c.2 top.1 top.2)

-- ---- what leaves its place

-- it may do so in other tables than those in which it was decided how
pub leaving_fit : (t w : Tables) (now : ℕ) (row : NodeRow) → KnownLeaving w row → Fit w now (discard t now row)
leaving_fit t w now row known =
    cond_both (goes_itself t now row) (deed.Purge row.id) (deed.Discard (item_for now row)) (λ (one : Deed). Fit w now one)
    (λ e. inr (row, refl, known)) (λ e. (row, known, refl))

-- ---- what is moved

-- where nothing is replaced
pub move_fits : (t : Tables) (transfer : Transfer) (name : List ℕ) (old : NodeRow) → AreSound t → KnownTransfer t transfer name → transfer.replaced ≡ None
    → node_row t.nodes transfer.node ≡ Some old → owner_of t.nodes transfer.folder ≡ old.owner → Fits t t.items transfer.node transfer.folder name old
move_fits t transfer name old sound known alone there owner = record {
  there = there;
  no_root = known.no_root;
  left = items_all t (λ other. other == transfer.node) sound (λ other row of place.
      ap not (ne_eqb other transfer.node (λ same. never_trash 0 t.nodes transfer.node other row known.present (ap Some (sym same)) of place)));
  in_folder = known.in_folder;
  folder_present = known.folder_present;
  owner = owner;
  free = known.there ∙ alone;
  unmounted = known.unmounted;
  outside = known.outside;
  shallow = λ j below row there is. deep_below t transfer.node transfer.folder j below sound is known.deep;
}

-- what is replaced, where that was there
pub replaced_is : (t : Tables) (o : Option ℕ) (row : NodeRow) → row_at t o ≡ Some row → o ≡ Some row.id
replaced_is t None row is = absurd (none-some row is)
replaced_is t (Some node) row is = ap Some (sym (eqb-true row.id node (found_passes (λ (row : NodeRow). row.id == node) t.nodes row is)))

-- where that isn't there nothing is replaced
pub none_replaced : (t : Tables) (transfer : Transfer) (name : List ℕ) → AreSound t → KnownTransfer t transfer name → row_at t transfer.replaced ≡ None
    → transfer.replaced ≡ None
none_replaced t transfer name sound known none = here transfer.replaced refl
  where
    here : (o : Option ℕ) → transfer.replaced ≡ o → o ≡ None
    here None e = refl
    here (Some node) e =
        let there = inside_there t.nodes node transfer.folder (child_parent t.nodes transfer.folder name node sound.rising (known.there ∙ e)) in
        absurd (none-some there.0 (sym none ∙ ap (row_at t) e ∙ there.1))

-- ---- what is copied

-- copies are those of their nodes where what is replaced has left its place, too
mirrors_into : (t u : Tables) (top now : ℕ) (transfer : Transfer) (name : List ℕ) (rows : List NodeRow) (sound : AreSound t) (left : Left t u top)
    (known : KnownTransfer t transfer name) (is : transfer.replaced ≡ Some top) → Mirrors t now transfer name rows → Mirrors u now (into transfer) name rows
mirrors_into t u top now transfer name rows sound left known is mirrors = record {
  all = mirrors.all ∙ ap length (sym walk);
  each = λ k copy found.
      let c = mirrors.each k copy found in
      let under = walk_under k c.node c.at_index in
      record {
        node = c.node;
        of = c.of;
        at_index = ap (λ (nodes : List ℕ). slice_get nodes k) walk ∙ c.at_index;
        there = left.row c.node (below_out t u top sound left transfer name known is c.node under) ∙ c.there;
        id = c.id ∙ ap (λ (meta : MetaRow). meta.next_node + k) (sym left.meta);
        owner = c.owner
            ∙ ap (λ (o : Option NodeRow). option_map_or (λ row. row.owner) o 0) (sym (left.row transfer.folder (folder_out t u top sound left transfer name known is)));
        kind = c.kind;
        content = c.content;
        changed = c.changed;
        placed = placed k c.of copy c.placed;
      };
}
  where
    walk : walk_of u.nodes transfer.node ≡ walk_of t.nodes transfer.node
    walk = walk_so t u top sound left transfer name known is

    walk_under : (k node : ℕ) → slice_get (walk_of t.nodes transfer.node) k ≡ Some node → is_under t.nodes node transfer.node ≡ true
    walk_under k node found =
        let nodes = walk_of t.nodes transfer.node in
        let among : Contains nodes node =
        subst (Contains nodes) (get_or_from_slice_get nodes k node 0 found) (All-contains_itself nodes k 0 (slice_get_within nodes k node found)) in
        let c = walk_climbs t.nodes transfer.node node sound.rising among in
        climbs_is_under c.0 t node transfer.node sound c.2

    placed : (k : ℕ) (of copy : NodeRow) → IsPlacedCopy t transfer name k of copy → IsPlacedCopy u (into transfer) name k of copy
    placed zero of copy (first, named) = (first, named)
    placed (suc k) of copy (named, (folder, at, inside, index, before, place)) = (
      named,
      (
        folder,
        at,
        inside,
        ap (λ (nodes : List ℕ). slice_get nodes at) walk ∙ index,
        before,
        place ∙ ap (λ (meta : MetaRow). Inside (meta.next_node + at)) (sym left.meta),
      ),
    )

-- what the copies take is as much then
pub joins_into : (t : Tables) (now : ℕ) (transfer : Transfer) (name : List ℕ) (u : Tables) (top : ℕ) (sound : AreSound t) (left : Left t u top)
    → transfer.replaced ≡ Some top → KnownCopies t transfer name → Joins u now (copies_to t now transfer name)
joins_into t now transfer name u top sound left is copies =
    let known = copies.known in
    let walk = walk_so t u top sound left transfer name known is in
    record {
      transfer = into transfer;
      name = name;
      known = known_into t u top sound left transfer name known is;
      alone = refl;
      mirrors = mirrors_into t u top now transfer name (copies_to t now transfer name) sound left known is (mirrored t now transfer name sound known.source);
      nodes = omega (arith, copies.nodes, left.few, ap length walk);
      next_node = omega (arith, copies.next_node, ap (λ (meta : MetaRow). meta.next_node) left.meta, ap length walk);
      pieces = omega (arith, copies.pieces, left.few_pieces, pieces_same);
      next_blob = omega (arith, copies.next_blob, ap (λ (meta : MetaRow). meta.next_blob) left.meta);
    }
  where
    known : KnownTransfer t transfer name
    known = copies.known

    each : All (λ (node : ℕ). length (content_of u.nodes node) ≡ length (content_of t.nodes node)) (walk_of t.nodes transfer.node)
    each k d within =
        let nodes = walk_of t.nodes transfer.node in
        let c = walk_climbs t.nodes transfer.node (get_or nodes k d) sound.rising (All-contains_itself nodes k d within) in
        let under = climbs_is_under c.0 t (get_or nodes k d) transfer.node sound c.2 in
        ap (λ (o : Option NodeRow). length (option_map_or (λ row. row.content) o []))
        (left.row (get_or nodes k d) (below_out t u top sound left transfer name known is (get_or nodes k d) under))

    same : (nodes : List ℕ) → All (λ (node : ℕ). length (content_of u.nodes node) ≡ length (content_of t.nodes node)) nodes
        → pieces_in u.nodes nodes ≡ pieces_in t.nodes nodes
    same [] all = refl
    same (node ∷ nodes) all =
        omega (
          arith,
          sum_by-cons (λ node. length (content_of u.nodes node)) node nodes,
          sum_by-cons (λ node. length (content_of t.nodes node)) node nodes,
          All-head (λ (node : ℕ). length (content_of u.nodes node) ≡ length (content_of t.nodes node)) node nodes all,
          same nodes (All-tail (λ (node : ℕ). length (content_of u.nodes node) ≡ length (content_of t.nodes node)) node nodes all),
        )

    pieces_same : pieces_in u.nodes (walk_of u.nodes transfer.node) ≡ pieces_in t.nodes (walk_of t.nodes transfer.node)
    pieces_same = ap (pieces_in u.nodes) (walk_so t u top sound left transfer name known is) ∙ same (walk_of t.nodes transfer.node) each

-- where nothing is replaced
pub joins_here : (t : Tables) (now : ℕ) (transfer : Transfer) (name : List ℕ) → AreSound t → transfer.replaced ≡ None → KnownCopies t transfer name
    → Joins t now (copies_to t now transfer name)
joins_here t now transfer name sound alone copies = record {
  transfer = transfer;
  name = name;
  known = copies.known;
  alone = alone;
  mirrors = mirrored t now transfer name sound copies.known.source;
  nodes = copies.nodes;
  next_node = copies.next_node;
  pieces = copies.pieces;
  next_blob = copies.next_blob;
}

-- either way they come into the folder of the transfer
pub joined_here : (t : Tables) (now : ℕ) (transfer : Transfer) (name : List ℕ) (sound : AreSound t) (alone : transfer.replaced ≡ None)
    (known : KnownCopies t transfer name) → (joins_here t now transfer name sound alone known).transfer.folder ≡ transfer.folder
unfolding joins_here
joined_here t now transfer name sound alone known = refl

pub joined_into : (t : Tables) (now : ℕ) (transfer : Transfer) (name : List ℕ) (u : Tables) (top : ℕ) (sound : AreSound t) (left : Left t u top)
    (is : transfer.replaced ≡ Some top) (known : KnownCopies t transfer name)
    → (joins_into t now transfer name u top sound left is known).transfer.folder ≡ transfer.folder
unfolding joins_into
joined_into t now transfer name u top sound left is known = refl
