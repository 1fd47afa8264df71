-- Of a DELETE, a MOVE, a COPY and a MOVE to another owner: what acts, and what goes for good beside it.
use Rattle.std.proofs.Common.{◌≡◌, ◌≤◌, ℕ, zero, suc, ◌+◌, ◌==◌, option_map, false, List, [], ◌∷◌, ◌++◌, Option, None, Some, length, refl, sym, ap, subst, ◌∙◌, arith, flat_map, bytes_eq, not, inl, inr, true}
use Rattle.std.specs.Prelude.{option_and_then, slice_get}
use Rattle.std.specs.List.{All, Contains}
use Rattle.std.specs.Option.{option_map_or}
use Rattle.std.proofs.lemmas.Bool.{both_ways, cond_both, eqb-true, false_from_ne_true, ne_eqb}
use Rattle.std.proofs.lemmas.List.{map-append}
use Rattle.std.proofs.lemmas.List.Elements.{All-append, All-nil, All-cons, All-filter, All-head, All-tail}
use Rattle.nf_base.specs.declared.rows.MetaRow.{MetaRow}
use Rattle.nf_base.specs.declared.rows.NodeRow.{NodeRow}
use Rattle.nf_defs.proofs.Climbs.{climb_under, under_climb}
use Rattle.nf_defs.specs.Prelude.{climb, is_under, node_row, parent_of, relinked, Tables, item_key}
use Rattle.nf_laws.proofs.Acted.{Acted, IsNew, join_acted, leave_acted, none_acted, NoNode, relink_acted, IsAway}
use Rattle.nf_laws.proofs.Copied.{copies_there}
use Rattle.nf_laws.proofs.Going.{under_is}
use Rattle.nf_laws.proofs.Each.{discard_none, NoStore, purges_none}
use Rattle.nf_laws.proofs.InTurn.{Fit, joined_here, joined_into, Joins, joins_here, joins_into, leaving_fit, move_fits, none_replaced, replaced_is}
use Rattle.nf_laws.proofs.Into.{folder_out, into, known_into, source_out}
use Rattle.nf_laws.proofs.Left.{discard_left, leaving_left, Left}
use Rattle.nf_laws.proofs.Mirrored.{mirrored}
use Rattle.nf_laws.proofs.Moved.{same_owner}
use Rattle.nf_laws.proofs.OneRow.{row_itself}
use Rattle.nf_laws.proofs.Parts.{both_go, leaves_in, leaves_joined, no_goes, rest_of}
use Rattle.nf_laws.proofs.Regions.{behind, joined_stays, left_stays, none_given, none_under_both, Stays, stays_same, stays_then}
use Rattle.nf_laws.proofs.Sources.{under_given}
use Rattle.nf_laws.proofs.Upwards.{derived, never_climbs}
use Rattle.nf_laws.specs.Acts.{IsBeside, IsUnderOne, IsGoneWith}
use Rattle.nf_laws.specs.Transfers.{Mirrors, replaced_by}
use Rattle.nf_laws.specs.Tree.{Under}
use Rattle.nf_words.proofs.Found.{child_parent, found_passes}
use Rattle.nf_words.proofs.Known.{KnownCopies, KnownCross, KnownGoes, KnownLeaving, KnownMove, KnownTransfer}
use Rattle.nf_words.proofs.Sweeping.{rest_owned}
use Rattle.nf_words.proofs.Transfers.{replaced_leaves, row_leaves}
use Rattle.nf_words.proofs.Trashing.{rest_goes}
use Rattle.nf_words.specs.Prelude.{AreSound, beside, copies, copies_to, crossing, deed_done, deeds_done, discard, goes_itself, item_for, joined, moves, purges, row_at, purged_by, purged}
use Rattle.nf_words.specs.declared.answer.Deed.{Deed}
use Rattle.nf_words.specs.declared.answer.Deed.TheVariants as deed
use Rattle.nf_words.specs.declared.request.Transfer.{Transfer}
use Rattle.nf_defs.proofs.Puts.{all_put}
use Rattle.nf_laws.proofs.Rows.{each_fails, finds_none}
use Rattle.std.proofs.lemmas.Option.{none-some}
use Rattle.nf_base.specs.declared.rows.ItemRow.{ItemRow}
use Rattle.nf_laws.proofs.Others.{item_gone}

-- the deeds are those that act, by which some nodes leave their places and others are put somewhere, and then items go of the owners of
-- what left. `Put` says of the tables between what is put where
pub record Kind (t : Tables) (now : ℕ) (deeds : List Deed) (leave : List ℕ) (IsPut : ℕ → Type 0) (Put : Tables → Type 0) (meta : MetaRow) : Type 0 where
  pub one : Deed
  pub more : List Deed
  pub gone : List ℕ
  pub are : deeds ≡ one ∷ more ++ purges gone
  pub none : All NoStore (one ∷ more)
  pub fit : Fit t now one
  pub acted : Acted t (deeds_done t (one ∷ more)) now leave IsPut
  pub put : Put (deeds_done t (one ∷ more))
  pub goes : KnownGoes t gone
  pub purged : All (IsGoneWith t.nodes (deeds_done t (one ∷ more)).nodes) (flat_map purged_by (one ∷ more))
  pub beside : All (IsBeside t leave) gone
  pub rest : deeds_done t (one ∷ more) ≡ record t {
    meta = meta;
    nodes = (deeds_done t (one ∷ more)).nodes;
    shares = (deeds_done t (one ∷ more)).shares;
    versions = (deeds_done t (one ∷ more)).versions;
    items = (deeds_done t (one ∷ more)).items;
  }

-- the rows of the tables that a deed leaves alone
-- ---- what goes at once

-- the deed makes no item of that node
abbrev NotItem : ℕ → ItemRow → Type 0
NotItem top item = (item.node == top) ≡ false

abbrev MakesNone : ℕ → Deed → Type 0
MakesNone top (deed.Discard item) = NotItem top item
MakesNone top (deed.Store changes) = ⊥
MakesNone top other = Unit {0}

none_made : (top : ℕ) (v : Tables) (one : Deed) → MakesNone top one → All (NotItem top) v.items → All (NotItem top) (deed_done v one).items
none_made top v (deed.Discard item) is all = all_put item_key (NotItem top) item v.items is all
none_made top v (deed.Purge node) is all = All-filter (λ (item : ItemRow). not (bytes_eq (node ∷ []) (item_key item))) (NotItem top) v.items all
none_made top v (deed.Restore node folder name) is all =
    All-filter (λ (item : ItemRow). not (bytes_eq (node ∷ []) (item_key item))) (NotItem top) v.items all
none_made top v (deed.Relink node folder name) is all = all
none_made top v (deed.Join more) is all = all
none_made top v (deed.Requote row) is all = all
none_made top v (deed.Forget node at) is all = all
none_made top v (deed.Store changes) is all = absurd is
none_made top v (deed.Abandon user dir) is all = all

all_made : (top : ℕ) (v : Tables) (deeds : List Deed) → All (MakesNone top) deeds → All (NotItem top) v.items → All (NotItem top) (deeds_done v deeds).items
all_made top v [] is all = all
all_made top v (one ∷ deeds) is all =
    all_made top (deed_done v one) deeds (All-tail (MakesNone top) one deeds is)
    (none_made top v one (All-head (MakesNone top) one deeds is) all)

-- what went at once isn't in the trash, so it is gone
away_purged : (t v : Tables) (now top : ℕ) (more : List Deed) → All (MakesNone top) more → IsAway t (deeds_done (purged v top) more) now top
    → IsGoneWith t.nodes (deeds_done (purged v top) more).nodes top
away_purged t v now top more none (inr gone) = gone
away_purged t v now top more none (inl trash) =
    let left = each_fails (λ (item : ItemRow). item.node == top) (purged v top).items (item_gone top v.items) in
    absurd (none-some _ (sym (finds_none (λ (item : ItemRow). item.node == top) (deeds_done (purged v top) more).items
    (all_made top (purged v top) more none left)) ∙ trash.item))

abbrev ArePurgedBy : Tables → Tables → List Deed → Type 0
ArePurgedBy t u deeds = All (IsGoneWith t.nodes u.nodes) (flat_map purged_by deeds)

-- a node that leaves its place goes at once, or not
leave_purged : (t v w : Tables) (now : ℕ) (row : NodeRow) (more : List Deed) → All (MakesNone row.id) more
    → IsAway t (deeds_done (deed_done v (discard w now row)) more) now row.id
    → ArePurgedBy t (deeds_done (deed_done v (discard w now row)) more) more
    → ArePurgedBy t (deeds_done (deed_done v (discard w now row)) more) (discard w now row ∷ more)
leave_purged t v w now row more none =
    cond_both (goes_itself w now row) (deed.Purge row.id) (deed.Discard (item_for now row))
    (λ (one : Deed). IsAway t (deeds_done (deed_done v one) more) now row.id → ArePurgedBy t (deeds_done (deed_done v one) more) more
    → ArePurgedBy t (deeds_done (deed_done v one) more) (one ∷ more))
    (λ e away rest.
    All-cons (IsGoneWith t.nodes (deeds_done (purged v row.id) more).nodes) row.id (flat_map purged_by more)
    (away_purged t v now row.id more none away) rest)
    (λ e away rest. rest)

no_purged : (t u : Tables) → ArePurgedBy t u []
no_purged t u = All-nil (IsGoneWith t.nodes u.nodes)

-- a deed by which a node leaves its place makes no item of another
leave_none : (w : Tables) (now top : ℕ) (row : NodeRow) → (row.id == top) ≡ false → MakesNone top (discard w now row)
leave_none w now top row other =
    cond_both (goes_itself w now row) (deed.Purge row.id) (deed.Discard (item_for now row)) (MakesNone top) (λ e. tt) (λ e. other)

abbrev Rest : Tables → Tables → Type 0
Rest t u = u ≡ record t { nodes = u.nodes; shares = u.shares; versions = u.versions; items = u.items }

discard_rest : (t u : Tables) (now : ℕ) (row : NodeRow) → Rest u (deed_done u (discard t now row))
discard_rest t u now row =
    cond_both (goes_itself t now row) (deed.Purge row.id) (deed.Discard (item_for now row)) (λ (one : Deed). Rest u (deed_done u one)) (λ e. refl) (λ e. refl)

-- none of its deeds stores changes
pub kind_none : (t : Tables) (now : ℕ) (deeds : List Deed) (leave : List ℕ) (IsPut : ℕ → Type 0) (Put : Tables → Type 0) (meta : MetaRow)
    → Kind t now deeds leave IsPut Put meta → All NoStore deeds
kind_none t now deeds leave IsPut Put meta kind =
    subst (All NoStore) (sym kind.are) (All-append NoStore (kind.one ∷ kind.more) (purges kind.gone) kind.none (purges_none kind.gone))

-- what goes beside a node is of its owner
rest_beside : (t : Tables) (now : ℕ) (row : NodeRow) (leave : List ℕ) → AreSound t → node_row t.nodes row.id ≡ Some row → Contains leave row.id
    → All (IsBeside t leave) (rest_of t now row)
rest_beside t now row leave sound there among k d within =
    let own = rest_owned t sound now row k d within in
    (row.id, among, (own.0, own.1, own.2 ∙ sym (ap (λ (o : Option NodeRow). option_map_or (λ row. row.owner) o 0) there)))

head : (node : ℕ) (nodes : List ℕ) → Contains (node ∷ nodes) node
head node nodes = (0, omega arith, refl)

none_under : (rows : List NodeRow) (node : ℕ) → IsUnderOne rows [] node → ⊥
none_under rows node one = absurd (omega (arith, one.1.1))

pub under_alone : (rows : List NodeRow) (top node : ℕ) → IsUnderOne rows (top ∷ []) node → Under rows top node
under_alone rows top node (other, (zero, within, is), under) = subst (λ (n : ℕ). Under rows n node) (sym is) under
under_alone rows top node (other, (suc k, within, is), under) = absurd (omega (arith, within))

-- the node is in the folder and under the name
abbrev pub IsRelinked : Tables → Transfer → List ℕ → Tables → Type 0
IsRelinked t transfer name u =
    node_row u.nodes transfer.node ≡ option_map (relinked transfer.folder name) (node_row t.nodes transfer.node)

-- the copies are there, and nothing else is new
pub record AreJoined (t : Tables) (rows : List NodeRow) (u : Tables) : Type 0 where
  pub there : (k : ℕ) (copy : NodeRow) → slice_get rows k ≡ Some copy → node_row u.nodes copy.id ≡ Some copy
  pub new : (node : ℕ) (copy : NodeRow) → IsNew t node → node_row u.nodes node ≡ Some copy → (k : ℕ) × (slice_get rows k ≡ Some copy) × (copy.id ≡ node)

relinked_there : (t u : Tables) (transfer : Transfer) (name : List ℕ) → node_row u.nodes transfer.node ≡ node_row t.nodes transfer.node
    → IsRelinked t transfer name (deed_done u (deed.Relink transfer.node transfer.folder name))
relinked_there t u transfer name same =
    row_itself u.nodes transfer.node (relinked transfer.folder name) (λ row. refl) ∙ ap (option_map (relinked transfer.folder name)) same

copies_joined : (t u : Tables) (now : ℕ) (rows : List NodeRow) → AreSound u → u.meta ≡ t.meta → Joins u now rows → AreJoined t rows (joined u rows)
copies_joined t u now rows sound meta joins = record {
  there = λ k copy is. copies_there u now joins.transfer joins.name rows joins.mirrors sound joins.known joins.alone k copy is;
  new = λ node copy new is.
      behind u.nodes rows node copy (none_given u node sound (omega (arith, new, ap (λ (meta : MetaRow). meta.next_node) meta))) is;
}

module _ (t : Tables) (now : ℕ) (sound : AreSound t) (at : t.meta.last ≡ now) where
  -- ---- DELETE

  left_acted : (row : NodeRow) → KnownLeaving t row → Acted t (deed_done t (discard t now row)) now (row.id ∷ []) NoNode
  left_acted row known =
      leave_acted t t now [] NoNode sound (none_acted t now sound) (omega (arith, at)) row known known (stays_same t.nodes row.id)
      (λ node one. absurd (none_under t.nodes node one))

  pub leaving_kind : (row : NodeRow) → KnownLeaving t row → Kind t now (discard t now row ∷ beside t now row) (row.id ∷ []) NoNode (λ u. Unit {0}) t.meta
  leaving_kind row known = record {
    one = discard t now row;
    more = [];
    gone = rest_of t now row;
    are = refl;
    none = All-cons NoStore (discard t now row) [] (discard_none t now row) (All-nil NoStore);
    fit = leaving_fit t t now row known;
    acted = left_acted row known;
    put = tt;
    goes = rest_goes t sound now row known;
    purged = leave_purged t t t now row [] (All-nil (MakesNone row.id))
        (All-head (IsAway t (deed_done t (discard t now row)) now) row.id [] (left_acted row known).away) (no_purged t (deed_done t (discard t now row)));
    beside = rest_beside t now row (row.id ∷ []) sound known.there (head row.id []);
    rest = discard_rest t t now row;
  }

  -- ---- MOVE and COPY

  module _ (transfer : Transfer) (name : List ℕ) (known : KnownTransfer t transfer name) where
    replaced_alone : (row : NodeRow) → row_at t transfer.replaced ≡ Some row → replaced_by transfer ≡ row.id ∷ []
    replaced_alone row e = ap (λ (o : Option ℕ). option_map_or (λ node. node ∷ []) o []) (replaced_is t transfer.replaced row e)

    -- what is replaced isn't under the source
    pub target_apart : (top : ℕ) → transfer.replaced ≡ Some top → is_under t.nodes top transfer.node ≡ false
    target_apart top is = false_from_ne_true (is_under t.nodes top transfer.node) (λ under.
        let c = under_climb t.nodes top transfer.node under in
        up c.0 (child_parent t.nodes transfer.folder name top sound.rising (known.there ∙ is)) c.2)
      where
        up : (k : ℕ) → parent_of t.nodes top ≡ Some transfer.folder → climb t.nodes k top ≡ Some transfer.node → ⊥
        up zero above climbs =
            both_ways (is_under t.nodes transfer.node top)
            (sym (ap (λ (o : Option ℕ). option_map_or (λ node. is_under t.nodes transfer.node node) o false) is) ∙ known.apart)
            (climb_under 0 t.nodes transfer.node top (omega arith) (sym climbs))
        up (suc k) above climbs =
            never_climbs t transfer.folder transfer.node sound known.outside k (sym (ap (option_and_then (climb t.nodes k)) above) ∙ climbs)

    -- so nothing that is under the source is under it
    pub source_apart : (node : ℕ) → Under t.nodes transfer.node node → IsUnderOne t.nodes (replaced_by transfer) node → ⊥
    source_apart node under one = here transfer.replaced refl one
      where
        here : (o : Option ℕ) → transfer.replaced ≡ o → IsUnderOne t.nodes (option_map_or (λ node. node ∷ []) o []) node → ⊥
        here None e one = none_under t.nodes node one
        here (Some top) e one =
            both_ways (is_under t.nodes node top)
            (none_under_both t transfer.node top node sound
            (sym (ap (λ (o : Option ℕ). option_map_or (λ node. is_under t.nodes transfer.node node) o false) e) ∙ known.apart) (target_apart top e) under)
            (under_is t top node sound (under_alone t.nodes top node one))

    replaced_none : row_at t transfer.replaced ≡ None → replaced_by transfer ≡ []
    replaced_none e = ap (λ (o : Option ℕ). option_map_or (λ node. node ∷ []) o []) (none_replaced t transfer name sound known e)

  pub moving_kind : (transfer : Transfer) (name : List ℕ) → KnownMove t transfer name
      → Kind t now (moves t now name transfer) (replaced_by transfer) (λ node. node ≡ transfer.node) (IsRelinked t transfer name) t.meta
  moving_kind transfer name move = here (row_at t transfer.replaced) refl
    where
      own : (row : NodeRow) × (node_row t.nodes transfer.node ≡ Some row)
      own = move.known.source

      relinks : Deed
      relinks = deed.Relink transfer.node transfer.folder name

      here : (o : Option NodeRow) → row_at t transfer.replaced ≡ o
          → Kind t now (option_map_or (λ row. discard t now row ∷ []) o [] ++ relinks ∷ option_map_or (beside t now) o []) (replaced_by transfer)
          (λ node. node ≡ transfer.node) (IsRelinked t transfer name) t.meta
      here None e =
          let fits =
          move_fits t transfer name own.0 sound move.known (none_replaced t transfer name sound move.known e) own.1
          (same_owner t.nodes transfer own.0 move.within own.1) in
          subst (λ (leave : List ℕ). Kind t now (relinks ∷ []) leave (λ node. node ≡ transfer.node) (IsRelinked t transfer name) t.meta)
          (sym (replaced_none transfer name move.known e)) (record {
            one = relinks;
            more = [];
            gone = [];
            are = refl;
            none = All-cons NoStore relinks [] tt (All-nil NoStore);
            fit = (own.0, fits);
            acted = relink_acted t t now [] transfer.node transfer.folder name own.0 sound (none_acted t now sound)
                fits move.known.present (none_under t.nodes transfer.node);
            put = relinked_there t t transfer name refl;
            goes = no_goes t;
            purged = λ k d within. absurd (omega (arith, within));
            beside = All-nil (IsBeside t []);
            rest = refl;
          })
      here (Some row) e =
          let leaves = replaced_leaves t sound transfer name move.known row e in
          let u = deed_done t (discard t now row) in
          let left = discard_left t now row sound (omega (arith, at)) leaves in
          let is = replaced_is t transfer.replaced row e in
          let out = source_out t u row.id sound left transfer name move.known is in
          let source = left.row transfer.node out in
          let folder = left.row transfer.folder (folder_out t u row.id sound left transfer name move.known is) in
          let acts =
          relink_acted t u now (row.id ∷ []) transfer.node transfer.folder name own.0 sound (left_acted row leaves)
          (move_fits u (into transfer) name own.0 left.sound (known_into t u row.id sound left transfer name move.known is) refl (source ∙ own.1)
          (ap (λ (o : Option NodeRow). option_map_or (λ row. row.owner) o 0) folder ∙ same_owner t.nodes transfer own.0 move.within own.1))
          (left.leads transfer.node out move.known.present)
          (λ one. both_ways (is_under t.nodes transfer.node row.id) out (under_is t row.id transfer.node sound (under_alone t.nodes row.id transfer.node one))) in
          subst (λ (leave : List ℕ). Kind t now (discard t now row ∷ relinks ∷ beside t now row) leave (λ node. node ≡ transfer.node) (IsRelinked t transfer name) t.meta)
          (sym (replaced_alone transfer name move.known row e)) (record {
            one = discard t now row;
            more = relinks ∷ [];
            gone = rest_of t now row;
            are = refl;
            none = All-cons NoStore (discard t now row) (relinks ∷ []) (discard_none t now row) (All-cons NoStore relinks [] tt (All-nil NoStore));
            fit = leaving_fit t t now row leaves;
            acted = acts;
            put = relinked_there t u transfer name source;
            goes = rest_goes t sound now row leaves;
            purged = leave_purged t t t now row (relinks ∷ []) (All-cons (MakesNone row.id) relinks [] tt (All-nil (MakesNone row.id)))
                (All-head (IsAway t (deed_done u relinks) now) row.id [] acts.away) (no_purged t (deed_done u relinks));
            beside = rest_beside t now row (row.id ∷ []) sound leaves.there (head row.id []);
            rest = ap (λ (v : Tables). deed_done v relinks) (discard_rest t t now row);
          })

  -- the meta row with so many nodes more
  abbrev pub meta_with : List NodeRow → MetaRow
  meta_with rows = record t.meta { next_node = t.meta.next_node + length rows }

  pub copying_kind : (transfer : Transfer) (name : List ℕ) → KnownCopies t transfer name
      → Kind t now (copies t now name transfer) (replaced_by transfer) (IsNew t) (AreJoined t (copies_to t now transfer name))
      (meta_with (copies_to t now transfer name))
  copying_kind transfer name known = here (row_at t transfer.replaced) refl
    where
      rows : List NodeRow
      rows = copies_to t now transfer name

      here : (o : Option NodeRow) → row_at t transfer.replaced ≡ o
          → Kind t now (option_map_or (λ row. discard t now row ∷ []) o [] ++ deed.Join rows ∷ option_map_or (beside t now) o []) (replaced_by transfer)
          (IsNew t) (AreJoined t rows) (meta_with rows)
      here None e =
          let joins = joins_here t now transfer name sound (none_replaced t transfer name sound known.known e) known in
          subst (λ (leave : List ℕ). Kind t now (deed.Join rows ∷ []) leave (IsNew t) (AreJoined t rows) (meta_with rows)) (sym (replaced_none transfer name known.known e)) (record {
            one = deed.Join rows;
            more = [];
            gone = [];
            are = refl;
            none = All-cons NoStore (deed.Join rows) [] tt (All-nil NoStore);
            fit = joins;
            acted = join_acted t t now [] rows sound refl at (none_acted t now sound) joins;
            put = copies_joined t t now rows sound refl joins;
            goes = no_goes t;
            purged = λ k d within. absurd (omega (arith, within));
            beside = All-nil (IsBeside t []);
            rest = refl;
          })
      here (Some row) e =
          let leaves = replaced_leaves t sound transfer name known.known row e in
          let u = deed_done t (discard t now row) in
          let left = discard_left t now row sound (omega (arith, at)) leaves in
          let is = replaced_is t transfer.replaced row e in
          let acts = join_acted t u now (row.id ∷ []) rows sound left.meta (ap (λ (meta : MetaRow). meta.last) left.meta ∙ at) (left_acted row leaves)
          (joins_into t now transfer name u row.id sound left is known) in
          subst (λ (leave : List ℕ). Kind t now (discard t now row ∷ deed.Join rows ∷ beside t now row) leave (IsNew t) (AreJoined t rows) (meta_with rows))
          (sym (replaced_alone transfer name known.known row e)) (record {
            one = discard t now row;
            more = deed.Join rows ∷ [];
            gone = rest_of t now row;
            are = refl;
            none = All-cons NoStore (discard t now row) (deed.Join rows ∷ []) (discard_none t now row) (All-cons NoStore (deed.Join rows) [] tt (All-nil NoStore));
            fit = leaving_fit t t now row leaves;
            acted = acts;
            put = copies_joined t u now rows left.sound left.meta (joins_into t now transfer name u row.id sound left is known);
            goes = rest_goes t sound now row leaves;
            purged = leave_purged t t t now row (deed.Join rows ∷ []) (All-cons (MakesNone row.id) (deed.Join rows) [] tt (All-nil (MakesNone row.id)))
                (All-head (IsAway t (joined u rows) now) row.id [] acts.away) (no_purged t (joined u rows));
            beside = rest_beside t now row (row.id ∷ []) sound leaves.there (head row.id []);
            rest = ap (λ (v : Tables). joined v rows) (discard_rest t t now row);
          })

  -- ---- MOVE to another owner

  module _ (transfer : Transfer) (name : List ℕ) (cross : KnownCross t transfer name) where
    abbrev moves_over : KnownTransfer t transfer name
    moves_over = cross.copies.known

    abbrev from : NodeRow
    from = moves_over.source.0

    abbrev rows : List NodeRow
    rows = copies_to t now transfer name

    same : from.id ≡ transfer.node
    same = eqb-true from.id transfer.node (found_passes (λ (row : NodeRow). row.id == transfer.node) t.nodes from moves_over.source.1)

    leaving : KnownLeaving t from
    leaving = row_leaves t from transfer.node moves_over.source.1 moves_over.no_root moves_over.present

    folder_apart : is_under t.nodes transfer.folder from.id ≡ false
    folder_apart = ap (is_under t.nodes transfer.folder) same ∙ moves_over.outside

    -- the copies aren't under the source
    copies_left : (v : Tables) → AreSound v → KnownLeaving v from → Stays t.nodes v.nodes from.id → AreJoined t rows v → now ≤ v.meta.last
        → AreJoined t rows (deed_done v (discard t now from))
    copies_left v fine known region joined later = record {
      there = λ k copy is. left.row copy.id (out copy.id (omega (arith, (mirrors.each k copy is).id))) ∙ joined.there k copy is;
      new = λ node copy new is. joined.new node copy new (sym (left.row node (out node new)) ∙ is);
    }
      where
        mirrors : Mirrors t now transfer name rows
        mirrors = mirrored t now transfer name sound moves_over.source

        left : Left v (deed_done v (discard t now from)) from.id
        left = leaving_left v now from fine later known t

        out : (node : ℕ) → IsNew t node → is_under v.nodes node from.id ≡ false
        out node new = false_from_ne_true (is_under v.nodes node from.id) (λ under.
            let c = under_climb v.nodes node from.id under in
            let given = under_given t from.id node from sound leaving.there (under_is t from.id node sound (region.back node (derived c.0 v.nodes from.id node c.2))) in
            absurd (omega (arith, given, new)))

    -- the source leaves its place in tables with the copies, where its own region is as before
    crossed : (u : Tables) (leave : List ℕ) → u.meta ≡ t.meta → Acted t u now leave NoNode → Stays t.nodes u.nodes from.id
        → KnownLeaving u from → is_under u.nodes transfer.folder from.id ≡ false → ((node : ℕ) → IsUnderOne t.nodes leave node → is_under t.nodes node from.id ≡ false)
        → (joins : Joins u now rows) → joins.transfer.folder ≡ transfer.folder
        → Acted t (deed_done (joined u rows) (discard t now from)) now (from.id ∷ leave) (IsNew t)
        × AreJoined t rows (deed_done (joined u rows) (discard t now from))
    crossed u leave meta acted stays known out apart joins is =
        let v = joined u rows in
        let later : u.meta.last ≡ now = ap (λ (meta : MetaRow). meta.last) meta ∙ at in
        let joins_acted = join_acted t u now leave rows sound meta later acted joins in
        let region = stays_then t.nodes u.nodes v.nodes from.id stays
        (joined_stays u now rows acted.sound joins from.id (from, known.there) (ap (λ (n : ℕ). is_under u.nodes n from.id) is ∙ out)) in
        let leaves = leaves_joined u from rows known in (
          leave_acted t v now leave (IsNew t) sound joins_acted (omega (arith, later)) from leaves leaving region
              (λ node one.
              false_from_ne_true (is_under v.nodes node from.id) (λ under.
              let c = under_climb v.nodes node from.id under in
              both_ways (is_under t.nodes node from.id) (apart node one)
              (under_is t from.id node sound (region.back node (derived c.0 v.nodes from.id node c.2))))),
          copies_left v joins_acted.sound leaves region (copies_joined t u now rows acted.sound meta joins) (omega (arith, later)),
        )

    abbrev deeds_at : Option NodeRow → Option NodeRow → List Deed
    deeds_at o p =
        option_map_or (λ row. discard t now row ∷ []) o []
        ++ deed.Join rows ∷ (option_map_or (λ row. discard t now row ∷ []) p [] ++ (option_map_or (beside t now) o [] ++ option_map_or (beside t now) p []))

    pub crossing_kind : Kind t now (crossing t now name transfer) (transfer.node ∷ replaced_by transfer) (IsNew t) (AreJoined t rows) (meta_with rows)
    crossing_kind =
        subst (λ (n : ℕ). Kind t now (crossing t now name transfer) (n ∷ replaced_by transfer) (IsNew t) (AreJoined t rows) (meta_with rows)) same
        (subst (λ (p : Option NodeRow). Kind t now (deeds_at (row_at t transfer.replaced) p) (from.id ∷ replaced_by transfer) (IsNew t) (AreJoined t rows) (meta_with rows))
        (sym moves_over.source.1) (here (row_at t transfer.replaced) refl))
      where
        here : (o : Option NodeRow) → row_at t transfer.replaced ≡ o
            → Kind t now (deeds_at o (Some from)) (from.id ∷ replaced_by transfer) (IsNew t) (AreJoined t rows) (meta_with rows)
        here None e =
            let none = none_replaced t transfer name sound moves_over e in
            let is =
            crossed t [] refl (none_acted t now sound) (stays_same t.nodes from.id) leaving folder_apart (λ node one. absurd (none_under t.nodes node one))
            (joins_here t now transfer name sound none cross.copies) (joined_here t now transfer name sound none cross.copies) in
            subst (λ (leave : List ℕ). Kind t now (deeds_at None (Some from)) (from.id ∷ leave) (IsNew t) (AreJoined t rows) (meta_with rows))
            (sym (ap (λ (o : Option ℕ). option_map_or (λ node. node ∷ []) o []) none)) (record {
              one = deed.Join rows;
              more = discard t now from ∷ [];
              gone = rest_of t now from;
              are = refl;
              none = All-cons NoStore (deed.Join rows) (discard t now from ∷ []) tt (All-cons NoStore (discard t now from) [] (discard_none t now from) (All-nil NoStore));
              fit = joins_here t now transfer name sound none cross.copies;
              acted = is.0;
              put = is.1;
              goes = rest_goes t sound now from leaving;
              purged = leave_purged t (joined t rows) t now from [] (All-nil (MakesNone from.id))
                  (All-head (IsAway t (deed_done (joined t rows) (discard t now from)) now) from.id [] is.0.away)
                  (no_purged t (deed_done (joined t rows) (discard t now from)));
              beside = rest_beside t now from (from.id ∷ []) sound leaving.there (head from.id []);
              rest = discard_rest t (joined t rows) now from;
            })
        here (Some row) e =
            let leaves = replaced_leaves t sound transfer name moves_over row e in
            let u = deed_done t (discard t now row) in
            let left = discard_left t now row sound (omega (arith, at)) leaves in
            let is = replaced_is t transfer.replaced row e in
            let out : is_under t.nodes from.id row.id ≡ false = ap (λ (n : ℕ). is_under t.nodes n row.id) same ∙ source_out t u row.id sound left transfer name moves_over is in
            let turned = ap (is_under t.nodes row.id) same ∙ target_apart transfer name moves_over row.id is in
            let region = left_stays t u row.id from.id sound left (from, leaving.there) out turned in
            let acts =
            crossed u (row.id ∷ []) left.meta (left_acted row leaves) region (leaves_in t u from (left.row from.id out) (left.leads from.id out) leaving)
            (false_from_ne_true (is_under u.nodes transfer.folder from.id) (λ under.
            let c = under_climb u.nodes transfer.folder from.id under in
            both_ways (is_under t.nodes transfer.folder from.id) folder_apart
            (under_is t from.id transfer.folder sound (region.back transfer.folder (derived c.0 u.nodes from.id transfer.folder c.2)))))
            (λ node one. none_under_both t row.id from.id node sound turned out (under_alone t.nodes row.id node one))
            (joins_into t now transfer name u row.id sound left is cross.copies) (joined_into t now transfer name u row.id sound left is cross.copies) in
            subst (λ (leave : List ℕ). Kind t now (deeds_at (Some row) (Some from)) (from.id ∷ leave) (IsNew t) (AreJoined t rows) (meta_with rows))
            (sym (replaced_alone transfer name moves_over row e)) (record {
              one = discard t now row;
              more = deed.Join rows ∷ discard t now from ∷ [];
              gone = rest_of t now row ++ rest_of t now from;
              are = ap (λ (gone : List Deed). discard t now row ∷ deed.Join rows ∷ discard t now from ∷ gone)
                  (sym (map-append (λ (node : ℕ). deed.Purge node) (rest_of t now row) (rest_of t now from)));
              none = All-cons NoStore (discard t now row) (deed.Join rows ∷ discard t now from ∷ []) (discard_none t now row) (All-cons NoStore (deed.Join rows) (discard t now from ∷ []) tt (All-cons NoStore (discard t now from) [] (discard_none t now from) (All-nil NoStore)));
              fit = leaving_fit t t now row leaves;
              acted = acts.0;
              put = acts.1;
              goes = both_go t now transfer name sound at cross row e leaves;
              purged =
                  (let made = deed_done (joined u rows) (discard t now from) in
                  let away = acts.0.away in
                  let differs : (from.id == row.id) ≡ false = ne_eqb from.id row.id (λ same_id.
                  both_ways (is_under t.nodes from.id row.id) out
                  (subst (λ (n : ℕ). is_under t.nodes from.id n ≡ true) same_id (climb_under 0 t.nodes from.id from.id (omega arith) refl))) in
                  leave_purged t t t now row (deed.Join rows ∷ discard t now from ∷ [])
                  (All-cons (MakesNone row.id) (deed.Join rows) (discard t now from ∷ []) tt
                  (All-cons (MakesNone row.id) (discard t now from) [] (leave_none t now row.id from differs) (All-nil (MakesNone row.id))))
                  (All-head (IsAway t made now) row.id [] (All-tail (IsAway t made now) from.id (row.id ∷ []) away))
                  (leave_purged t (joined u rows) t now from [] (All-nil (MakesNone from.id))
                  (All-head (IsAway t made now) from.id (row.id ∷ []) away) (no_purged t made)));
              beside = All-append (IsBeside t (from.id ∷ row.id ∷ [])) (rest_of t now row) (rest_of t now from)
                  (rest_beside t now row (from.id ∷ row.id ∷ []) sound leaves.there (1, omega arith, refl))
                  (rest_beside t now from (from.id ∷ row.id ∷ []) sound leaving.there (head from.id (row.id ∷ [])));
              rest = discard_rest t (joined u rows) now from
                  ∙ ap (λ (v : Tables). record (joined v rows) {
                    nodes = (deed_done (joined u rows) (discard t now from)).nodes;
                    shares = (deed_done (joined u rows) (discard t now from)).shares;
                    versions = (deed_done (joined u rows) (discard t now from)).versions;
                    items = (deed_done (joined u rows) (discard t now from)).items;
                  }) (discard_rest t t now row);
            })
