-- The deeds of a step: first those that act, and then items and uploads that go for good.
use Rattle.std.proofs.Common.{◌≡◌, ◌≢◌, ◌≤◌, ℕ, ◌==◌, not, filter, false, List, [], ◌∷◌, ◌++◌, Option, None, Some, get_or, refl, sym, ap, subst, ◌∙◌, arith}
use Rattle.std.specs.Prelude.{is_some}
use Rattle.std.specs.List.{All}
use Rattle.std.specs.Option.{option_map_or, option_or}
use Rattle.std.proofs.lemmas.Bool.{both_ways, cond_both, eq-eqb, eqb-true, not-true}
use Rattle.std.proofs.lemmas.List.Elements.{All-append, All-cons, All-nil, All-head, All-tail}
use Rattle.std.proofs.lemmas.List.Folds.{find-append}
use Rattle.std.proofs.lemmas.Option.{same_Some}
use Rattle.nf_base.specs.declared.rows.ItemRow.{ItemRow}
use Rattle.nf_base.specs.declared.rows.MetaRow.{MetaRow}
use Rattle.nf_base.specs.declared.rows.NodeRow.{NodeRow}
use Rattle.nf_base.specs.declared.rows.UploadRow.{UploadRow}
use Rattle.nf_defs.specs.Prelude.{item_row, is_root_place, is_under, parent_of, put_all, node_row, owner_of, Tables}
use Rattle.std.proofs.lemmas.List.{map-append}
use Rattle.nf_laws.proofs.InTurn.{deeds_sound, Fit, goes_turn, InTurn, item_outside, joins_here, joins_into, leaving_fit, move_fits, none_replaced, replaced_is, turn_append}
use Rattle.nf_laws.proofs.Into.{folder_out, into, known_into, source_out}
use Rattle.nf_laws.proofs.Climbs.{parent_at}
use Rattle.nf_laws.proofs.Left.{discard_left}
use Rattle.nf_laws.proofs.Moved.{same_owner}
use Rattle.nf_laws.proofs.Others.{item_other, stamp_sound}
use Rattle.nf_laws.proofs.Present.{kept_leads}
use Rattle.nf_laws.proofs.Rows.{kept_joined, row_is, stamp}
use Rattle.nf_laws.proofs.Stamping.{change_stamped, counted_stamped, put_met}
use Rattle.nf_laws.proofs.Trashed.{item_put, restored_fits}
use Rattle.nf_base.specs.declared.rows.Place.TheVariants.{Inside}
use Rattle.nf_defs.proofs.Climbs.{climb_under}
use Rattle.nf_words.proofs.Found.{child_parent, found_passes}
use Rattle.nf_words.proofs.Known.{IsItem, KnownGoes, KnownCopies, KnownCross, KnownDeeds, KnownLeaving, KnownMove, KnownSettled, KnownTransfer}
use Rattle.nf_retention.specs.declared.versions.Version.{Version}
use Rattle.nf_words.proofs.Known.KnownDeeds.{by_abandoning, by_copying, by_crossing, by_going, by_joining, by_leaving, by_moving, by_requoting, by_restoring, by_sweeping}
use Rattle.nf_words.proofs.Sweeping.{joined_once, rest_owned}
use Rattle.nf_words.proofs.Transfers.{replaced_leaves, row_leaves}
use Rattle.nf_words.proofs.Trashing.{rest_apart, rest_goes}
use Rattle.nf_words.specs.Prelude.{abandons, AreSound, beside, besides, copies, copies_to, counted, crossing, deed_done, deeds_done, discard, discards, forgets, goes_itself, gone_with, IsPlaceSound, item_for, joined, LeadsToRoot, moves, purges, row_at}
use Rattle.nf_words.specs.declared.answer.Deed.{Deed}
use Rattle.nf_words.specs.declared.answer.Deed.TheVariants as deed
use Rattle.nf_words.specs.declared.request.Transfer.{Transfer}

-- ---- items

-- the deed leaves that item one; of one that stores changes that isn't told here
abbrev IsOff : Deed → ℕ → Type 0
IsOff (deed.Discard item) node = Unit {0}
IsOff (deed.Purge other) node = node ≢ other
IsOff (deed.Restore other folder name) node = node ≢ other
IsOff (deed.Relink other folder name) node = Unit {0}
IsOff (deed.Join rows) node = Unit {0}
IsOff (deed.Requote row) node = Unit {0}
IsOff (deed.Forget other at) node = Unit {0}
IsOff (deed.Store changes) node = ⊥
IsOff (deed.Abandon user dir) node = Unit {0}

item_on : (u : Tables) (one : Deed) (node : ℕ) → IsOff one node → IsItem u node → IsItem (deed_done u one) node
item_on u (deed.Discard item) node off is = item_put item u.items node is
item_on u (deed.Purge other) node off is = ap is_some (item_other other node u.items off) ∙ is
item_on u (deed.Restore other folder name) node off is = ap is_some (item_other other node u.items off) ∙ is
item_on u (deed.Relink other folder name) node off is = is
item_on u (deed.Join rows) node off is = is
item_on u (deed.Requote row) node off is = is
item_on u (deed.Forget other at) node off is = is
item_on u (deed.Store changes) node off is = absurd off
item_on u (deed.Abandon user dir) node off is = is

items_on : (u : Tables) (deeds : List Deed) (nodes : List ℕ) → All (λ (one : Deed). All (IsOff one) nodes) deeds → All (IsItem u) nodes
    → All (IsItem (deeds_done u deeds)) nodes
items_on u [] nodes off all = all
items_on u (one ∷ deeds) nodes off all =
    items_on (deed_done u one) deeds nodes (All-tail (λ (one : Deed). All (IsOff one) nodes) one deeds off)
    (λ k d within. item_on u one (get_or nodes k d) (All-head (λ (one : Deed). All (IsOff one) nodes) one deeds off k d within) (all k d within))

-- what leaves its place leaves the items of others
discard_off : (t : Tables) (now : ℕ) (row : NodeRow) (nodes : List ℕ) → All (λ (node : ℕ). node ≢ row.id) nodes → All (IsOff (discard t now row)) nodes
discard_off t now row nodes others =
    cond_both (goes_itself t now row) (deed.Purge row.id) (deed.Discard (item_for now row)) (λ (one : Deed). All (IsOff one) nodes)
    (λ e. others) (λ e k d within. tt)

-- ---- the parts

pub record Parts (t : Tables) (now : ℕ) (deeds : List Deed) : Type 0 where
  pub first : List Deed
  pub gone : List ℕ
  pub are : deeds ≡ first ++ purges gone
  pub turn : InTurn t now first
  pub goes : KnownGoes t gone
  pub still : All (IsItem (deeds_done t first)) gone

abbrev AreOff : List Deed → List ℕ → Type 0
AreOff deeds nodes = All (λ (one : Deed). All (IsOff one) nodes) deeds

-- those of which none touches the items that go
parts_of : (t : Tables) (now : ℕ) (first : List Deed) (gone : List ℕ) → InTurn t now first → KnownGoes t gone → AreOff first gone
    → Parts t now (first ++ purges gone)
parts_of t now first gone turn goes off = record {
  first = first;
  gone = gone;
  are = refl;
  turn = turn;
  goes = goes;
  still = items_on t first gone off goes.items;
}

no_deeds : (nodes : List ℕ) → AreOff [] nodes
no_deeds nodes = All-nil (λ (one : Deed). All (IsOff one) nodes)

one_more : (one : Deed) (deeds : List Deed) (nodes : List ℕ) → All (IsOff one) nodes → AreOff deeds nodes → AreOff (one ∷ deeds) nodes
one_more one deeds nodes off more = All-cons (λ (one : Deed). All (IsOff one) nodes) one deeds off more

-- ---- what leaves its place

abbrev pub rest_of : Tables → ℕ → NodeRow → List ℕ
rest_of t now row = filter (λ node. not (node == row.id)) (gone_with t now row)

pub no_goes : (t : Tables) → KnownGoes t []
no_goes t = record { items = All-nil (IsItem t); once = λ i j d before within. absurd (omega (arith, within)) }

leaving_parts : (t : Tables) (now : ℕ) (row : NodeRow) → AreSound t → KnownLeaving t row → Parts t now (discard t now row ∷ beside t now row)
leaving_parts t now row sound known =
    let gone = rest_of t now row in
    parts_of t now (discard t now row ∷ []) gone (leaving_fit t t now row known, tt) (rest_goes t sound now row known)
    (one_more (discard t now row) [] gone (discard_off t now row gone (rest_apart t sound now row known)) (no_deeds gone))

-- ---- MOVE and COPY, where what is replaced leaves its place first

-- a deed behind what leaves its place, which touches no item
put_parts : (t : Tables) (now : ℕ) (replaced : Option ℕ) (one : Deed) → AreSound t → ((nodes : List ℕ) → All (IsOff one) nodes)
    → (row_at t replaced ≡ None → Fit t now one)
    → ((row : NodeRow) → row_at t replaced ≡ Some row → KnownLeaving t row × Fit (deed_done t (discard t now row)) now one)
    → Parts t now (discards t now replaced ++ one ∷ besides t now replaced)
put_parts t now replaced one sound off alone after = here (row_at t replaced) refl
  where
    here : (o : Option NodeRow) → row_at t replaced ≡ o
        → Parts t now (option_map_or (λ row. discard t now row ∷ []) o [] ++ one ∷ option_map_or (beside t now) o [])
    here None e = parts_of t now (one ∷ []) [] (alone e, tt) (no_goes t) (one_more one [] [] (off []) (no_deeds []))
    here (Some row) e =
        let known = after row e in
        let gone = rest_of t now row in
        parts_of t now (discard t now row ∷ one ∷ []) gone (leaving_fit t t now row known.0, (known.1, tt)) (rest_goes t sound now row known.0)
        (one_more (discard t now row) (one ∷ []) gone (discard_off t now row gone (rest_apart t sound now row known.0))
        (one_more one [] gone (off gone) (no_deeds gone)))

moving_parts : (t : Tables) (now : ℕ) (transfer : Transfer) (name : List ℕ) → AreSound t → t.meta.last ≡ now → KnownMove t transfer name
    → Parts t now (moves t now name transfer)
moving_parts t now transfer name sound at move =
    put_parts t now transfer.replaced (deed.Relink transfer.node transfer.folder name) sound (λ nodes k d within. tt)
    (λ none. (
      own.0,
      move_fits t transfer name own.0 sound move.known (none_replaced t transfer name sound move.known none) own.1
          (same_owner t.nodes transfer own.0 move.within own.1),
    ))
    (λ row e.
    let leaving = replaced_leaves t sound transfer name move.known row e in
    let u = deed_done t (discard t now row) in
    let left = discard_left t now row sound (omega (arith, at)) leaving in
    let is = replaced_is t transfer.replaced row e in
    let source = left.row transfer.node (source_out t u row.id sound left transfer name move.known is) in
    let folder = left.row transfer.folder (folder_out t u row.id sound left transfer name move.known is) in (
      leaving,
      (
        own.0,
        move_fits u (into transfer) name own.0 left.sound (known_into t u row.id sound left transfer name move.known is) refl (source ∙ own.1)
            (ap (λ (o : Option NodeRow). option_map_or (λ row. row.owner) o 0) folder ∙ same_owner t.nodes transfer own.0 move.within own.1),
      ),
    ))
  where
    own : (row : NodeRow) × (node_row t.nodes transfer.node ≡ Some row)
    own = move.known.source

copying_parts : (t : Tables) (now : ℕ) (transfer : Transfer) (name : List ℕ) → AreSound t → t.meta.last ≡ now → KnownCopies t transfer name
    → Parts t now (copies t now name transfer)
copying_parts t now transfer name sound at known =
    put_parts t now transfer.replaced (deed.Join (copies_to t now transfer name)) sound (λ nodes k d within. tt)
    (λ none. joins_here t now transfer name sound (none_replaced t transfer name sound known.known none) known)
    (λ row e.
    let leaving = replaced_leaves t sound transfer name known.known row e in
    let u = deed_done t (discard t now row) in (
      leaving,
      joins_into t now transfer name u row.id sound (discard_left t now row sound (omega (arith, at)) leaving)
          (replaced_is t transfer.replaced row e) known,
    ))

-- ---- what goes to another owner

-- a node that is present may leave its place in other tables, where its row is the same and it is present
pub leaves_in : (u v : Tables) (row : NodeRow) → node_row v.nodes row.id ≡ node_row u.nodes row.id
    → (LeadsToRoot u.nodes row.id → LeadsToRoot v.nodes row.id) → KnownLeaving u row → KnownLeaving v row
leaves_in u v row same leads known = record {
  there = same ∙ known.there;
  no_root = ap (λ (o : Option NodeRow). option_map_or (λ row. is_root_place row.place) o false) same ∙ known.no_root;
  folder = known.folder;
  inside = known.inside;
  present = leads known.present;
}

-- so where copies are joined
pub leaves_joined : (u : Tables) (row : NodeRow) (more : List NodeRow) → KnownLeaving u row → KnownLeaving (joined u more) row
leaves_joined u row more known =
    leaves_in u (joined u more) row
    (find-append (λ (one : NodeRow). one.id == row.id) u.nodes more
    ∙ ap (λ (o : Option NodeRow). option_or o (node_row more row.id)) known.there ∙ sym known.there)
    (kept_leads u.nodes (joined u more).nodes row.id (kept_joined u.nodes more)) known

module _ (t : Tables) (now : ℕ) (transfer : Transfer) (name : List ℕ) (sound : AreSound t) (at : t.meta.last ≡ now) (cross : KnownCross t transfer name) where
  abbrev known : KnownTransfer t transfer name
  known = cross.copies.known

  -- the source
  abbrev from : NodeRow
  from = known.source.0

  same : from.id ≡ transfer.node
  same = eqb-true from.id transfer.node (found_passes (λ (row : NodeRow). row.id == transfer.node) t.nodes from known.source.1)

  leaving : KnownLeaving t from
  leaving = row_leaves t from transfer.node known.source.1 known.no_root known.present

  abbrev joins : Deed
  joins = deed.Join (copies_to t now transfer name)

  -- no present node is an item
  no_item : (node : ℕ) → LeadsToRoot t.nodes node → IsItem t node → ⊥
  no_item node present is =
      both_ways (is_under t.nodes node node) (item_outside t node node sound is present) (climb_under 0 t.nodes node node (omega arith) refl)

  others : (row : NodeRow) (nodes : List ℕ) → KnownLeaving t row → All (IsItem t) nodes → All (λ (node : ℕ). node ≢ row.id) nodes
  others row nodes leaves items k d within is = no_item row.id leaves.present (subst (IsItem t) is (items k d within))

  -- what is replaced is of the folder's owner, and the source isn't
  owner_in : (row : NodeRow) → row_at t transfer.replaced ≡ Some row → KnownLeaving t row → owner_of t.nodes transfer.folder ≡ row.owner
  owner_in row e leaves =
      let fine = row_is t row.id row sound leaves.there in
      let placed : IsPlaceSound t row (Inside leaves.folder) = subst (IsPlaceSound t row) leaves.inside fine.1.place in
      let above : parent_of t.nodes row.id ≡ Some transfer.folder =
      child_parent t.nodes transfer.folder name row.id sound.rising (known.there ∙ replaced_is t transfer.replaced row e) in
      let folder : leaves.folder ≡ transfer.folder =
      same_Some leaves.folder transfer.folder (sym (parent_at t.nodes row.id leaves.folder row leaves.there leaves.inside) ∙ above) in
      ap (owner_of t.nodes) (sym folder) ∙ placed.1

  two_owners : (row : NodeRow) → owner_of t.nodes transfer.folder ≡ row.owner → from.owner ≢ row.owner
  two_owners row own equal =
      both_ways (owner_of t.nodes transfer.node == owner_of t.nodes transfer.folder)
      (not-true (owner_of t.nodes transfer.node == owner_of t.nodes transfer.folder) cross.crosses)
      (eq-eqb (owner_of t.nodes transfer.node) (owner_of t.nodes transfer.folder)
      (ap (λ (o : Option NodeRow). option_map_or (λ row. row.owner) o 0) known.source.1 ∙ equal ∙ sym own))

  -- so what goes beside the one doesn't go beside the other
  rests_apart : (row : NodeRow) → from.owner ≢ row.owner → All (λ (one : ℕ). All (λ (node : ℕ). one ≢ node) (rest_of t now from)) (rest_of t now row)
  rests_apart row differ i d within j e also equal =
      let a = rest_owned t sound now row i d within in
      let b = rest_owned t sound now from j e also in
      let item : b.0 ≡ a.0 = same_Some b.0 a.0 (sym b.1 ∙ ap (item_row t.items) (sym equal) ∙ a.1) in
      differ (sym b.2 ∙ ap (λ (it : ItemRow). it.owner) item ∙ a.2)

  -- what goes beside both
  pub both_go : (row : NodeRow) → row_at t transfer.replaced ≡ Some row → KnownLeaving t row → KnownGoes t (rest_of t now row ++ rest_of t now from)
  both_go row e leaves =
      let one = rest_goes t sound now row leaves in
      let two = rest_goes t sound now from leaving in
      record {
        items = All-append (IsItem t) (rest_of t now row) (rest_of t now from) one.items two.items;
        once = joined_once (rest_of t now row) (rest_of t now from) one.once two.once
            (rests_apart row (two_owners row (owner_in row e leaves)));
      }

  -- the deeds where that is replaced, if anything is
  abbrev deeds_at : Option NodeRow → Option NodeRow → List Deed
  deeds_at o p =
      option_map_or (λ row. discard t now row ∷ []) o []
      ++ joins ∷ (option_map_or (λ row. discard t now row ∷ []) p [] ++ (option_map_or (beside t now) o [] ++ option_map_or (beside t now) p []))

  crossing_parts : Parts t now (crossing t now name transfer)
  crossing_parts = subst (λ (p : Option NodeRow). Parts t now (deeds_at (row_at t transfer.replaced) p)) (sym known.source.1) (here (row_at t transfer.replaced) refl)
    where
      here : (o : Option NodeRow) → row_at t transfer.replaced ≡ o → Parts t now (deeds_at o (Some from))
      here None e =
          let gone = rest_of t now from in
          let goes = rest_goes t sound now from leaving in
          let v = deed_done t joins in
          parts_of t now (joins ∷ discard t now from ∷ []) gone (
            joins_here t now transfer name sound (none_replaced t transfer name sound known e) cross.copies,
            (leaving_fit t v now from (leaves_joined t from (copies_to t now transfer name) leaving), tt),
          )
          goes
          (one_more joins (discard t now from ∷ []) gone (λ k d within. tt)
          (one_more (discard t now from) [] gone (discard_off t now from gone (others from gone leaving goes.items)) (no_deeds gone)))
      here (Some row) e =
          let leaves = replaced_leaves t sound transfer name known row e in
          let u = deed_done t (discard t now row) in
          let v = deed_done u joins in
          let left = discard_left t now row sound (omega (arith, at)) leaves in
          let is = replaced_is t transfer.replaced row e in
          let out : is_under t.nodes from.id row.id ≡ false =
          ap (λ (n : ℕ). is_under t.nodes n row.id) same ∙ source_out t u row.id sound left transfer name known is in
          let leaving_u : KnownLeaving u from = leaves_in t u from (left.row from.id out) (left.leads from.id out) leaving in
          let gone = rest_of t now row ++ rest_of t now from in
          let goes = both_go row e leaves in
          subst (λ (gone : List Deed). Parts t now (discard t now row ∷ joins ∷ discard t now from ∷ gone))
          (map-append (λ (node : ℕ). deed.Purge node) (rest_of t now row) (rest_of t now from))
          (parts_of t now (discard t now row ∷ joins ∷ discard t now from ∷ []) gone (
            leaving_fit t t now row leaves,
            (
              joins_into t now transfer name u row.id sound left is cross.copies,
              (leaving_fit t v now from (leaves_joined u from (copies_to t now transfer name) leaving_u), tt),
            ),
          )
          goes
          (one_more (discard t now row) (joins ∷ discard t now from ∷ []) gone (discard_off t now row gone (others row gone leaves goes.items))
          (one_more joins (discard t now from ∷ []) gone (λ k d within. tt)
          (one_more (discard t now from) [] gone (discard_off t now from gone (others from gone leaving goes.items)) (no_deeds gone)))))

-- ---- the deeds of a step

parts_turn : (t : Tables) (now : ℕ) (deeds : List Deed) → Parts t now deeds → InTurn t now deeds
parts_turn t now deeds p =
    subst (InTurn t now) (sym p.are)
    (turn_append t now p.first (purges p.gone) p.turn (goes_turn (deeds_done t p.first) now p.gone p.goes.once p.still))

-- uploads may go wherever they do
abandons_turn : (t : Tables) (now : ℕ) (rows : List UploadRow) → InTurn t now (abandons rows)
abandons_turn t now [] = tt
abandons_turn t now (row ∷ rows) = (tt, abandons_turn (deed_done t (deed.Abandon row.user row.dir)) now rows)

first_turn : (t : Tables) (now : ℕ) (deeds : List Deed) → AreSound t → t.meta.last ≡ now → KnownDeeds t now deeds → InTurn t now deeds
first_turn t now deeds sound at (by_going nodes goes) = goes_turn t now nodes goes.once goes.items
first_turn t now deeds sound at (by_leaving row known) = parts_turn t now deeds (leaving_parts t now row sound known)
first_turn t now deeds sound at (by_restoring node folder name gone known goes others) =
    let back = deed.Restore node folder name in
    parts_turn t now deeds
    (parts_of t now (back ∷ []) gone (restored_fits t node folder name sound known, tt) goes
    (one_more back [] gone (λ k d within same. others k d within (sym same)) (no_deeds gone)))
first_turn t now deeds sound at (by_requoting row gone known goes) =
    parts_turn t now deeds
    (parts_of t now (deed.Requote row ∷ []) gone (known, tt) goes (one_more (deed.Requote row) [] gone (λ k d within. tt) (no_deeds gone)))
first_turn t now deeds sound at (by_moving transfer name known) = parts_turn t now deeds (moving_parts t now transfer name sound at known)
first_turn t now deeds sound at (by_copying transfer name known) = parts_turn t now deeds (copying_parts t now transfer name sound at known)
first_turn t now deeds sound at (by_crossing transfer name known) = parts_turn t now deeds (crossing_parts t now transfer name sound at known)
first_turn t now deeds sound at (by_joining changes user dir known there) = (known, (tt, tt))
first_turn t now deeds sound at (by_abandoning user dir there) = (tt, tt)
first_turn t now deeds sound at (by_sweeping nodes rows goes idle) =
    turn_append t now (purges nodes) (abandons rows) (goes_turn t now nodes goes.once goes.items)
    (abandons_turn (deeds_done t (purges nodes)) now rows)

-- versions may go wherever they do
pub forgets_turn : (t : Tables) (now : ℕ) (gone : List Version) → InTurn t now (forgets gone)
forgets_turn t now [] = tt
forgets_turn t now (version ∷ gone) = (tt, forgets_turn (deed_done t (deed.Forget version.node version.at)) now gone)

pub in_turn : (t : Tables) (now : ℕ) (deeds : List Deed) → AreSound t → t.meta.last ≡ now → KnownSettled t now deeds → InTurn t now deeds
in_turn t now deeds sound at settled =
    subst (InTurn t now) (sym settled.are)
    (turn_append t now settled.first (forgets settled.gone) (first_turn t now settled.first sound at settled.known)
    (forgets_turn (deeds_done t settled.first) now settled.gone))

-- ---- at the moment of the step

-- what is known of a step is known whatever moment is stamped
pub leaving_stamped : (t : Tables) (moment : ℕ) (row : NodeRow) → KnownLeaving t row → KnownLeaving (stamp t moment) row
leaving_stamped t moment row k = record {
  there = k.there;
  no_root = k.no_root;
  folder = k.folder;
  inside = k.inside;
  present = k.present;
}

goes_stamped : (t : Tables) (moment : ℕ) (nodes : List ℕ) → KnownGoes t nodes → KnownGoes (stamp t moment) nodes
goes_stamped t moment nodes k = record { items = k.items; once = k.once }

pub transfer_stamped : (t : Tables) (moment : ℕ) (transfer : Transfer) (name : List ℕ) → KnownTransfer t transfer name
    → KnownTransfer (stamp t moment) transfer name
transfer_stamped t moment transfer name k = record {
  source = k.source;
  no_root = k.no_root;
  present = k.present;
  in_folder = k.in_folder;
  folder_present = k.folder_present;
  there = k.there;
  unmounted = k.unmounted;
  differs = k.differs;
  outside = k.outside;
  apart = k.apart;
  deep = k.deep;
}

pub copies_stamped : (t : Tables) (moment : ℕ) (transfer : Transfer) (name : List ℕ) → KnownCopies t transfer name → KnownCopies (stamp t moment) transfer name
copies_stamped t moment transfer name k = record {
  known = transfer_stamped t moment transfer name k.known;
  nodes = k.nodes;
  next_node = k.next_node;
  pieces = k.pieces;
  next_blob = k.next_blob;
}

pub known_stamped : (t : Tables) (now moment : ℕ) (deeds : List Deed) → KnownDeeds t now deeds → KnownDeeds (stamp t moment) now deeds
known_stamped t now moment deeds (by_going nodes goes) = by_going nodes (goes_stamped t moment nodes goes)
known_stamped t now moment deeds (by_leaving row k) = by_leaving row (leaving_stamped t moment row k)
known_stamped t now moment deeds (by_restoring node folder name gone k goes others) =
    by_restoring node folder name gone (record { item = k.item; there = k.there; home = k.home; named = k.named; deep = k.deep })
    (goes_stamped t moment gone goes) others
known_stamped t now moment deeds (by_requoting row gone k goes) =
    by_requoting row gone (record { old = k.old; there = k.there; same = k.same; other = k.other }) (goes_stamped t moment gone goes)
known_stamped t now moment deeds (by_moving transfer name k) =
    by_moving transfer name (record { known = transfer_stamped t moment transfer name k.known; within = k.within })
known_stamped t now moment deeds (by_copying transfer name k) = by_copying transfer name (copies_stamped t moment transfer name k)
known_stamped t now moment deeds (by_crossing transfer name k) =
    by_crossing transfer name (record { copies = copies_stamped t moment transfer name k.copies; crosses = k.crosses })
known_stamped t now moment deeds (by_joining changes user dir k there) = by_joining changes user dir (change_stamped t now moment changes k) there
known_stamped t now moment deeds (by_abandoning user dir there) = by_abandoning user dir there
known_stamped t now moment deeds (by_sweeping nodes rows goes idle) =
    by_sweeping nodes rows (goes_stamped t moment nodes goes) (record { there = idle.there; once = idle.once })

pub settled_stamped : (t : Tables) (now moment : ℕ) (deeds : List Deed) → KnownSettled t now deeds → KnownSettled (stamp t moment) now deeds
settled_stamped t now moment deeds k = record {
  first = k.first;
  gone = k.gone;
  are = k.are;
  known = known_stamped t now moment k.first k.known;
  there = k.there;
}

-- so a step's deeds are known in turn from the tables with its moment on
pub step_turn : (t : Tables) (now : ℕ) (deeds : List Deed) → AreSound t → t.meta.last ≤ now → KnownSettled t now deeds → InTurn (stamp t now) now deeds
step_turn t now deeds sound later known = in_turn (stamp t now) now deeds (stamp_sound t now sound later) refl (settled_stamped t now now deeds known)

-- which may be stamped before or after
pub deed_stamped : (t : Tables) (now : ℕ) (one : Deed) → deed_done (stamp t now) one ≡ stamp (deed_done t one) now
deed_stamped t now (deed.Discard item) = refl
deed_stamped t now (deed.Purge node) = refl
deed_stamped t now (deed.Restore node folder name) = refl
deed_stamped t now (deed.Relink node folder name) = refl
deed_stamped t now (deed.Join rows) = refl
deed_stamped t now (deed.Requote row) = refl
deed_stamped t now (deed.Forget node at) = refl
deed_stamped t now (deed.Store changes) =
    put_met t (stamp t now).meta (counted (stamp t now).meta changes) changes
    ∙ ap (λ (meta : MetaRow). record (put_all t changes) { meta = meta }) (counted_stamped t.meta now changes)
deed_stamped t now (deed.Abandon user dir) = refl

pub deeds_stamped : (t : Tables) (now : ℕ) (deeds : List Deed) → deeds_done (stamp t now) deeds ≡ stamp (deeds_done t deeds) now
deeds_stamped t now [] = refl
deeds_stamped t now (one ∷ deeds) =
    ap (λ (u : Tables). deeds_done u deeds) (deed_stamped t now one) ∙ deeds_stamped (deed_done t one) now deeds

-- the tables after a step are sound
pub step_sound : (t : Tables) (now : ℕ) (deeds : List Deed) → AreSound t → t.meta.last ≤ now → KnownSettled t now deeds
    → AreSound (stamp (deeds_done t deeds) now)
step_sound t now deeds sound later known =
    subst AreSound (deeds_stamped t now deeds)
    (deeds_sound (stamp t now) now deeds (stamp_sound t now sound later) refl (step_turn t now deeds sound later known))
