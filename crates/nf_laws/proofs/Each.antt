-- What each deed of a step has, and which of them stores changes: an upload becomes the content of a file by one, and it is a step's first.
use Rattle.std.proofs.Common.{◌≡◌, ◌⊎◌, ℕ, inl, inr, List, [], ◌∷◌, ◌++◌, Option, None, Some, refl, sym, ap, subst, ◌∙◌}
use Rattle.std.specs.List.{All}
use Rattle.std.specs.Option.{option_map_or}
use Rattle.std.proofs.lemmas.Bool.{cond_both}
use Rattle.std.proofs.lemmas.List.Elements.{All-append, All-cons, All-head, All-map, All-nil, All-tail, All-weaker}
use Rattle.nf_base.specs.declared.changes.Change.{Change}
use Rattle.nf_base.specs.declared.rows.ItemRow.{ItemRow}
use Rattle.nf_base.specs.declared.rows.NodeRow.{NodeRow}
use Rattle.nf_base.specs.declared.rows.UploadRow.{UploadRow}
use Rattle.nf_defs.specs.Prelude.{Tables}
use Rattle.nf_retention.specs.declared.versions.Version.{Version}
use Rattle.nf_words.proofs.Fits.{KnownChange}
use Rattle.nf_words.proofs.Known.{KnownDeeds, KnownSettled}
use Rattle.nf_words.proofs.Known.KnownDeeds.{by_abandoning, by_copying, by_crossing, by_going, by_joining, by_leaving, by_moving, by_requoting, by_restoring, by_sweeping}
use Rattle.nf_words.specs.Prelude.{abandons, beside, besides, copies_to, crossing, deed_done, deeds_done, discard, discards, forgets, goes_itself, item_for, purges, replaced, row_at}
use Rattle.nf_words.specs.declared.answer.Deed.{Deed}
use Rattle.nf_words.specs.declared.answer.Deed.TheVariants as deed
use Rattle.nf_words.specs.declared.request.Transfer.{Transfer}

-- ---- the deeds of a step

-- what each has by which a node goes or is put in the trash
module _ (t : Tables) (now : ℕ) (Q : Deed → Type 0) (purge : (node : ℕ) → Q (deed.Purge node)) (trash : (item : ItemRow) → Q (deed.Discard item)) where
  pub purges_each : (nodes : List ℕ) → All Q (purges nodes)
  purges_each nodes = All-map Q (λ (node : ℕ). deed.Purge node) nodes (λ k d within. purge _)

  pub discard_each : (row : NodeRow) → Q (discard t now row)
  discard_each row = cond_both (goes_itself t now row) (deed.Purge row.id) (deed.Discard (item_for now row)) Q (λ e. purge row.id) (λ e. trash (item_for now row))

  pub leaving_each : (row : NodeRow) → All Q (discard t now row ∷ beside t now row)
  leaving_each row = All-cons Q (discard t now row) (beside t now row) (discard_each row) (purges_each _)

  -- what leaves its place, and what else goes then, if anything does
  pub discards_each : (o : Option NodeRow) → All Q (option_map_or (λ row. discard t now row ∷ []) o [])
  discards_each None = All-nil Q
  discards_each (Some row) = All-cons Q (discard t now row) [] (discard_each row) (All-nil Q)

  pub besides_each : (o : Option NodeRow) → All Q (option_map_or (beside t now) o [])
  besides_each None = All-nil Q
  besides_each (Some row) = purges_each _

  pub put_each : (replaced : Option ℕ) (one : Deed) → Q one → All Q (discards t now replaced ++ one ∷ besides t now replaced)
  put_each replaced one has =
      All-append Q (discards t now replaced) (one ∷ besides t now replaced) (discards_each (row_at t replaced))
      (All-cons Q one (besides t now replaced) has (besides_each (row_at t replaced)))

  pub crossing_each : (transfer : Transfer) (name : List ℕ) → Q (deed.Join (copies_to t now transfer name)) → All Q (crossing t now name transfer)
  crossing_each transfer name has =
      let from = Some transfer.node in
      let rest = besides t now transfer.replaced ++ besides t now from in
      let join = deed.Join (copies_to t now transfer name) in
      All-append Q (discards t now transfer.replaced) (join ∷ (discards t now from ++ rest)) (discards_each (row_at t transfer.replaced))
      (All-cons Q join (discards t now from ++ rest) has
      (All-append Q (discards t now from) rest (discards_each (row_at t from))
      (All-append Q (besides t now transfer.replaced) (besides t now from) (besides_each (row_at t transfer.replaced)) (besides_each (row_at t from)))))

-- those by which versions and uploads go
pub forgets_each : (Q : Deed → Type 0) → ((node at : ℕ) → Q (deed.Forget node at)) → (gone : List Version) → All Q (forgets gone)
forgets_each Q forget gone = All-map Q (λ (version : Version). deed.Forget version.node version.at) gone (λ k d within. forget _ _)

pub abandons_each : (Q : Deed → Type 0) → ((user : ℕ) (dir : List ℕ) → Q (deed.Abandon user dir)) → (rows : List UploadRow) → All Q (abandons rows)
abandons_each Q abandon rows = All-map Q (λ (row : UploadRow). deed.Abandon row.user row.dir) rows (λ k d within. abandon _ _)

-- ---- a deed that stores changes

abbrev pub NoStore : Deed → Type 0
NoStore (deed.Store changes) = ⊥
NoStore other = Unit {0}

pub purges_none : (nodes : List ℕ) → All NoStore (purges nodes)
purges_none nodes = All-map NoStore (λ (node : ℕ). deed.Purge node) nodes (λ k d within. tt)

pub forgets_none : (gone : List Version) → All NoStore (forgets gone)
forgets_none = forgets_each NoStore (λ node at. tt)

pub discard_none : (t : Tables) (now : ℕ) (row : NodeRow) → NoStore (discard t now row)
discard_none t now = discard_each t now NoStore (λ node. tt) (λ item. tt)

-- one by which a version or an upload goes
abbrev pub IsBehind : Deed → Type 0
IsBehind (deed.Forget node at) = Unit {0}
IsBehind (deed.Abandon user dir) = Unit {0}
IsBehind other = ⊥

pub behind_none : (one : Deed) → IsBehind one → NoStore one
behind_none (deed.Forget node at) behind = tt
behind_none (deed.Abandon user dir) behind = tt
behind_none one behind = absurd behind

-- touches no node
behind_one : (u : Tables) (one : Deed) → IsBehind one → (deed_done u one).nodes ≡ u.nodes
behind_one u (deed.Forget node at) behind = refl
behind_one u (deed.Abandon user dir) behind = refl
behind_one u one behind = absurd behind

pub behind_nodes : (u : Tables) (deeds : List Deed) → All IsBehind deeds → (deeds_done u deeds).nodes ≡ u.nodes
behind_nodes u [] behind = refl
behind_nodes u (one ∷ deeds) behind =
    behind_nodes (deed_done u one) deeds (All-tail IsBehind one deeds behind) ∙ behind_one u one (All-head IsBehind one deeds behind)

forgets_behind : (gone : List Version) → All IsBehind (forgets gone)
forgets_behind = forgets_each IsBehind (λ node at. tt)

-- the first stores known changes, and then versions and uploads go
pub record StoresFirst (t : Tables) (now : ℕ) (deeds : List Deed) : Type 0 where
  pub changes : List Change
  pub more : List Deed
  pub are : deeds ≡ deed.Store changes ∷ more
  pub known : KnownChange t now changes None
  pub behind : All IsBehind more

known_stores : (t : Tables) (now : ℕ) (deeds : List Deed) → KnownDeeds t now deeds → All NoStore deeds ⊎ StoresFirst t now deeds
known_stores t now _ (by_going nodes goes) = inl (purges_none nodes)
known_stores t now _ (by_leaving row known) = inl (leaving_each t now NoStore (λ node. tt) (λ item. tt) row)
known_stores t now _ (by_restoring node folder name gone known goes others) =
    inl (All-cons NoStore (deed.Restore node folder name) (purges gone) tt (purges_none gone))
known_stores t now _ (by_requoting row gone known goes) = inl (All-cons NoStore (deed.Requote row) (purges gone) tt (purges_none gone))
known_stores t now _ (by_moving transfer name known) =
    inl (put_each t now NoStore (λ node. tt) (λ item. tt) transfer.replaced (deed.Relink transfer.node transfer.folder name) tt)
known_stores t now _ (by_copying transfer name known) =
    inl (put_each t now NoStore (λ node. tt) (λ item. tt) transfer.replaced (deed.Join (copies_to t now transfer name)) tt)
known_stores t now _ (by_crossing transfer name known) = inl (crossing_each t now NoStore (λ node. tt) (λ item. tt) transfer name tt)
known_stores t now _ (by_joining changes user dir known there) = inr (record {
  changes = changes;
  more = deed.Abandon user dir ∷ [];
  are = refl;
  known = known;
  behind = All-cons IsBehind (deed.Abandon user dir) [] tt (All-nil IsBehind);
})
known_stores t now _ (by_abandoning user dir there) = inl (All-cons NoStore (deed.Abandon user dir) [] tt (All-nil NoStore))
known_stores t now _ (by_sweeping nodes rows goes idle) =
    inl (All-append NoStore (purges nodes) (abandons rows) (purges_none nodes) (abandons_each NoStore (λ user dir. tt) rows))

pub settled_stores : (t : Tables) (now : ℕ) (deeds : List Deed) → KnownSettled t now deeds → All NoStore deeds ⊎ StoresFirst t now deeds
settled_stores t now deeds known =
    let behind = forgets known.gone in
    elim (known_stores t now known.first known.known) [
      | inl none ↦ inl (subst (All NoStore) (sym known.are) (All-append NoStore known.first behind none (forgets_none known.gone)))
      | inr first ↦ inr (record {
        changes = first.changes;
        more = first.more ++ behind;
        are = known.are ∙ ap (λ (deeds : List Deed). deeds ++ behind) first.are;
        known = first.known;
        behind = All-append IsBehind first.more behind first.behind (forgets_behind known.gone);
      })
    ]

-- what all deeds keep that store none, in whatever tables
pub none_keep : (P : Tables → Type 0) → ((u : Tables) (one : Deed) → NoStore one → P u → P (deed_done u one)) → (t : Tables) (deeds : List Deed)
    → All NoStore deeds → P t → P (deeds_done t deeds)
none_keep P keeps t [] none has = has
none_keep P keeps t (one ∷ deeds) none has =
    none_keep P keeps (deed_done t one) deeds (All-tail NoStore one deeds none) (keeps t one (All-head NoStore one deeds none) has)

-- and known changes keep in the tables before the step, the deeds of the step keep
pub settled_keep : (P : Tables → Type 0) (t : Tables) (now : ℕ) (deeds : List Deed) → KnownSettled t now deeds
    → ((u : Tables) (one : Deed) → NoStore one → P u → P (deed_done u one))
    → ((changes : List Change) → KnownChange t now changes None → P (replaced t changes)) → P t → P (deeds_done t deeds)
settled_keep P t now deeds known keeps stores has =
    elim (settled_stores t now deeds known) [
      | inl none ↦ none_keep P keeps t deeds none has
      | inr first ↦
          subst (λ (deeds : List Deed). P (deeds_done t deeds)) (sym first.are)
          (none_keep P keeps (replaced t first.changes) first.more (All-weaker IsBehind NoStore behind_none first.more first.behind)
          (stores first.changes first.known))
    ]
