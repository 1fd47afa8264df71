-- That a step with a deed tells something, whose the items are that go for good, and what they leave as it was.
use Rattle.std.proofs.Common.{ℕ, ◌==◌, ◌≡◌, ◌≢◌, ◌≤◌, not, List, [], ◌∷◌, get_or, length, length-append, map, refl, sym, ap, ◌∙◌, arith, ◌++◌}
use Rattle.std.specs.Prelude.{is_some}
use Rattle.std.specs.List.{All, Contains}
use Rattle.std.specs.Option.{option_and_then}
use Rattle.std.proofs.lemmas.Bool.{eqb-true}
use Rattle.std.proofs.lemmas.List.{length-map}
use Rattle.std.proofs.lemmas.List.Elements.{All-contains, All-filter, All-map, filter_passes}
use Rattle.std.proofs.lemmas.Option.{same_Some}
use Rattle.nf_base.specs.declared.changes.Change.TheVariants.{Drop, Put}
use Rattle.nf_base.specs.declared.changes.RowKey.TheVariants as keys
use Rattle.nf_base.specs.declared.rows.ItemRow.{ItemRow}
use Rattle.nf_base.specs.declared.rows.NodeRow.{NodeRow}
use Rattle.nf_base.specs.declared.rows.Row.TheVariants as rows
use Rattle.nf_defs.proofs.Walks.{climbs_walk}
use Rattle.nf_defs.specs.Prelude.{folder_of, item_row, node_row, parent_of, Tables, walk_of}
use Rattle.nf_defs.specs.Tree.{trashed}
use Rattle.nf_laws.proofs.Climbs.{some_there}
use Rattle.nf_laws.proofs.Each.{NoStore}
use Rattle.nf_laws.proofs.Going.{ArePurged, item_is, under_beside}
use Rattle.nf_laws.proofs.InTurn.{Fit}
use Rattle.nf_laws.specs.Acts.{IsGoneWith, IsItemOf, IsUnderOne}
use Rattle.nf_laws.specs.Tree.{Under}
use Rattle.nf_words.proofs.Known.{IsItem}
use Rattle.nf_words.proofs.Trashing.{gone_has, of_user}
use Rattle.nf_words.specs.Others.{IsItemSound}
use Rattle.nf_words.specs.Prelude.{AreSound, closed_under, deed_done, dropped_under, gone_beside, gone_under, items_but, items_of, quota_of, told_chunks, told_deed, told_deeds, told_item, told_node, forgotten_under}
use Rattle.nf_words.specs.declared.answer.Deed.{Deed}
use Rattle.nf_words.specs.declared.answer.Deed.TheVariants as deed

-- ---- what is told

-- of what is removed
pub some_told : (t : Tables) (top : ℕ) → 1 ≤ length (gone_under t.nodes t.shares top)
some_told t top =
    omega (
      arith,
      length-append (dropped_under t.nodes top) (closed_under t.nodes t.shares top),
      length-map (walk_of t.nodes top) (λ node. Drop (keys.Node node)),
      (climbs_walk 0 t.nodes top top (omega arith) refl).1,
    )

-- of any deed that is known, but for one that stores changes, which may be none
pub deed_told : (t : Tables) (now : ℕ) (one : Deed) → NoStore one → Fit t now one → 1 ≤ length (told_deed t one)
deed_told t now (deed.Discard item) none fit =
    omega (
      arith,
      length-append (told_node (node_row t.nodes item.node) trashed) (Put (rows.Item item) ∷ closed_under t.nodes t.shares item.node),
    )
deed_told t now (deed.Purge node) none fit =
    omega (
      arith,
      length-append (forgotten_under t.nodes t.versions node) (gone_under t.nodes t.shares node ++ told_item t node),
      length-append (gone_under t.nodes t.shares node) (told_item t node),
      some_told t node,
    )
deed_told t now (deed.Restore node folder name) none fit = omega arith
deed_told t now (deed.Relink node folder name) none fit = rw fit.1.there (omega arith)
deed_told t now (deed.Join copies) none fit =
    omega (
      arith,
      length-map copies (λ row. Put (rows.Node row)),
      fit.mirrors.all,
      (climbs_walk 0 t.nodes fit.transfer.node fit.transfer.node (omega arith) refl).1,
    )
deed_told t now (deed.Requote row) none fit = omega arith
deed_told t now (deed.Forget node at) none fit = omega arith
deed_told t now (deed.Store changes) none fit = absurd none
deed_told t now (deed.Abandon user dir) none fit = omega (arith, length-append (told_chunks t user dir) (Drop (keys.Upload user dir) ∷ []))

pub deeds_told : (t : Tables) (now : ℕ) (one : Deed) (deeds : List Deed) → NoStore one → Fit t now one → 1 ≤ length (told_deeds t (one ∷ deeds))
deeds_told t now one deeds none fit =
    omega (arith, length-append (told_deed t one) (told_deeds (deed_done t one) deeds), deed_told t now one none fit)

-- ---- whose the items are that go

-- what is a user's item is an item
pub items_are : (t : Tables) (user : ℕ) (nodes : List ℕ) → All (IsItemOf t user) nodes → All (IsItem t) nodes
items_are t user nodes own k d within = ap is_some (own k d within).1

-- each item of a user's is that user's
pub items_own : (t : Tables) (user : ℕ) → AreSound t → All (λ (item : ItemRow). IsItemOf t user item.node) (items_of t user)
items_own t user sound k d within =
    let item = get_or (items_of t user) k d in
    let mine = eqb-true item.owner user (filter_passes (λ (item : ItemRow). item.owner == user) t.items k d within) in
    let fine = All-filter (λ (item : ItemRow). item.owner == user) (IsItemSound t) t.items sound.others.items k d within in
    let found = some_there (item_row t.items item.node) (of_user t sound user k d within) in
    let other = item_is t item.node sound found.0 found.1 in
    let same : other.1.of ≡ fine.of = same_Some other.1.of fine.of (sym other.1.there ∙ ap (node_row t.nodes) other.0 ∙ fine.there) in
    (found.0, found.1, sym other.1.owner ∙ ap (λ (row : NodeRow). row.owner) same ∙ fine.owner ∙ mine)

-- so those of a user's that go are, with one that goes or comes back
pub beside_own : (t : Tables) (now : ℕ) (item : ItemRow) → AreSound t → All (IsItemOf t item.owner) (gone_beside t now item)
beside_own t now item sound =
    gone_has (IsItemOf t item.owner) t now (quota_of t item.owner) (items_but t item.owner item.node)
    (All-filter (λ (other : ItemRow). not (other.node == item.node)) (λ (other : ItemRow). IsItemOf t item.owner other.node) (items_of t item.owner)
    (items_own t item.owner sound))

pub emptied_own : (t : Tables) (user : ℕ) → AreSound t → All (IsItemOf t user) (map (λ item. item.node) (items_of t user))
emptied_own t user sound = All-map (IsItemOf t user) (λ (item : ItemRow). item.node) (items_of t user) (items_own t user sound)

-- ---- beside a node whose row is another

-- tops are gone with all under each, and all else is as it was, but for the node
pub record AreGoneBeside (t u after : Tables) (changed : ℕ) (tops : List ℕ) : Type 0 where
  pub gone : All (IsGoneWith t.nodes after.nodes) tops
  pub others : (node : ℕ) → node ≢ changed → (IsUnderOne t.nodes tops node → ⊥) → node_row after.nodes node ≡ node_row t.nodes node
  pub itself : node_row after.nodes changed ≡ node_row u.nodes changed

-- where the node is under none of them, before and after
pub goes_beside : (t u after : Tables) (changed : ℕ) (tops : List ℕ)
    → ((node : ℕ) → node ≢ changed → node_row u.nodes node ≡ node_row t.nodes node)
    → All (λ (top : ℕ). (Under t.nodes top changed → ⊥) × (Under u.nodes top changed → ⊥)) tops → ArePurged u after tops
    → AreGoneBeside t u after changed tops
goes_beside t u after changed tops same apart h = record {
  gone = λ k d within node below.
      h.gone k d within node (under_beside t.nodes u.nodes changed (get_or tops k d) parent (apart k d within).0 node below);
  others = λ node differs outside.
      h.others node (λ one.
      outside (one.0, one.1, under_beside u.nodes t.nodes changed one.0 (λ other differs. sym (parent other differs)) (off one.0 one.1).1 node one.2))
      ∙ same node differs;
  itself = h.others changed (λ one. (off one.0 one.1).1 one.2);
}
  where
    parent : (node : ℕ) → node ≢ changed → parent_of u.nodes node ≡ parent_of t.nodes node
    parent node differs = ap (option_and_then (λ (row : NodeRow). folder_of row.place)) (same node differs)

    Apart : ℕ → Type 0
    Apart top = (Under t.nodes top changed → ⊥) × (Under u.nodes top changed → ⊥)

    off : (top : ℕ) → Contains tops top → Apart top
    off top among = All-contains Apart tops top apart among
