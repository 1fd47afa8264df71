-- Steps that change some row.
use Rattle.std.proofs.Common.{ℕ, ◌≡◌, ◌≢◌, ◌-◌, List, [], ◌∷◌, ◌++◌, Option, None, Some, IsSome, refl, sym, ◌∙◌}
use Rattle.nf_base.specs.declared.limits.TheConstants.{MAX_DEPTH}
use Rattle.nf_base.specs.declared.changes.Change.{Change}
use Rattle.nf_base.specs.declared.changes.Change.TheVariants.{Drop, Put}
use Rattle.nf_base.specs.declared.changes.RowKey.TheVariants as keys
use Rattle.nf_base.specs.declared.rows.NodeRow.{NodeRow}
use Rattle.nf_base.specs.declared.rows.Row.TheVariants as rows
use Rattle.nf_defs.specs.Prelude.{children_of, node_row, relinked, Tables, walk_of, walk_within}
use Rattle.nf_defs.specs.Tree.{trashed}
use Rattle.std.specs.List.{flat_map}
use Rattle.std.proofs.lemmas.List.{append_assoc}
use Rattle.std.proofs.lemmas.List.Elements.{All-head}
use Rattle.nf_tree.proofs.Walks.{walk_down}
use Rattle.nf_words.specs.Prelude.{closed_under, deed_done, forgotten_under, gone_under, replaced, stamped, told_chunks, told_deed, told_deeds, told_item, told_node}
use Rattle.nf_words.specs.declared.answer.Deed.{Deed}
use Rattle.nf_words.specs.declared.answer.Deed.TheVariants as deed
use Rattle.nf_state.specs.Current.{BearsDeed, BearsDeeds, OnlyDrops, StoresFirst, StoresNone}
use Rattle.nf_state.proofs.Deeds.{drop_none}

pub stamped_some : (before after : Tables) (now : ℕ) (changes : List Change) → changes ≢ []
    → stamped before after now changes ≡ record after { meta = record after.meta { last = now } }
stamped_some before after now [] some = absurd (some refl)
stamped_some before after now (change ∷ changes) some = refl

-- a walk has its top, so that what goes for good drops a node
walk_top : (rows : List NodeRow) (top : ℕ) → walk_of rows top ≡ top ∷ flat_map (walk_within (MAX_DEPTH - 1) rows) (children_of rows top)
unfolding walk_of
walk_top rows top = walk_down (MAX_DEPTH - 1) MAX_DEPTH rows top refl

-- a row that is there becomes another
node_some : (o : Option NodeRow) (change : NodeRow → NodeRow) (more : List Change) → IsSome o → told_node o change ++ more ≢ []
node_some None change more there none = absurd (cc there)
node_some (Some row) change more there none = absurd (cc)

-- where there is nothing, there is nothing behind something
none_behind : (front rest : List Change) → front ++ rest ≡ [] → rest ≡ []
none_behind [] rest none = none
none_behind (change ∷ front) rest none = absurd (cc)

-- nor before something
before_some : (front : List Change) (one : Change) (more : List Change) → (front ++ one ∷ []) ++ more ≢ []
before_some [] one more none = absurd (cc)
before_some (change ∷ front) one more none = absurd (cc)

-- a deed that can be borne changes a row, unless it stores none
deed_some : (t : Tables) (one : Deed) (more : List Change) → BearsDeed t one → StoresNone one → told_deed t one ++ more ≢ []
deed_some t (deed.Discard item) more borne stores none = here (node_row t.nodes item.node) none
  where
    here : (o : Option NodeRow) → (told_node o trashed ++ Put (rows.Item item) ∷ closed_under t.nodes t.shares item.node) ++ more ≢ []
    here None none = absurd (cc)
    here (Some row) none = absurd (cc)
deed_some t (deed.Purge node) more borne stores none =
    let front = forgotten_under t.nodes t.versions node in
    let gone = gone_under t.nodes t.shares node ++ told_item t node in
    let rest = none_behind front (gone ++ more) (sym (append_assoc front gone more) ∙ none) in
    let h = rw (walk_top t.nodes node) at rest in absurd (cc)
deed_some t (deed.Restore node folder name) more borne stores none = absurd (cc)
deed_some t (deed.Relink node folder name) more borne stores none = node_some (node_row t.nodes node) (relinked folder name) more borne.there none
deed_some t (deed.Join []) more borne stores none = borne.some refl
deed_some t (deed.Join (row ∷ rows)) more borne stores none = absurd (cc)
deed_some t (deed.Requote row) more borne stores none = absurd (cc)
deed_some t (deed.Forget node at) more borne stores none = absurd (cc)
deed_some t (deed.Store changes) more borne stores none = absurd stores
deed_some t (deed.Abandon user dir) more borne stores none = before_some (told_chunks t user dir) (Drop (keys.Upload user dir)) more none

-- so some deeds do, since others stand behind one that stores changes
pub deeds_some : (t : Tables) (deeds : List Deed) → BearsDeeds t deeds → StoresFirst deeds → deeds ≢ [] → told_deeds t deeds ≢ []
deeds_some t [] borne order some none = some refl
deeds_some t (deed.Store changes ∷ []) borne order some none = order.0 refl
deeds_some t (deed.Store changes ∷ one ∷ deeds) borne order some none =
    let u = replaced t changes in
    let more = told_deeds (deed_done u one) deeds in
    deed_some u one more borne.1.0 (drop_none one (All-head OnlyDrops one deeds order.1)) (none_behind changes (told_deed u one ++ more) none)
deeds_some t (one ∷ deeds) borne order some none =
    deed_some t one (told_deeds (deed_done t one) deeds) borne.0 (All-head StoresNone one deeds order) none
