-- Items of the trash: what the rules say of their rows, what sound tables say of them, and that tables that come after keep it.
use Rattle.std.proofs.Common.{◌≡◌, ℕ, ◌<◌, ◌≤◌, ◌==◌, ◌⊎◌, inl, inr, Bool, true, false, List, ◌∷◌, [], Option, None, Some, refl, sym, ap, ◌∙◌, subst, arith}
use Rattle.std.specs.Prelude.{is_some, nat_lt}
use Rattle.std.specs.List.{All}
use Rattle.std.specs.Option.{option_map_or}
use Rattle.std.proofs.lemmas.Bool.{and_from, and_parts, cases_Bool, eq-eqb, eqb-true, false≢true, le-ltb, ltb-false, not-true, not_from_false}
use Rattle.std.proofs.lemmas.List.Elements.{All-weaker}
use Rattle.nf_base.specs.declared.rows.ItemRow.{ItemRow}
use Rattle.nf_base.specs.declared.rows.NodeRow.{NodeRow}
use Rattle.nf_base.specs.declared.rows.Place.{Place}
use Rattle.nf_base.specs.declared.rows.Place.TheVariants.{Root, Inside, Trash}
use Rattle.nf_defs.proofs.Climbs.{holds_some}
use Rattle.nf_defs.specs.Prelude.{node_row, Tables}
use Rattle.nf_laws.proofs.Numbers.{numbers_new}
use Rattle.nf_laws.proofs.Rows.{found_is}
use Rattle.nf_laws.specs.Access.{Follows, in_it, in_made, is_gone, is_made, is_moved, is_trashed, is_updated, IsMadeIn, NodesAllowed}
use Rattle.nf_laws.specs.Numbers.{AreHigher}
use Rattle.nf_words.specs.Others.{IsItemSound}
use Rattle.nf_words.specs.Prelude.{after, IsSound, MayCome, Need, State}
use Rattle.nf_words.specs.declared.history.Entry.{Entry}
use Rattle.nf_rules.specs.Ruled.{AreOrdered, IsGiven, IsItemRuled}
use Rattle.nf_rules.specs.Rules.{are_item_numbers, is_folder_for, is_from_kept, is_item_kept, is_node, is_trash_place, is_trashed_as, is_user}
use Rattle.nf_rules.proofs.After.{still_given}
use Rattle.nf_rules.proofs.Shares.{given, is_given_from}

-- ---- what the rules say

pub item_sound : (t : Tables) (row : ItemRow) → are_item_numbers t.meta row ≡ true → is_item_kept t row ≡ true → IsItemSound t row
item_sound t row numbers kept =
    let of = holds_some (is_trashed_as row) (node_row t.nodes row.node) (and_parts _ _ kept).0 in
    let parts = and_parts _ _ of.2 in
    record {
      at = ltb-false t.meta.last row.at (not-true (nat_lt t.meta.last row.at) (and_parts _ _ numbers).1);
      of = of.0;
      there = of.1;
      owner = eqb-true of.0.owner row.owner parts.1;
      place = in_trash of.0.place parts.0;
    }
  where
    in_trash : (place : Place) → is_trash_place place ≡ true → place ≡ Trash
    in_trash Root is = absurd (false≢true is)
    in_trash (Inside folder) is = absurd (false≢true is)
    in_trash Trash is = refl

pub item_ruled : (t : Tables) (row : ItemRow) → are_item_numbers t.meta row ≡ true → is_item_kept t row ≡ true → IsItemRuled t row
item_ruled t row numbers kept =
    let from = and_parts _ _ (and_parts _ _ numbers).0 in
    let ids = and_parts _ _ from.0 in
    record {
      node = given t.meta.next_node row.node ids.0;
      owner = given t.meta.next_user row.owner ids.1;
      from = given t.meta.next_node row.from from.1;
      kept = (and_parts _ _ kept).1;
    }

-- ---- and the other way round

pub item_numbers : (t : Tables) (row : ItemRow) → IsItemSound t row → IsItemRuled t row → are_item_numbers t.meta row ≡ true
item_numbers t row sound own =
    and_from _ _
    (and_from _ _
    (and_from _ _ (is_given_from t.meta.next_node row.node own.node) (is_given_from t.meta.next_user row.owner own.owner))
    (is_given_from t.meta.next_node row.from own.from))
    (not_from_false _ (le-ltb t.meta.last row.at sound.at))

-- its owner is who owns its node
pub item_names : (t : Tables) (row : ItemRow) → All (λ (row : NodeRow). is_user t row.owner ≡ true) t.nodes → IsItemSound t row
    → (is_user t row.owner ≡ true) × (is_node t row.node ≡ true)
item_names t row owners sound =
    let found = found_is (λ (row : NodeRow). is_user t row.owner ≡ true) (λ (of : NodeRow). of.id == row.node) t.nodes sound.of owners sound.there in
    (ap (is_user t) (sym sound.owner) ∙ found.1, ap is_some sound.there)

pub item_placed : (t : Tables) (row : ItemRow) → IsItemSound t row → IsItemRuled t row → is_item_kept t row ≡ true
item_placed t row sound own =
    and_from _ _
    (ap (λ (o : Option NodeRow). option_map_or (is_trashed_as row) o false) sound.there
    ∙ and_from _ _ (ap is_trash_place sound.place) (eq-eqb sound.of.owner row.owner sound.owner))
    own.kept

-- ---- tables that come after

-- where the folder that an item was in is gone or is still one of its owner's, as of all of them
pub items_stay : (t made : Tables) → AreOrdered t → AreHigher t.meta made.meta
    → ((item : ItemRow) → IsGiven t.meta.next_node item.from → is_from_kept t item ≡ true → is_from_kept made item ≡ true)
    → All (IsItemRuled made) t.items
items_stay t made h up still =
    All-weaker (IsItemRuled t) (IsItemRuled made)
    (λ row own. record {
      node = still_given t.meta.next_node made.meta.next_node row.node up.nodes own.node;
      owner = still_given t.meta.next_user made.meta.next_user row.owner up.users own.owner;
      from = still_given t.meta.next_node made.meta.next_node row.from up.nodes own.from;
      kept = still row own.from own.kept;
    }) t.items h.items

-- where no item is another
pub items_ruled : (t made : Tables) → AreOrdered t → AreHigher t.meta made.meta → made.items ≡ t.items
    → ((item : ItemRow) → IsGiven t.meta.next_node item.from → is_from_kept t item ≡ true → is_from_kept made item ≡ true)
    → All (IsItemRuled made) made.items
items_ruled t made h up same still = subst (All (IsItemRuled made)) (sym same) (items_stay t made h up still)

-- as where no node is another
pub items_as_were : (t made : Tables) → AreOrdered t → AreHigher t.meta made.meta → made.items ≡ t.items → made.nodes ≡ t.nodes
    → All (IsItemRuled made) made.items
items_as_were t made h up same nodes =
    items_ruled t made h up same
    (λ item from kept. ap (λ (rows : List NodeRow). option_map_or (is_folder_for item) (node_row rows item.from) true) nodes ∙ kept)

-- a node that is made wasn't there
made_new : (before after : List NodeRow) (folder node : ℕ) → IsMadeIn before after folder node → node_row before node ≡ None
made_new before after folder _ (in_it node none above) = none
made_new before after folder _ (in_made node parent none above made) = none

-- a number that was given, and of which no node was there, is that of none after an entry
pub given_gone : (n : ℕ) (s : State) (e : Entry) (node : ℕ) → IsSound s → MayCome n s e → node < s.tables.meta.next_node
    → node_row s.tables.nodes node ≡ None → node_row (after s e).tables.nodes node ≡ None
given_gone n s e node sound may below none = here (node_row (after s e).tables.nodes node) refl
  where
    here : (o : Option NodeRow) → node_row (after s e).tables.nodes node ≡ o → o ≡ None
    here None there = refl
    here (Some row) there =
        let found = found_is (λ (row : NodeRow). (is_some (node_row s.tables.nodes row.id) ≡ true) ⊎ (s.tables.meta.next_node ≤ row.id))
        (λ row. row.id == node) (after s e).tables.nodes row (numbers_new n s (e ∷ []) sound (may, tt)) there in
        let same : row.id ≡ node = eqb-true row.id node found.0 in
        elim found.1 [
          | inl old ↦ absurd (false≢true (sym (ap is_some (ap (node_row s.tables.nodes) same ∙ none)) ∙ old))
          | inr new ↦ absurd (omega (arith, same, new, below))
        ]

-- what is allowed leaves each folder that an item was in as it was, or it is gone, or has another name, content or place
pub from_still : (s : State) (e : Entry) (made : Tables)
    → ((node : ℕ) → node < s.tables.meta.next_node → node_row s.tables.nodes node ≡ None → node_row made.nodes node ≡ None) → NodesAllowed s e made
    → (item : ItemRow) → IsGiven s.tables.meta.next_node item.from → is_from_kept s.tables item ≡ true → is_from_kept made item ≡ true
from_still s e made none changes item given kept =
    elim (cases_Bool (is_from_kept made item)) [
      | inl is ↦ is
      | inr fails ↦ followed _ (changes.nodes item.from (λ same. false≢true (sym fails ∙ ap kept_in same ∙ kept))).follows
    ]
  where
    kept_in : Option NodeRow → Bool
    kept_in o = option_map_or (is_folder_for item) o true

    followed : (needs : List Need) → Follows needs s.tables.nodes made.nodes item.from → is_from_kept made item ≡ true
    followed needs (is_updated old row needed was there like) =
        ap kept_in there ∙ ap (is_folder_for item) like ∙ sym (ap kept_in was) ∙ kept
    followed needs (is_made folder needed fresh) =
        ap kept_in (none item.from given.below (made_new s.tables.nodes made.nodes folder item.from fresh))
    followed needs (is_trashed old needed was there) = ap kept_in there ∙ sym (ap kept_in was) ∙ kept
    followed needs (is_gone top needed under gone) = ap kept_in gone
    followed needs (is_moved folder old row needed created was there like) =
        ap kept_in there ∙ ap (is_folder_for item) like ∙ sym (ap kept_in was) ∙ kept
