-- A folder's children by name.
use Rattle.std.proofs.Common.{ℕ, ◌<◌, ◌≡◌, ◌≢◌, true, List, [], Option, Some, filter, get_or, nat_cmp, Less, Equal, Greater, refl, sym, ap, ◌∙◌, arith}
use Rattle.std.specs.Cmp.Lexicographic.{slice_cmp}
use Rattle.std.specs.List.{All, AllPairs}
use Rattle.std.specs.Option.{option_map_or}
use Rattle.std.specs.Ordering.{is_lt, ordering_then}
use Rattle.std.specs.declared.cmp.Ordering.{Ordering}
use Rattle.std.proofs.lemmas.Bool.{false≢true}
use Rattle.std.proofs.lemmas.List.Elements.{All-filter, filter_passes}
use Rattle.std.proofs.lemmas.List.Kept.{AllPairs-filter}
use Rattle.nf_base.proofs.Naming.{slice_cmp-Equal}
use Rattle.nf_base.specs.declared.rows.NodeRow.{NodeRow}
use Rattle.nf_base.specs.declared.rows.Place.TheVariants.{Inside}
use Rattle.nf_defs.proofs.ByName.{All-by_name, AllPairs-by_name}
use Rattle.nf_defs.proofs.Sorted.{Before, by_name_rises}
use Rattle.nf_defs.proofs.Walks.{child_above, child_among, inside_of}
use Rattle.nf_defs.specs.Prelude.{by_name, children_of, comes_before, is_in, node_row, Tables}
use Rattle.nf_laws.proofs.Climbs.{node_row_each}
use Rattle.nf_laws.proofs.Walked.{children_distinct, pairs_map}
use Rattle.nf_laws.specs.Tree.{ChildrenAreByName, name_of}
use Rattle.nf_words.specs.Prelude.{AreApart, AreSound}

-- a row that comes before another of another name has the lesser name
less : (a b : NodeRow) → comes_before a b ≡ true → a.name ≢ b.name → slice_cmp nat_cmp a.name b.name ≡ Less
less a b first differ = here (slice_cmp nat_cmp a.name b.name) refl first
  where
    here : (o : Ordering) → slice_cmp nat_cmp a.name b.name ≡ o → is_lt (ordering_then o (nat_cmp a.id b.id)) ≡ true
        → slice_cmp nat_cmp a.name b.name ≡ Less
    here Less e first = e
    here Equal e first = absurd (differ ((slice_cmp-Equal a.name b.name).0 e))
    here Greater e first = absurd (false≢true first)

module _ (t : Tables) (folder : ℕ) (sound : AreSound t) where
  abbrev those : List NodeRow
  those = filter (is_in folder) t.nodes

  abbrev children : List NodeRow
  children = by_name those

  up : AllPairs Before children
  up = by_name_rises those (AllPairs-filter (λ (a b : NodeRow). a.id < b.id) (is_in folder) t.nodes sound.rising)

  -- no two have one name
  apart : AllPairs (λ (a b : NodeRow). a.name ≢ b.name) children
  apart =
      AllPairs-by_name (λ (a b : NodeRow). a.name ≢ b.name) (λ a b differ same. differ (sym same)) those
      (λ i j d before within.
      AllPairs-filter AreApart (is_in folder) t.nodes sound.names i j d before within folder
      (inside i d (omega arith)) (inside j d within))
    where
      inside : All (λ (row : NodeRow). row.place ≡ Inside folder) those
      inside k d within = inside_of folder _ (filter_passes (is_in folder) t.nodes k d within)

  named : All (λ (row : NodeRow). name_of t.nodes row.id ≡ row.name) children
  named =
      All-by_name (λ (row : NodeRow). name_of t.nodes row.id ≡ row.name) those
      (λ k d within.
      ap (λ (o : Option NodeRow). option_map_or (λ row. row.name) o [])
      (All-filter (is_in folder) (λ (row : NodeRow). node_row t.nodes row.id ≡ Some row) t.nodes (node_row_each t.nodes sound.rising) k d within))

  sorted : AllPairs (λ (a b : ℕ). slice_cmp nat_cmp (name_of t.nodes a) (name_of t.nodes b) ≡ Less) (children_of t.nodes folder)
  sorted =
      pairs_map (λ (a b : ℕ). slice_cmp nat_cmp (name_of t.nodes a) (name_of t.nodes b) ≡ Less) (λ (row : NodeRow). row.id) children
      (λ i j d before within.
      let a : NodeRow = get_or children i d in
      let b : NodeRow = get_or children j d in
      ap (λ (name : List ℕ). slice_cmp nat_cmp name (name_of t.nodes b.id)) (named i d (omega arith))
      ∙ ap (slice_cmp nat_cmp a.name) (named j d within) ∙ less a b (up i j d before within) (apart i j d before within))

pub children_by_name : ChildrenAreByName
children_by_name = record {
  those = λ t folder node sound. (child_above t.nodes folder node sound.rising, child_among t.nodes folder node);
  sorted = sorted;
  once = children_distinct;
}
