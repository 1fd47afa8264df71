-- The tables with a node more are sound.
use Rattle.std.proofs.Common.{ℕ, suc, ◌==◌, ◌&&◌, ◌≡◌, ◌<◌, false, List, [], ◌∷◌, ◌++◌, Option, None, Some, length, bytes_eq, refl, sym, ap, subst, ◌∙◌, arith, le_refl, length-append}
use Rattle.std.specs.List.{All}
use Rattle.std.specs.Option.{option_and_then, option_or}
use Rattle.std.proofs.lemmas.Bool.{and_from, both_ways, eq-eqb, ne_eqb}
use Rattle.std.proofs.lemmas.List.Elements.{All-push, All-weaker}
use Rattle.std.proofs.lemmas.List.Folds.{find-append}
use Rattle.std.proofs.lemmas.List.Quantifiers.{all_pairs_push}
use Rattle.std.proofs.lemmas.List.Sums.{sum_by_push}
use Rattle.std.proofs.lemmas.Slice.Eq.{bytes_eq-Decides}
use Rattle.nf_base.specs.declared.rows.NodeRow.{NodeRow}
use Rattle.nf_base.specs.declared.rows.Place.{Place}
use Rattle.nf_base.specs.declared.rows.Place.TheVariants.{Inside}
use Rattle.nf_defs.specs.Prelude.{child_of, climb, depth, is_in, is_place_in, node_row, Tables}
use Rattle.nf_laws.proofs.Climbs.{parent_at}
use Rattle.nf_laws.proofs.Others.{others_still, still_more}
use Rattle.nf_laws.proofs.Rows.{climb_kept, each_fails, finds_none, folder_kept, folder_there, found_is, kept_joined, no_value, node_kept, none_higher, pieces_kept, root_kept, row_is, top_kept}
use Rattle.nf_laws.proofs.Upwards.{climbs_depth}
use Rattle.nf_words.specs.Prelude.{AreApart, AreSound, HasRoot, IsBorn, IsNodeSound, IsPlaceSound}

-- ---- the rows with one more

-- where no row has the new row's number, it is found by it
pub new_there : (rows : List NodeRow) (row : NodeRow) → All (λ (old : NodeRow). old.id < row.id) rows
    → node_row (rows ++ row ∷ []) row.id ≡ Some row
new_there rows row less =
    let none : node_row rows row.id ≡ None =
    finds_none (λ old. old.id == row.id) rows
    (All-weaker (λ (old : NodeRow). old.id < row.id) (λ (old : NodeRow). (old.id == row.id) ≡ false)
    (λ old less. ne_eqb old.id row.id (λ e. absurd (omega arith))) rows less) in
    find-append (λ old. old.id == row.id) rows (row ∷ [])
    ∙ ap (λ (o : Option NodeRow). option_or o (node_row (row ∷ []) row.id)) none
    ∙ rw (eq-eqb row.id row.id refl)

-- where the folder has no child of the new row's name, the new row is apart from each
pub new_apart : (rows : List NodeRow) (folder : ℕ) (row : NodeRow) → row.place ≡ Inside folder → child_of rows folder row.name ≡ None
    → All (λ (old : NodeRow). AreApart old row) rows
new_apart rows folder row inside free =
    All-weaker (λ (old : NodeRow). (is_in folder old && bytes_eq old.name row.name) ≡ false) (λ (old : NodeRow). AreApart old row)
    (λ old fails at place other name. both_ways _ fails
    (and_from (is_in folder old) (bytes_eq old.name row.name)
    (ap (is_place_in folder) (place ∙ sym other ∙ inside) ∙ eq-eqb folder folder refl) ((bytes_eq-Decides old.name row.name).1 name)))
    rows (each_fails _ rows (no_value (λ row. row.id) _ free))

-- ---- the new node

abbrev added : Tables → NodeRow → Tables
added t row = record t { nodes = t.nodes ++ row ∷ [] }

new_sound : (t : Tables) (row : NodeRow) → AreSound t → IsBorn t row → IsNodeSound (added t row) row
new_sound t row sound born =
    let made = added t row in
    let kept = kept_joined t.nodes (row ∷ []) in
    let folder = folder_there t.nodes born.folder born.in_folder in
    let of = row_is t born.folder folder.0 sound folder.1 in
    let up = depth t.nodes born.folder in
    let over = climbs_depth t born.folder folder.0 sound folder.1 in
    let h = folder_kept t.nodes made.nodes born.folder kept born.in_folder in
    let less = found_is (λ (old : NodeRow). old.id < row.id) (λ old. old.id == born.folder) t.nodes folder.0 born.newest folder.1 in
    record {
      some = omega (arith, of.1.some, less.1);
      given = born.given;
      changed = born.changed;
      pieces = pieces_kept t made row.content (le_refl _) born.pieces;
      folder = born.empty;
      place = subst (λ (p : Place). IsPlaceSound made row p) (sym born.place) (h.0, h.1 ∙ sym born.owner);
      steps = suc up;
      shallow = omega (arith, born.deep);
      top = over.0;
      climbs =
          ap (option_and_then (climb made.nodes up))
          (parent_at made.nodes row.id born.folder row (new_there t.nodes row born.newest) born.place)
          ∙ climb_kept up t.nodes made.nodes born.folder over.0 kept over.1;
      ends = top_kept t.nodes made.nodes over.0 kept over.2;
    }

-- ---- all rows

pub born_sound : (t : Tables) (row : NodeRow) → AreSound t → IsBorn t row → AreSound (record t { nodes = t.nodes ++ row ∷ [] })
born_sound t row sound born =
    let made = added t row in
    let kept = kept_joined t.nodes (row ∷ []) in
    record {
      counters = sound.counters;
      rising = all_pairs_push (λ (a b : NodeRow). a.id < b.id) t.nodes row sound.rising born.newest;
      nodes = All-push (IsNodeSound made) t.nodes row
          (All-weaker (IsNodeSound t) (IsNodeSound made)
          (λ old. node_kept t t.meta made.nodes old kept (le_refl _) (le_refl _) (le_refl _)) t.nodes sound.nodes)
          (new_sound t row sound born);
      names = all_pairs_push AreApart t.nodes row sound.names (new_apart t.nodes born.folder row born.place born.free);
      roots = All-weaker (HasRoot t) (HasRoot made) (root_kept t t.meta made.nodes kept) t.users sound.roots;
      users_given = sound.users_given;
      members_there = sound.members_there;
      groups_given = sound.groups_given;
      few_nodes = omega (arith, born.few_nodes, length-append t.nodes (row ∷ []));
      few_pieces = omega (arith, born.few_pieces, sum_by_push (λ row. length row.content) t.nodes row);
      others = others_still t t.meta made.nodes sound (none_higher t.meta t.meta.last) (le_refl _) (still_more t row sound born);
    }
