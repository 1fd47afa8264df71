-- The tables without what is removed are sound.
use Rattle.std.proofs.Common.{inl, inr, ℕ, suc, ◌==◌, ◌≡◌, ◌<◌, ◌≤◌, Bool, true, false, not, List, Option, None, Some, filter, get_or, length, refl, sym, ap, subst, ◌∙◌, arith, le_refl}
use Rattle.std.proofs.lemmas.Bool.{both_ways, cases_Bool, false_from_ne_true, ne_eqb, not-true, not_from_false}
use Rattle.std.proofs.lemmas.List.Elements.{All-filter, All-weaker, filter_passes}
use Rattle.std.proofs.lemmas.List.Filters.{length-filter_both, sum_by-filter_both}
use Rattle.std.proofs.lemmas.List.Kept.{AllPairs-filter}
use Rattle.std.proofs.lemmas.Option.{none-some, same_Some}
use Rattle.nf_base.specs.declared.rows.ItemRow.{ItemRow}
use Rattle.nf_base.specs.declared.rows.NodeRow.{NodeRow}
use Rattle.nf_base.specs.declared.rows.Place.{Place}
use Rattle.nf_base.specs.declared.rows.Place.TheVariants.{Inside, Root, Trash}
use Rattle.nf_base.specs.declared.rows.UserRow.{UserRow}
use Rattle.nf_base.specs.declared.rows.VersionRow.{VersionRow}
use Rattle.std.specs.Prelude.{is_some}
use Rattle.std.specs.List.{All}
use Rattle.std.specs.Option.{option_map_or}
use Rattle.std.specs.declared.cmp.Ordering.TheVariants.{Less}
use Rattle.nf_words.specs.Others.{IsVersionSound}
use Rattle.nf_defs.proofs.Climbs.{climb_under, under_climb}
use Rattle.nf_defs.specs.Prelude.{child_of, climb, folder_of, is_file, is_folder_kind, is_root, is_root_place, is_under, node_row, parent_of, piece_count, Tables, version_key, without_under, key_cmp}
use Rattle.nf_laws.proofs.Climbs.{climb_passes, climb_those, climbs_no_further, IsClosed, node_row_each, parent_at, row_of_those, some_there, those}
use Rattle.nf_laws.proofs.Others.{all_off, IsOff, items_left, ItemsLeft, others_ended, those_were, was_same, without}
use Rattle.nf_laws.proofs.Paths.{child_is, child_there}
use Rattle.nf_laws.proofs.Present.{those_leads}
use Rattle.nf_laws.proofs.Rows.{finds_none, kept_row, node_still, root_still}
use Rattle.nf_laws.proofs.Upwards.{never_climbs}
use Rattle.nf_words.specs.Prelude.{AreApart, AreSound, HasRoot, IsNodeSound, IsPlaceSound, LeadsToRoot}

-- ---- the tables without the nodes that go

abbrev pub stays : (ℕ → Bool) → ℕ → Bool
stays gone node = not (gone node)

module _ (t : Tables) (gone : ℕ → Bool) (items : List ItemRow) (sound : AreSound t) (closed : IsClosed t.nodes (stays gone))
    (left : ItemsLeft t gone items) where
  -- what passes has its place, its climb and its root as before
  place_left : (row : NodeRow) → node_row t.nodes row.id ≡ Some row → stays gone row.id ≡ true → (place : Place) → row.place ≡ place
      → IsPlaceSound t row place → IsPlaceSound (without t gone items) row place
  place_left row there passes Root is h = h
  place_left row there passes (Inside folder) is h =
      let above = parent_at t.nodes row.id folder row there is in
      let e = row_of_those (stays gone) t.nodes folder (closed row.id folder above passes) in
      (rw e h.0, rw e h.1)
  place_left row there passes Trash is h = (h.0, left.there row.id row there is passes)

  node_left : (row : NodeRow) → node_row t.nodes row.id ≡ Some row → stays gone row.id ≡ true → IsNodeSound t row → IsNodeSound (without t gone items) row
  node_left row there passes h =
      node_still t (without t gone items) row row.place row.name (le_refl _) (le_refl _) (le_refl _) h
      (place_left row there passes row.place refl h.place)
      (record {
        steps = h.steps;
        shallow = h.shallow;
        top = h.top;
        climbs = climb_those (stays gone) t.nodes closed h.steps row.id passes ∙ h.climbs;
        ends = record {
          row = h.ends.row;
          there = row_of_those (stays gone) t.nodes h.top (climb_passes (stays gone) t.nodes closed h.steps row.id h.top h.climbs passes) ∙ h.ends.there;
          ends = h.ends.ends;
        };
      })

  root_stays : (user : UserRow) → stays gone user.root ≡ true → HasRoot t user → HasRoot (without t gone items) user
  root_stays user passes root =
      root_still t (without t gone items) user root
      (kept_row (those (stays gone) t.nodes) user.root root.row (row_of_those (stays gone) t.nodes user.root passes ∙ root.there))

  -- a version is of a node that is there
  abbrev is_there : VersionRow → Bool
  is_there version = is_some (node_row (those (stays gone) t.nodes) version.node)

  files_left : All (λ (version : VersionRow). is_file (those (stays gone) t.nodes) version.node ≡ true) (filter is_there t.versions)
  files_left k d within =
      let version = get_or (filter is_there t.versions) k d in
      let row = some_there (node_row (those (stays gone) t.nodes) version.node) (filter_passes is_there t.versions k d within) in
      let was = those_were (stays gone) t.nodes version.node row.0 row.1 in
      ap (λ (o : Option NodeRow). option_map_or (λ row. not (is_folder_kind row.kind)) o false) (row.1 ∙ sym was.1)
      ∙ (All-filter is_there (IsVersionSound t) t.versions sound.others.versions k d within).file

  pub those_sound : ((user : UserRow) → HasRoot t user → stays gone user.root ≡ true) → AreSound (without t gone items)
  those_sound roots =
      let passes : NodeRow → Bool = λ row. stays gone row.id in
      let made = without t gone items in
      record {
        counters = sound.counters;
        rising = AllPairs-filter (λ a b. a.id < b.id) passes t.nodes sound.rising;
        nodes = λ k d within. node_left _
            (All-filter passes (λ row. node_row t.nodes row.id ≡ Some row) t.nodes (node_row_each t.nodes sound.rising) k d within)
            (filter_passes passes t.nodes k d within)
            (All-filter passes (IsNodeSound t) t.nodes sound.nodes k d within);
        names = AllPairs-filter AreApart passes t.nodes sound.names;
        roots = All-weaker (HasRoot t) (HasRoot made) (λ user root. root_stays user (roots user root) root) t.users sound.roots;
        users_given = sound.users_given;
        members_there = sound.members_there;
        groups_given = sound.groups_given;
        few_nodes = omega (arith, sound.few_nodes, length-filter_both passes (λ row. not (passes row)) (λ row. refl) t.nodes);
        few_pieces = omega (
          arith,
          sound.few_pieces,
          sum_by-filter_both passes (λ row. not (passes row)) (λ row. refl) (λ row. length row.content) t.nodes,
          sum_by-filter_both is_there (λ row. not (is_there row)) (λ row. refl) (λ row. length row.content) t.versions,
        );
        others = others_ended t gone made.nodes made.versions items sound
            (λ n row there. was_same t.nodes n row (those_were (stays gone) t.nodes n row there).1)
            (λ n passes up. those_leads (stays gone) t.nodes n closed (ap not passes) up)
            (All-filter passes (IsOff t) t.nodes (all_off t sound))
            (All-filter is_there (IsVersionSound t) t.versions sound.others.versions) files_left
            (AllPairs-filter (λ a b. key_cmp (version_key a) (version_key b) ≡ Less) is_there t.versions sound.others.versions_rise)
            (omega (arith, sound.others.few_versions, length-filter_both is_there (λ row. not (is_there row)) (λ row. refl) t.versions))
            (items_left t made gone items (le_refl _) (row_of_those (stays gone) t.nodes) left) left.rise;
      }

-- ---- the tables without the nodes under a top

-- a node that isn't under the top
abbrev pub is_left : List NodeRow → ℕ → ℕ → Bool
is_left rows top node = not (is_under rows node top)

-- the folder of a node that is left is left
pub folder_left : (t : Tables) (top : ℕ) → AreSound t → IsClosed t.nodes (is_left t.nodes top)
folder_left t top sound node parent above left =
    let outside = not-true (is_under t.nodes node top) left in
    not_from_false (is_under t.nodes parent top) (false_from_ne_true (is_under t.nodes parent top) (λ under.
    let c = under_climb t.nodes parent top under in
    never_climbs t node top sound outside (suc c.0) (rw above c.2)))

-- a root is left, since a top that it is under is that root
pub root_left : (t : Tables) (top : ℕ) → is_root t.nodes top ≡ false → (user : UserRow) → HasRoot t user → is_left t.nodes top user.root ≡ true
root_left t top no_root user root =
    not_from_false (is_under t.nodes user.root top) (false_from_ne_true (is_under t.nodes user.root top) (λ under.
    let c = under_climb t.nodes user.root top under in
    let alone : parent_of t.nodes user.root ≡ None = rw root.there (ap folder_of root.place) in
    let short = climbs_no_further 0 c.0 t.nodes user.root user.root top alone refl c.2 in
    let none : c.0 ≡ 0 = omega (arith, short) in
    let same = same_Some user.root top (subst (λ (j : ℕ). climb t.nodes j user.root ≡ Some top) none c.2) in
    let is : is_root t.nodes user.root ≡ true = rw root.there (ap is_root_place root.place) in
    both_ways (is_root t.nodes top) no_root (subst (λ (n : ℕ). is_root t.nodes n ≡ true) same is)))

-- what is present and isn't under the top is present without it
pub left_leads : (t : Tables) (top node : ℕ) → AreSound t → is_under t.nodes node top ≡ false → LeadsToRoot t.nodes node
    → LeadsToRoot (without_under t.nodes top) node
left_leads t top node sound outside = those_leads (is_left t.nodes top) t.nodes node (folder_left t top sound) (ap not outside)

-- ---- the nodes that are left

-- a node that is left has its row as before
pub row_left : (rows : List NodeRow) (top node : ℕ) → is_under rows node top ≡ false → node_row (without_under rows top) node ≡ node_row rows node
row_left rows top node outside = row_of_those (is_left rows top) rows node (ap not outside)

-- one that isn't has none
pub row_gone : (rows : List NodeRow) (top node : ℕ) → is_under rows node top ≡ true → node_row (without_under rows top) node ≡ None
row_gone rows top node under =
    finds_none (λ row. row.id == node) (without_under rows top) (λ k d within.
    ne_eqb _ node (λ same.
    let left = subst (λ (n : ℕ). is_left rows top n ≡ true) same (filter_passes (λ row. is_left rows top row.id) rows k d within) in
    both_ways (is_under rows node top) (not-true (is_under rows node top) left) under))

-- a node that is there is left, and was there
pub kept_left : (rows : List NodeRow) (top node : ℕ) (row : NodeRow) → node_row (without_under rows top) node ≡ Some row
    → (is_under rows node top ≡ false) × (node_row rows node ≡ Some row)
kept_left rows top node row there =
    elim (cases_Bool (is_under rows node top)) [
      | inl under ↦ absurd (none-some row (sym (row_gone rows top node under) ∙ there))
      | inr outside ↦ (outside, sym (row_left rows top node outside) ∙ there)
    ]

-- it climbs as before
pub climb_left : (t : Tables) (top k node : ℕ) → AreSound t → is_under t.nodes node top ≡ false
    → climb (without_under t.nodes top) k node ≡ climb t.nodes k node
climb_left t top k node sound outside = climb_those (is_left t.nodes top) t.nodes (folder_left t top sound) k node (ap not outside)

-- the number of nodes and of their pieces doesn't grow
pub counts_left : (rows : List NodeRow) (top : ℕ)
    → (length (without_under rows top) ≤ length rows) × (piece_count (without_under rows top) ≤ piece_count rows)
counts_left rows top =
    let passes : NodeRow → Bool = λ row. is_left rows top row.id in (
      omega (arith, length-filter_both passes (λ row. not (passes row)) (λ row. refl) rows),
      omega (arith, sum_by-filter_both passes (λ row. not (passes row)) (λ row. refl) (λ row. length row.content) rows),
    )

-- where a folder's child of the name goes, the name is free then
pub free_left : (t : Tables) (top folder : ℕ) (name : List ℕ) → AreSound t → child_of t.nodes folder name ≡ Some top
    → child_of (without_under t.nodes top) folder name ≡ None
free_left t top folder name sound is = here (child_of rows folder name) refl
  where
    rows : List NodeRow
    rows = without_under t.nodes top

    here : (o : Option ℕ) → child_of rows folder name ≡ o → o ≡ None
    here None e = refl
    here (Some node) e =
        let child = child_is rows folder name node (AllPairs-filter (λ a b. a.id < b.id) (λ row. is_left t.nodes top row.id) t.nodes sound.rising) e in
        let kept = kept_left t.nodes top child.row.id child.row child.there in
        let same : child.row.id ≡ top =
        same_Some child.row.id top
        (sym (child_there t.nodes folder child.row sound.names kept.1 child.place) ∙ ap (child_of t.nodes folder) child.named ∙ is) in
        absurd (both_ways (is_under t.nodes child.row.id top) kept.0 (climb_under 0 t.nodes child.row.id top (omega arith) (ap Some same)))
