-- What tables have in common with those before a node left its place, whether it was put in the trash or went for good.
use Rattle.std.proofs.Common.{Bool, ◌≡◌, ◌≢◌, ◌≤◌, ℕ, zero, suc, ◌-◌, ◌==◌, true, false, not, List, Option, None, Some, length, inl, inr, refl, sym, ap, ◌∙◌, arith, option_map, ne_eqb, filter, get_or}
use Rattle.std.specs.Prelude.{is_some, option_and_then}
use Rattle.std.proofs.lemmas.Bool.{both_ways, cases_Bool, cases_lt, cond_both, eq-eqb, eqb-true, false_from_ne_true, not-false}
use Rattle.std.proofs.lemmas.Option.{none-some, same_Some}
use Rattle.nf_base.specs.declared.rows.NodeRow.{NodeRow}
use Rattle.nf_base.specs.declared.rows.Place.TheVariants.{Inside, Trash}
use Rattle.nf_defs.proofs.Climbs.{under_climb}
use Rattle.nf_defs.proofs.Walks.{inside_of}
use Rattle.std.proofs.lemmas.List.Filters.{sum_by-filter_both}
use Rattle.nf_base.specs.declared.rows.VersionRow.{VersionRow}
use Rattle.nf_defs.specs.Prelude.{child_of, climb, folder_of, is_in, is_under, node_row, parent_of, Tables, without_under}
use Rattle.nf_defs.specs.Tree.{trashed}
use Rattle.nf_laws.proofs.Climbs.{climb_on, node_row_each, parent_at}
use Rattle.nf_laws.proofs.Gone.{climb_left, counts_left, free_left, kept_left, left_leads, row_left}
use Rattle.nf_laws.proofs.Moved.{climb_below, climb_outside}
use Rattle.nf_laws.proofs.OneRow.{filter_with, length_with, pieces_with, row_itself, row_other}
use Rattle.nf_laws.proofs.Others.{item_other}
use Rattle.nf_laws.proofs.Paths.{child_is, child_there}
use Rattle.nf_laws.proofs.Sources.{filter_left}
use Rattle.nf_laws.proofs.Trashed.{discarded_leads, discarded_sound, item_put, purged_sound}
use Rattle.nf_laws.proofs.Upwards.{never_climbs}
use Rattle.nf_words.proofs.Known.{IsItem, KnownLeaving}
use Rattle.nf_words.proofs.Ways.{HasRow}
use Rattle.nf_words.specs.Prelude.{AreSound, deed_done, discard, discarded, goes_itself, item_for, LeadsToRoot, purged, stored_pieces}
use Rattle.nf_words.specs.declared.answer.Deed.{Deed}
use Rattle.nf_words.specs.declared.answer.Deed.TheVariants as deed

pub record Left (t u : Tables) (top : ℕ) : Type 0 where
  pub sound : AreSound u
  -- what isn't under it has its row, climbs and is present as before
  pub row : (node : ℕ) → is_under t.nodes node top ≡ false → node_row u.nodes node ≡ node_row t.nodes node
  pub climbs : (k node : ℕ) → is_under t.nodes node top ≡ false → climb u.nodes k node ≡ climb t.nodes k node
  pub leads : (node : ℕ) → is_under t.nodes node top ≡ false → LeadsToRoot t.nodes node → LeadsToRoot u.nodes node
  -- nor is what is under that
  pub below : (j below node : ℕ) → HasRow u.nodes below → climb u.nodes j below ≡ Some node → is_under t.nodes node top ≡ false
      → is_under t.nodes below top ≡ false
  pub free : (folder : ℕ) (name : List ℕ) → child_of t.nodes folder name ≡ Some top → child_of u.nodes folder name ≡ None
  -- what is in any folder but its own is as before
  pub in_folder : (folder : ℕ) → is_under t.nodes folder top ≡ false → parent_of t.nodes top ≢ Some folder
      → filter (is_in folder) u.nodes ≡ filter (is_in folder) t.nodes
  pub few : length u.nodes ≤ length t.nodes
  pub few_pieces : stored_pieces u ≤ stored_pieces t
  pub meta : u.meta ≡ t.meta
  pub users : u.users ≡ t.users
  pub mounts : u.mounts ≡ t.mounts
  pub items : (node : ℕ) → node ≢ top → IsItem t node → IsItem u node

-- a row in a folder that isn't under the top, and isn't the top's own, isn't under the top
in_none : (t : Tables) (top folder : ℕ) (row : NodeRow) → AreSound t → node_row t.nodes row.id ≡ Some row → is_under t.nodes folder top ≡ false
    → parent_of t.nodes top ≢ Some folder → is_under t.nodes row.id top ≡ true → is_in folder row ≡ false
in_none t top folder row sound there outside other under =
    false_from_ne_true (is_in folder row) (λ is.
    let above : parent_of t.nodes row.id ≡ Some folder = parent_at t.nodes row.id folder row there (inside_of folder row.place is) in
    let c = under_climb t.nodes row.id top under in
    here c.0 above c.2)
  where
    here : (k : ℕ) → parent_of t.nodes row.id ≡ Some folder → climb t.nodes k row.id ≡ Some top → ⊥
    here zero above climbs = other (ap (parent_of t.nodes) (sym (same_Some row.id top climbs)) ∙ above)
    here (suc k) above climbs = never_climbs t folder top sound outside k (sym (ap (option_and_then (climb t.nodes k)) above) ∙ climbs)

-- where it goes for good
pub purged_left : (t : Tables) (row : NodeRow) → AreSound t → KnownLeaving t row → Left t (purged t row.id) row.id
purged_left t row sound known =
    let counts = counts_left t.nodes row.id in
    let is_there : VersionRow → Bool = λ version. is_some (node_row (without_under t.nodes row.id) version.node) in
    record {
      sound = purged_sound t row.id sound (inr (row, refl, known));
      row = row_left t.nodes row.id;
      climbs = λ k node outside. climb_left t row.id k node sound outside;
      leads = λ node outside up. left_leads t row.id node sound outside up;
      below = λ j below node there is outside. (kept_left t.nodes row.id below there.0 there.1).0;
      free = λ folder name is. free_left t row.id folder name sound is;
      in_folder = λ folder outside other.
          filter_left (is_in folder) (λ one. not (is_under t.nodes one.id row.id)) t.nodes
          (λ k d within goes.
          let one = get_or t.nodes k d in
          in_none t row.id folder one sound (node_row_each t.nodes sound.rising k d within) outside other (not-false (is_under t.nodes one.id row.id) goes));
      few = counts.0;
      few_pieces = omega (
        arith,
        counts.1,
        sum_by-filter_both is_there (λ row. not (is_there row)) (λ row. refl) (λ row. length row.content) t.versions,
      );
      meta = refl;
      users = refl;
      mounts = refl;
      items = λ node differs is. ap is_some (item_other row.id node t.items differs) ∙ is;
    }

-- where it is put in the trash
module _ (t : Tables) (now : ℕ) (row : NodeRow) (sound : AreSound t) (at : now ≤ t.meta.last) (known : KnownLeaving t row) where
  abbrev binned : Tables
  binned = discarded t (item_for now row)

  top_alone : parent_of binned.nodes row.id ≡ None
  top_alone = ap (option_and_then (λ row. folder_of row.place)) (row_itself t.nodes row.id trashed (λ row. refl) ∙ ap (option_map trashed) known.there)

  apart : (node : ℕ) → is_under t.nodes node row.id ≡ false → (j : ℕ) → climb t.nodes j node ≢ Some row.id
  apart node outside = never_climbs t node row.id sound outside

  climbs_so : (k node : ℕ) → is_under t.nodes node row.id ≡ false → climb binned.nodes k node ≡ climb t.nodes k node
  climbs_so k node outside = climb_outside t.nodes row.id trashed (λ row. refl) k node (apart node outside)

  -- what is under it climbs to it, and there it ends
  below_so : (j below node : ℕ) → climb binned.nodes j below ≡ Some node → is_under t.nodes node row.id ≡ false → is_under t.nodes below row.id ≡ false
  below_so j below node is outside = false_from_ne_true (is_under t.nodes below row.id) (λ under.
      let c = under_climb t.nodes below row.id under in
      let up : climb binned.nodes c.0 below ≡ Some row.id = climb_below t.nodes row.id trashed (λ row. refl) t refl sound c.0 below c.2 in
      elim (cases_lt c.0 j) [
        | inl long ↦
            (let more : climb binned.nodes (suc (j - suc c.0)) row.id ≡ Some node =
            sym (climb_on c.0 (suc (j - suc c.0)) binned.nodes below row.id up) ∙ ap (λ (n : ℕ). climb binned.nodes n below) (omega (arith, long)) ∙ is in
            none-some node (sym (ap (option_and_then (climb binned.nodes (j - suc c.0))) top_alone) ∙ more))
        | inr short ↦
            (let rest : climb binned.nodes (c.0 - j) node ≡ Some row.id =
            sym (climb_on j (c.0 - j) binned.nodes below node is) ∙ ap (λ (n : ℕ). climb binned.nodes n below) (omega (arith, short)) ∙ up in
            apart node outside (c.0 - j) (sym (climbs_so (c.0 - j) node outside) ∙ rest))
      ])

  free_so : (folder : ℕ) (name : List ℕ) → child_of t.nodes folder name ≡ Some row.id → child_of binned.nodes folder name ≡ None
  free_so folder name is = here (child_of binned.nodes folder name) refl
    where
      fine : AreSound binned
      fine = discarded_sound t (item_for now row) row known.folder sound at known.there known.inside known.present refl

      here : (o : Option ℕ) → child_of binned.nodes folder name ≡ o → o ≡ None
      here None e = refl
      here (Some node) e =
          let child = child_is binned.nodes folder name node fine.rising e in
          elim (cases_Bool (child.row.id == row.id)) [
            | inl same ↦
                (let itself : Some child.row ≡ Some (trashed row) =
                sym child.there ∙ ap (node_row binned.nodes) (eqb-true child.row.id row.id same)
                ∙ row_itself t.nodes row.id trashed (λ row. refl) ∙ ap (option_map trashed) known.there in
                let place : Inside folder ≡ Trash = sym child.place ∙ ap (λ (r : NodeRow). r.place) (same_Some child.row (trashed row) itself) in
                absurd (cc))
            | inr other ↦
                (let there : node_row t.nodes child.row.id ≡ Some child.row = sym (row_other t.nodes row.id trashed (λ row. refl) child.row.id other) ∙ child.there in
                let is_top : child.row.id ≡ row.id =
                same_Some child.row.id row.id
                (sym (child_there t.nodes folder child.row sound.names there child.place) ∙ ap (child_of t.nodes folder) child.named ∙ is) in
                absurd (both_ways (child.row.id == row.id) other (eq-eqb child.row.id row.id is_top)))
          ]

  pub discarded_left : Left t binned row.id
  discarded_left =
      let counts = length_with t.nodes row.id trashed in
      record {
        sound = discarded_sound t (item_for now row) row known.folder sound at known.there known.inside known.present refl;
        row = λ node outside. row_other t.nodes row.id trashed (λ row. refl) node
            (ne_eqb node row.id (λ same. apart node outside 0 (ap Some same)));
        climbs = climbs_so;
        leads = λ node outside up. discarded_leads t (item_for now row) node sound outside up;
        below = λ j below node there is outside. below_so j below node is outside;
        free = free_so;
        in_folder = λ folder outside other.
            filter_with (is_in folder) t.nodes row.id trashed
            (λ one is. (
              false_from_ne_true (is_in folder one) (λ inside.
                  other (parent_at t.nodes row.id folder one is (inside_of folder one.place inside))),
              refl,
            ));
        few = omega (arith, counts);
        few_pieces = omega (arith, pieces_with t.nodes row.id trashed 0 (λ row is. omega arith));
        meta = refl;
        users = refl;
        mounts = refl;
        items = λ node differs is. item_put (item_for now row) t.items node is;
      }

  -- whichever, in whatever tables that was decided
  pub leaving_left : (s : Tables) → Left t (deed_done t (discard s now row)) row.id
  leaving_left s =
      cond_both (goes_itself s now row) (deed.Purge row.id) (deed.Discard (item_for now row)) (λ (one : Deed). Left t (deed_done t one) row.id)
      (λ e. purged_left t row sound known) (λ e. discarded_left)

  pub discard_left : Left t (deed_done t (discard t now row)) row.id
  discard_left = leaving_left t
