-- The tables with another content of a file are sound.
use Rattle.std.proofs.Common.{◌≡◌, inl, inr, List, refl, ap, ℕ, ◌==◌, Bool, true, false, Some, option_map, if◌then◌else◌, length, get_or, sym, ◌∙◌, arith, le_refl}
use Rattle.std.proofs.lemmas.Bool.{both_ways}
use Rattle.std.proofs.lemmas.List.Elements.{All-weaker}
use Rattle.std.proofs.lemmas.Option.{same_Some}
use Rattle.nf_base.specs.declared.content.Piece.{Piece}
use Rattle.nf_base.specs.declared.rows.NodeRow.{NodeRow}
use Rattle.nf_defs.specs.Prelude.{filled, is_folder_kind, node_row, Tables, with_node}
use Rattle.nf_laws.proofs.OneRow.{IsEither, each_either, length_with, pieces_with, rising_with, row_with, same_either, with_each}
use Rattle.nf_laws.proofs.Others.{items_still, others_seen, seen_with, trash_kept}
use Rattle.nf_laws.proofs.Present.{kept_leads}
use Rattle.nf_laws.proofs.Rows.{AreKept, Kept, kept_row, node_kept, none_higher, pieces_kept, root_kept}
use Rattle.nf_words.specs.Prelude.{AreSound, HasRoot, IsFilled, IsNodeSound}

-- ---- the tables with another

-- each node keeps its owner, place, name and kind
pub kept_replaced : (rows : List NodeRow) (now node : ℕ) (content : List Piece) → AreKept rows (with_node rows node (filled content now))
kept_replaced rows now node content other old is = here (other == node) refl
  where
    there : node_row (with_node rows node (filled content now)) other
        ≡ (if other == node then option_map (filled content now) (node_row rows other) else node_row rows other)
    there = row_with rows node (filled content now) (λ row. refl) other

    here : (a : Bool) → (other == node) ≡ a → Kept (with_node rows node (filled content now)) other old
    here true e = record {
      row = filled content now old;
      there = there ∙ rw (e, is);
      owner = refl;
      place = refl;
      name = refl;
      kind = refl;
    }
    here false e = kept_row (with_node rows node (filled content now)) other old (there ∙ rw (e, is))

abbrev refilled_at : Tables → NodeRow → Tables
refilled_at t row = record t { nodes = with_node t.nodes row.id (filled row.content row.changed) }

-- a sound row stays so, whatever content another has
other_sound : (t : Tables) (row old : NodeRow) → IsNodeSound t old → IsNodeSound (refilled_at t row) old
other_sound t row old sound =
    let made = refilled_at t row in
    node_kept t t.meta made.nodes old (kept_replaced t.nodes row.changed row.id row.content) (le_refl _) (le_refl _) (le_refl _) sound

-- the node with its new content is sound
brought_sound : (t : Tables) (row old : NodeRow) → IsFilled t row → node_row t.nodes row.id ≡ Some old → IsNodeSound t old
    → IsNodeSound (refilled_at t row) (filled row.content row.changed old)
brought_sound t row old is there sound =
    let kept = other_sound t row old sound in
    let same : is.old ≡ old = same_Some is.old old (sym is.there ∙ there) in
    record {
      some = kept.some;
      given = kept.given;
      changed = is.changed;
      pieces = pieces_kept t (refilled_at t row) row.content (le_refl _) is.pieces;
      folder = λ folder. absurd (both_ways (is_folder_kind old.kind) (ap (λ (r : NodeRow). is_folder_kind r.kind) (sym same) ∙ is.file) folder);
      place = kept.place;
      steps = kept.steps;
      shallow = kept.shallow;
      top = kept.top;
      climbs = kept.climbs;
      ends = kept.ends;
    }

pub filled_sound : (t : Tables) (row : NodeRow) → AreSound t → IsFilled t row
    → AreSound (record t { nodes = with_node t.nodes row.id (filled row.content row.changed) })
filled_sound t row sound is =
    let made = refilled_at t row in
    let change = filled row.content row.changed in
    let kept = kept_replaced t.nodes row.changed row.id row.content in
    let counts = length_with t.nodes row.id change in
    let either : (k : ℕ) (d : NodeRow) → IsEither t.nodes row.id change (get_or t.nodes k d) (get_or made.nodes k d) =
    each_either t.nodes row.id change in
    let place = λ (k : ℕ) (d : NodeRow).
    same_either (λ (r : NodeRow). r.place) t.nodes row.id change (get_or t.nodes k d) (get_or made.nodes k d) (λ row. refl) (either k d) in
    let name = λ (k : ℕ) (d : NodeRow).
    same_either (λ (r : NodeRow). r.name) t.nodes row.id change (get_or t.nodes k d) (get_or made.nodes k d) (λ row. refl) (either k d) in
    record {
      counters = sound.counters;
      rising = rising_with t.nodes row.id change (λ row. refl) sound.rising;
      nodes = with_each (IsNodeSound made) (IsNodeSound t) t.nodes row.id change (λ old. other_sound t row old)
          (λ old. brought_sound t row old is) sound.nodes;
      names = λ i j d before within folder first second same. sound.names i j d before (omega (arith, counts)) folder
          (sym (place i d) ∙ first) (sym (place j d) ∙ second) (sym (name i d) ∙ same ∙ name j d);
      roots = All-weaker (HasRoot t) (HasRoot made) (root_kept t t.meta made.nodes kept) t.users sound.roots;
      users_given = sound.users_given;
      members_there = sound.members_there;
      groups_given = sound.groups_given;
      few_nodes = omega (arith, counts, sound.few_nodes);
      few_pieces = elim is.few_pieces [
        | inl few ↦ omega (arith, few, pieces_with t.nodes row.id change (length row.content) (λ row is. omega arith))
        | inr kept ↦
            omega (
              arith,
              sound.few_pieces,
              pieces_with t.nodes row.id change 0
                  (λ old there.
                  let same : is.old ≡ old = same_Some is.old old (sym is.there ∙ there) in
                  let counts : length row.content ≡ length old.content = ap (λ (c : List Piece). length c) kept ∙ ap (λ (r : NodeRow). length r.content) same in
                  omega (arith, counts)),
            )
      ];
      others = others_seen t t.meta made.nodes t.items sound (none_higher t.meta t.meta.last) (le_refl _)
          (seen_with t row.id change sound (record {
            id = λ row. refl;
            owner = λ row. refl;
            kind = λ row. refl;
            root = λ row there. refl;
            off = λ row there off. off;
          }) (λ n. kept_leads t.nodes made.nodes n kept))
          (items_still t made (le_refl _) (trash_kept t.nodes made.nodes kept) sound.others.items) sound.others.items_rise;
    }
