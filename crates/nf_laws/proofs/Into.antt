-- What is moved or copied fits where what is replaced has left its place.
use Rattle.std.proofs.Common.{◌≡◌, ◌≤◌, ℕ, suc, ◌+◌, ◌-◌, true, false, List, [], ◌∷◌, get_or, map, max, Option, None, Some, inl, inr, refl, sym, ap, subst, ◌∙◌, arith}
use Rattle.std.specs.Prelude.{is_some}
use Rattle.std.specs.Option.{option_map_or}
use Rattle.std.proofs.lemmas.Bool.{both_ways, cases_lt, false_from_ne_true}
use Rattle.std.specs.List.{All}
use Rattle.std.proofs.lemmas.List.Elements.{All-contains_itself, All-head, All-tail}
use Rattle.std.proofs.lemmas.Option.{same_Some}
use Rattle.nf_access.specs.Mounts.{mount_at}
use Rattle.nf_base.specs.declared.limits.TheConstants.{MAX_DEPTH}
use Rattle.nf_base.specs.declared.rows.MountRow.{MountRow}
use Rattle.nf_base.specs.declared.rows.NodeRow.{NodeRow}
use Rattle.nf_defs.proofs.Climbs.{under_climb}
use Rattle.nf_defs.specs.Prelude.{by_name, climb, depth, is_root_place, is_under, node_row, owner_of, parent_of, Tables, walk_of}
use Rattle.nf_defs.proofs.Walks.{walk_climbs}
use Rattle.nf_laws.proofs.Climbs.{climb_on, climb_rest, depth_is, some_there}
use Rattle.nf_laws.proofs.Left.{Left}
use Rattle.nf_laws.proofs.Puts.{under_there}
use Rattle.nf_laws.proofs.Rows.{folder_there, none_over}
use Rattle.nf_laws.proofs.Sources.{walk_by}
use Rattle.nf_laws.proofs.Upwards.{climbs_depth, climbs_is_under, never_climbs, no_rings}
use Rattle.nf_words.proofs.Found.{child_parent}
use Rattle.nf_words.proofs.Known.{KnownTransfer}
use Rattle.nf_words.specs.Prelude.{AreSound, deepest, deepest_in}
use Rattle.nf_words.specs.declared.request.Transfer.{Transfer}

-- the transfer into the place that is free
abbrev pub into : Transfer → Transfer
into transfer = record { node = transfer.node; folder = transfer.folder; replaced = None }

module _ (t u : Tables) (top : ℕ) (sound : AreSound t) (left : Left t u top) where
  -- a node that isn't under it is as deep as before
  pub depth_left : (node : ℕ) (row : NodeRow) → is_under t.nodes node top ≡ false → node_row t.nodes node ≡ Some row
      → depth u.nodes node ≡ depth t.nodes node
  depth_left node row outside there =
      let over = climbs_depth u node row left.sound (left.row node outside ∙ there) in
      let same : climb t.nodes (depth u.nodes node) node ≡ Some over.0 = sym (left.climbs (depth u.nodes node) node outside) ∙ over.1 in
      let apart : is_under t.nodes over.0 top ≡ false = false_from_ne_true (is_under t.nodes over.0 top) (λ under.
      let c = under_climb t.nodes over.0 top under in
      never_climbs t node top sound outside (depth u.nodes node + c.0) (climb_on (depth u.nodes node) c.0 t.nodes node over.0 same ∙ c.2)) in
      sym (depth_is (depth u.nodes node) t.nodes node over.0
      (none_over t.nodes over.0 (record { row = over.2.row; there = sym (left.row over.0 apart) ∙ over.2.there; ends = over.2.ends }))
      over.3 same)

  -- ---- what is transferred

  module _ (transfer : Transfer) (name : List ℕ) (known : KnownTransfer t transfer name) (is : transfer.replaced ≡ Some top) where
    own : parent_of t.nodes top ≡ Some transfer.folder
    own = child_parent t.nodes transfer.folder name top sound.rising (known.there ∙ is)

    -- neither the source nor the folder is under what left
    pub source_out : is_under t.nodes transfer.node top ≡ false
    source_out = sym (ap (λ (o : Option ℕ). option_map_or (λ node. is_under t.nodes transfer.node node) o false) is) ∙ known.apart

    pub folder_out : is_under t.nodes transfer.folder top ≡ false
    folder_out = no_rings t top transfer.folder sound own

    -- nor is what is under the source
    pub below_out : (node : ℕ) → is_under t.nodes node transfer.node ≡ true → is_under t.nodes node top ≡ false
    below_out node under = false_from_ne_true (is_under t.nodes node top) (λ also.
        let c = under_climb t.nodes node transfer.node under in
        let d = under_climb t.nodes node top also in
        elim (cases_lt d.0 c.0) [
          | inl less ↦
              (let rest = climb_rest d.0 (suc (c.0 - d.0 - 1)) c.0 t.nodes node top transfer.node (omega arith) d.2 c.2 in
              never_climbs t transfer.folder transfer.node sound known.outside (c.0 - d.0 - 1) (rw own at rest))
          | inr more ↦
              never_climbs t transfer.node top sound source_out (d.0 - c.0)
              (climb_rest c.0 (d.0 - c.0) d.0 t.nodes node transfer.node top (omega arith) c.2 d.2)
        ])

    -- so what is under it is as it was
    pub walk_so : walk_of u.nodes transfer.node ≡ walk_of t.nodes transfer.node
    unfolding walk_of
    walk_so =
        walk_by MAX_DEPTH t u.nodes transfer.node sound
        (λ j folder climbs.
        let under = climbs_is_under j t folder transfer.node sound climbs in
        ap (λ (rows : List NodeRow). map (λ row. row.id) (by_name rows))
        (left.in_folder folder (below_out folder under) (λ same.
        let it : transfer.folder ≡ folder = same_Some transfer.folder folder (sym own ∙ same) in
        both_ways (is_under t.nodes transfer.folder transfer.node) known.outside (ap (λ (n : ℕ). is_under t.nodes n transfer.node) it ∙ under))))
        0 transfer.node refl

    -- each node under the source is as deep, and so is the folder
    depths : All (λ (node : ℕ). depth u.nodes node ≡ depth t.nodes node) (walk_of t.nodes transfer.node)
    depths k d within =
        let node = get_or (walk_of t.nodes transfer.node) k d in
        let c = walk_climbs t.nodes transfer.node node sound.rising (All-contains_itself (walk_of t.nodes transfer.node) k d within) in
        let under = climbs_is_under c.0 t node transfer.node sound c.2 in
        let row = some_there (node_row t.nodes node) (under_there t.nodes node transfer.node (ap is_some known.source.1) under) in
        depth_left node row.0 (below_out node under) row.1

    deepest_same : (nodes : List ℕ) → All (λ (node : ℕ). depth u.nodes node ≡ depth t.nodes node) nodes
        → deepest u.nodes nodes ≡ deepest t.nodes nodes
    deepest_same [] all = refl
    deepest_same (node ∷ nodes) all =
        ap (λ (n : ℕ). max n (deepest u.nodes nodes)) (All-head (λ (node : ℕ). depth u.nodes node ≡ depth t.nodes node) node nodes all)
        ∙ ap (max (depth t.nodes node)) (deepest_same nodes (All-tail (λ (node : ℕ). depth u.nodes node ≡ depth t.nodes node) node nodes all))

    deepest_so : deepest_in u.nodes transfer.node transfer.folder ≡ deepest_in t.nodes transfer.node transfer.folder
    deepest_so =
        let at = folder_there t.nodes transfer.folder known.in_folder in
        let all : deepest u.nodes (walk_of u.nodes transfer.node) ≡ deepest t.nodes (walk_of t.nodes transfer.node) =
        ap (deepest u.nodes) walk_so ∙ deepest_same (walk_of t.nodes transfer.node) depths in
        omega (arith, depth_left transfer.folder at.0 folder_out at.1, depth_left transfer.node known.source.0 source_out known.source.1, all)

    pub known_into : KnownTransfer u (into transfer) name
    known_into =
        let source = left.row transfer.node source_out in
        let folder = left.row transfer.folder folder_out in
        record {
          source = (known.source.0, source ∙ known.source.1);
          no_root = ap (λ (o : Option NodeRow). option_map_or (λ row. is_root_place row.place) o false) source ∙ known.no_root;
          present = left.leads transfer.node source_out known.present;
          in_folder = rw folder known.in_folder;
          folder_present = left.leads transfer.folder folder_out known.folder_present;
          there = left.free transfer.folder name (known.there ∙ is);
          unmounted = λ root.
              ap (λ (mounts : List MountRow). mount_at mounts (owner_of u.nodes transfer.folder) name) left.mounts
              ∙ ap (λ (o : Option NodeRow). mount_at t.mounts (option_map_or (λ row. row.owner) o 0) name) folder
              ∙ known.unmounted (sym (ap (λ (o : Option NodeRow). option_map_or (λ row. is_root_place row.place) o false) folder) ∙ root);
          differs = refl;
          outside = false_from_ne_true (is_under u.nodes transfer.folder transfer.node) (λ under.
              let c = under_climb u.nodes transfer.folder transfer.node under in
              never_climbs t transfer.folder transfer.node sound known.outside c.0 (sym (left.climbs c.0 transfer.folder folder_out) ∙ c.2));
          apart = refl;
          deep = subst (λ (n : ℕ). n ≤ MAX_DEPTH) (sym deepest_so) known.deep;
        }
