-- The tables with copies more are sound.
use Rattle.std.proofs.Common.{ℕ, zero, suc, ◌+◌, ◌≡◌, ◌≢◌, ◌<◌, ◌≤◌, ◌&&◌, bytes_eq, true, List, [], ◌∷◌, ◌++◌, Option, Some, get_or, length, refl, sym, ap, subst, ◌∙◌, arith, le_refl, length-append, None}
use Rattle.std.specs.List.{All, AllPairs, slice_get, sum_by}
use Rattle.std.specs.Option.{option_and_then, option_map_or}
use Rattle.std.proofs.lemmas.Bool.{and_parts, eqb-true, false_from_ne_true}
use Rattle.std.proofs.lemmas.List.{get_or-append-add}
use Rattle.std.proofs.lemmas.List.Elements.{All-append, All-weaker}
use Rattle.std.proofs.lemmas.List.Sums.{sum_by-append, sum_by-cons}
use Rattle.std.proofs.lemmas.Option.{get_or_from_slice_get, same_Some, slice_get-get_or, slice_get_within}
use Rattle.nf_access.specs.Mounts.{root_folder}
use Rattle.nf_base.specs.declared.limits.TheConstants.{MAX_NODES, MAX_STORED_PIECES}
use Rattle.nf_base.specs.declared.content.Piece.{Piece}
use Rattle.nf_base.specs.declared.rows.NodeRow.{NodeRow}
use Rattle.nf_base.specs.declared.rows.Place.{Place}
use Rattle.nf_base.specs.declared.rows.Place.TheVariants.{Inside}
use Rattle.nf_defs.specs.Prelude.{child_of, climb, content_of, depth, is_folder, is_folder_kind, is_in, is_place_in, node_row, owner_of, piece_count, Tables, walk_of, walk_within}
use Rattle.nf_laws.proofs.Added.{new_apart}
use Rattle.nf_laws.proofs.Climbs.{node_row_each, parent_at}
use Rattle.nf_laws.proofs.Files.{files_kept}
use Rattle.nf_laws.proofs.Others.{all_off, IsOff, kept_present, new_off, others_still, root_row, Still, trash_kept, was_same, WasThere}
use Rattle.nf_laws.proofs.Paths.{child_there}
use Rattle.nf_laws.proofs.Rows.{child_folder, climb_kept, counters_up, folder_kept, folder_there, kept_joined, node_kept, parent_there, pieces_kept, root_kept, row_is, row_joined, stamp, top_kept}
use Rattle.nf_laws.proofs.Upwards.{climbs_depth, deepest_among, depth_up}
use Rattle.nf_laws.proofs.Walked.{AllPairs-append}
use Rattle.nf_laws.specs.Numbers.{AreHigher}
use Rattle.nf_laws.specs.Transfers.{IsCopyOf, Mirrors}
use Rattle.nf_words.proofs.Known.{KnownTransfer}
use Rattle.nf_words.specs.Prelude.{AreApart, AreSound, HasRoot, IsNodeSound, IsPieceSound, IsPlaceSound, IsTop, IsUnmounted, joined, pieces_in, stored_pieces}
use Rattle.nf_words.specs.declared.request.Transfer.{Transfer}

-- ---- lists

-- where two lists have the same numbers in turn, they have one sum
pub same_sum : {X Y : Type 0} (f : X → ℕ) (g : Y → ℕ) (xs : List X) (ys : List Y) → length xs ≡ length ys
    → ((k : ℕ) (d : X) (e : Y) → k < length xs → f (get_or xs k d) ≡ g (get_or ys k e)) → sum_by f xs ≡ sum_by g ys
same_sum f g [] [] long each = refl
same_sum f g [] (y ∷ ys) long each = absurd (omega arith)
same_sum f g (x ∷ xs) [] long each = absurd (omega arith)
same_sum f g (x ∷ xs) (y ∷ ys) long each =
    omega (
      arith,
      each 0 x y (omega arith),
      sum_by-cons f x xs,
      sum_by-cons g y ys,
      same_sum f g xs ys (omega arith) (λ k d e within. each (suc k) d e (omega arith)),
    )

-- ---- nodes that are there

-- a walk begins with its top
pub walk_first : (rows : List NodeRow) (top : ℕ) → (get_or (walk_of rows top) 0 0 ≡ top) × (0 < length (walk_of rows top))
unfolding walk_of walk_within
walk_first rows top = (refl, omega arith)

-- ---- copies

module _ (t : Tables) (now : ℕ) (transfer : Transfer) (name : List ℕ) (rows : List NodeRow) (mirrors : Mirrors t now transfer name rows) where
  pub copy_at : (k : ℕ) (d : NodeRow) → k < length rows → IsCopyOf t now transfer name k (get_or rows k d)
  copy_at k d within = mirrors.each k (get_or rows k d) (slice_get-get_or rows k d within)

  pub copies_owned : All (λ (copy : NodeRow). copy.owner ≡ owner_of t.nodes transfer.folder) rows
  copies_owned k d within = (copy_at k d within).owner

  pub copies_numbered : All (λ (copy : NodeRow). (t.meta.next_node ≤ copy.id) × (copy.id < t.meta.next_node + length rows)) rows
  copies_numbered k d within = let copy = copy_at k d within in (omega (arith, copy.id), omega (arith, copy.id))

  -- so a node whose number was given before is found as it was
  pub old_joined : (others : List NodeRow) (node : ℕ) → node < t.meta.next_node → node_row (others ++ rows) node ≡ node_row others node
  old_joined others node old =
      row_joined others rows node (λ k d within same. absurd (omega (arith, copies_numbered k d within)))

  copies_rise : AllPairs (λ (a b : NodeRow). a.id < b.id) rows
  copies_rise i j d before within = omega (arith, (copy_at i d (omega arith)).id, (copy_at j d within).id)

  -- they have as many pieces as what they are copies of
  same_pieces : piece_count rows ≡ pieces_in t.nodes (walk_of t.nodes transfer.node)
  same_pieces =
      same_sum (λ row. length row.content) (λ node. length (content_of t.nodes node)) rows (walk_of t.nodes transfer.node) mirrors.all
      (λ k d e within.
      let copy = copy_at k d within in
      ap (length {A = Piece}) (copy.content
      ∙ sym (ap (λ (o : Option NodeRow). option_map_or (λ row. row.content) o []) copy.there)
      ∙ ap (content_of t.nodes) (sym (get_or_from_slice_get (walk_of t.nodes transfer.node) k copy.node e copy.at_index))))

  -- how deep the node of the k-th copy is
  abbrev pub depth_at : ℕ → ℕ
  depth_at k = depth t.nodes (get_or (walk_of t.nodes transfer.node) k 0)

  -- a copy after the first is in one before it, which is a folder, and its node is one deeper than that one's
  pub record IsInCopy (k : ℕ) (copy d : NodeRow) : Type 0 where
    pub at : ℕ
    pub before : at < k
    pub place : copy.place ≡ Inside (t.meta.next_node + at)
    pub folder : is_folder_kind (get_or rows at d).kind ≡ true
    pub deeper : depth_at k ≡ suc (depth_at at)

  module _ (sound : AreSound t) where
    pub copy_in : (k : ℕ) (d : NodeRow) → suc k < length rows → IsInCopy (suc k) (get_or rows (suc k) d) d
    copy_in k d within =
        let copy = copy_at (suc k) d within in
        let p = copy.placed.1 in
        let above = copy_at p.1 d (omega (arith, p.4)) in
        let walk = walk_of t.nodes transfer.node in
        let same : above.node ≡ p.0 = same_Some above.node p.0 (sym above.at_index ∙ p.3) in
        let node : get_or walk (suc k) 0 ≡ copy.node = get_or_from_slice_get walk (suc k) copy.node 0 copy.at_index in
        let folder : get_or walk p.1 0 ≡ p.0 = get_or_from_slice_get walk p.1 p.0 0 p.3 in
        let up = parent_at t.nodes copy.node p.0 copy.of copy.there p.2 in
        let row = parent_there t copy.node p.0 copy.of sound copy.there up in
        let is : above.of ≡ row.0 = same_Some above.of row.0 (sym above.there ∙ ap (node_row t.nodes) same ∙ row.1) in
        record {
          at = p.1;
          before = p.4;
          place = p.5;
          folder = ap is_folder_kind (above.kind ∙ ap (λ (r : NodeRow). r.kind) is) ∙ row.2;
          deeper = ap (depth t.nodes) node ∙ depth_up t copy.node p.0 sound up ∙ ap (λ (n : ℕ). suc (depth t.nodes n)) (sym folder);
        }

    -- where the copies are there, each climbs through those that it is in to the folder, and on as that does
    copy_climbs : (others : List NodeRow) (top : ℕ) (d : NodeRow)
        → ((k : ℕ) → k < length rows → node_row others (t.meta.next_node + k) ≡ Some (get_or rows k d))
        → climb others (depth t.nodes transfer.folder) transfer.folder ≡ Some top
        → (m k : ℕ) → k < m → k < length rows
        → (steps : ℕ) × (steps + depth_at 0 ≡ depth_at k + 1 + depth t.nodes transfer.folder)
        × (climb others steps (t.meta.next_node + k) ≡ Some top)
    copy_climbs others top d there on zero k before within = absurd (omega arith)
    copy_climbs others top d there on (suc m) zero before within =
        let up = parent_at others (t.meta.next_node + 0) transfer.folder (get_or rows 0 d) (there 0 within) (copy_at 0 d within).placed.0 in
        (suc (depth t.nodes transfer.folder), omega arith, ap (option_and_then (climb others (depth t.nodes transfer.folder))) up ∙ on)
    copy_climbs others top d there on (suc m) (suc k) before within =
        let c = copy_in k d within in
        let rest = copy_climbs others top d there on m c.at (omega (arith, c.before)) (omega (arith, c.before)) in
        let up = parent_at others (t.meta.next_node + suc k) (t.meta.next_node + c.at) (get_or rows (suc k) d) (there (suc k) within) c.place in
        (suc rest.0, omega (arith, rest.1, c.deeper), ap (option_and_then (climb others rest.0)) up ∙ rest.2)

-- ---- the tables with the copies

module _ (t : Tables) (now : ℕ) (transfer : Transfer) (name : List ℕ) (rows : List NodeRow)
    (mirrors : Mirrors t now transfer name rows) (sound : AreSound t) (known : KnownTransfer t transfer name) (alone : transfer.replaced ≡ None) where
  abbrev made : Tables
  made = stamp (joined t rows) now

  copy : (k : ℕ) (d : NodeRow) → k < length rows → IsCopyOf t now transfer name k (get_or rows k d)
  copy = copy_at t now transfer name rows mirrors

  -- the copies come after all that was there
  pub joined_rises : AllPairs (λ (a b : NodeRow). a.id < b.id) made.nodes
  joined_rises =
      AllPairs-append (λ (a b : NodeRow). a.id < b.id) t.nodes rows sound.rising (copies_rise t now transfer name rows mirrors)
      (λ i d within k e also. omega (arith, (sound.nodes i d within).given, (copy k e also).id))

  pub copy_there : (d : NodeRow) (k : ℕ) → k < length rows → node_row made.nodes (t.meta.next_node + k) ≡ Some (get_or rows k d)
  copy_there d k within =
      let same = get_or-append-add t.nodes rows k d in
      let there = node_row_each made.nodes joined_rises (length t.nodes + k) d (omega (arith, length-append t.nodes rows)) in
      ap (node_row made.nodes) (sym (copy k d within).id)
      ∙ subst (λ (row : NodeRow). node_row made.nodes row.id ≡ Some row) same there

  -- each is found by its number
  pub copies_there : (k : ℕ) (row : NodeRow) → slice_get rows k ≡ Some row → node_row (t.nodes ++ rows) row.id ≡ Some row
  copies_there k row is =
      let within = slice_get_within rows k row is in
      let same = get_or_from_slice_get rows k row row is in
      subst (λ (copy : NodeRow). node_row (t.nodes ++ rows) copy.id ≡ Some copy) same
      (ap (node_row made.nodes) (copy k row within).id ∙ copy_there row k within)

  -- the folder is there as before
  folder_row : (row : NodeRow) × (node_row t.nodes transfer.folder ≡ Some row) × (is_folder_kind row.kind ≡ true)
  folder_row = folder_there t.nodes transfer.folder known.in_folder

  folder_made : (is_folder made.nodes transfer.folder ≡ true) × (owner_of made.nodes transfer.folder ≡ owner_of t.nodes transfer.folder)
  folder_made = folder_kept t.nodes made.nodes transfer.folder (kept_joined t.nodes rows) known.in_folder

  folder_given : transfer.folder < t.meta.next_node
  folder_given = let h = row_is t transfer.folder folder_row.0 sound folder_row.1 in omega (arith, h.0, h.1.given)

  -- and climbs to a top
  folder_climbs : (top : ℕ) × (climb made.nodes (depth t.nodes transfer.folder) transfer.folder ≡ Some top) × IsTop made.nodes top
  folder_climbs =
      let kept = kept_joined t.nodes rows in
      let over = climbs_depth t transfer.folder folder_row.0 sound folder_row.1 in (
        over.0,
        climb_kept (depth t.nodes transfer.folder) t.nodes made.nodes transfer.folder over.0 kept over.1,
        top_kept t.nodes made.nodes over.0 kept over.2,
      )

  -- ---- each copy is sound

  copy_placed : (k : ℕ) (d : NodeRow) → k < length rows → IsPlaceSound made (get_or rows k d) (get_or rows k d).place
  copy_placed zero d within =
      let c = copy 0 d within in
      subst (λ (p : Place). IsPlaceSound made (get_or rows 0 d) p) (sym c.placed.0) (folder_made.0, folder_made.1 ∙ sym c.owner)
  copy_placed (suc k) d within =
      let c = copy_in t now transfer name rows mirrors sound k d within in
      let above : c.at < length rows = omega (arith, c.before) in
      let there = copy_there d c.at above in
      subst (λ (p : Place). IsPlaceSound made (get_or rows (suc k) d) p) (sym c.place) (
        rw there c.folder,
        rw there ((copy c.at d above).owner ∙ sym (copy (suc k) d within).owner),
      )

  copies_sound : All (IsNodeSound made) rows
  copies_sound k d within =
      let c = copy k d within in
      let of = row_is t c.node c.of sound c.there in
      let over = folder_climbs in
      let up =
      copy_climbs t now transfer name rows mirrors sound made.nodes over.0 d (copy_there d) over.1 (suc k) k (omega arith) within in
      let walk = walk_of t.nodes transfer.node in
      let first = walk_first t.nodes transfer.node in
      record {
        some = omega (arith, c.id, sound.counters.nodes);
        given = omega (arith, c.id);
        changed = omega (arith, c.changed);
        pieces = subst (λ (content : List Piece). All (IsPieceSound made) content) (sym c.content)
            (pieces_kept t made c.of.content (omega arith) of.1.pieces);
        folder = λ is. c.content ∙ of.1.folder (ap is_folder_kind (sym c.kind) ∙ is);
        place = copy_placed k d within;
        steps = up.0;
        shallow = omega (
          arith,
          up.1,
          known.deep,
          mirrors.all,
          deepest_among t.nodes walk k 0 (omega (arith, mirrors.all)),
          ap (depth t.nodes) first.0,
        );
        top = over.0;
        climbs = ap (climb made.nodes up.0) c.id ∙ up.2;
        ends = over.2;
      }

  -- ---- names

  -- what was there is in no copy, and the first copy's name is free
  old_apart : All (λ (old : NodeRow). All (AreApart old) rows) t.nodes
  old_apart i d within zero e also folder place other =
      let c = copy 0 e also in
      new_apart t.nodes transfer.folder (get_or rows 0 e) c.placed.0
      (ap (child_of t.nodes transfer.folder) c.placed.1 ∙ known.there ∙ alone) i d within folder place other
  old_apart i d within (suc k) e also folder place other =
      let old : NodeRow = get_or t.nodes i d in
      let c = copy_in t now transfer name rows mirrors sound k e also in
      let above = folder_there t.nodes folder (child_folder t old old.place folder (sound.nodes i d within).place place) in
      let h = row_is t folder above.0 sound above.1 in
      let same : folder ≡ t.meta.next_node + c.at = cc (c.place) in
      absurd (omega (arith, h.0, h.1.given))

  copies_apart : AllPairs (λ (a b : ℕ). a ≢ b) (walk_of t.nodes transfer.node) → AllPairs AreApart rows
  copies_apart once zero zero d before within folder place other named = absurd (omega arith)
  copies_apart once zero (suc j) d before within folder place other named =
      let c = copy_in t now transfer name rows mirrors sound j d within in
      let first : folder ≡ transfer.folder = cc ((copy 0 d (omega arith)).placed.0) in
      let second : folder ≡ t.meta.next_node + c.at = cc (c.place) in
      absurd (omega (arith, folder_given))
  copies_apart once (suc i) zero d before within folder place other named = absurd (omega arith)
  copies_apart once (suc i) (suc j) d before within folder place other named =
      let a = copy (suc i) d (omega arith) in
      let b = copy (suc j) d within in
      let p = a.placed.1 in
      let q = b.placed.1 in
      let walk = walk_of t.nodes transfer.node in
      let first : folder ≡ t.meta.next_node + p.1 = cc (p.5) in
      let second : folder ≡ t.meta.next_node + q.1 = cc (q.5) in
      let at : p.1 ≡ q.1 = omega (arith, first, second) in
      let in_one : p.0 ≡ q.0 = same_Some p.0 q.0 (sym p.3 ∙ ap (slice_get walk) at ∙ q.3) in
      let id_a = (row_is t a.node a.of sound a.there).0 in
      let id_b = (row_is t b.node b.of sound b.there).0 in
      let child_a = child_there t.nodes p.0 a.of sound.names (ap (node_row t.nodes) id_a ∙ a.there) p.2 in
      let child_b = child_there t.nodes q.0 b.of sound.names (ap (node_row t.nodes) id_b ∙ b.there) q.2 in
      let same : a.of.id ≡ b.of.id =
      same_Some a.of.id b.of.id
      (sym child_a ∙ ap (λ (n : ℕ). child_of t.nodes n a.of.name) in_one
      ∙ ap (child_of t.nodes q.0) (sym a.placed.0 ∙ named ∙ b.placed.0) ∙ child_b) in
      once (suc i) (suc j) 0 before (omega (arith, mirrors.all))
      (get_or_from_slice_get walk (suc i) a.node 0 a.at_index ∙ sym id_a ∙ same ∙ id_b
      ∙ sym (get_or_from_slice_get walk (suc j) b.node 0 b.at_index))

  -- ---- shares and mounts

  up : AreHigher t.meta made.meta
  up = record { users = le_refl _; groups = le_refl _; nodes = omega arith; shares = le_refl _; blobs = le_refl _ }

  -- what was there is as it was, also for shares and mounts
  left_was : (node : ℕ) → node < t.meta.next_node → WasThere t.nodes made.nodes node
  left_was node given row there =
      was_same t.nodes node row
      (sym (row_joined t.nodes rows node (λ k d within same. absurd (omega (arith, given, same, (copy k d within).id)))) ∙ there)

  -- no copy has a mount's name in a user's root
  copies_off : All (IsOff t) rows
  copies_off zero d within i e among shown =
      let c = copy 0 d within in
      new_off t (get_or rows 0 d) transfer.folder sound c.placed.0 (subst (IsUnmounted t transfer.folder) (sym c.placed.1) known.unmounted)
      i e among shown
  copies_off (suc k) d within i e among shown =
      let mount = get_or t.mounts i e in
      let root = root_folder t.users mount.user in
      let c = copy_in t now transfer name rows mirrors sound k d within in
      let of = root_row t mount.user sound (sound.others.mounts i e among).user in
      let h = row_is t root of.row sound of.there in
      false_from_ne_true (is_in root (get_or rows (suc k) d) && bytes_eq (get_or rows (suc k) d).name mount.name) (λ both.
      let inside = (and_parts (is_in root (get_or rows (suc k) d)) (bytes_eq (get_or rows (suc k) d).name mount.name) both).0 in
      let same : t.meta.next_node + c.at ≡ root = eqb-true (t.meta.next_node + c.at) root (ap (is_place_in root) (sym c.place) ∙ inside) in
      absurd (omega (arith, same, h.0, h.1.given)))

  still : Still t made.nodes
  still = record {
    of_shares = λ k d within. left_was (get_or t.shares k d).node (sound.others.shares k d within).node;
    of_mounts = λ k d within. left_was (get_or t.mounts k d).node (sound.others.mounts k d within).node;
    present = kept_present t made.nodes sound (kept_joined t.nodes rows);
    off = All-append (IsOff t) t.nodes rows (all_off t sound) copies_off;
    files = files_kept t made.nodes sound (kept_joined t.nodes rows);
    trashed = trash_kept t.nodes made.nodes (kept_joined t.nodes rows);
  }

  -- ---- all rows

  pub joined_sound : t.meta.last ≤ now → AllPairs (λ (a b : ℕ). a ≢ b) (walk_of t.nodes transfer.node)
      → length t.nodes + length (walk_of t.nodes transfer.node) ≤ MAX_NODES
      → stored_pieces t + pieces_in t.nodes (walk_of t.nodes transfer.node) ≤ MAX_STORED_PIECES → AreSound made
  joined_sound later once few_nodes few_pieces =
      let kept = kept_joined t.nodes rows in
      record {
        counters = counters_up t.meta made.meta sound.counters up;
        rising = joined_rises;
        nodes = All-append (IsNodeSound made) t.nodes rows
            (All-weaker (IsNodeSound t) (IsNodeSound made)
            (λ row. node_kept t made.meta made.nodes row kept (omega arith) (omega arith) later) t.nodes sound.nodes)
            copies_sound;
        names = AllPairs-append AreApart t.nodes rows sound.names (copies_apart once) old_apart;
        roots = All-weaker (HasRoot t) (HasRoot made) (root_kept t made.meta made.nodes kept) t.users sound.roots;
        users_given = sound.users_given;
        members_there = sound.members_there;
        groups_given = sound.groups_given;
        few_nodes = omega (arith, few_nodes, mirrors.all, length-append t.nodes rows);
        few_pieces = omega (
          arith,
          few_pieces,
          same_pieces t now transfer name rows mirrors,
          sum_by-append (λ row. length row.content) t.nodes rows,
        );
        others = others_still t made.meta made.nodes sound up later still;
      }
