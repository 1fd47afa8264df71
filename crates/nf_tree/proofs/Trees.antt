-- What each change of the tree leaves.
use Rattle.std.proofs.Common.{ℕ, zero, suc, ◌+◌, ◌*◌, ◌<◌, ◌≤◌, ◌≡◌, ◌==◌, true, false, not, List, [], ◌∷◌, ◌++◌, Some, refl, sym, ap, ◌∙◌, subst, inl, inr, arith, length, get_or, set}
use Rattle.std.specs.Option.{option_map_or}
use Rattle.std.specs.List.{All, position}
use Rattle.std.proofs.lemmas.Bool.{cases_eq, not-true}
use Rattle.std.proofs.lemmas.List.{get_or-set_same, get_or-set_other, length-set, length_push, get_or_read}
use Rattle.std.proofs.lemmas.List.Elements.{All-push, All-set}
use Rattle.std.proofs.lemmas.List.Quantifiers.{all_pairs_push, position-Some}
use Rattle.std.proofs.lemmas.List.Sums.{sum_by_push, sum_by-set, sum_by-le, get_or-le-sum_by}
use Rattle.nf_base.specs.declared.limits.TheConstants.{MAX_NODES, MAX_PIECES}
use Rattle.nf_base.specs.declared.rows.NodeRow.{NodeRow}
use Rattle.nf_base.specs.declared.content.Piece.{Piece}
use Rattle.nf_defs.specs.Tree.{node_row, is_file, is_folder_kind, content_of, piece_count, with_node}
use Rattle.nf_tree.specs.Held.{AreSmall, Held, IsTree}
use Rattle.nf_tree.specs.Order.{key_at, key_of, AreRisingNodes, IsIndex}
use Rattle.nf_tree.proofs.Orders.{key_of_row, key_at_set}

no_index : IsIndex [] []
no_index = record { within = λ k d high. absurd (omega arith); long = refl; in_order = λ i j d less within. absurd (omega arith) }

pub empty : IsTree [] [] 0 0
empty = record {
  rising = λ i j d less within. absurd (omega arith);
  index = no_index;
  small = λ k d within. absurd (omega arith);
  counted = refl;
  fits = omega arith;
  few = omega arith;
}

-- ---- a row more

pub added : (rows : List NodeRow) (row : NodeRow) (order more : List ℕ) (pieces room : ℕ) → IsTree rows order pieces room → length rows < room
    → All (λ (older : NodeRow). older.id < row.id) rows → length row.content ≤ MAX_PIECES → IsIndex (rows ++ row ∷ []) more
    → IsTree (rows ++ row ∷ []) more (pieces + length row.content) room
added rows row order more pieces room tree fits newest small index = record {
  rising = all_pairs_push (λ (x y : NodeRow). x.id < y.id) rows row tree.rising newest;
  index = index;
  small = All-push (λ (r : NodeRow). length r.content ≤ MAX_PIECES) rows row tree.small small;
  counted = let e = sum_by_push (λ (r : NodeRow). length r.content) rows row in omega (arith, tree.counted, e);
  fits = let e = length_push rows row in omega arith;
  few = tree.few;
}

pub rising_push : (rows : List NodeRow) (row : NodeRow) → AreRisingNodes rows → All (λ (older : NodeRow). older.id < row.id) rows → AreRisingNodes (rows ++ row ∷ [])
rising_push rows row rising newest = all_pairs_push (λ (x y : NodeRow). x.id < y.id) rows row rising newest

-- ---- another row at a place

pub number_kept : (rows : List NodeRow) (at k : ℕ) (row d : NodeRow) → at < length rows → row.id ≡ (get_or rows at d).id
    → (get_or (set rows at row) k d).id ≡ (get_or rows k d).id
number_kept rows at k row d there same = elim (cases_eq k at) [
  | inl is ↦ subst (λ j. (get_or (set rows at row) j d).id ≡ (get_or rows j d).id) (sym is) (ap (λ (r : NodeRow). r.id) (get_or-set_same rows at row d there) ∙ same)
  | inr differ ↦ ap (λ (r : NodeRow). r.id) (get_or-set_other rows at k row d differ)
]

rising_set : (rows : List NodeRow) (at : ℕ) (row : NodeRow) → AreRisingNodes rows → at < length rows → ((d : NodeRow) → row.id ≡ (get_or rows at d).id)
    → AreRisingNodes (set rows at row)
rising_set rows at row rising there same = λ i j d less within.
    let long = length-set rows at row in
    let e = number_kept rows at i row d there (same d) in
    let f = number_kept rows at j row d there (same d) in
    let h = rising i j d less (omega arith) in
    omega (arith, e, f, h)

pub rising_moved : (rows : List NodeRow) (at : ℕ) (row old : NodeRow) → AreRisingNodes rows → at < length rows → old ≡ get_or rows at old → row.id ≡ old.id
    → AreRisingNodes (set rows at row)
rising_moved rows at row old rising there is same =
    rising_set rows at row rising there (λ d. same ∙ ap (λ (r : NodeRow). r.id) (get_or_read rows at old there is d))

-- a row at a place has few pieces
pub small_there : (rows : List NodeRow) (at : ℕ) (old : NodeRow) → AreSmall rows → at < length rows → old ≡ get_or rows at old → length old.content ≤ MAX_PIECES
small_there rows at old small there is = subst (λ (r : NodeRow). length r.content ≤ MAX_PIECES) (sym is) (small at old there)

-- a row's pieces are counted
pub counted_there : (rows : List NodeRow) (at : ℕ) (old : NodeRow) → at < length rows → old ≡ get_or rows at old → length old.content ≤ piece_count rows
counted_there rows at old there is = subst (λ (r : NodeRow). length r.content ≤ piece_count rows) (sym is) (get_or-le-sum_by (λ (r : NodeRow). length r.content) rows at old there)

pub changed_tree : (rows : List NodeRow) (at : ℕ) (row old : NodeRow) (order more : List ℕ) (pieces count room : ℕ) → IsTree rows order pieces room → at < length rows
    → old ≡ get_or rows at old → row.id ≡ old.id → length row.content ≤ MAX_PIECES → count + length old.content ≡ pieces + length row.content → IsIndex (set rows at row) more
    → IsTree (set rows at row) more count room
changed_tree rows at row old order more pieces count room tree there is same small sums index = record {
  rising = rising_moved rows at row old tree.rising there is same;
  index = index;
  small = All-set (λ (r : NodeRow). length r.content ≤ MAX_PIECES) rows at row small tree.small;
  counted =
      let e = sum_by-set (λ (r : NodeRow). length r.content) rows at row old there in
      let f = ap (λ (r : NodeRow). length r.content) is in
      omega (arith, tree.counted, e, f, sums);
  fits = let e = length-set rows at row in let f = tree.fits in omega arith;
  few = tree.few;
}

-- a row that has only moved
pub moved_tree : (rows : List NodeRow) (at : ℕ) (row old : NodeRow) (order more : List ℕ) (pieces room : ℕ) → IsTree rows order pieces room → at < length rows
    → old ≡ get_or rows at old → row.id ≡ old.id → row.content ≡ old.content → IsIndex (set rows at row) more
    → IsTree (set rows at row) more pieces room
moved_tree rows at row old order more pieces room tree there is same content index =
    changed_tree rows at row old order more pieces pieces room tree there is same
    (subst (λ (list : List Piece). length list ≤ MAX_PIECES) (sym content) (small_there rows at old tree.small there is))
    (ap (λ list. pieces + length list) (sym content)) index

-- a row with the same key keeps the index
pub same_index : (rows : List NodeRow) (at : ℕ) (row old : NodeRow) (order : List ℕ) → at < length rows → old ≡ get_or rows at old → key_of row ≡ key_of old → IsIndex rows order → IsIndex (set rows at row) order
same_index rows at row old order there is same index = record {
  within = λ k d high. let e = length-set rows at row in let h = index.within k d high in omega arith;
  long = index.long ∙ sym (length-set rows at row);
  in_order = λ i j d less within. rw (kept (get_or order i d)) (rw (kept (get_or order j d)) (index.in_order i j d less within));
}
  where
    kept : (k : ℕ) → key_at (set rows at row) k ≡ key_at rows k
    kept k = elim (cases_eq k at) [
      | inl e ↦ subst (λ j. key_at (set rows at row) j ≡ key_at rows j) (sym e)
          (let long = length-set rows at row in
          key_of_row (set rows at row) at old (omega (arith, there)) ∙ ap key_of (get_or-set_same rows at row old there) ∙ same ∙ ap key_of is ∙ sym (key_of_row rows at old there))
      | inr differ ↦ key_at_set rows row at k differ
    ]

-- ---- the node's row is the one that changes

set_with : (rows : List NodeRow) (i : ℕ) (d : NodeRow) (node : ℕ) (change : NodeRow → NodeRow) → i < length rows → ((get_or rows i d).id == node) ≡ true
    → ((k : ℕ) → k < i → ((get_or rows k d).id == node) ≡ false) → set rows i (change (get_or rows i d)) ≡ with_node rows node change
set_with [] i d node change within is before = absurd (omega arith)
set_with (row ∷ rows) zero d node change within is before = rw is refl
set_with (row ∷ rows) (suc i) d node change within is before =
    rw (before 0 (omega arith)) (ap (λ rest. row ∷ rest) (set_with rows i d node change (omega arith) is (λ k less. before (suc k) (omega arith))))

pub changed_node : (rows : List NodeRow) (at : ℕ) (old : NodeRow) (node : ℕ) (change : NodeRow → NodeRow) → Some at ≡ position (λ row. row.id == node) rows → old ≡ get_or rows at old
    → set rows at (change old) ≡ with_node rows node change
changed_node rows at old node change there is =
    let p = position-Some (λ (row : NodeRow). row.id == node) rows at old (sym there) in
    ap (λ r. set rows at (change r)) is ∙ set_with rows at old node change p.0 p.1 p.2

pub node_within : (rows : List NodeRow) (at node : ℕ) (d : NodeRow) → Some at ≡ position (λ row. row.id == node) rows → at < length rows
node_within rows at node d there = (position-Some (λ (row : NodeRow). row.id == node) rows at d (sym there)).0

-- the rows where the one at the node's place is another
pub changed_rows : (held rows : List NodeRow) (at node : ℕ) (old row : NodeRow) (change : NodeRow → NodeRow) → rows ≡ held
    → Some at ≡ position (λ row. row.id == node) held → old ≡ get_or rows at old → row ≡ change old → set rows at row ≡ with_node held node change
changed_rows held rows at node old row change same there is new =
    ap (set rows at) new ∙ changed_node rows at old node change (rw (← same) at there) is ∙ ap (λ list. with_node list node change) same

-- the tree where the row at the node's place is another
pub changed_held : (held : Held) (rows : List NodeRow) (room at node : ℕ) (old row : NodeRow) (change : NodeRow → NodeRow)
    → ◌≡◌ {A = Held} (record { rows = rows; room = room }) held → Some at ≡ position (λ row. row.id == node) held.rows → old ≡ get_or rows at old → row ≡ change old
    → ◌≡◌ {A = Held} (record { rows = set rows at row; room = room }) (record held { rows = with_node held.rows node change })
changed_held held rows room at node old row change view there is new =
    let e = changed_rows held.rows rows at node old row change (ap (λ (h : Held). h.rows) view) there is new in
    let f = ap (λ (h : Held). h.room) view in
    cc

pub pieces_few : (rows : List NodeRow) (order : List ℕ) (pieces room : ℕ) → IsTree rows order pieces room → pieces ≤ MAX_NODES * MAX_PIECES
pieces_few rows order pieces room tree =
    let e = sum_by-le (λ (r : NodeRow). length r.content) MAX_PIECES rows tree.small in omega (arith, e, tree.counted, tree.fits, tree.few)

-- what is known of the node's row
pub file_row : (rows : List NodeRow) (node : ℕ) (row : NodeRow) → Some row ≡ node_row rows node → is_file rows node ≡ true → is_folder_kind row.kind ≡ false
file_row rows node row there file = not-true _ (ap (λ o. option_map_or (λ (r : NodeRow). not (is_folder_kind r.kind)) o false) there ∙ file)

pub content_row : (rows : List NodeRow) (node : ℕ) (row : NodeRow) → Some row ≡ node_row rows node → row.content ≡ content_of rows node
content_row rows node row there = ap (λ o. option_map_or (λ (r : NodeRow). r.content) o []) there
