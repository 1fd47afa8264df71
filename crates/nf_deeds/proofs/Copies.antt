-- Copies of a node and of what is under it, made one after the other.
use Rattle.std.proofs.Common.{ℕ, zero, suc, ◌+◌, ◌<◌, ◌≤◌, ◌≡◌, List, [], ◌∷◌, ◌++◌, length, take, get_or, Option, None, Some, refl, sym, ap, ◌∙◌, arith, append_assoc}
use Rattle.std.specs.List.{flat_map}
use Rattle.std.specs.Option.{option_map_or}
use Rattle.std.proofs.lemmas.List.{append-nil, length-append}
use Rattle.nf_base.specs.declared.rows.NodeRow.{NodeRow}
use Rattle.nf_defs.specs.Prelude.{children_of, node_row, walk_within}
use Rattle.nf_words.specs.Copies.{copied_row, copies_of_all, copies_within}

-- what isn't there has no copy
pub copies_nowhere : (k : ℕ) (rows : List NodeRow) (owner now first folder node : ℕ) → node_row rows node ≡ None
    → copies_within k rows owner now first folder node ≡ []
unfolding copies_within
copies_nowhere zero rows owner now first folder node none = rw none refl
copies_nowhere (suc k) rows owner now first folder node none = rw none refl

pub copies_leaf : (k : ℕ) (rows : List NodeRow) (owner now first folder node : ℕ) (row : NodeRow) → k ≡ 0 → node_row rows node ≡ Some row
    → copies_within k rows owner now first folder node ≡ copied_row owner now first folder row ∷ []
unfolding copies_within
copies_leaf k rows owner now first folder node row none there = rw none (rw there refl)

pub copies_down : (k j : ℕ) (rows : List NodeRow) (owner now first folder node : ℕ) (row : NodeRow) → j ≡ k + 1 → node_row rows node ≡ Some row
    → copies_within j rows owner now first folder node
    ≡ copied_row owner now first folder row ∷ copies_of_all (copies_within k rows owner now) (first + 1) first (children_of rows node)
unfolding copies_within
copies_down k zero rows owner now first folder node row more there = absurd (omega arith)
copies_down k (suc j) rows owner now first folder node row more there = let e : j ≡ k = omega arith in rw e (rw there refl)

-- the copies of one node more come behind those of the others, with the next numbers
pub copies_more : (copies : ℕ → ℕ → ℕ → List NodeRow) (first folder : ℕ) (nodes : List ℕ) (node : ℕ)
    → copies_of_all copies first folder (nodes ++ node ∷ [])
    ≡ copies_of_all copies first folder nodes ++ copies (first + length (copies_of_all copies first folder nodes)) folder node
copies_more copies first folder [] node =
    let e : first + 0 ≡ first = omega arith in append-nil _ ∙ ap (λ (n : ℕ). copies n folder node) (sym e)
copies_more copies first folder (other ∷ nodes) node =
    let made = copies first folder other in
    let rest = copies_of_all copies (first + length made) folder nodes in
    let e : first + length made + length rest ≡ first + length (made ++ rest) = omega (arith, length-append made rest) in
    ap (λ (list : List NodeRow). made ++ list) (copies_more copies (first + length made) folder nodes node)
    ∙ ap (λ (n : ℕ). made ++ (rest ++ copies n folder node)) e
    ∙ sym (append_assoc made rest (copies (first + length (made ++ rest)) folder node))

-- there are no more copies than nodes
all_few : (copies : ℕ → ℕ → ℕ → List NodeRow) (walk : ℕ → List ℕ) (first folder : ℕ) (nodes : List ℕ)
    → ((first folder node : ℕ) → length (copies first folder node) ≤ length (walk node))
    → length (copies_of_all copies first folder nodes) ≤ length (flat_map walk nodes)
all_few copies walk first folder [] few = omega arith
all_few copies walk first folder (node ∷ nodes) few =
    let made = copies first folder node in
    omega (
      arith,
      length-append made (copies_of_all copies (first + length made) folder nodes),
      length-append (walk node) (flat_map walk nodes),
      few first folder node,
      all_few copies walk (first + length made) folder nodes few,
    )

pub copies_few : (k : ℕ) (rows : List NodeRow) (owner now first folder node : ℕ)
    → length (copies_within k rows owner now first folder node) ≤ length (walk_within k rows node)
unfolding copies_within walk_within
copies_few zero rows owner now first folder node = here (node_row rows node)
  where
    here : (o : Option NodeRow) → length (option_map_or (λ row. copied_row owner now first folder row ∷ []) o []) ≤ 1
    here None = omega arith
    here (Some row) = omega arith
copies_few (suc k) rows owner now first folder node =
    here (node_row rows node) (all_few (copies_within k rows owner now) (walk_within k rows) (first + 1) first (children_of rows node)
    (λ first folder node. copies_few k rows owner now first folder node))
  where
    here : (o : Option NodeRow)
        → length (copies_of_all (copies_within k rows owner now) (first + 1) first (children_of rows node)) ≤ length (flat_map (walk_within k rows) (children_of rows node))
        → length (option_map_or (λ row. copied_row owner now first folder row ∷ copies_of_all (copies_within k rows owner now) (first + 1) first (children_of rows node)) o [])
        ≤ suc (length (flat_map (walk_within k rows) (children_of rows node)))
    here None few = omega arith
    here (Some row) few = omega arith

-- so behind those of the first children, what is under the next one still has numbers
pub copies_leave : (k : ℕ) (rows : List NodeRow) (owner now first folder : ℕ) (nodes : List ℕ) (i d : ℕ) → i < length nodes
    → length (copies_of_all (copies_within k rows owner now) first folder (take i nodes)) + length (walk_within k rows (get_or nodes i d))
    ≤ length (flat_map (walk_within k rows) nodes)
copies_leave k rows owner now first folder [] i d within = absurd (omega arith)
copies_leave k rows owner now first folder (node ∷ nodes) zero d within =
    omega (arith, length-append (walk_within k rows node) (flat_map (walk_within k rows) nodes))
copies_leave k rows owner now first folder (node ∷ nodes) (suc i) d within =
    let made = copies_within k rows owner now first folder node in
    omega (
      arith,
      length-append made (copies_of_all (copies_within k rows owner now) (first + length made) folder (take i nodes)),
      length-append (walk_within k rows node) (flat_map (walk_within k rows) nodes),
      copies_few k rows owner now first folder node,
      copies_leave k rows owner now (first + length made) folder nodes i d (omega arith),
    )
