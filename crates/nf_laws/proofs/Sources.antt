-- What is under the source of a MOVE or a COPY, where something goes at the target.
use Rattle.std.proofs.Common.{ℕ, zero, suc, ◌≡◌, ◌<◌, Bool, true, false, List, [], ◌∷◌, ◌++◌, Some, filter, if◌then◌else◌, refl, ap, ◌∙◌, arith}
use Rattle.std.specs.List.{All, flat_map}
use Rattle.std.specs.Prelude.{is_some}
use Rattle.std.proofs.lemmas.Bool.{cond_both}
use Rattle.std.proofs.lemmas.List.Elements.{All-head, All-tail, All-weaker}
use Rattle.nf_base.specs.declared.rows.NodeRow.{NodeRow}
use Rattle.nf_defs.proofs.Walks.{IsChildOf, children_are}
use Rattle.nf_defs.specs.Prelude.{children_of, climb, is_under, node_row, Tables, walk_within}
use Rattle.nf_laws.proofs.Climbs.{parent_at, some_there}
use Rattle.nf_laws.proofs.Puts.{under_there}
use Rattle.nf_laws.proofs.Rows.{row_is}
use Rattle.nf_words.specs.Prelude.{AreSound}

-- ---- nodes that are there

pub was_given : (t : Tables) (node : ℕ) (row : NodeRow) → AreSound t → node_row t.nodes node ≡ Some row → node < t.meta.next_node
was_given t node row sound there =
    let h = row_is t node row sound there in omega (arith, h.0, h.1.given)

-- so were the numbers of what is under a node that is there
pub under_given : (t : Tables) (top node : ℕ) (row : NodeRow) → AreSound t → node_row t.nodes top ≡ Some row → is_under t.nodes node top ≡ true
    → node < t.meta.next_node
under_given t top node row sound there under =
    let row = some_there (node_row t.nodes node) (under_there t.nodes node top (ap is_some there) under) in
    was_given t node row.0 sound row.1

-- ---- rows that are left

-- where all that a second test keeps out fails the first, the first alone says what is left
pub filter_left : (p q : NodeRow → Bool) (rows : List NodeRow) → All (λ (row : NodeRow). q row ≡ false → p row ≡ false) rows
    → filter p (filter q rows) ≡ filter p rows
filter_left p q [] own = refl
filter_left p q (x ∷ rows) own =
    let rest = filter_left p q rows (All-tail (λ (row : NodeRow). q row ≡ false → p row ≡ false) x rows own) in
    cond_both (q x) (x ∷ filter q rows) (filter q rows) (λ left. filter p left ≡ filter p (x ∷ rows))
    (λ e. ap (λ (left : List NodeRow). if p x then x ∷ left else left) rest)
    (λ e. rest ∙ simp (All-head (λ (row : NodeRow). q row ≡ false → p row ≡ false) x rows own e))

-- ---- a folder under the moved node

-- ---- walks

flat_map_same : (f g : ℕ → List ℕ) (xs : List ℕ) → All (λ (x : ℕ). f x ≡ g x) xs → flat_map f xs ≡ flat_map g xs
flat_map_same f g [] all = refl
flat_map_same f g (x ∷ xs) all =
    let first = All-head (λ (x : ℕ). f x ≡ g x) x xs all in
    let rest = flat_map_same f g xs (All-tail (λ (x : ℕ). f x ≡ g x) x xs all) in
    rw first (ap (λ (ys : List ℕ). g x ++ ys) rest)

-- where each folder under a node has the same children, the node has the same walk
pub walk_by : (k : ℕ) (t : Tables) (after : List NodeRow) (top : ℕ) → AreSound t
    → ((j folder : ℕ) → climb t.nodes j folder ≡ Some top → children_of after folder ≡ children_of t.nodes folder)
    → (j folder : ℕ) → climb t.nodes j folder ≡ Some top → walk_within k after folder ≡ walk_within k t.nodes folder
unfolding walk_within
walk_by zero t after top sound same j folder under = refl
walk_by (suc k) t after top sound same j folder under =
    let all : All (λ (child : ℕ). walk_within k after child ≡ walk_within k t.nodes child) (children_of t.nodes folder) =
    All-weaker (IsChildOf t.nodes folder) (λ (child : ℕ). walk_within k after child ≡ walk_within k t.nodes child)
    (λ child is.
    let above = parent_at t.nodes child folder is.row is.there is.place in
    walk_by k t after top sound same (suc j) child (rw above under))
    (children_of t.nodes folder) (children_are t.nodes folder sound.rising) in
    ap (λ (children : List ℕ). folder ∷ flat_map (walk_within k after) children) (same j folder under)
    ∙ ap (λ (nodes : List ℕ). folder ∷ nodes) (flat_map_same (walk_within k after) (walk_within k t.nodes) (children_of t.nodes folder) all)
