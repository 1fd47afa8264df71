-- Rows by their numbers, and the folders that a climb passes.
use Rattle.std.proofs.Common.{sym, option_map, if◌then◌else◌, ℕ, suc, zero, ◌+◌, ◌==◌, ◌≡◌, ◌≤◌, Bool, true, List, [], ◌∷◌, Option, None, Some, filter, get_or, refl, ap, subst, ◌∙◌, arith}
use Rattle.std.specs.Prelude.{is_some}
use Rattle.std.specs.List.{All}
use Rattle.std.specs.Option.{option_and_then}
use Rattle.std.proofs.lemmas.Bool.{both_ways, cond_both, eq-eqb, false≢true, ne_eqb}
use Rattle.std.proofs.lemmas.Option.{none-some, option_and_then_some, same_Some}
use Rattle.nf_base.specs.declared.limits.TheConstants.{MAX_DEPTH}
use Rattle.nf_base.specs.declared.rows.NodeRow.{NodeRow}
use Rattle.nf_base.specs.declared.rows.Place.TheVariants.{Inside}
pub use Rattle.nf_defs.proofs.Walks.{node_row_each}
use Rattle.nf_defs.specs.Tree.{climb, depth, depth_within, folder_of, node_row, parent_of}

-- ---- what is there

pub some_there : {X : Type 0} (o : Option X) → is_some o ≡ true → (x : X) × (o ≡ Some x)
some_there None is = absurd (false≢true is)
some_there (Some x) is = (x, refl)

pub map_some : {X Y : Type 0} (f : X → Y) (o : Option X) (y : Y) → option_map f o ≡ Some y → (x : X) × (o ≡ Some x) × (f x ≡ y)
map_some f None y is = absurd (none-some y is)
map_some f (Some x) y is = (x, refl, same_Some (f x) y is)

-- ---- rows by their numbers

-- each row's node is there
pub row_there : (rows : List NodeRow) → All (λ (row : NodeRow). is_some (node_row rows row.id) ≡ true) rows
row_there [] k d within = absurd (omega arith)
row_there (x ∷ rows) zero d within = rw (eq-eqb x.id x.id refl)
row_there (x ∷ rows) (suc k) d within =
    let node = (get_or rows k d).id in
    cond_both (x.id == node) (Some x) (node_row rows node) (λ (o : Option NodeRow). is_some o ≡ true) (λ e. refl)
    (λ e. row_there rows k d (omega arith))

pub parent_at : (rows : List NodeRow) (node folder : ℕ) (row : NodeRow) → node_row rows node ≡ Some row → row.place ≡ Inside folder
    → parent_of rows node ≡ Some folder
parent_at rows node folder row there place = rw there (ap folder_of place)

-- no climb goes further than one that ends where no folder is above
pub climbs_no_further : (k i : ℕ) (rows : List NodeRow) (node root top : ℕ)
    → parent_of rows root ≡ None → climb rows k node ≡ Some root → climb rows i node ≡ Some top → i ≤ k
climbs_no_further k zero rows node root top ends whole is = omega arith
climbs_no_further zero (suc i) rows node root top ends whole is =
    absurd (none-some top (rw (same_Some node root whole, ends) at is))
climbs_no_further (suc k) (suc i) rows node root top ends whole is =
    option_and_then_some (climb rows k) (parent_of rows node) root whole
    (λ parent above whole. omega (arith, climbs_no_further k i rows parent root top ends whole (rw above at is)))

-- a climb goes on from where another ends
pub climb_on : (j k : ℕ) (rows : List NodeRow) (node mid : ℕ) → climb rows j node ≡ Some mid → climb rows (j + k) node ≡ climb rows k mid
climb_on zero k rows node mid is =
    let count : 0 + k ≡ k = omega arith in ap (λ (n : ℕ). climb rows n node) count ∙ ap (climb rows k) (same_Some node mid is)
climb_on (suc j) k rows node mid is =
    option_and_then_some (climb rows j) (parent_of rows node) mid is (λ parent above is.
    let count : suc j + k ≡ suc (j + k) = omega arith in
    ap (λ (n : ℕ). climb rows n node) count ∙ ap (option_and_then (climb rows (j + k))) above ∙ climb_on j k rows parent mid is)

-- so of two climbs from a node the longer goes on from where the shorter ends
pub climb_rest : (j k whole : ℕ) (rows : List NodeRow) (node mid top : ℕ) → whole ≡ j + k → climb rows j node ≡ Some mid
    → climb rows whole node ≡ Some top → climb rows k mid ≡ Some top
climb_rest j k whole rows node mid top is first second =
    sym (climb_on j k rows node mid first) ∙ ap (λ (n : ℕ). climb rows n node) (sym is) ∙ second

-- a climb is the same in other rows, where each node that it passes is in the same folder
pub climb_same : (rows others : List NodeRow) (Passed : ℕ → ℕ → Type 0)
    → ((k node parent : ℕ) → Passed (suc k) node → parent_of rows node ≡ Some parent → Passed k parent)
    → ((k node : ℕ) → Passed (suc k) node → parent_of others node ≡ parent_of rows node)
    → (k node : ℕ) → Passed k node → climb others k node ≡ climb rows k node
climb_same rows others Passed up same zero node passed = refl
climb_same rows others Passed up same (suc k) node passed =
    ap (option_and_then (climb others k)) (same k node passed)
    ∙ here (parent_of rows node) (λ parent above. climb_same rows others Passed up same k parent (up k node parent passed above))
  where
    here : (o : Option ℕ) → ((parent : ℕ) → o ≡ Some parent → climb others k parent ≡ climb rows k parent)
        → option_and_then (climb others k) o ≡ option_and_then (climb rows k) o
    here None rest = refl
    here (Some parent) rest = rest parent refl

-- a node is as deep as the climb from it to one in no folder is long
depth_steps : (k m : ℕ) (rows : List NodeRow) (node root : ℕ) → parent_of rows root ≡ None → k ≤ m → climb rows k node ≡ Some root
    → depth_within m rows node ≡ k
unfolding depth_within
depth_steps zero zero rows node root ends few is = refl
depth_steps zero (suc m) rows node root ends few is = rw (same_Some node root is, ends)
depth_steps (suc k) zero rows node root ends few is = absurd (omega arith)
depth_steps (suc k) (suc m) rows node root ends few is =
    option_and_then_some (climb rows k) (parent_of rows node) root is
    (λ parent above is. rw above (omega (arith, depth_steps k m rows parent root ends (omega arith) is)))

pub depth_is : (k : ℕ) (rows : List NodeRow) (node root : ℕ) → parent_of rows root ≡ None → k ≤ MAX_DEPTH → climb rows k node ≡ Some root
    → depth rows node ≡ k
unfolding depth
depth_is k rows node root ends few is = depth_steps k MAX_DEPTH rows node root ends few is

-- ---- the rows whose numbers pass a test

abbrev pub those : (ℕ → Bool) → List NodeRow → List NodeRow
those test rows = filter (λ row. test row.id) rows

pub row_of_those : (test : ℕ → Bool) (rows : List NodeRow) (node : ℕ) → test node ≡ true → node_row (those test rows) node ≡ node_row rows node
row_of_those test [] node passes = refl
row_of_those test (x ∷ rows) node passes =
    let rest = row_of_those test rows node passes in
    cond_both (test x.id) (x ∷ those test rows) (those test rows) (λ left. node_row left node ≡ node_row (x ∷ rows) node)
    (λ e. ap (λ (o : Option NodeRow). if x.id == node then Some x else o) rest)
    (λ e. rest ∙ simp (ne_eqb x.id node (λ same. both_ways (test x.id) e (rw same passes))))

-- the folder of what passes passes
abbrev pub IsClosed : List NodeRow → (ℕ → Bool) → Type 0
IsClosed rows test = (node parent : ℕ) → parent_of rows node ≡ Some parent → test node ≡ true → test parent ≡ true

-- then a climb from there stays the same
pub climb_those : (test : ℕ → Bool) (rows : List NodeRow) → IsClosed rows test → (k node : ℕ) → test node ≡ true → climb (those test rows) k node ≡ climb rows k node
climb_those test rows up k node passes =
    climb_same rows (those test rows) (λ k node. test node ≡ true) (λ k node parent passes above. up node parent above passes)
    (λ k node passes. ap (option_and_then (λ row. folder_of row.place)) (row_of_those test rows node passes)) k node passes

-- and what passes climbs to what passes
pub climb_passes : (test : ℕ → Bool) (rows : List NodeRow) → IsClosed rows test → (k node top : ℕ) → climb rows k node ≡ Some top
    → test node ≡ true → test top ≡ true
climb_passes test rows closed zero node top is passes = subst (λ (n : ℕ). test n ≡ true) (same_Some node top is) passes
climb_passes test rows closed (suc k) node top is passes =
    option_and_then_some (climb rows k) (parent_of rows node) top is (λ parent above is.
    climb_passes test rows closed k parent top is (closed node parent above passes))
