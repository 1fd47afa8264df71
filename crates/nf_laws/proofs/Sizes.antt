-- A size is the sum of the bytes under a node: no node is counted twice, so they are no more than those of all nodes.
use Rattle.std.proofs.Common.{ℕ, suc, ◌+◌, ◌*◌, ◌==◌, ◌≡◌, ◌≤◌, List, [], ◌∷◌, length, if◌then◌else◌, refl, sym, ◌∙◌, inl, inr, arith}
use Rattle.std.specs.Prelude.{min, sum_by}
use Rattle.std.specs.List.{All}
use Rattle.std.proofs.lemmas.Bool.{cases_Bool, eqb-true, ne_eqb}
use Rattle.std.proofs.lemmas.List.Elements.{All-head, All-tail, All-weaker}
use Rattle.std.proofs.lemmas.List.Sums.{sum_by-cons, sum_by-le}
use Rattle.nf_base.specs.declared.limits.TheConstants.{MAX_BODY}
use Rattle.nf_base.specs.declared.content.Piece.{Piece}
use Rattle.nf_base.specs.declared.rows.NodeRow.{NodeRow}
use Rattle.nf_defs.specs.Prelude.{piece_count, Tables, walk_of}
use Rattle.nf_laws.proofs.Walked.{AreDistinct, walk_distinct}
use Rattle.nf_laws.specs.Tree.{SizesAreSums}
use Rattle.nf_words.specs.Prelude.{AreSound, bytes_of, IsNodeSound, IsPieceSound, last_number}

-- ---- sums over some nodes

-- the bytes of a row
abbrev pub weight : NodeRow → ℕ
weight row = sum_by (λ piece. piece.size) row.content

-- those of a node, if it is that one
abbrev pub weight_if : ℕ → ℕ → ℕ → ℕ
weight_if w id node = if id == node then w else 0

pub nothing : {X : Type 0} (f : X → ℕ) (xs : List X) → All (λ (x : X). f x ≡ 0) xs → sum_by f xs ≡ 0
nothing f [] none = refl
nothing f (x ∷ xs) none =
    let rest = nothing f xs (All-tail (λ x. f x ≡ 0) x xs none) in
    omega (arith, sum_by-cons f x xs, All-head (λ x. f x ≡ 0) x xs none, rest)

-- one node counts once
counts_once : (w id : ℕ) (nodes : List ℕ) → AreDistinct nodes → sum_by (weight_if w id) nodes ≤ w
counts_once w id [] distinct = omega arith
counts_once w id (n ∷ nodes) distinct =
    let rest = counts_once w id nodes (λ i j d before within. distinct (suc i) (suc j) d (omega arith) (omega arith)) in
    elim (cases_Bool (id == n)) [
      | inl same ↦
          (let is = eqb-true id n same in
          let others = nothing (weight_if w id) nodes (λ k d within.
          rw (ne_eqb id _ (λ e. distinct 0 (suc k) d (omega arith) (omega arith) (sym is ∙ e))) refl) in
          let first : weight_if w id n ≡ w = rw same refl in omega (arith, sum_by-cons (weight_if w id) n nodes, others, first))
      | inr differs ↦
          (let first : weight_if w id n ≡ 0 = rw differs refl in omega (arith, sum_by-cons (weight_if w id) n nodes, rest, first))
    ]

-- with a row more its node weighs at most that more
row_more : (row : NodeRow) (rows : List NodeRow) (node : ℕ)
    → bytes_of (row ∷ rows) node ≤ weight_if (weight row) row.id node + bytes_of rows node
row_more row rows node = elim (cases_Bool (row.id == node)) [ inl same ↦ rw same (omega arith) | inr differs ↦ rw differs (omega arith) ]

rows_more : (row : NodeRow) (rows : List NodeRow) (nodes : List ℕ)
    → sum_by (bytes_of (row ∷ rows)) nodes ≤ sum_by (weight_if (weight row) row.id) nodes + sum_by (bytes_of rows) nodes
rows_more row rows [] = omega arith
rows_more row rows (n ∷ nodes) =
    omega (
      arith,
      sum_by-cons (bytes_of (row ∷ rows)) n nodes,
      sum_by-cons (weight_if (weight row) row.id) n nodes,
      sum_by-cons (bytes_of rows) n nodes,
      row_more row rows n,
      rows_more row rows nodes,
    )

-- so no nodes weigh more than all rows
within_all : (rows : List NodeRow) (nodes : List ℕ) → AreDistinct nodes → sum_by (bytes_of rows) nodes ≤ sum_by weight rows
within_all [] nodes distinct = omega (arith, nothing (bytes_of []) nodes (λ k d within. refl))
within_all (row ∷ rows) nodes distinct =
    omega (
      arith,
      rows_more row rows nodes,
      counts_once (weight row) row.id nodes distinct,
      within_all rows nodes distinct,
      sum_by-cons weight row rows,
    )

-- ---- sums over all rows

-- `MAX_BODY` bytes a piece at most
abbrev HasFew : NodeRow → Type 0
HasFew row = weight row ≤ length row.content * MAX_BODY

pub few_each : (t : Tables) → AreSound t → All HasFew t.nodes
few_each t sound =
    All-weaker (IsNodeSound t) HasFew (λ row is.
    sum_by-le (λ piece. piece.size) MAX_BODY row.content
    (All-weaker (IsPieceSound t) (λ (piece : Piece). piece.size ≤ MAX_BODY) (λ piece h. h.few) row.content is.pieces)) t.nodes sound.nodes

pub few_all : (rows : List NodeRow) → All HasFew rows → sum_by weight rows ≤ piece_count rows * MAX_BODY
few_all [] few = omega arith
few_all (row ∷ rows) few =
    omega (
      arith,
      sum_by-cons weight row rows,
      sum_by-cons (λ row. length row.content) row rows,
      All-head HasFew row rows few,
      few_all rows (All-tail HasFew row rows few),
    )

-- ---- the law

least : (a b : ℕ) → a ≤ b → min a b ≡ a
least a b few = omega (arith, few)

pub sizes_sum : SizesAreSums
sizes_sum t node sound =
    least (sum_by (bytes_of t.nodes) (walk_of t.nodes node)) last_number
    (omega (
      arith,
      within_all t.nodes (walk_of t.nodes node) (walk_distinct t node sound),
      few_all t.nodes (few_each t sound),
      sound.few_pieces,
    ))
