-- Rows where that of one node is changed.
use Rattle.std.proofs.Common.{ℕ, suc, zero, ◌+◌, ◌<◌, ◌==◌, ◌≡◌, ◌≢◌, ◌⊎◌, ◌≤◌, Bool, true, false, List, [], ◌∷◌, Option, None, Some, filter, option_map, if◌then◌else◌, length, get_or, refl, sym, ap, subst, ◌∙◌, inl, inr, arith}
use Rattle.std.specs.List.{All, AllPairs}
use Rattle.std.specs.Option.{option_map_or}
use Rattle.std.proofs.lemmas.Bool.{both_ways, cases_Bool, cond_both, eq-eqb, eqb-true, ne_eqb}
use Rattle.std.proofs.lemmas.List.Elements.{All-cons, All-head, All-tail}
use Rattle.std.proofs.lemmas.List.Sums.{sum_by-cons}
use Rattle.nf_base.specs.declared.rows.NodeRow.{NodeRow}
use Rattle.nf_defs.specs.Tree.{node_row, piece_count, with_node}

-- a change of a row, but not of its number
abbrev pub KeepsId : (NodeRow → NodeRow) → Type 0
KeepsId change = (row : NodeRow) → (change row).id ≡ row.id

-- the row of the node itself, and of another one
pub row_itself : (rows : List NodeRow) (node : ℕ) (change : NodeRow → NodeRow) → KeepsId change
    → node_row (with_node rows node change) node ≡ option_map change (node_row rows node)
row_itself [] node change keeps = refl
row_itself (row ∷ rows) node change keeps =
    elim (cases_Bool (row.id == node)) [
      | inl e ↦ (let same : ((change row).id == node) ≡ true = rw (keeps row) e in simp (e, same))
      | inr e ↦ simp e (row_itself rows node change keeps)
    ]

pub row_other : (rows : List NodeRow) (node : ℕ) (change : NodeRow → NodeRow) → KeepsId change → (other : ℕ) → (other == node) ≡ false
    → node_row (with_node rows node change) other ≡ node_row rows other
row_other [] node change keeps other differs = refl
row_other (row ∷ rows) node change keeps other differs =
    elim (cases_Bool (row.id == node)) [
      | inl e ↦
          (let before : (row.id == other) ≡ false =
          ne_eqb row.id other (λ same. both_ways (other == node) differs (eq-eqb other node (sym same ∙ eqb-true row.id node e))) in
          let after : ((change row).id == other) ≡ false = rw (keeps row) before in simp (e, before, after))
      | inr e ↦ simp e (ap (λ (o : Option NodeRow). if row.id == other then Some row else o) (row_other rows node change keeps other differs))
    ]

-- so the row of a node is the old one, changed where it is that node's
pub row_with : (rows : List NodeRow) (node : ℕ) (change : NodeRow → NodeRow) → KeepsId change → (other : ℕ)
    → node_row (with_node rows node change) other ≡ (if other == node then option_map change (node_row rows other) else node_row rows other)
row_with rows node change keeps other =
    cond_both (other == node) (option_map change (node_row rows other)) (node_row rows other) (λ o. node_row (with_node rows node change) other ≡ o)
    (λ e. subst (λ (n : ℕ). node_row (with_node rows node change) n ≡ option_map change (node_row rows n)) (sym (eqb-true other node e))
    (row_itself rows node change keeps))
    (row_other rows node change keeps other)

-- ---- row by row

-- the row is the old one, or the node's and changed
abbrev pub IsEither : List NodeRow → ℕ → (NodeRow → NodeRow) → NodeRow → NodeRow → Type 0
IsEither rows node change old row = (row ≡ old) ⊎ ((node_row rows node ≡ Some old) × (row ≡ change old))

-- and so it is at each place
pub each_either : (rows : List NodeRow) (node : ℕ) (change : NodeRow → NodeRow) (k : ℕ) (d : NodeRow)
    → IsEither rows node change (get_or rows k d) (get_or (with_node rows node change) k d)
each_either [] node change k d = inl refl
each_either (row ∷ rows) node change k d = here (row.id == node) k refl (λ k. each_either rows node change k d)
  where
    here : (a : Bool) (k : ℕ) → (row.id == node) ≡ a
        → ((k : ℕ) → IsEither rows node change (get_or rows k d) (get_or (with_node rows node change) k d))
        → IsEither (row ∷ rows) node change (get_or (row ∷ rows) k d) (get_or (with_node (row ∷ rows) node change) k d)
    here true zero e rest = inr (simp e, simp e)
    here true (suc k) e rest = inl (simp e)
    here false zero e rest = inl (simp e)
    here false (suc k) e rest = simp e (rest k)

-- what no change of the row changes
pub same_either : {X : Type 0} (of : NodeRow → X) (rows : List NodeRow) (node : ℕ) (change : NodeRow → NodeRow) (old row : NodeRow)
    → ((row : NodeRow) → of (change row) ≡ of row) → IsEither rows node change old row → of row ≡ of old
same_either of rows node change old row keeps (inl e) = ap of e
same_either of rows node change old row keeps (inr h) = ap of h.1 ∙ keeps old

-- ---- all rows

pub length_with : (rows : List NodeRow) (node : ℕ) (change : NodeRow → NodeRow) → length (with_node rows node change) ≡ length rows
length_with [] node change = refl
length_with (row ∷ rows) node change =
    cond_both (row.id == node) (change row ∷ rows) (row ∷ with_node rows node change) (λ made. length made ≡ length (row ∷ rows))
    (λ e. refl) (λ e. ap suc (length_with rows node change))

pieces_of : (row : NodeRow) (rows : List NodeRow) → piece_count (row ∷ rows) ≡ length row.content + piece_count rows
pieces_of = sum_by-cons (λ row. length row.content)

-- no more pieces than the change brings
pub pieces_with : (rows : List NodeRow) (node : ℕ) (change : NodeRow → NodeRow) (more : ℕ)
    → ((row : NodeRow) → node_row rows node ≡ Some row → length (change row).content ≤ more + length row.content)
    → piece_count (with_node rows node change) ≤ more + piece_count rows
pieces_with [] node change more few = omega arith
pieces_with (row ∷ rows) node change more few =
    cond_both (row.id == node) (change row ∷ rows) (row ∷ with_node rows node change)
    (λ made. piece_count made ≤ more + piece_count (row ∷ rows))
    (λ e. omega (arith, few row (rw e refl), pieces_of (change row) rows, pieces_of row rows))
    (λ e.
    let rest = pieces_with rows node change more (λ row is. few row (rw e is)) in
    omega (arith, rest, pieces_of row (with_node rows node change), pieces_of row rows))

-- what each row has and the changed one of the node has, all have
pub with_each : (P Q : NodeRow → Type 0) (rows : List NodeRow) (node : ℕ) (change : NodeRow → NodeRow)
    → ((row : NodeRow) → Q row → P row) → ((row : NodeRow) → node_row rows node ≡ Some row → Q row → P (change row))
    → All Q rows → All P (with_node rows node change)
with_each P Q rows node change same changed all k d within =
    let old : Q (get_or rows k d) = all k d (omega (arith, length_with rows node change)) in
    elim (each_either rows node change k d) [ inl e ↦ subst P (sym e) (same _ old) | inr h ↦ subst P (sym h.1) (changed _ h.0 old) ]

-- where rows rise, each row but that of the node is another node's
pub with_others : (P Q : NodeRow → Type 0) (rows : List NodeRow) (node : ℕ) (change : NodeRow → NodeRow)
    → AllPairs (λ (a b : NodeRow). a.id < b.id) rows → ((row : NodeRow) → row.id ≢ node → Q row → P row)
    → ((row : NodeRow) → node_row rows node ≡ Some row → Q row → P (change row)) → All Q rows → All P (with_node rows node change)
with_others P Q [] node change rising same changed all = λ k d within. absurd (omega (arith, within))
with_others P Q (row ∷ rows) node change rising same changed all =
    cond_both (row.id == node) (change row ∷ rows) (row ∷ with_node rows node change) (All P)
    (λ e.
    All-cons P (change row) rows (changed row (rw e refl) (All-head Q row rows all))
    (λ k d within.
    same (get_or rows k d) (λ is. absurd (omega (arith, rising 0 (suc k) d (omega arith) (omega (arith, within)), is, eqb-true row.id node e)))
    (All-tail Q row rows all k d within)))
    (λ e.
    All-cons P row (with_node rows node change)
    (same row (λ is. both_ways (row.id == node) e (eq-eqb row.id node is)) (All-head Q row rows all))
    (with_others P Q rows node change (λ i j d before within. rising (suc i) (suc j) d (omega (arith, before)) (omega (arith, within))) same
    (λ row is. changed row (rw e is)) (All-tail Q row rows all)))

-- so what a change of a row keeps
pub with_all : (P : NodeRow → Type 0) (rows : List NodeRow) (node : ℕ) (change : NodeRow → NodeRow)
    → ((row : NodeRow) → P row → P (change row)) → All P rows → All P (with_node rows node change)
with_all P rows node change keeps = with_each P P rows node change (λ row h. h) (λ row is h. keeps row h)

-- the rows that pass a test stay, where neither the old row passes nor the changed one
pub filter_with : (p : NodeRow → Bool) (rows : List NodeRow) (node : ℕ) (change : NodeRow → NodeRow)
    → ((row : NodeRow) → node_row rows node ≡ Some row → (p row ≡ false) × (p (change row) ≡ false))
    → filter p (with_node rows node change) ≡ filter p rows
filter_with p [] node change fail = refl
filter_with p (x ∷ rows) node change fail =
    cond_both (x.id == node) (change x ∷ rows) (x ∷ with_node rows node change) (λ made. filter p made ≡ filter p (x ∷ rows))
    (λ e. let both = fail x (simp e) in simp (both.0, both.1))
    (λ e. ap (λ (left : List NodeRow). if p x then x ∷ left else left) (filter_with p rows node change (λ row is. fail row (simp e is))))

-- what all numbers of nodes have
pub numbers_with : (P : ℕ → Type 0) (rows : List NodeRow) (node : ℕ) (change : NodeRow → NodeRow) → KeepsId change
    → All (λ (row : NodeRow). P row.id) rows → All (λ (row : NodeRow). P row.id) (with_node rows node change)
numbers_with P rows node change keeps = with_all (λ (row : NodeRow). P row.id) rows node change (λ row h. subst P (sym (keeps row)) h)

pub rising_with : (rows : List NodeRow) (node : ℕ) (change : NodeRow → NodeRow) → KeepsId change
    → AllPairs (λ (a b : NodeRow). a.id < b.id) rows → AllPairs (λ (a b : NodeRow). a.id < b.id) (with_node rows node change)
rising_with rows node change keeps rising i j d before within =
    let same = λ (k : ℕ). same_either (λ (r : NodeRow). r.id) rows node change (get_or rows k d) (get_or (with_node rows node change) k d) keeps
    (each_either rows node change k d) in
    omega (arith, rising i j d before (omega (arith, length_with rows node change)), same i, same j)

-- ---- values of a node's row

pub value_with : {X : Type 0} (of : NodeRow → X) (none : X) (rows : List NodeRow) (node : ℕ) (change : NodeRow → NodeRow) → KeepsId change
    → ((row : NodeRow) → of (change row) ≡ of row) → (other : ℕ)
    → option_map_or of (node_row (with_node rows node change) other) none ≡ option_map_or of (node_row rows other) none
value_with {X = X} of none rows node change keeps same other =
    ap (λ (o : Option NodeRow). option_map_or of o none) (row_with rows node change keeps other)
    ∙ cond_both (other == node) (option_map change (node_row rows other)) (node_row rows other)
    (λ o. option_map_or of o none ≡ option_map_or of (node_row rows other) none) (λ e. changed (node_row rows other)) (λ e. refl)
  where
    changed : (o : Option NodeRow) → option_map_or of (option_map change o) none ≡ option_map_or of o none
    changed None = refl
    changed (Some row) = same row
