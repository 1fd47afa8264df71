-- The sums of what is under the rows' nodes, where rows change, move or go.
use Rattle.std.proofs.Common.{ℕ, ◌+◌, ◌<◌, ◌≡◌, ◌==◌, true, List, [], Option, Some, None, refl, sym, ap, ◌∙◌, subst, inl, inr, arith, length, get_or, set, take, swap, min}
use Rattle.std.specs.Prelude.{IsSome}
use Rattle.std.specs.List.{SwappedAt, position, remove}
use Rattle.std.proofs.lemmas.Bool.{cases_eq, cases_lt, eqb-true}
use Rattle.std.proofs.lemmas.List.{get_or_default, get_or_read, get_or-set_same, get_or-set_other, get_or-take, length-set, length-take, set-set}
use Rattle.std.proofs.lemmas.List.Edits.{get_or-remove_above, get_or-remove_below, length-remove, length-swap, swap_is}
use Rattle.std.proofs.lemmas.List.Quantifiers.{position-Some}
use Rattle.nf_base.specs.Content.{size_of}
use Rattle.nf_base.specs.declared.content.Piece.{Piece}
use Rattle.nf_base.specs.declared.rows.NodeRow.{NodeRow}
use Rattle.nf_charge.specs.Sums.{AreRisingNodes, AreSums, AreWeighed, IsLifted, IsRefill, LeadUp, bytes_under}
use Rattle.nf_defs.specs.Tree.{filled, is_leaf, node_row, trashed, with_node, without_under}
use Rattle.nf_charge.proofs.Positions.{is_there, no_row}
use Rattle.nf_charge.proofs.Leading.{leads_lifted, leads_without, sums_without}
use Rattle.nf_tree.proofs.Removed.{leaf_removed}
use Rattle.nf_tree.proofs.Trees.{changed_node, node_within, number_kept}

-- ---- no rows

pub none_lead : LeadUp []
none_lead = λ k d within. absurd (omega arith)

pub no_sums : AreSums [] []
no_sums = record {
  weighed = record { long = refl; each = λ k d within. absurd (omega arith) };
  sized = λ k d within. absurd (omega arith);
}

-- ---- the sum at a node's place

pub weighed_there : (rows : List NodeRow) (at node : ℕ) (sums : List ℕ) → Some at ≡ position (λ row. row.id == node) rows → AreSums rows sums
    → get_or sums at 0 ≡ bytes_under rows node
weighed_there rows at node sums found are =
    let first = position-Some (λ (row : NodeRow). row.id == node) rows at no_row (sym found) in
    are.weighed.each at no_row first.0 ∙ ap (bytes_under rows) (eqb-true (get_or rows at no_row).id node first.1)

-- ---- rows in the place of others

-- a row with another content
pub refills : (rows : List NodeRow) (at : ℕ) (row old : NodeRow) (content : List Piece) (moment bytes : ℕ) → at < length rows → old ≡ get_or rows at old
    → row ≡ filled content moment old → bytes ≡ size_of content → IsRefill rows at row bytes
refills rows at row old content moment bytes there is new size =
    let read = get_or_read rows at old there is row in
    record {
      same = ap (λ (r : NodeRow). r.id) new ∙ ap (λ (r : NodeRow). r.id) read;
      placed = ap (λ (r : NodeRow). r.place) new ∙ ap (λ (r : NodeRow). r.place) read;
      filled = ap (λ (r : NodeRow). size_of r.content) new ∙ sym size;
    }

-- a row in the trash
pub lifted : (rows : List NodeRow) (at : ℕ) (row old : NodeRow) → at < length rows → old ≡ get_or rows at old → row.id ≡ old.id → row.content ≡ old.content
    → IsLifted rows at (trashed row)
lifted rows at row old there is same content =
    let read = get_or_read rows at old there is (trashed row) in
    record {
      same = same ∙ ap (λ (r : NodeRow). r.id) read;
      alone = refl;
      filled = ap size_of content ∙ ap (λ (r : NodeRow). size_of r.content) read;
    }

-- so is a row that takes its place there
pub lifted_set : (rows : List NodeRow) (at : ℕ) (row : NodeRow) → at < length rows → IsLifted (set rows at row) at (trashed row)
lifted_set rows at row there =
    lifted (set rows at row) at row row (let long = length-set rows at row in omega arith) (sym (get_or-set_same rows at row row there)) refl refl

pub sums_set : (rows : List NodeRow) (at : ℕ) (row : NodeRow) (sums : List ℕ) → AreSums (set rows at (trashed row)) sums
    → AreSums (set (set rows at row) at (trashed row)) sums
sums_set rows at row sums are = subst (λ list. AreSums list sums) (sym (set-set rows at row (trashed row))) are

-- ---- what is weighed stays so

module _ (all rows : List NodeRow) (sums : List ℕ) where
  -- with another row of the same node
  pub weighed_as_was : (at : ℕ) (row : NodeRow) → at < length rows → IsLifted rows at row → AreWeighed all (set rows at row) sums
      → AreWeighed all rows sums
  weighed_as_was at row there lift weighed = record {
    long = weighed.long ∙ length-set rows at row;
    each = λ k d within.
        weighed.each k d (let long = length-set rows at row in omega arith)
        ∙ ap (bytes_under all) (number_kept rows at k row d there (lift.same ∙ ap (λ (r : NodeRow). r.id) (get_or_default rows at row d there)));
  }

  module _ (weighed : AreWeighed all rows sums) where
    pub weighed_removed : (at : ℕ) → at < length rows → AreWeighed all (remove rows at) (remove sums at)
    weighed_removed at there = record {
      long = let e = length-remove rows at there in let f = length-remove sums at inside in let g = weighed.long in omega arith;
      each = λ k d within.
          let e = length-remove rows at there in
          elim (cases_lt k at) [
            | inl less ↦ get_or-remove_below sums at 0 k less inside ∙ weighed.each k d (omega arith)
                ∙ ap (λ (r : NodeRow). bytes_under all r.id) (sym (get_or-remove_below rows at d k less there))
            | inr past ↦ get_or-remove_above sums at 0 k past inside ∙ weighed.each (k + 1) d (omega arith)
                ∙ ap (λ (r : NodeRow). bytes_under all r.id) (sym (get_or-remove_above rows at d k past there))
          ];
    }
      where
        inside : at < length sums
        inside = let e = weighed.long in omega arith

    pub weighed_taken : (n : ℕ) → AreWeighed all (take n rows) (take n sums)
    weighed_taken n = record {
      long = length-take n sums ∙ ap (λ long. min n long) weighed.long ∙ sym (length-take n rows);
      each = λ k d within.
          let e = length-take n rows in
          get_or-take n sums k 0 (omega arith) ∙ weighed.each k d (omega arith)
          ∙ ap (λ (r : NodeRow). bytes_under all r.id) (sym (get_or-take n rows k d (omega arith)));
    }

    pub weighed_swapped : (others : List NodeRow) (a b : ℕ) → a < length rows → b < length rows → length others ≡ length rows → SwappedAt rows others a b
        → AreWeighed all others (swap sums a b)
    weighed_swapped others a b in_a in_b long swapped = record {
      long = length-swap sums a b ∙ weighed.long ∙ sym long;
      each = λ k d within. ap (λ list. get_or list k 0) (sym swaps) ∙ elim (cases_eq k b) [
        | inl is ↦ subst (λ k. get_or exchanged k 0 ≡ bytes_under all (get_or others k d).id) (sym is)
            (get_or-set_same first b (get_or sums a 0) 0 (let e = length-set sums a (get_or sums b 0) in omega arith)
            ∙ weighed.each a d in_a ∙ ap (λ (r : NodeRow). bytes_under all r.id) (sym (swapped.1 d)))
        | inr differ ↦ get_or-set_other first b k (get_or sums a 0) 0 differ ∙ elim (cases_eq k a) [
          | inl is ↦ subst (λ k. get_or first k 0 ≡ bytes_under all (get_or others k d).id) (sym is)
              (get_or-set_same sums a (get_or sums b 0) 0 sum_a ∙ weighed.each b d in_b ∙ ap (λ (r : NodeRow). bytes_under all r.id) (sym (swapped.0 d)))
          | inr apart ↦ get_or-set_other sums a k (get_or sums b 0) 0 apart ∙ weighed.each k d (omega arith)
              ∙ ap (λ (r : NodeRow). bytes_under all r.id) (sym (swapped.2 k d apart differ))
        ]
      ];
    }
      where
        sum_a : a < length sums
        sum_a = let e = weighed.long in omega arith

        sum_b : b < length sums
        sum_b = let e = weighed.long in omega arith

        first : List ℕ
        first = set sums a (get_or sums b 0)

        exchanged : List ℕ
        exchanged = set first b (get_or sums a 0)

        swaps : exchanged ≡ swap sums a b
        swaps = swap_is sums a b 0 sum_a sum_b

-- ---- what is under a top goes

-- the row at a place in the trash
pub lifted_there : (rows : List NodeRow) (at : ℕ) → at < length rows → IsLifted rows at (trashed (get_or rows at no_row))
lifted_there rows at there =
    let row = get_or rows at no_row in
    lifted rows at row row there (get_or_default rows at no_row row there) refl refl

-- the sums that are right when a row is lifted, for the row at a node's place
pub sums_lifted : (rows : List NodeRow) (at node : ℕ) (read : List NodeRow) (sums : List ℕ) → read ≡ rows → Some at ≡ position (λ row. row.id == node) rows
    → ((row : NodeRow) → IsLifted read at row → AreSums (set read at row) sums) → AreSums (set rows at (trashed (get_or rows at no_row))) sums
sums_lifted rows at node read sums same found sound =
    subst (λ list. (row : NodeRow) → IsLifted list at row → AreSums (set list at row) sums) same sound (trashed (get_or rows at no_row))
    (lifted_there rows at (node_within rows at node no_row found))

-- a node that is put in the trash leads up there, and so does each other
pub leads_trashed : (rows : List NodeRow) (node : ℕ) → AreRisingNodes rows → LeadUp rows → IsSome (node_row rows node)
    → LeadUp (with_node rows node trashed)
leads_trashed rows node rising leads there = from (position (λ (row : NodeRow). row.id == node) rows) refl (is_there rows node there)
  where
    from : (found : Option ℕ) → found ≡ position (λ (row : NodeRow). row.id == node) rows → IsSome found → LeadUp (with_node rows node trashed)
    from (Some at) is some =
        let old = get_or rows at no_row in
        let within = node_within rows at node no_row is in
        subst LeadUp (changed_node rows at old node trashed is (get_or_default rows at no_row old within))
        (leads_lifted rows at (trashed old) rising leads within (lifted_there rows at within))
    from None is none = absurd (cc)

-- the sums of what is left
module _ (rows : List NodeRow) (top : ℕ) (before left : List ℕ) (rising : AreRisingNodes rows) (leads : LeadUp rows) (sums : AreSums rows before) where
  pub sums_left : (at : ℕ) (after : List ℕ) → Some at ≡ position (λ row. row.id == top) rows
      → AreSums (set rows at (trashed (get_or rows at no_row))) after
      → ((all : List NodeRow) → AreWeighed all rows after → AreWeighed all (without_under rows top) left) → AreSums (without_under rows top) left
  sums_left at after found are kept =
      let first = position-Some (λ (row : NodeRow). row.id == top) rows at no_row (sym found) in
      let row : NodeRow = trashed (get_or rows at no_row) in
      let lift = lifted_there rows at first.0 in
      let same = eqb-true (get_or rows at no_row).id top first.1 in
      let weighed = kept (set rows at row) (weighed_as_was (set rows at row) rows after at row first.0 lift are.weighed) in
      let named = subst (λ node. AreWeighed (set rows at row) (without_under rows node) left) (sym same) weighed in
      subst (λ node. AreSums (without_under rows node) left) same (sums_without rows at row left rising leads first.0 lift named sums.sized)

-- ---- a leaf goes

module _ (rows : List NodeRow) (leaf at : ℕ) (rising : AreRisingNodes rows) (leads : LeadUp rows) (is : is_leaf rows leaf ≡ true)
    (found : Some at ≡ position (λ row. row.id == leaf) rows) where
  rest : remove rows at ≡ without_under rows leaf
  rest = leaf_removed rows leaf at rising is found

  pub leaf_leads : LeadUp (remove rows at)
  leaf_leads = subst LeadUp (sym rest) (leads_without rows leaf rising leads)

  pub leaf_sums : (before after : List ℕ) → AreSums rows before → AreSums (set rows at (trashed (get_or rows at no_row))) after
      → AreSums (remove rows at) (remove after at)
  leaf_sums before after sums are =
      subst (λ list. AreSums list (remove after at)) (sym rest)
      (sums_left rows leaf before (remove after at) rising leads sums at after found are (λ all weighed.
      subst (λ list. AreWeighed all list (remove after at)) rest (weighed_removed all rows after weighed at (node_within rows at leaf no_row found))))
