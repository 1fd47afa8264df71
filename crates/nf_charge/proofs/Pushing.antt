-- A new row behind the others: in no folder it changes no sum, and has its own bytes.
use Rattle.std.proofs.Common.{ℕ, zero, suc, ◌-◌, ◌<◌, ◌==◌, ◌^◌, ◌≡◌, Bool, true, false, ◌||◌, List, [], ◌∷◌, ◌++◌, Option, None, Some, if◌then◌else◌, inl, inr, length, get_or, set, refl, sym, ap, subst, ◌∙◌, arith}
use Rattle.std.specs.Option.{option_map_or}
use Rattle.std.proofs.lemmas.Bool.{cases_lt, cond_both, eq-eqb, eqb-true, false_from_ne_true, ne_eqb, or_cases}
use Rattle.std.proofs.lemmas.List.{get_or_append_left, get_or_push, length_push, set_at}
use Rattle.std.proofs.lemmas.List.Elements.{All-push}
use Rattle.std.proofs.lemmas.List.Sums.{sum_by_push}
use Rattle.std.proofs.lemmas.Option.{none-some}
use Rattle.nf_base.specs.Content.{size_of}
use Rattle.nf_base.specs.declared.limits.TheConstants.{MAX_DEPTH}
use Rattle.nf_base.specs.declared.rows.NodeRow.{NodeRow}
use Rattle.nf_defs.proofs.Climbs.{holds_some}
use Rattle.nf_defs.proofs.Walks.{found_among}
use Rattle.nf_defs.specs.Tree.{is_under, is_under_within, node_row, parent_of}
use Rattle.nf_charge.specs.Sums.{AreRisingNodes, AreSums, IsLifted, LeadUp, LeadsUp, bytes_under, part}
use Rattle.nf_charge.proofs.Climbing.{leads_parent, leads_there}
use Rattle.nf_charge.proofs.Leaving.{alone}
use Rattle.nf_charge.proofs.Lifting.{along, is_above, lifted_parent, or_none, parent_same, same_above, sum_none, sum_split, under_is, under_step}

-- ---- among rows that lead up

-- what a node is under is there
pub under_there : (rows : List NodeRow) (node top : ℕ) → LeadsUp rows MAX_DEPTH node → is_under rows node top ≡ true
    → (row : NodeRow) × (node_row rows top ≡ Some row)
under_there rows node top leads =
    along rows (λ node. is_under rows node top ≡ true → (row : NodeRow) × (node_row rows top ≡ Some row))
    (λ node leads rest under.
    elim (or_cases (node == top) (is_above rows node top) (sym (under_step rows node top leads) ∙ under)) [
      | inl same ↦ subst (λ (n : ℕ). (row : NodeRow) × (node_row rows n ≡ Some row)) (eqb-true node top same) (leads_there rows MAX_DEPTH node leads)
      | inr above ↦ (let up = holds_some (λ parent. is_under rows parent top) (parent_of rows node) above in rest up.0 up.1 up.2)
    ])
    MAX_DEPTH node (omega arith) leads

-- a row behind the others hides none
row_before : (before : List NodeRow) (last row : NodeRow) (node : ℕ) → node_row before node ≡ Some row
    → node_row (before ++ last ∷ []) node ≡ Some row
row_before [] last row node there = absurd (none-some row there)
row_before (x ∷ before) last row node there =
    cond_both (x.id == node) (Some x) (node_row (before ++ last ∷ []) node) (λ (o : Option NodeRow). o ≡ Some row)
    (λ e. rw e at there)
    (λ e. row_before before last row node (rw e at there))

-- it is lifted where its own row would stand
pub top_lifted : (before : List NodeRow) (last : NodeRow) → IsLifted (before ++ last ∷ []) (length before) (alone last)
top_lifted before last =
    let is = sym (get_or_push before last (alone last) (length before) refl) in
    record { same = ap (λ (row : NodeRow). row.id) is; alone = refl; filled = ap (λ (row : NodeRow). size_of row.content) is }

module _ (before : List NodeRow) (last : NodeRow) (rising : AreRisingNodes (before ++ last ∷ [])) (leads : LeadUp (before ++ last ∷ []))
    (old_leads : LeadUp before) where
  -- the row behind them, out of its folder
  abbrev top : NodeRow
  top = alone last

  abbrev with_top : List NodeRow
  with_top = before ++ top ∷ []

  below : (k : ℕ) (d : NodeRow) → k < length before → (get_or before k d).id < last.id
  below k d within =
      let first = get_or_append_left before (last ∷ []) d k within in
      let second = get_or_push before last d (length before) refl in
      subst (λ (row : NodeRow). (get_or before k d).id < row.id) second
      (subst (λ (row : NodeRow). row.id < (get_or (before ++ last ∷ []) (length before) d).id) first
      (rising k (length before) d within (omega (arith, length_push before last))))

  -- what was there is under what it was
  grown_same : (k most node other : ℕ) → LeadsUp before most node → is_under_within k with_top node other ≡ is_under_within k before node other
  unfolding is_under_within
  grown_same zero most node other leads = refl
  grown_same (suc k) most node other leads =
      let there = leads_there before most node leads in
      ap (λ (up : Bool). node == other || up)
      (ap (λ (o : Option ℕ). option_map_or (λ parent. is_under_within k with_top parent other) o false)
      (parent_same before with_top node (row_before before top there.0 node there.1 ∙ sym there.1))
      ∙ same_above (parent_of before node) (λ parent. is_under_within k with_top parent other) (λ parent. is_under_within k before parent other)
      (λ parent above. grown_same k (most - 1) parent other (leads_parent before most node parent leads above).1))

  grown_under : (node other : ℕ) → LeadsUp before MAX_DEPTH node → is_under with_top node other ≡ is_under before node other
  unfolding is_under
  grown_under node other leads = grown_same MAX_DEPTH MAX_DEPTH node other leads

  -- nothing is under the new one
  none_under : (node : ℕ) → LeadsUp before MAX_DEPTH node → is_under before node last.id ≡ false
  none_under node leads =
      false_from_ne_true (is_under before node last.id) (λ under.
      let there = under_there before node last.id leads under in
      let among = found_among (λ row. row.id == last.id) before there.0 there.1 in
      let less = subst (λ (row : NodeRow). row.id < last.id) among.0.2 (below among.0.0 there.0 among.0.1) in
      let same : there.0.id ≡ last.id = eqb-true there.0.id last.id among.1 in
      absurd (omega arith))

  -- nor is it under another
  top_apart : (other : ℕ) → is_under with_top last.id other ≡ (last.id == other)
  top_apart other =
      under_is with_top last.id other
      ∙ ap (λ (o : Option ℕ). last.id == other || option_map_or (λ parent. is_under_within (MAX_DEPTH - 1) with_top parent other) o false) no_parent
      ∙ or_none (last.id == other)
    where
      no_parent : parent_of with_top last.id ≡ None
      no_parent =
          subst (λ (rows : List NodeRow). parent_of rows last.id ≡ None) (set_at before last [] top (length before) refl)
          (lifted_parent (before ++ last ∷ []) (length before) top rising leads (omega (arith, length_push before last))
          (top_lifted before last))

  -- ---- sums

  -- so each has what it had
  weighed_before : (other : ℕ) → (last.id == other) ≡ false → bytes_under with_top other ≡ bytes_under before other
  unfolding bytes_under
  weighed_before other apart =
      let own : part with_top other top ≡ 0 = ap (λ (b : Bool). if b then size_of last.content else 0) (top_apart other ∙ apart) in
      let rest = sum_split (part with_top other) (part before other) (λ (row : NodeRow). 0) before before refl (λ k d within.
      let node = get_or before k d in
      ap (λ (b : Bool). if b then size_of node.content else 0) (grown_under node.id other (old_leads k d within)) ∙ omega arith) in
      omega (arith, sum_by_push (part with_top other) before top, own, rest, sum_none before)

  -- and the new one its own
  weighed_top : bytes_under with_top last.id ≡ size_of last.content
  unfolding bytes_under
  weighed_top =
      let own : part with_top last.id top ≡ size_of last.content =
      ap (λ (b : Bool). if b then size_of last.content else 0) (top_apart last.id ∙ eq-eqb last.id last.id refl) in
      let rest = sum_split (part with_top last.id) (λ (row : NodeRow). 0) (λ (row : NodeRow). 0) before before refl (λ k d within.
      let node = get_or before k d in
      ap (λ (b : Bool). if b then size_of node.content else 0)
      (grown_under node.id last.id (old_leads k d within) ∙ none_under node.id (old_leads k d within))) in
      omega (arith, sum_by_push (part with_top last.id) before top, own, rest, sum_none before)

  pub pushed_sums : (sums : List ℕ) (bytes : ℕ) → AreSums before sums → bytes ≡ size_of last.content → bytes < 2 ^ 64
      → AreSums with_top (sums ++ bytes ∷ [])
  pushed_sums sums bytes are is small = record {
    weighed = record {
      long = omega (arith, length_push sums bytes, length_push before top, are.weighed.long);
      each = λ k d within.
          elim (cases_lt k (length before)) [
            | inl less ↦
                (let first = get_or_append_left before (top ∷ []) d k less in
                let own = below k d less in
                get_or_append_left sums (bytes ∷ []) 0 k (omega (arith, are.weighed.long))
                ∙ are.weighed.each k d less
                ∙ sym (weighed_before (get_or before k d).id (ne_eqb last.id (get_or before k d).id (λ e. absurd (omega arith))))
                ∙ ap (λ (row : NodeRow). bytes_under with_top row.id) (sym first))
            | inr more ↦
                (let count : length before ≡ k = omega (arith, length_push before top) in
                get_or_push sums bytes 0 k (omega (arith, are.weighed.long))
                ∙ is ∙ sym weighed_top
                ∙ ap (λ (row : NodeRow). bytes_under with_top row.id) (sym (get_or_push before top d k count)))
          ];
    };
    sized = All-push (λ (row : NodeRow). size_of row.content < 2 ^ 64) before top are.sized (subst (λ (n : ℕ). n < 2 ^ 64) is small);
  }

-- rows with a row behind those that the sums are of, and the sums with its bytes behind them
pub push_enters : (rows before : List NodeRow) (last old : NodeRow) (sums : List ℕ) (bytes : ℕ) → rows ≡ before ++ last ∷ [] → AreRisingNodes rows
    → LeadUp rows
    → LeadUp before → AreSums before sums → old ≡ get_or rows (length rows - 1) old → bytes ≡ size_of old.content → bytes < 2 ^ 64
    → (row : NodeRow) × IsLifted rows (length rows - 1) row × AreSums (set rows (length rows - 1) row) (sums ++ bytes ∷ [])
push_enters rows before last old sums bytes are rising leads old_leads sum read is small =
    let count : length rows - 1 ≡ length before = omega (arith, ap length are, length_push before last) in
    let same : old ≡ last =
    read ∙ ap (λ (l : List NodeRow). get_or l (length rows - 1) old) are ∙ get_or_push before last old (length rows - 1) (sym count) in
    let made = set_at before last [] (alone last) (length before) refl in
    let lifted = subst (λ (l : List NodeRow). IsLifted l (length before) (alone last)) (sym are) (top_lifted before last) in
    let are_sums = pushed_sums before last (subst AreRisingNodes are rising) (subst LeadUp are leads) old_leads sums bytes sum
    (is ∙ ap (λ (row : NodeRow). size_of row.content) same) small in (
      alone last,
      subst (λ (at : ℕ). IsLifted rows at (alone last)) (sym count) lifted,
      subst (λ (l : List NodeRow). AreSums l (sums ++ bytes ∷ []))
          (sym (ap (λ (l : List NodeRow). set l (length rows - 1) (alone last)) are
          ∙ ap (λ (at : ℕ). set (before ++ last ∷ []) at (alone last)) count ∙ made)) are_sums,
    )
