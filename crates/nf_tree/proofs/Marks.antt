-- Marks of rows, and what rows that are marked tell of where each row goes.
use Rattle.std.proofs.Common.{ℕ, ◌+◌, ◌-◌, ◌<◌, ◌≤◌, ◌≡◌, ◌≢◌, ◌==◌, ◌||◌, Bool, true, false, List, [], ◌∷◌, ◌++◌, Some, None, refl, sym, ap, ◌∙◌, subst, inl, inr, arith, length, get_or, take, set, filter, map, cond}
use Rattle.std.specs.List.{All, between, flat_map, list_any, position}
use Rattle.std.specs.Option.{option_map_or}
use Rattle.std.proofs.lemmas.Bool.{cases_Bool, cases_eq, or_left, cases_order, both_ways, eq-eqb, eqb-true, ne_eqb, not-false, not-true, true_from_ne_false, false_from_ne_true}
use Rattle.std.proofs.lemmas.List.{get_or_default, get_or-set_same, get_or-set_other, length-set, take_all, take_more}
use Rattle.std.proofs.lemmas.List.Folds.{Any-from_list_any, list_any-append, list_any_at}
use Rattle.std.proofs.lemmas.List.Quantifiers.{position-Some}
use Rattle.nf_base.specs.declared.limits.TheConstants.{MAX_DEPTH}
use Rattle.nf_base.specs.declared.rows.NodeRow.{NodeRow}
use Rattle.nf_defs.specs.Prelude.{children_of, is_under, walk_within}
use Rattle.nf_defs.proofs.Climbs.{holds_some, walk_among}
use Rattle.nf_defs.proofs.Lookups.{fail_nowhere}
use Rattle.nf_tree.specs.Order.{AreFates, AreMarked, AreMarkedBy, AreRisingNodes, goes, outstays}
use Rattle.nf_tree.proofs.Children.{part_more, row_at}
use Rattle.nf_charge.specs.Sums.{LeadUp, LeadsUp}
use Rattle.nf_charge.proofs.Lifting.{or_none}
use Rattle.nf_charge.proofs.Positions.{no_row}
use Rattle.nf_tree.proofs.Walks.{flat_push, walk_all, walk_down, walk_none}
use Rattle.nf_tree.proofs.Fates.{one_more}
use Rattle.nf_tree.proofs.Tops.{under_under}

-- ---- marks

either : (p q : Bool) (end before : ℕ) → cond q end (cond p end before) ≡ cond (p || q) end before
either true true end before = refl
either true false end before = refl
either false q end before = refl

-- more nodes
pub marked_more : (rows : List NodeRow) (nodes more before between after : List ℕ) → AreMarked rows nodes before between → AreMarked rows more between after
    → AreMarked rows (nodes ++ more) before after
marked_more rows nodes more before between after first second = record {
  long = second.long ∙ first.long;
  each = λ at d within.
      let test = λ (node : ℕ). node == (get_or rows at d).id in
      second.each at d within
      ∙ ap (cond (list_any test more) (length rows)) (first.each at d within)
      ∙ either (list_any test nodes) (list_any test more) (length rows) (get_or before at 0)
      ∙ ap (λ b. cond b (length rows) (get_or before at 0)) (sym (list_any-append test nodes more));
}

-- the one row of a node
pub row_marked : (rows : List NodeRow) (node at : ℕ) (marks : List ℕ) → AreRisingNodes rows → length marks ≡ length rows → Some at ≡ position (λ row. row.id == node) rows
    → AreMarked rows (node ∷ []) marks (set marks at (length rows))
row_marked rows node at marks rising long there = record {
  long = length-set marks at (length rows);
  each = λ k d within.
      let first = position-Some (λ (row : NodeRow). row.id == node) rows at d (sym there) in
      let is = eqb-true (get_or rows at d).id node first.1 in
      elim (cases_eq k at) [
        | inl same ↦
            (let own : (node == (get_or rows k d).id) ≡ true = eq-eqb node (get_or rows k d).id (sym is ∙ ap (λ i. (get_or rows i d).id) (sym same)) in
            ap (λ i. get_or (set marks at (length rows)) i 0) same ∙ get_or-set_same marks at (length rows) 0 (omega (arith, first.0, long)) ∙ rw own refl)
        | inr differ ↦
            (let other : (node == (get_or rows k d).id) ≡ false = ne_eqb node (get_or rows k d).id (λ e. apart k d within differ (sym e ∙ sym is)) in
            get_or-set_other marks at k (length rows) 0 differ ∙ rw other refl)
      ];
}
  where
    apart : (k : ℕ) (d : NodeRow) → k < length rows → k ≢ at → (get_or rows k d).id ≡ (get_or rows at d).id → ⊥
    apart k d within differ same =
        let first = position-Some (λ (row : NodeRow). row.id == node) rows at d (sym there) in
        elim (cases_order k at) [
          | inl e ↦ differ e
          | inr (inl less) ↦ (let h = rising k at d less first.0 in absurd (omega arith))
          | inr (inr more) ↦ (let h = rising at k d more within in absurd (omega arith))
        ]

-- and of one that has none
pub none_marked : (rows : List NodeRow) (node : ℕ) (marks : List ℕ) → None ≡ position (λ row. row.id == node) rows → AreMarked rows (node ∷ []) marks marks
none_marked rows node marks none = record {
  long = refl;
  each = λ k d within.
      let fails = fail_nowhere (λ (row : NodeRow). row.id == node) rows none k d within in
      let other : (node == (get_or rows k d).id) ≡ false = ne_eqb node (get_or rows k d).id (λ e. both_ways _ fails (eq-eqb (get_or rows k d).id node (sym e))) in
      rw other refl;
}

-- ---- the marks of a walk

-- the rows that are marked when a folder's own is, and those under the children that stand in a part of the order
abbrev pub so_far : List NodeRow → List ℕ → ℕ → ℕ → ℕ → ℕ → List ℕ
so_far rows order folder down from at = folder ∷ flat_map (walk_within (down - 1) rows) (map (λ p. (row_at rows p).id) (between from at order))

-- one child more
pub child_marked : (rows : List NodeRow) (order : List ℕ) (folder down from at : ℕ) (row : NodeRow) (before during after : List ℕ) → from ≤ at → at < length order
    → row ≡ row_at rows (get_or order at 0) → AreMarked rows (so_far rows order folder down from at) before during
    → AreMarked rows (walk_within (down - 1) rows row.id) during after → AreMarked rows (so_far rows order folder down from (at + 1)) before after
child_marked rows order folder down from at row before during after start high is first second =
    subst (λ nodes. AreMarked rows nodes before after)
    (ap (λ rest. folder ∷ rest)
    (sym (flat_push (walk_within (down - 1) rows) (map (λ p. (row_at rows p).id) (between from at order)) row.id)
    ∙ ap (flat_map (walk_within (down - 1) rows)) (sym (part_more rows order from at row start high is))))
    (marked_more rows (so_far rows order folder down from at) (walk_within (down - 1) rows row.id) before during after first second)

-- and then all
pub all_marked : (rows : List NodeRow) (order : List ℕ) (folder down from at : ℕ) (before after : List ℕ) → 0 < down
    → map (λ p. (row_at rows p).id) (between from at order) ≡ children_of rows folder → AreMarked rows (so_far rows order folder down from at) before after
    → AreMarked rows (walk_within down rows folder) before after
all_marked rows order folder down from at before after more all marked =
    subst (λ nodes. AreMarked rows nodes before after)
    (ap (λ ids. folder ∷ flat_map (walk_within (down - 1) rows) ids) all ∙ sym (walk_down (down - 1) down rows folder (omega arith))) marked

-- at the end of the way down the node alone
pub none_under : (rows : List NodeRow) (node down : ℕ) (before after : List ℕ) → down ≡ 0 → AreMarked rows (node ∷ []) before after → AreMarked rows (walk_within down rows node) before after
none_under rows node down before after none marked = subst (λ nodes. AreMarked rows nodes before after) (sym (walk_none down rows node none)) marked

-- ---- the marks of many walks

-- blank marks are those of no top
pub none_marked_by : (rows : List NodeRow) (marks : List ℕ) → All (λ mark. mark ≡ 0) marks → length marks ≡ length rows → AreMarkedBy (goes rows []) rows marks
none_marked_by rows marks zeros long = record { long = long; each = λ at d within. zeros at 0 (omega (arith, long, within)) }

module _ (rows : List NodeRow) (tops : List ℕ) (i : ℕ) (marks : List ℕ) (leads : LeadUp rows) (within : i < length tops)
    (marked : AreMarkedBy (goes rows (take i tops)) rows marks) where
  abbrev top : ℕ
  top = get_or tops i 0

  one_top_more : (node : ℕ) → goes rows (take (i + 1) tops) node ≡ (goes rows (take i tops) node || is_under rows node top)
  one_top_more node =
      ap (λ (some : List ℕ). goes rows some node) (take_more tops i 0 within)
      ∙ list_any-append (λ other. is_under rows node other) (take i tops) (top ∷ [])
      ∙ ap (λ b. goes rows (take i tops) node || b) (or_none (is_under rows node top))

  -- a walk from one more has marked what is under it
  pub walk_marked : (after : List ℕ) → AreRisingNodes rows → AreMarked rows (walk_within MAX_DEPTH rows top) marks after
      → AreMarkedBy (goes rows (take (i + 1) tops)) rows after
  walk_marked after rising walked = record {
    long = walked.long ∙ marked.long;
    each = λ at d inside.
        let node = (get_or rows at d).id in
        (subst (λ nodes. AreMarked rows nodes marks after) (walk_all rows top) walked).each at d inside
        ∙ ap (λ b. cond b (length rows) (get_or marks at 0)) (walk_among rows top node rising)
        ∙ ap (cond (is_under rows node top) (length rows)) (marked.each at d inside)
        ∙ either (goes rows (take i tops) node) (is_under rows node top) (length rows) 0
        ∙ ap (λ b. cond b (length rows) 0) (sym (one_top_more node));
  }

  -- what is under one that is marked is marked
  pub still_marked : option_map_or (λ at. get_or marks at 0 == length rows) (position (λ row. row.id == top) rows) false ≡ true
      → AreMarkedBy (goes rows (take (i + 1) tops)) rows marks
  still_marked is = record {
    long = marked.long;
    each = λ at d inside. marked.each at d inside ∙ ap (λ b. cond b (length rows) 0) (same (get_or rows at d).id (leads at d inside));
  }
    where
      gone : goes rows (take i tops) top ≡ true
      gone =
          let found = holds_some (λ at. get_or marks at 0 == length rows) (position (λ (row : NodeRow). row.id == top) rows) is in
          let first = position-Some (λ (row : NodeRow). row.id == top) rows found.0 no_row found.1 in
          let own = eqb-true (get_or rows found.0 no_row).id top first.1 in
          let full = eqb-true (get_or marks found.0 0) (length rows) found.2 in
          subst (λ node. goes rows (take i tops) node ≡ true) own
          (true_from_ne_false (goes rows (take i tops) (get_or rows found.0 no_row).id) (λ stays.
          let e : get_or marks found.0 0 ≡ 0 = marked.each found.0 no_row first.0 ∙ ap (λ b. cond b (length rows) 0) stays in
          absurd (omega (arith, e, full, first.0))))

      under_gone : (node : ℕ) → LeadsUp rows MAX_DEPTH node → is_under rows node top ≡ true → goes rows (take i tops) node ≡ true
      under_gone node up under =
          let over = Any-from_list_any (λ other. is_under rows top other) (take i tops) gone in
          list_any_at (λ other. is_under rows node other) (take i tops) over.0 over.1 over.2 (under_under rows node top (get_or (take i tops) over.0 over.1) up under (ap (is_under rows top) over.3 ∙ over.4))

      same : (node : ℕ) → LeadsUp rows MAX_DEPTH node → goes rows (take i tops) node ≡ goes rows (take (i + 1) tops) node
      same node up = elim (cases_Bool (is_under rows node top)) [
        | inl under ↦
            (let first = under_gone node up under in
            first ∙ sym (one_top_more node ∙ or_left (goes rows (take i tops) node) (is_under rows node top) first))
        | inr outside ↦ sym (one_top_more node ∙ ap (λ b. goes rows (take i tops) node || b) outside ∙ or_none (goes rows (take i tops) node))
      ]

pub all_tops_marked : (rows : List NodeRow) (tops : List ℕ) (i : ℕ) (marks : List ℕ) → length tops ≤ i → AreMarkedBy (goes rows (take i tops)) rows marks
    → AreMarkedBy (goes rows tops) rows marks
all_tops_marked rows tops i marks all marked = subst (λ (some : List ℕ). AreMarkedBy (goes rows some) rows marks) (take_all i tops all) marked

-- ---- from marks to fates

-- the first n rows have their fates, and those that stay of the others are not marked
pub record AreSettled (p : NodeRow → Bool) (rows : List NodeRow) (n : ℕ) (fates : List ℕ) : Type 0 where
  pub long : length fates ≡ length rows
  pub stay : (at : ℕ) (d : NodeRow) → at < n → at < length rows → p (get_or rows at d) ≡ true → get_or fates at 0 ≡ length (filter p (take at rows))
  pub go : (at : ℕ) (d : NodeRow) → at < length rows → p (get_or rows at d) ≡ false → get_or fates at 0 ≡ length rows
  pub rest : (at : ℕ) (d : NodeRow) → n ≤ at → at < length rows → p (get_or rows at d) ≡ true → get_or fates at 0 < length rows

-- what is marked goes, and the rest stays
pub none_settled : (rows : List NodeRow) (tops marks : List ℕ) → AreMarkedBy (goes rows tops) rows marks → AreSettled (outstays rows tops) rows 0 marks
none_settled rows tops marks marked = record {
  long = marked.long;
  stay = λ at d less within passes. absurd (omega arith);
  go = λ at d within gone. marked.each at d within ∙ (let is = not-false (goes rows tops (get_or rows at d).id) gone in rw is refl);
  rest = λ at d low within passes.
      let outside : goes rows tops (get_or rows at d).id ≡ false = not-true (goes rows tops (get_or rows at d).id) passes in
      let e : get_or marks at 0 ≡ 0 = marked.each at d within ∙ (rw outside refl) in
      omega arith;
}

module _ (p : NodeRow → Bool) (rows : List NodeRow) (n : ℕ) (fates : List ℕ) (settled : AreSettled p rows n fates) (within : n < length rows) where
  passes : get_or fates n 0 < length rows → p (get_or rows n no_row) ≡ true
  passes low = true_from_ne_false _ (λ goes. let h = settled.go n no_row within goes in absurd (omega arith))

  fails : length rows ≤ get_or fates n 0 → p (get_or rows n no_row) ≡ false
  fails high = false_from_ne_true _ (λ stay. let h = settled.rest n no_row (omega arith) within stay in absurd (omega arith))

  counted : length (filter p (take (n + 1) rows)) ≡ length (filter p (take n rows)) + cond (p (get_or rows n no_row)) 1 0
  counted = one_more p rows n (get_or rows n no_row) within (get_or_default rows n no_row (get_or rows n no_row) within)

  pub stays_next : (kept : ℕ) → get_or fates n 0 < length rows → kept ≡ length (filter p (take n rows))
      → AreSettled p rows (n + 1) (set fates n kept) × (kept + 1 ≡ length (filter p (take (n + 1) rows)))
  stays_next kept low is = (
    record {
      long = length-set fates n kept ∙ settled.long;
      stay = λ at d less inside stay. elim (cases_eq at n) [
        | inl same ↦
            ap (λ i. get_or (set fates n kept) i 0) same ∙ get_or-set_same fates n kept 0 (omega (arith, settled.long, within))
            ∙ is ∙ ap (λ i. length (filter p (take i rows))) (sym same)
        | inr differ ↦ get_or-set_other fates n at kept 0 differ ∙ settled.stay at d (omega arith) inside stay
      ];
      go = λ at d inside goes. elim (cases_eq at n) [
        | inl same ↦ absurd (both_ways _ (subst (λ i. p (get_or rows i d) ≡ false) same goes) (ap p (get_or_default rows n d no_row within) ∙ passes low))
        | inr differ ↦ get_or-set_other fates n at kept 0 differ ∙ settled.go at d inside goes
      ];
      rest = λ at d past inside stay. subst (λ fate. fate < length rows) (sym (get_or-set_other fates n at kept 0 (λ same. absurd (omega arith)))) (settled.rest at d (omega arith) inside stay);
    },
    (let e = counted in let f = passes low in omega (arith, is, rw f at e)),
  )

  pub goes_next : (kept : ℕ) → length rows ≤ get_or fates n 0 → kept ≡ length (filter p (take n rows))
      → AreSettled p rows (n + 1) fates × (kept ≡ length (filter p (take (n + 1) rows)))
  goes_next kept high is = (
    record {
      long = settled.long;
      stay = λ at d less inside stay. elim (cases_eq at n) [
        | inl same ↦ absurd (both_ways _ (fails high) (ap p (get_or_default rows n no_row d within) ∙ subst (λ i. p (get_or rows i d) ≡ true) same stay))
        | inr differ ↦ settled.stay at d (omega arith) inside stay
      ];
      go = settled.go;
      rest = λ at d past inside stay. settled.rest at d (omega arith) inside stay;
    },
    (let e = counted in let f = fails high in omega (arith, is, rw f at e)),
  )

-- all rows have their fates
pub all_settled : (p : NodeRow → Bool) (rows : List NodeRow) (n : ℕ) (fates : List ℕ) → AreSettled p rows n fates → length rows ≤ n → AreFates p rows (length rows) fates
all_settled p rows n fates settled all = record {
  long = settled.long;
  stay = λ at d within stay. settled.stay at d (omega arith) within stay;
  go = λ at d within goes. settled.go at d within goes;
}
