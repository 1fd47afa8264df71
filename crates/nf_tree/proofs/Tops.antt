-- What goes with many nodes: what is under one of them, whichever goes first.
use Rattle.std.proofs.Common.{ℕ, zero, suc, ◌+◌, ◌<◌, ◌≤◌, ◌≡◌, ◌==◌, ◌&&◌, ◌||◌, ◌^◌, Bool, true, false, not, List, [], ◌∷◌, Option, Some, None, if◌then◌else◌, refl, sym, ap, ◌∙◌, subst, inl, inr, arith, length, get_or, set, take, filter}
use Rattle.std.specs.Prelude.{sum_by}
use Rattle.std.specs.List.{All, position}
use Rattle.std.specs.Option.{option_map_or}
use Rattle.std.proofs.lemmas.Bool.{both_ways, cases_Bool, eqb-true, false_from_ne_true, not-true, or_cases, or_left, or_right, or_parts}
use Rattle.std.proofs.lemmas.List.{get_or_default, length-set}
use Rattle.std.proofs.lemmas.List.Folds.{list_any_at}
use Rattle.std.proofs.lemmas.List.Sums.{sum_by-cons}
use Rattle.std.proofs.lemmas.List.Elements.{All-filter, filter_passes}
use Rattle.std.proofs.lemmas.List.Kept.{AllPairs-filter}
use Rattle.std.proofs.lemmas.List.Quantifiers.{position-Some}
use Rattle.nf_base.specs.Content.{size_of}
use Rattle.nf_base.specs.declared.limits.TheConstants.{MAX_DEPTH}
use Rattle.nf_base.specs.declared.rows.NodeRow.{NodeRow}
use Rattle.nf_charge.specs.Sums.{AreRisingNodes, AreSums, AreWeighed, LeadUp, LeadsUp, bytes_under, part}
use Rattle.nf_defs.specs.Tree.{is_under, parent_of, piece_count, trashed, with_node, without_all, without_under}
use Rattle.nf_defs.proofs.Climbs.{climb_under, holds_some}
use Rattle.nf_defs.proofs.Lookups.{fail_nowhere}
use Rattle.nf_charge.proofs.Leading.{IsOutside, leads_lifted, leads_without, outside_leads, outside_same, sum_filter, under_absent}
use Rattle.nf_charge.proofs.Lifting.{along, is_above, leads_in, lifted_ids, lifted_rising, lifted_sizes, over_within, sum_none, sum_split, under_aside, under_step, under_within}
use Rattle.nf_charge.proofs.Positions.{no_row}
use Rattle.nf_tree.specs.Order.{AreFates, all_lifted, goes, outstays, stays}
use Rattle.nf_tree.proofs.Fates.{one_more}
use Rattle.nf_tree.proofs.Removed.{rest_passes}
use Rattle.nf_tree.proofs.Trees.{changed_node}
use Rattle.nf_tree.proofs.Weights.{lifted_there}

-- ---- under what is under

pub under_itself : (rows : List NodeRow) (node : ℕ) → is_under rows node node ≡ true
under_itself rows node = climb_under 0 rows node node (omega arith) refl

-- what is under a node is under what that is under
pub under_under : (rows : List NodeRow) (node mid top : ℕ) → LeadsUp rows MAX_DEPTH node → is_under rows node mid ≡ true → is_under rows mid top ≡ true
    → is_under rows node top ≡ true
under_under rows node mid top leads =
    along rows (λ node. is_under rows node mid ≡ true → is_under rows mid top ≡ true → is_under rows node top ≡ true)
    (λ node leads rest under over.
    elim (or_cases (node == mid) (is_above rows node mid) (sym (under_step rows node mid leads) ∙ under)) [
      | inl same ↦ subst (λ n. is_under rows n top ≡ true) (sym (eqb-true node mid same)) over
      | inr above ↦
          (let up = holds_some (λ parent. is_under rows parent mid) (parent_of rows node) above in
          under_step rows node top leads
          ∙ or_right (node == top) (is_above rows node top)
          (ap (λ (o : Option ℕ). option_map_or (λ parent. is_under rows parent top) o false) up.1 ∙ rest up.0 up.1 up.2 over))
    ])
    MAX_DEPTH node (omega arith) leads

-- ---- one node is lifted, or isn't there

-- rows in which the node isn't are as they were
pub none_with : (rows : List NodeRow) (top : ℕ) → All (λ (row : NodeRow). (row.id == top) ≡ false) rows → rows ≡ with_node rows top trashed
none_with [] top none = refl
none_with (x ∷ rows) top none =
    rw (none 0 x (omega arith)) (ap (λ (rest : List NodeRow). x ∷ rest) (none_with rows top (λ k d within. none (suc k) d (omega arith))))

module _ (rows : List NodeRow) (top : ℕ) (rising : AreRisingNodes rows) (leads : LeadUp rows) where
  -- the row of the node is set, or all are as they were
  by_place : (P : List NodeRow → Type 0)
      → ((at : ℕ) → at < length rows → (get_or rows at no_row).id ≡ top → P (set rows at (trashed (get_or rows at no_row))))
      → (None ≡ position (λ row. row.id == top) rows → P rows) → P (with_node rows top trashed)
  by_place P there absent = from (position (λ (row : NodeRow). row.id == top) rows) refl
    where
      from : (found : Option ℕ) → found ≡ position (λ (row : NodeRow). row.id == top) rows → P (with_node rows top trashed)
      from (Some at) is =
          let first = position-Some (λ (row : NodeRow). row.id == top) rows at no_row (sym is) in
          subst P (changed_node rows at (get_or rows at no_row) top trashed is (get_or_default rows at no_row (get_or rows at no_row) first.0))
          (there at first.0 (eqb-true (get_or rows at no_row).id top first.1))
      from None is = subst P (none_with rows top (fail_nowhere (λ (row : NodeRow). row.id == top) rows is)) (absent is)

  pub one_rising : AreRisingNodes (with_node rows top trashed)
  one_rising = by_place AreRisingNodes
      (λ at there same. lifted_rising rows at (trashed (get_or rows at no_row)) rising leads there (lifted_there rows at there)) (λ none. rising)

  pub one_leads : LeadUp (with_node rows top trashed)
  one_leads = by_place LeadUp
      (λ at there same. leads_lifted rows at (trashed (get_or rows at no_row)) rising leads there (lifted_there rows at there)) (λ none. leads)

  pub one_long : length (with_node rows top trashed) ≡ length rows
  one_long = by_place (λ list. length list ≡ length rows) (λ at there same. length-set rows at (trashed (get_or rows at no_row))) (λ none. refl)

  pub one_ids : (k : ℕ) (d : NodeRow) → k < length rows → (get_or (with_node rows top trashed) k d).id ≡ (get_or rows k d).id
  one_ids k d within = by_place (λ list. (get_or list k d).id ≡ (get_or rows k d).id)
      (λ at there same. lifted_ids rows at (trashed (get_or rows at no_row)) rising leads there (lifted_there rows at there) k d within) (λ none. refl)

  pub one_sizes : (k : ℕ) (d : NodeRow) → k < length rows → size_of (get_or (with_node rows top trashed) k d).content ≡ size_of (get_or rows k d).content
  one_sizes k d within = by_place (λ list. size_of (get_or list k d).content ≡ size_of (get_or rows k d).content)
      (λ at there same. lifted_sizes rows at (trashed (get_or rows at no_row)) rising leads there (lifted_there rows at there) k d within) (λ none. refl)

  module _ (node : ℕ) (up : LeadsUp rows MAX_DEPTH node) where
    pub one_up : LeadsUp (with_node rows top trashed) MAX_DEPTH node
    one_up = by_place (λ list. LeadsUp list MAX_DEPTH node)
        (λ at there same. leads_in rows at (trashed (get_or rows at no_row)) rising leads there (lifted_there rows at there) MAX_DEPTH node up) (λ none. up)

    -- what isn't under it is under what it was
    pub one_aside : (other : ℕ) → is_under rows node top ≡ false → is_under (with_node rows top trashed) node other ≡ is_under rows node other
    one_aside other outside = by_place (λ list. is_under list node other ≡ is_under rows node other)
        (λ at there same. under_aside rows at (trashed (get_or rows at no_row)) rising leads there (lifted_there rows at there) node other up
        (subst (λ n. is_under rows node n ≡ false) (sym same) outside))
        (λ none. refl)

    -- what is over a node that is under it, is under it
    pub one_within : (other : ℕ) → is_under rows node top ≡ true → is_under (with_node rows top trashed) node other ≡ true → is_under rows other top ≡ true
    one_within other under = by_place (λ list. is_under list node other ≡ true → is_under rows other top ≡ true)
        (λ at there same still. subst (λ n. is_under rows other n ≡ true) same
        (over_within rows at (trashed (get_or rows at no_row)) rising leads there (lifted_there rows at there) node other up
        (subst (λ n. is_under rows node n ≡ true) (sym same) under) still))
        (λ none still. absurd (both_ways (is_under rows node top) (under_absent rows node top up none) under))

    -- nothing comes to be under another
    pub one_less : (other : ℕ) → is_under (with_node rows top trashed) node other ≡ true → is_under rows node other ≡ true
    one_less other = by_place (λ list. is_under list node other ≡ true → is_under rows node other ≡ true)
        (λ at there same still. elim (cases_Bool (is_under rows node (get_or rows at no_row).id)) [
          | inl under ↦
              under_within rows at (trashed (get_or rows at no_row)) rising leads there (lifted_there rows at there) node other up under
              ∙ or_left (is_under (set rows at (trashed (get_or rows at no_row))) node other) _ still
          | inr outside ↦
              sym (under_aside rows at (trashed (get_or rows at no_row)) rising leads there (lifted_there rows at there) node other up outside) ∙ still
        ])
        (λ none still. still)

    pub one_goes : (tops : List ℕ) → is_under rows node top ≡ false → goes (with_node rows top trashed) tops node ≡ goes rows tops node
    one_goes [] outside = refl
    one_goes (other ∷ tops) outside = rw (one_aside other outside, one_goes tops outside) refl

    pub fewer_go : (tops : List ℕ) → goes (with_node rows top trashed) tops node ≡ true → goes rows tops node ≡ true
    fewer_go [] is = is
    fewer_go (other ∷ tops) is =
        elim (or_cases (is_under (with_node rows top trashed) node other) (goes (with_node rows top trashed) tops node) is) [
          | inl under ↦ or_left (is_under rows node other) (goes rows tops node) (one_less other under)
          | inr rest ↦ or_right (is_under rows node other) (goes rows tops node) (fewer_go tops rest)
        ]

-- ---- all are lifted

pub all_long : (tops : List ℕ) (rows : List NodeRow) → AreRisingNodes rows → LeadUp rows → length (all_lifted rows tops) ≡ length rows
all_long [] rows rising leads = refl
all_long (top ∷ tops) rows rising leads =
    all_long tops (with_node rows top trashed) (one_rising rows top rising leads) (one_leads rows top rising leads) ∙ one_long rows top rising leads

pub all_ids : (tops : List ℕ) (rows : List NodeRow) → AreRisingNodes rows → LeadUp rows → (k : ℕ) (d : NodeRow) → k < length rows
    → (get_or (all_lifted rows tops) k d).id ≡ (get_or rows k d).id
all_ids [] rows rising leads k d within = refl
all_ids (top ∷ tops) rows rising leads k d within =
    all_ids tops (with_node rows top trashed) (one_rising rows top rising leads) (one_leads rows top rising leads) k d
    (omega (arith, one_long rows top rising leads, within)) ∙ one_ids rows top rising leads k d within

all_sizes : (tops : List ℕ) (rows : List NodeRow) → AreRisingNodes rows → LeadUp rows → (k : ℕ) (d : NodeRow) → k < length rows
    → size_of (get_or (all_lifted rows tops) k d).content ≡ size_of (get_or rows k d).content
all_sizes [] rows rising leads k d within = refl
all_sizes (top ∷ tops) rows rising leads k d within =
    all_sizes tops (with_node rows top trashed) (one_rising rows top rising leads) (one_leads rows top rising leads) k d
    (omega (arith, one_long rows top rising leads, within)) ∙ one_sizes rows top rising leads k d within

-- what stays is under what it was
all_aside : (tops : List ℕ) (rows : List NodeRow) → AreRisingNodes rows → LeadUp rows → (node other : ℕ) → LeadsUp rows MAX_DEPTH node → goes rows tops node ≡ false
    → is_under (all_lifted rows tops) node other ≡ is_under rows node other
all_aside [] rows rising leads node other up stays = refl
all_aside (top ∷ tops) rows rising leads node other up stays =
    let parts = or_parts (is_under rows node top) (goes rows tops node) stays in
    all_aside tops (with_node rows top trashed) (one_rising rows top rising leads) (one_leads rows top rising leads) node other (one_up rows top rising leads node up)
    (one_goes rows top rising leads node up tops parts.0 ∙ parts.1)
    ∙ one_aside rows top rising leads node up other parts.0

all_less : (tops : List ℕ) (rows : List NodeRow) → AreRisingNodes rows → LeadUp rows → (node other : ℕ) → LeadsUp rows MAX_DEPTH node
    → is_under (all_lifted rows tops) node other ≡ true → is_under rows node other ≡ true
all_less [] rows rising leads node other up still = still
all_less (top ∷ tops) rows rising leads node other up still =
    one_less rows top rising leads node up other
    (all_less tops (with_node rows top trashed) (one_rising rows top rising leads) (one_leads rows top rising leads) node other (one_up rows top rising leads node up) still)

-- what is over a node that goes, goes too
all_within : (tops : List ℕ) (rows : List NodeRow) → AreRisingNodes rows → LeadUp rows → (node other : ℕ) → LeadsUp rows MAX_DEPTH node → LeadsUp rows MAX_DEPTH other
    → goes rows tops node ≡ true → is_under (all_lifted rows tops) node other ≡ true → goes rows tops other ≡ true
all_within [] rows rising leads node other up over gone still = gone
all_within (top ∷ tops) rows rising leads node other up over gone still =
    let next = with_node rows top trashed in
    let next_rising = one_rising rows top rising leads in
    let next_leads = one_leads rows top rising leads in
    let next_up = one_up rows top rising leads node up in
    elim (cases_Bool (is_under rows node top)) [
      | inl under ↦
          or_left (is_under rows other top) (goes rows tops other)
          (one_within rows top rising leads node up other under (all_less tops next next_rising next_leads node other next_up still))
      | inr outside ↦
          (let rest : goes rows tops node ≡ true = ap (λ (b : Bool). b || goes rows tops node) (sym outside) ∙ gone in
          or_right (is_under rows other top) (goes rows tops other)
          (fewer_go rows top rising leads other over tops
          (all_within tops next next_rising next_leads node other next_up (one_up rows top rising leads other over)
          (one_goes rows top rising leads node up tops outside ∙ rest) still)))
    ]

-- ---- the rows that stay

filter_twice : (p q r : NodeRow → Bool) (rows : List NodeRow) → All (λ row. r row ≡ (p row && q row)) rows → filter q (filter p rows) ≡ filter r rows
filter_twice p q r [] same = refl
filter_twice p q r (x ∷ rows) same = here (p x) (q x) refl refl (same 0 x (omega arith)) (filter_twice p q r rows (λ k d within. same (suc k) d (omega arith)))
  where
    here : (a b : Bool) → p x ≡ a → q x ≡ b → r x ≡ (p x && q x) → filter q (filter p rows) ≡ filter r rows → filter q (filter p (x ∷ rows)) ≡ filter r (x ∷ rows)
    here true true e f is rest = let g : r x ≡ true = is ∙ rw (e, f) refl in rw (e, g) (rw f (ap (λ (list : List NodeRow). x ∷ list) rest))
    here true false e f is rest = let g : r x ≡ false = is ∙ rw (e, f) refl in rw (e, g) (rw f rest)
    here false b e f is rest = let g : r x ≡ false = is ∙ rw e refl in rw (e, g) rest

rising_without : (rows : List NodeRow) (top : ℕ) → AreRisingNodes rows → AreRisingNodes (without_under rows top)
rising_without rows top rising = AllPairs-filter (λ (a b : NodeRow). a.id < b.id) (stays rows top) rows rising

-- what stays where one goes, goes with the others as before
goes_without : (rows : List NodeRow) (top node : ℕ) → IsOutside rows top node → (tops : List ℕ) → goes (without_under rows top) tops node ≡ goes rows tops node
goes_without rows top node is [] = refl
goes_without rows top node is (other ∷ tops) = rw (outside_same rows top node other is, goes_without rows top node is tops) refl

-- those that go one after the other are those that are under one of the tops at first
pub all_left : (tops : List ℕ) (rows : List NodeRow) → AreRisingNodes rows → LeadUp rows → without_all rows tops ≡ filter (outstays rows tops) rows
all_left [] rows rising leads = rest_passes (outstays rows []) rows (λ k d within. refl)
all_left (top ∷ tops) rows rising leads =
    all_left tops (without_under rows top) (rising_without rows top rising) (leads_without rows top rising leads)
    ∙ filter_twice (stays rows top) (outstays (without_under rows top) tops) (outstays rows (top ∷ tops)) rows (λ k d within.
    here (get_or rows k d).id (leads k d within) (is_under rows (get_or rows k d).id top) refl)
  where
    here : (node : ℕ) → LeadsUp rows MAX_DEPTH node → (b : Bool) → is_under rows node top ≡ b
        → not (is_under rows node top || goes rows tops node) ≡ (not (is_under rows node top) && not (goes (without_under rows top) tops node))
    here node up true e = rw e refl
    here node up false e = rw (e, goes_without rows top node (record { leads = up; outside = e }) tops) refl

pub all_lead : (tops : List ℕ) (rows : List NodeRow) → AreRisingNodes rows → LeadUp rows → LeadUp (without_all rows tops)
all_lead [] rows rising leads = leads
all_lead (top ∷ tops) rows rising leads = all_lead tops (without_under rows top) (rising_without rows top rising) (leads_without rows top rising leads)

-- and each is under what it was
all_same : (tops : List ℕ) (rows : List NodeRow) → AreRisingNodes rows → LeadUp rows → (node other : ℕ) → LeadsUp rows MAX_DEPTH node → goes rows tops node ≡ false
    → is_under (without_all rows tops) node other ≡ is_under rows node other
all_same [] rows rising leads node other up stays = refl
all_same (top ∷ tops) rows rising leads node other up stays =
    let parts = or_parts (is_under rows node top) (goes rows tops node) stays in
    let is : IsOutside rows top node = record { leads = up; outside = parts.0 } in
    all_same tops (without_under rows top) (rising_without rows top rising) (leads_without rows top rising leads) node other
    (outside_leads rows top MAX_DEPTH node up is) (goes_without rows top node is tops ∙ parts.1)
    ∙ outside_same rows top node other is

-- lifting changes none of them
filter_with : (test : ℕ → Bool) (top : ℕ) → test top ≡ false → (rows : List NodeRow)
    → filter (λ row. test row.id) (with_node rows top trashed) ≡ filter (λ row. test row.id) rows
filter_with test top fails [] = refl
filter_with test top fails (x ∷ rows) = here (x.id == top) refl (filter_with test top fails rows)
  where
    here : (b : Bool) → (x.id == top) ≡ b → filter (λ row. test row.id) (with_node rows top trashed) ≡ filter (λ row. test row.id) rows
        → filter (λ row. test row.id) (with_node (x ∷ rows) top trashed) ≡ filter (λ row. test row.id) (x ∷ rows)
    here true e rest = let f : test x.id ≡ false = ap test (eqb-true x.id top e) ∙ fails in rw e (rw f refl)
    here false e rest = rw e (ap (λ (list : List NodeRow). if test x.id then x ∷ list else list) rest)

filter_lifted : (test : ℕ → Bool) (tops : List ℕ) → All (λ top. test top ≡ false) tops → (rows : List NodeRow)
    → filter (λ row. test row.id) (all_lifted rows tops) ≡ filter (λ row. test row.id) rows
filter_lifted test [] fail rows = refl
filter_lifted test (top ∷ tops) fail rows =
    filter_lifted test tops (λ k d within. fail (suc k) d (omega arith)) (with_node rows top trashed)
    ∙ filter_with test top (fail 0 top (omega arith)) rows

tops_go : (rows : List NodeRow) (tops : List ℕ) → All (λ top. not (goes rows tops top) ≡ false) tops
tops_go rows tops k d within =
    ap not (list_any_at (λ top. is_under rows (get_or tops k d) top) tops k d within (under_itself rows (get_or tops k d)))

pub lifted_left : (tops : List ℕ) (rows : List NodeRow) → AreRisingNodes rows → LeadUp rows
    → filter (outstays rows tops) (all_lifted rows tops) ≡ without_all rows tops
lifted_left tops rows rising leads =
    filter_lifted (λ node. not (goes rows tops node)) tops (tops_go rows tops) rows ∙ sym (all_left tops rows rising leads)

-- nor how many pieces there are
pieces_with : (top : ℕ) (rows : List NodeRow) → piece_count (with_node rows top trashed) ≡ piece_count rows
pieces_with top [] = refl
pieces_with top (x ∷ rows) = here (x.id == top) refl (pieces_with top rows)
  where
    here : (b : Bool) → (x.id == top) ≡ b → piece_count (with_node rows top trashed) ≡ piece_count rows
        → piece_count (with_node (x ∷ rows) top trashed) ≡ piece_count (x ∷ rows)
    here true e rest =
        rw e (sum_by-cons (λ (row : NodeRow). length row.content) (trashed x) rows ∙ sym (sum_by-cons (λ (row : NodeRow). length row.content) x rows))
    here false e rest =
        rw e (sum_by-cons (λ (row : NodeRow). length row.content) x (with_node rows top trashed) ∙ ap (λ n. length x.content + n) rest
        ∙ sym (sum_by-cons (λ (row : NodeRow). length row.content) x rows))

pub pieces_lifted : (tops : List ℕ) (rows : List NodeRow) → piece_count (all_lifted rows tops) ≡ piece_count rows
pieces_lifted [] rows = refl
pieces_lifted (top ∷ tops) rows = pieces_lifted tops (with_node rows top trashed) ∙ pieces_with top rows

-- ---- fates are those of the lifted rows

module _ (test : ℕ → Bool) (rows others : List NodeRow) (long : length others ≡ length rows)
    (same : (k : ℕ) (d : NodeRow) → k < length rows → (get_or others k d).id ≡ (get_or rows k d).id) where
  count_same : (at : ℕ) → at ≤ length rows → length (filter (λ row. test row.id) (take at others)) ≡ length (filter (λ row. test row.id) (take at rows))
  count_same zero few = refl
  count_same (suc at) few =
      let row = get_or others at no_row in
      let old = get_or rows at no_row in
      let more = one_more (λ r. test r.id) others at row (omega (arith, long)) (get_or_default others at no_row row (omega (arith, long))) in
      let was = one_more (λ r. test r.id) rows at old (omega arith) (get_or_default rows at no_row old (omega arith)) in
      let e : length (filter (λ row. test row.id) (take at others)) ≡ length (filter (λ row. test row.id) (take at rows)) = count_same at (omega arith) in
      let f : ◌≡◌ {A = ℕ} (if test row.id then 1 else 0) (if test old.id then 1 else 0) = ap (λ (id : ℕ). if test id then 1 else 0) (same at no_row (omega arith)) in
      let next : at + 1 ≡ suc at = omega arith in
      subst (λ n. length (filter (λ row. test row.id) (take n others)) ≡ length (filter (λ row. test row.id) (take n rows))) next
      (more ∙ ap (λ n. n + (if test row.id then 1 else 0)) e ∙ ap (λ n. length (filter (λ row. test row.id) (take at rows)) + n) f ∙ sym was)

  pub fates_same : (fates : List ℕ) → AreFates (λ row. test row.id) rows (length rows) fates → AreFates (λ row. test row.id) others (length others) fates
  fates_same fates are = record {
    long = are.long ∙ sym long;
    stay = λ at d within stays.
        let inside : at < length rows = omega (arith, long) in
        are.stay at d inside (ap test (sym (same at d inside)) ∙ stays) ∙ sym (count_same at (omega arith));
    go = λ at d within goes.
        let inside : at < length rows = omega (arith, long) in
        are.go at d inside (ap test (sym (same at d inside)) ∙ goes) ∙ sym long;
  }

pub fates_lifted : (tops : List ℕ) (rows : List NodeRow) (fates : List ℕ) → AreRisingNodes rows → LeadUp rows → AreFates (outstays rows tops) rows (length rows) fates
    → AreFates (outstays rows tops) (all_lifted rows tops) (length (all_lifted rows tops)) fates
fates_lifted tops rows fates rising leads are =
    fates_same (λ node. not (goes rows tops node)) rows (all_lifted rows tops) (all_long tops rows rising leads) (all_ids tops rows rising leads) fates are

-- ---- the sums of the rows that stay

module _ (tops : List ℕ) (rows : List NodeRow) (rising : AreRisingNodes rows) (leads : LeadUp rows) where
  abbrev raised : List NodeRow
  raised = all_lifted rows tops

  part_left : (other : ℕ) → LeadsUp rows MAX_DEPTH other → goes rows tops other ≡ false → (k : ℕ) (d : NodeRow) → k < length rows
      → (if outstays rows tops (get_or rows k d) then part (without_all rows tops) other (get_or rows k d) else 0) ≡ part raised other (get_or raised k d)
  part_left other over stays k d within = here (goes rows tops r.id) refl ∙ sym still
    where
      r : NodeRow
      r = get_or rows k d

      still : part raised other (get_or raised k d) ≡ (if is_under raised r.id other then size_of r.content else 0)
      still =
          ap (λ (id : ℕ). if is_under raised id other then size_of (get_or raised k d).content else 0) (all_ids tops rows rising leads k d within)
          ∙ ap (λ (bytes : ℕ). if is_under raised r.id other then bytes else 0) (all_sizes tops rows rising leads k d within)

      here : (gone : Bool) → goes rows tops r.id ≡ gone
          → (if outstays rows tops r then part (without_all rows tops) other r else 0) ≡ (if is_under raised r.id other then size_of r.content else 0)
      here true is =
          let apart : is_under raised r.id other ≡ false = false_from_ne_true (is_under raised r.id other) (λ still.
          both_ways (goes rows tops other) stays (all_within tops rows rising leads r.id other (leads k d within) over is still)) in
          simp (is, apart)
      here false is =
          let same = all_same tops rows rising leads r.id other (leads k d within) is
          ∙ sym (all_aside tops rows rising leads r.id other (leads k d within) is) in
          simp (is, same)

  weighed_left : (other : ℕ) → LeadsUp rows MAX_DEPTH other → goes rows tops other ≡ false → bytes_under raised other ≡ bytes_under (without_all rows tops) other
  unfolding bytes_under
  weighed_left other over stays =
      let f = part (without_all rows tops) other in
      let parts =
      sum_split (λ (r : NodeRow). if outstays rows tops r then f r else 0) (part raised other) (λ (r : NodeRow). 0)
      rows raised (sym (all_long tops rows rising leads)) (λ k d within. part_left other over stays k d within ∙ omega arith) in
      let left = ap (sum_by f) (all_left tops rows rising leads) in
      omega (arith, parts, sum_none rows, sum_filter (outstays rows tops) f rows, left)

  -- what is lifted can go with all under it: the sums of what stays are those of the rows that stay
  pub sums_left_all : (before left : List ℕ) → AreSums rows before → AreWeighed raised (without_all rows tops) left → AreSums (without_all rows tops) left
  sums_left_all before left sums weighed = record {
    weighed = record {
      long = weighed.long;
      each = λ k d within. weighed.each k d within ∙ weighed_left (get_or (without_all rows tops) k d).id (up k d within) (outside k d within);
    };
    sized = subst (All (λ (r : NodeRow). size_of r.content < 2 ^ 64)) (sym left_are)
        (All-filter (outstays rows tops) (λ (r : NodeRow). size_of r.content < 2 ^ 64) rows sums.sized);
  }
    where
      left_are : without_all rows tops ≡ filter (outstays rows tops) rows
      left_are = all_left tops rows rising leads

      up : All (λ (r : NodeRow). LeadsUp rows MAX_DEPTH r.id) (without_all rows tops)
      up = subst (All (λ (r : NodeRow). LeadsUp rows MAX_DEPTH r.id)) (sym left_are)
          (All-filter (outstays rows tops) (λ (r : NodeRow). LeadsUp rows MAX_DEPTH r.id) rows leads)

      outside : All (λ (r : NodeRow). goes rows tops r.id ≡ false) (without_all rows tops)
      outside = subst (All (λ (r : NodeRow). goes rows tops r.id ≡ false)) (sym left_are)
          (λ k d within. not-true _ (filter_passes (outstays rows tops) rows k d within))
