-- Where rows go when some are dropped, and the index of those that are left.
use Rattle.std.proofs.Common.{ℕ, zero, suc, ◌+◌, ◌<◌, ◌≤◌, ◌≡◌, ◌≢◌, Bool, true, false, List, [], ◌∷◌, ◌++◌, refl, sym, ap, ◌∙◌, subst, arith, length, get_or, take, drop, map, filter, nat_eq, nat_lt, not, cond}
use Rattle.std.specs.List.{All, AllPairs, Contains, list_any}
use Rattle.std.proofs.lemmas.Bool.{false_from_ne_true, true_from_ne_false}
use Rattle.std.proofs.lemmas.Bool.Decides.{Decides-eqb, nat_tests}
use Rattle.std.proofs.lemmas.List.{get_or_default, get_or-drop, get_or-map, length-map, append-nil, take_all}
use Rattle.std.proofs.lemmas.List.Elements.{All-contains, All-filter, filter_more, filter_passes}
use Rattle.std.proofs.lemmas.List.Filters.{FiltersInPlace, length-filter_more, sum_by-filter_both}
use Rattle.std.proofs.lemmas.List.Sums.{count_by-le-length, length-filter, sum_by_push}
use Rattle.std.proofs.lemmas.List.Folds.{list_any_at}
use Rattle.std.proofs.lemmas.List.Kept.{AllPairs-filter}
use Rattle.std.proofs.lemmas.Map.Made.{IsDistinct-from_AllPairs}
use Rattle.std.proofs.lemmas.Map.Steps.{length-le_from_distinct_below, le-length_from_below}
use Rattle.std.proofs.lemmas.Map.Views.{Contains-from_any}
use Rattle.nf_base.specs.declared.limits.TheConstants.{MAX_PIECES}
use Rattle.nf_base.specs.declared.rows.NodeRow.{NodeRow}
use Rattle.nf_defs.specs.Tree.{piece_count}
use Rattle.nf_tree.specs.Held.{IsTree}
use Rattle.nf_tree.specs.Order.{key_lt, key_at, key_of, AreFates, AreInOrder, IsIndex}
use Rattle.nf_charge.proofs.Positions.{no_row}
use Rattle.nf_tree.proofs.Orders.{key_of_row, in_index, no_place_twice}
use Rattle.nf_defs.proofs.ByName.{Contains-map, Contains-filter}

-- ---- how many stay

pub fewer : (p : NodeRow → Bool) (rows : List NodeRow) → length (filter p rows) ≤ length rows
fewer p rows = omega (arith, length-filter p rows, count_by-le-length p rows)

pub one_more : (p : NodeRow → Bool) (rows : List NodeRow) (n : ℕ) (row : NodeRow) → n < length rows → row ≡ get_or rows n row
    → length (filter p (take (n + 1) rows)) ≡ length (filter p (take n rows)) + cond (p row) 1 0
one_more p rows n row within is = length-filter_more p rows n row within ∙ ap (λ r. length (filter p (take n rows)) + cond (p r) 1 0) (sym is)

-- ---- a row that stays goes behind those before it

stays_behind : (p : NodeRow → Bool) (rows : List NodeRow) (at : ℕ) (d : NodeRow) → at < length rows → p (get_or rows at d) ≡ true
    → (length (filter p (take at rows)) < length (filter p rows)) × (get_or (filter p rows) (length (filter p (take at rows))) d ≡ get_or rows at d)
stays_behind p [] at d within is = absurd (omega arith)
stays_behind p (row ∷ rows) zero d within is = rw is (omega arith, refl)
stays_behind p (row ∷ rows) (suc at) d within is = here (p row) refl (stays_behind p rows at d (omega arith) is)
  where
    here : (b : Bool) → p row ≡ b → (length (filter p (take at rows)) < length (filter p rows)) × (get_or (filter p rows) (length (filter p (take at rows))) d ≡ get_or rows at d)
        → (length (filter p (take (suc at) (row ∷ rows))) < length (filter p (row ∷ rows))) × (get_or (filter p (row ∷ rows)) (length (filter p (take (suc at) (row ∷ rows)))) d ≡ get_or rows at d)
    here true e rest = rw e (let low = rest.0 in omega arith, rest.1)
    here false e rest = rw e rest

-- each place that is left is one that a row goes to
Came : (NodeRow → Bool) → List NodeRow → ℕ → Type 0
Came p rows to = (at : ℕ) × (at < length rows) × (p (get_or rows at no_row) ≡ true) × (length (filter p (take at rows)) ≡ to)

came : (p : NodeRow → Bool) (rows : List NodeRow) (to : ℕ) → to < length (filter p rows) → Came p rows to
unfolding Came
came p [] to low = absurd (omega arith)
came p (row ∷ rows) to low = here (p row) refl to low (λ k less. came p rows k less)
  where
    later : {k j : ℕ} → Came p rows k → length (filter p (row ∷ [])) + k ≡ j → Came p (row ∷ rows) j
    later (at, within, passes, is) more = (suc at, omega arith, passes, counted (p row) refl ∙ ap (λ n. length (filter p (row ∷ [])) + n) is ∙ more)
      where
        counted : (b : Bool) → p row ≡ b → length (filter p (take (suc at) (row ∷ rows))) ≡ length (filter p (row ∷ [])) + length (filter p (take at rows))
        counted true e = rw e (omega arith)
        counted false e = rw e (omega arith)

    here : (b : Bool) → p row ≡ b → (to : ℕ) → to < length (filter p (row ∷ rows)) → ((k : ℕ) → k < length (filter p rows) → Came p rows k) → Came p (row ∷ rows) to
    here true e zero low rest = (0, omega arith, e, refl)
    here true e (suc to) low rest = later (rest to (let h = rw e at low in omega arith)) (rw e (omega arith))
    here false e to low rest = later (rest to (rw e at low)) (rw e (omega arith))

-- ---- what is left of an index

module _ (p : NodeRow → Bool) (rows : List NodeRow) (order fates : List ℕ) (index : IsIndex rows order) (are : AreFates p rows (length rows) fates) where
  abbrev fate : ℕ → ℕ
  fate at = get_or fates at 0

  stays_if : (at : ℕ) → at < length rows → fate at < length rows → p (get_or rows at no_row) ≡ true
  stays_if at within low = true_from_ne_false _ (λ goes. let h = are.go at no_row within goes in absurd (omega arith))

  lands : (at : ℕ) → at < length rows → fate at < length rows → (fate at < length (filter p rows)) × (key_at (filter p rows) (fate at) ≡ key_at rows at)
  lands at within low =
      let passes = stays_if at within low in
      let h = stays_behind p rows at no_row within passes in
      let e = are.stay at no_row within passes in
      let less = subst (λ k. k < length (filter p rows)) (sym e) h.0 in
      (less, key_of_row (filter p rows) (fate at) no_row less ∙ ap key_of (ap (λ k. get_or (filter p rows) k no_row) e ∙ h.1) ∙ sym (key_of_row rows at no_row within))

  abbrev is_low : ℕ → Bool
  is_low to = nat_lt to (length fates)

  low : (to : ℕ) → is_low to ≡ true → to < length rows
  low to is = let e = are.long in grind (arith, nat_tests)

  left : List ℕ
  left = filter is_low (map fate order)

  left_low : All (λ to. to < length rows) left
  unfolding left
  left_low k d high = low (get_or left k d) (filter_passes is_low (map fate order) k d high)

  -- the row at a place of the order, and its fate
  read : (k d : ℕ) → k < length (map fate order) → (at : ℕ) × (at ≡ get_or order k d) × (at < length rows) × (get_or (map fate order) k d ≡ fate at)
  read k d high =
      let long = length-map order fate in
      (get_or order k d, refl, index.within k d (omega arith), get_or-map fate order k d d (omega arith))

  left_within : All (λ to. to < length (filter p rows)) left
  unfolding left
  left_within k d high = All-filter is_low (λ to. to < length rows → to < length (filter p rows)) (map fate order) fits k d high (left_low k d high)
    where
      fits : All (λ to. to < length rows → to < length (filter p rows)) (map fate order)
      fits k d high small = let r = read k d high in
          subst (λ to. to < length (filter p rows)) (sym r.3) (lands r.0 r.2 (subst (λ to. to < length rows) r.3 small)).0

  left_in_order : AreInOrder (filter p rows) left
  unfolding left
  left_in_order i j d less high =
      AllPairs-filter (λ a b. a < length rows → b < length rows → key_lt (key_at (filter p rows) a) (key_at (filter p rows) b) ≡ true) is_low (map fate order) pairs
      i j d less high (left_low i d (omega arith)) (left_low j d high)
    where
      pairs : AllPairs (λ a b. a < length rows → b < length rows → key_lt (key_at (filter p rows) a) (key_at (filter p rows) b) ≡ true) (map fate order)
      pairs i j d less high small_i small_j =
          let r = read i d (omega arith) in
          let s = read j d high in
          let e = ap (key_at (filter p rows)) r.3 ∙ (lands r.0 r.2 (subst (λ to. to < length rows) r.3 small_i)).1 ∙ ap (key_at rows) r.1 in
          let f = ap (key_at (filter p rows)) s.3 ∙ (lands s.0 s.2 (subst (λ to. to < length rows) s.3 small_j)).1 ∙ ap (key_at rows) s.1 in
          rw (e, f) (index.in_order i j d less (let long = length-map order fate in omega arith))

  left_all : (to : ℕ) → to < length (filter p rows) → Contains left to
  unfolding left Came
  left_all to small = from (came p rows to small)
    where
      from : Came p rows to → Contains left to
      from (at, within, passes, is) =
          let e : fate at ≡ to = are.stay at no_row within passes ∙ is in
          let few = fewer p rows in
          let long = are.long in
          Contains-filter is_low (map fate order) to (subst (λ k. Contains (map fate order) k) e (Contains-map fate order at (in_index rows order at index within)))
          (let small : to < length fates = omega arith in grind (arith, nat_tests))

  left_long : length left ≡ length (filter p rows)
  left_long =
      let most = length-le_from_distinct_below left (length (filter p rows)) (IsDistinct-from_AllPairs Decides-eqb left (no_place_twice (filter p rows) left left_in_order))
      (λ q found. All-contains (λ to. to < length (filter p rows)) left q left_within (Contains-from_any (λ x y. (Decides-eqb x y).0) q left found)) in
      let least = le-length_from_below left (length (filter p rows)) (λ q small. has q (left_all q small)) in
      omega arith
    where
      has : (q : ℕ) → Contains left q → list_any (nat_eq q) left ≡ true
      has q (k, high, is) = list_any_at (nat_eq q) left k q high ((Decides-eqb q (get_or left k q)).1 (sym is))

  pub renumbered : IsIndex (filter p rows) (filter (λ to. nat_lt to (length fates)) (map (λ at. get_or fates at 0) order))
  unfolding left
  renumbered = record { within = left_within; long = left_long; in_order = left_in_order }

-- what is left to filter is as it was
pub still : (p : NodeRow → Bool) (xs ys : List NodeRow) (k at : ℕ) (d : NodeRow) → FiltersInPlace p xs ys k at → get_or ys at d ≡ get_or xs at d
still p xs ys k at d filtered =
    let e : at + 0 ≡ at = omega arith in
    ap (λ n. get_or ys n d) (sym e) ∙ sym (get_or-drop at ys 0 d) ∙ ap (λ list. get_or list 0 d) filtered.rest ∙ get_or-drop at xs 0 d ∙ ap (λ n. get_or xs n d) e

-- a fate tells whether the row stays
module _ (p : NodeRow → Bool) (rows : List NodeRow) (fates : List ℕ) (at : ℕ) (are : AreFates p rows (length rows) fates) (within : at < length rows) where
  low_stays : p (get_or rows at no_row) ≡ true → get_or fates at 0 < length rows
  low_stays stays =
      let g = are.stay at no_row within stays in
      let h = (stays_behind p rows at no_row within stays).0 in
      let few = fewer p rows in
      omega arith

  pub stays_at : get_or fates at 0 ≢ length rows → p (get_or rows at no_row) ≡ true
  stays_at other = true_from_ne_false _ (λ goes. other (are.go at no_row within goes))

  pub goes_at : length rows ≤ get_or fates at 0 → p (get_or rows at no_row) ≡ false
  goes_at high = false_from_ne_true _ (λ stays. let low = low_stays stays in absurd (omega arith))

-- so does the fate that is read where the rows before it are filtered
module _ (p : NodeRow → Bool) (rows ys : List NodeRow) (fates : List ℕ) (kept at fate : ℕ) (are : AreFates p rows (length rows) fates) (filtered : FiltersInPlace p rows ys kept at)
    (within : at < length rows) (is : fate ≡ get_or fates at fate) where
  fate_is : fate ≡ get_or fates at 0
  fate_is = is ∙ get_or_default fates at fate 0 (let e = are.long in omega arith)

  pub stays_by : fate < length rows → p (get_or ys at no_row) ≡ true
  stays_by low = ap p (still p rows ys kept at no_row filtered) ∙ stays_at p rows fates at are within (λ same. let f = fate_is in absurd (omega arith))

  pub goes_by : length rows ≤ fate → p (get_or ys at no_row) ≡ false
  goes_by high = ap p (still p rows ys kept at no_row filtered) ∙ goes_at p rows fates at are within (subst (λ n. length rows ≤ n) fate_is high)

-- ---- the pieces of the rows that go

abbrev pub gone_pieces : (NodeRow → Bool) → List NodeRow → ℕ
gone_pieces p rows = piece_count (filter (λ row. not (p row)) rows)

pub gone_kept : (p : NodeRow → Bool) (rows : List NodeRow) (n : ℕ) (d : NodeRow) → n < length rows → p (get_or rows n d) ≡ true
    → gone_pieces p (take (n + 1) rows) ≡ gone_pieces p (take n rows)
gone_kept p rows n d within passes =
    ap piece_count
    (filter_more (λ row. not (p row)) rows n d within
    ∙ ap (λ b. filter (λ row. not (p row)) (take n rows) ++ cond (not b) (get_or rows n d ∷ []) []) passes
    ∙ append-nil (filter (λ row. not (p row)) (take n rows)))

pub gone_more : (p : NodeRow → Bool) (rows : List NodeRow) (n : ℕ) (d : NodeRow) → n < length rows → p (get_or rows n d) ≡ false
    → gone_pieces p (take (n + 1) rows) ≡ gone_pieces p (take n rows) + length (get_or rows n d).content
gone_more p rows n d within fails =
    ap piece_count
    (filter_more (λ row. not (p row)) rows n d within
    ∙ ap (λ b. filter (λ row. not (p row)) (take n rows) ++ cond (not b) (get_or rows n d ∷ []) []) fails)
    ∙ sum_by_push (λ (row : NodeRow). length row.content) (filter (λ row. not (p row)) (take n rows)) (get_or rows n d)

-- with those of the rows that stay they are all
pub gone_rest : (p : NodeRow → Bool) (rows : List NodeRow) (n : ℕ) → length rows ≤ n → gone_pieces p (take n rows) + piece_count (filter p rows) ≡ piece_count rows
gone_rest p rows n all =
    ap (λ list. gone_pieces p list + piece_count (filter p rows)) (take_all n rows all)
    ∙ sum_by-filter_both (λ row. not (p row)) p (λ row. twice (p row)) (λ (row : NodeRow). length row.content) rows
  where
    twice : (b : Bool) → b ≡ not (not b)
    twice true = refl
    twice false = refl

-- all of a list is mapped
pub mapped : (f : ℕ → ℕ) (xs : List ℕ) (n : ℕ) → length xs ≡ n → map f (take n xs) ++ drop n xs ≡ map f xs
mapped f [] n long = rw (sym long) refl
mapped f (x ∷ xs) zero long = absurd (omega arith)
mapped f (x ∷ xs) (suc n) long = ap (λ rest. f x ∷ rest) (mapped f xs n (omega arith))

-- the tree that is left
pub purged : (p : NodeRow → Bool) (rows : List NodeRow) (order fates : List ℕ) (pieces count room : ℕ) → IsTree rows order pieces room → AreFates p rows (length rows) fates
    → count ≡ piece_count (filter p rows) → IsTree (filter p rows) (filter (λ to. nat_lt to (length fates)) (map (λ at. get_or fates at 0) order)) count room
purged p rows order fates pieces count room tree are counted = record {
  rising = AllPairs-filter (λ (a b : NodeRow). a.id < b.id) p rows tree.rising;
  index = renumbered p rows order fates tree.index are;
  small = All-filter p (λ (row : NodeRow). length row.content ≤ MAX_PIECES) rows tree.small;
  counted = counted;
  fits = let e = fewer p rows in let f = tree.fits in omega arith;
  few = tree.few;
}
