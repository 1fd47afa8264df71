-- Lines that are put at their places.
use Rattle.std.proofs.Common.{ℕ, suc, cond, sym, ◌≡◌, ◌==◌, Bool, true, false, List, [], ◌∷◌, ◌++◌, reverse, append_assoc, get_or, refl, ap, ◌∙◌, arith}
use Rattle.std.specs.Cmp.{IsStrictWeakOrder}
use Rattle.std.specs.List.{All, AllPairs, Contains, filter}
use Rattle.std.specs.List.Sorted.{IsSortedBy, IsStableBy, ties}
use Rattle.std.specs.Prelude.{if◌then◌else◌}
use Rattle.std.proofs.lemmas.Bool.{eqb-true}
use Rattle.std.proofs.lemmas.Cmp.{nat_list_cmp_total}
use Rattle.std.proofs.lemmas.List.{reverse-append}
use Rattle.std.proofs.lemmas.List.Elements.{All-cons, All-contains, All-filter, All-head, All-nil, All-tail, filter-append}
use Rattle.std.proofs.lemmas.List.Kept.{AllPairs-cons}
use Rattle.std.proofs.lemmas.List.Sorted.{ranks_by, sorted_far}
use Rattle.nf_access.specs.Access.{by_chains}
use Rattle.nf_access.specs.Mounts.{listed}
use Rattle.nf_base.specs.declared.rows.MountRow.{MountRow}
use Rattle.nf_defs.specs.Prelude.{Tables}
use Rattle.nf_defs.specs.declared.Seeker.{Seeker}
use Rattle.nf_defs.specs.declared.Seeker.TheVariants.{User}
use Rattle.nf_laws.proofs.Lines.{children_rise}
use Rattle.nf_reach.specs.Asking.{Asking}
use Rattle.nf_words.specs.Prelude.{AreSound, child_lines, is_line_before, put_line, put_lines}
use Rattle.nf_words.specs.declared.listing.ListingLine.{ListingLine}
use Rattle.nf_decide.specs.Listed.{AreByName, is_listed}

-- ---- lists in order in which ties stand alike are one list

module _ {X : Type 0} (lt : X → X → Bool) (order : IsStrictWeakOrder lt) where
  -- none is less than one before it
  abbrev IsAscending : List X → Type 0
  IsAscending xs = AllPairs (λ x y. lt y x ≡ false) xs

  itself : (x : X) → lt x x ≡ false
  itself x = here (lt x x) refl
    where
      here : (b : Bool) → lt x x ≡ b → lt x x ≡ false
      here true e = order.one_way x x e
      here false e = e

  -- the first is no greater than any
  least : (x : X) (p : X → Bool) (y : X) (ys : List X) → IsAscending (y ∷ ys) → Contains (filter p (y ∷ ys)) x → lt x y ≡ false
  least x p y ys up =
      All-contains (λ x. lt x y ≡ false) (filter p (y ∷ ys)) x
      (All-filter p (λ x. lt x y ≡ false) (y ∷ ys)
      (All-cons (λ x. lt x y ≡ false) y ys (itself y) (λ k d within. up 0 (suc k) d (omega arith) (omega arith))))

  one_list : (xs ys : List X) → IsAscending xs → IsAscending ys → IsStableBy lt xs ys → xs ≡ ys
  one_list [] [] up up' same = refl
  one_list [] (y ∷ ys) up up' same = let h = rw (itself y) at (same y) in absurd (cc)
  one_list (x ∷ xs) [] up up' same = let h = rw (itself x) at (same x) in absurd (cc)
  one_list (x ∷ xs) (y ∷ ys) up up' same =
      let mine : Contains (filter (ties lt x) (x ∷ xs)) x = rw (itself x) (0, omega arith, refl) in
      let its : Contains (filter (ties lt y) (y ∷ ys)) y = rw (itself y) (0, omega arith, refl) in
      let low = least x (ties lt x) y ys up' (rw (same x) mine) in
      let high = least y (ties lt y) x xs up (rw (← same y) its) in
      let firsts = rw (itself x, low, high) at (same x) in
      let first : y ≡ x = cc in
      let rest = one_list xs ys (λ i j d before within. up (suc i) (suc j) d (omega arith) (omega arith))
      (λ i j d before within. up' (suc i) (suc j) d (omega arith) (omega arith))
      (λ z. behind (ties lt z x) (filter (ties lt z) ys) (filter (ties lt z) xs)
      (ap (λ (y : X). filter (ties lt z) (y ∷ ys)) (sym first) ∙ same z)) in
      cc
    where
      behind : (b : Bool) (p q : List X) → cond b (x ∷ p) p ≡ cond b (x ∷ q) q → p ≡ q
      behind true p q e = cc
      behind false p q e = e

-- ---- lines that are put at their places

pub by_names : IsStrictWeakOrder is_line_before
by_names = ranks_by nat_list_cmp_total (λ (line : ListingLine). line.name)

-- a line is put before those of its name
line_stable : (x : ListingLine) (ys : List ListingLine) → IsStableBy is_line_before (x ∷ ys) (put_line x ys)
line_stable x [] z = refl
line_stable x (y ∷ ys) z = here (is_line_before y x) refl (line_stable x ys z)
  where
    apart : is_line_before y x ≡ true → ties is_line_before z x ≡ true → ties is_line_before z y ≡ true → ⊥
    apart less tie tie' = let chain = by_names.chain y z x in grind arith

    swap : (b c : Bool) (l : List ListingLine) → (b ≡ true → c ≡ true → ⊥)
        → cond c (y ∷ cond b (x ∷ l) l) (cond b (x ∷ l) l) ≡ cond b (x ∷ cond c (y ∷ l) l) (cond c (y ∷ l) l)
    swap true true l both = absurd (both refl refl)
    swap true false l both = refl
    swap false c l both = refl

    here : (b : Bool) → is_line_before y x ≡ b → filter (ties is_line_before z) (put_line x ys) ≡ filter (ties is_line_before z) (x ∷ ys)
        → filter (ties is_line_before z) (if b then y ∷ put_line x ys else x ∷ y ∷ ys) ≡ filter (ties is_line_before z) (x ∷ y ∷ ys)
    here true less rest =
        ap (λ l. cond (ties is_line_before z y) (y ∷ l) l) rest ∙ swap (ties is_line_before z x) (ties is_line_before z y) (filter (ties is_line_before z) ys) (apart less)
    here false less rest = refl

lines_stable : (xs ys : List ListingLine) → IsStableBy is_line_before (reverse xs ++ ys) (put_lines xs ys)
lines_stable [] ys z = refl
lines_stable (x ∷ xs) ys z =
    lines_stable xs (put_line x ys) z
    ∙ filter-append (ties is_line_before z) (reverse xs) (put_line x ys)
    ∙ ap (λ l. filter (ties is_line_before z) (reverse xs) ++ l) (line_stable x ys z)
    ∙ sym (filter-append (ties is_line_before z) (reverse xs) (x ∷ ys))
    ∙ ap (filter (ties is_line_before z)) (sym (append_assoc (reverse xs) (x ∷ []) ys) ∙ ap (λ l. l ++ ys) (sym (reverse-append (x ∷ []) xs)))

-- and lines by name stay so
all_put : (P : ListingLine → Type 0) (x : ListingLine) (ys : List ListingLine) → P x → All P ys → All P (put_line x ys)
all_put P x [] one all = All-cons P x [] one all
all_put P x (y ∷ ys) one all = here (is_line_before y x) (all_put P x ys one (All-tail P y ys all))
  where
    here : (b : Bool) → All P (put_line x ys) → All P (if b then y ∷ put_line x ys else x ∷ y ∷ ys)
    here true rest = All-cons P y (put_line x ys) (All-head P y ys all) rest
    here false rest = All-cons P x (y ∷ ys) one all

line_by_name : (x : ListingLine) (ys : List ListingLine) → AreByName ys → AreByName (put_line x ys)
line_by_name x [] up = AllPairs-cons (λ x y. is_line_before y x ≡ false) x [] (All-nil (λ y. is_line_before y x ≡ false)) up
line_by_name x (y ∷ ys) up = here (is_line_before y x) refl (line_by_name x ys (λ i j d before within. up (suc i) (suc j) d (omega arith) (omega arith)))
  where
    first : All (λ z. is_line_before z y ≡ false) ys
    first k d within = up 0 (suc k) d (omega arith) (omega arith)

    here : (b : Bool) → is_line_before y x ≡ b → AreByName (put_line x ys) → AreByName (if b then y ∷ put_line x ys else x ∷ y ∷ ys)
    here true less rest =
        AllPairs-cons (λ x y. is_line_before y x ≡ false) y (put_line x ys) (all_put (λ z. is_line_before z y ≡ false) x ys (by_names.one_way y x less) first) rest
    here false not_less rest =
        AllPairs-cons (λ x y. is_line_before y x ≡ false) x (y ∷ ys)
        (All-cons (λ z. is_line_before z x ≡ false) y ys not_less (λ k d within. by_names.chain (get_or ys k d) y x (first k d within) not_less)) up

lines_by_name : (xs ys : List ListingLine) → AreByName ys → AreByName (put_lines xs ys)
lines_by_name [] ys up = up
lines_by_name (x ∷ xs) ys up = lines_by_name xs (put_line x ys) (line_by_name x ys up)

-- what a stable sort makes of them, the one that is put last first, and of those that are there
pub sorted_lines : (xs ys zs : List ListingLine) → AreByName ys → IsSortedBy is_line_before zs → IsStableBy is_line_before (reverse xs ++ ys) zs
    → zs ≡ put_lines xs ys
sorted_lines xs ys zs up sorted stable =
    one_list is_line_before by_names zs (put_lines xs ys)
    (λ i j d before within. sorted_far is_line_before by_names zs sorted i j d (omega arith) within)
    (lines_by_name xs ys up) (λ z. lines_stable xs ys z ∙ sym (stable z))

-- ---- children

pub children_by_name : (t : Tables) (seeker : Seeker) (granted folder : ℕ) → AreSound t → AreByName (child_lines t seeker granted folder)
children_by_name t seeker granted folder sound i j d before within =
    let lines = child_lines t seeker granted folder in
    by_names.one_way (get_or lines i d) (get_or lines j d) (children_rise t seeker granted folder sound i j d before within)

-- ---- mounts

-- a user's mounts that are listed, where the user asks
pub listed_of_user : (a : Asking) (user : ℕ) (rows : List MountRow) → a.seeker ≡ User user
    → filter (is_listed a) (filter (λ row. row.user == user) rows) ≡ listed (by_chains a.base) a.moment rows user
listed_of_user a user [] asks = refl
listed_of_user a user (row ∷ rows) asks = let rest = listed_of_user a user rows asks in grind arith

pub all_of_user : (user : ℕ) (rows : List MountRow) → All (λ (row : MountRow). row.user ≡ user) (filter (λ row. row.user == user) rows)
all_of_user user [] = All-nil (λ (row : MountRow). row.user ≡ user)
all_of_user user (row ∷ rows) = here (row.user == user) refl (all_of_user user rows)
  where
    here : (b : Bool) → (row.user == user) ≡ b → All (λ (row : MountRow). row.user ≡ user) (filter (λ row. row.user == user) rows)
        → All (λ (row : MountRow). row.user ≡ user) (if b then row ∷ filter (λ row. row.user == user) rows else filter (λ row. row.user == user) rows)
    here true is rest = All-cons (λ (row : MountRow). row.user ≡ user) row _ (eqb-true row.user user is) rest
    here false is rest = rest
