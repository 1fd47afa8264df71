-- Those of the items of a trash that go for good.
use Rattle.std.proofs.Common.{◌≡◌, ◌<◌, ◌≤◌, ◌+◌, ◌∙◌, ◌⊎◌, ℕ, zero, suc, cond, Bool, true, false, List, [], ◌∷◌, ◌++◌, length, get_or, map, drop, refl, ap, subst, inl, inr, arith}
use Rattle.std.specs.List.{All, filter}
use Rattle.std.specs.Prelude.{nat_lt, not}
use Rattle.std.proofs.lemmas.Bool.{le-ltb, ltb-false}
use Rattle.std.proofs.lemmas.List.{drop-map, length-map}
use Rattle.std.proofs.lemmas.List.Elements.{All-head, All-tail}
use Rattle.nf_base.specs.declared.rows.ItemRow.{ItemRow}
use Rattle.nf_retention.specs.Budget.{IsLongestWithin}
use Rattle.nf_retention.specs.Laws.{GoingIsRest}
use Rattle.nf_retention.specs.Trash.{AreGoing, AreNewestFirst, is_young, trashed, young_sizes}
use Rattle.nf_retention.specs.declared.trash.Trashed.{Trashed}
use Rattle.nf_retention.proofs.Fronts.{fitting_only, fitting_right}

-- ---- the rest

abbrev is_old : ℕ → ItemRow → Bool
is_old now item = not (is_young now item)

-- behind one that isn't young none is
none_young : (now : ℕ) (items : List ItemRow) → All (λ item. item.at + 2592000 ≤ now) items
    → (filter (is_young now) items ≡ []) × (filter (is_old now) items ≡ items)
none_young now [] old = (refl, refl)
none_young now (first ∷ items) old =
    let rest = none_young now items (All-tail (λ item. item.at + 2592000 ≤ now) first items old) in
    let is = le-ltb now (first.at + 2592000) (All-head (λ item. item.at + 2592000 ≤ now) first items old) in
    (rw is rest.0, rw is (ap (λ l. first ∷ l) rest.1))

-- so the young ones are the front
parts : (now : ℕ) (items : List ItemRow) → AreNewestFirst items → items ≡ filter (is_young now) items ++ filter (is_old now) items
parts now [] order = refl
parts now (first ∷ items) order =
    here (is_young now first) refl (parts now items (λ i j d before within. order (suc i) (suc j) d (omega arith) (omega arith)))
  where
    lower : (item : ItemRow) → is_young now first ≡ false → (item.at < first.at) ⊎ ((item.at ≡ first.at) × (item.node ≤ first.node))
        → item.at + 2592000 ≤ now
    lower item is (inl under) = omega (arith, under, ltb-false now (first.at + 2592000) is)
    lower item is (inr same) = omega (arith, same.0, ltb-false now (first.at + 2592000) is)

    here : (b : Bool) → is_young now first ≡ b → items ≡ filter (is_young now) items ++ filter (is_old now) items
        → first ∷ items ≡ cond b (first ∷ filter (is_young now) items) (filter (is_young now) items) ++ cond (not b) (first ∷ filter (is_old now) items) (filter (is_old now) items)
    here true is rest = ap (λ l. first ∷ l) rest
    here false is rest =
        let none = none_young now items (λ k d within. lower (get_or items k d) is (order 0 (suc k) d (omega arith) (omega arith))) in
        rw (none.0, none.1) refl

drop_front : {X : Type 0} (n : ℕ) (xs ys : List X) → n ≤ length xs → drop n (xs ++ ys) ≡ drop n xs ++ ys
drop_front zero xs ys within = refl
drop_front (suc n) [] ys within = absurd (omega (arith, within))
drop_front (suc n) (x ∷ xs) ys within = drop_front n xs ys (omega (arith, within))

pub going_rest : GoingIsRest
going_rest size now bound count items order longest =
    let young = filter (is_young now) items in
    let is = fitting_only bound (map size young) _ _ (fitting_right bound (map size young)) longest in
    rw is (ap (drop count) (parts now items order) ∙ drop_front count young (filter (is_old now) items) (omega (arith, longest.front, length-map young size)))

-- ---- what is carried of them

carried_young : (size : ItemRow → ℕ) (now : ℕ) (items : List ItemRow)
    → young_sizes now (map (trashed size) items) ≡ map size (filter (is_young now) items)
carried_young size now [] = refl
carried_young size now (first ∷ items) = here (is_young now first) (carried_young size now items)
  where
    here : (b : Bool) → young_sizes now (map (trashed size) items) ≡ map size (filter (is_young now) items)
        → map (λ (one : Trashed). one.size) (cond b (trashed size first ∷ filter (λ (one : Trashed). nat_lt now (one.at + 2592000)) (map (trashed size) items)) (filter (λ (one : Trashed). nat_lt now (one.at + 2592000)) (map (trashed size) items)))
        ≡ map size (cond b (first ∷ filter (is_young now) items) (filter (is_young now) items))
    here true rest = ap (λ l. size first ∷ l) rest
    here false rest = rest

nodes_of : (size : ItemRow → ℕ) (items : List ItemRow) → map (λ (one : Trashed). one.node) (map (trashed size) items) ≡ map (λ (item : ItemRow). item.node) items
nodes_of size [] = refl
nodes_of size (first ∷ items) = ap (λ l. first.node ∷ l) (nodes_of size items)

-- the nodes behind the longest front are those that go
pub carried_going : (now bound count : ℕ) (carried : List Trashed) (nodes : List ℕ) → IsLongestWithin bound (young_sizes now carried) count
    → nodes ≡ map (λ (one : Trashed). one.node) (drop count carried) → AreGoing now bound carried nodes
carried_going now bound count carried nodes longest gone size items is =
    let sizes = ap (young_sizes now) is ∙ carried_young size now items in
    let front : IsLongestWithin bound (map size (filter (is_young now) items)) count = subst (λ l. IsLongestWithin bound l count) sizes longest in
    let same = fitting_only bound _ _ _ front (fitting_right bound (map size (filter (is_young now) items))) in
    gone ∙ ap (λ l. map (λ (one : Trashed). one.node) (drop count l)) is
    ∙ ap (map (λ (one : Trashed). one.node)) (drop-map (trashed size) count items)
    ∙ nodes_of size (drop count items)
    ∙ ap (λ n. map (λ (item : ItemRow). item.node) (drop n items)) same

-- no more are young than are there
pub fewer_young : (now : ℕ) (carried : List Trashed) → length (young_sizes now carried) ≤ length carried
fewer_young now [] = omega arith
fewer_young now (first ∷ carried) = here (nat_lt now (first.at + 2592000)) (fewer_young now carried)
  where
    young : List Trashed
    young = filter (λ (one : Trashed). nat_lt now (one.at + 2592000)) carried

    here : (b : Bool) → length (young_sizes now carried) ≤ length carried
        → length (map (λ (one : Trashed). one.size) (cond b (first ∷ young) young)) ≤ suc (length carried)
    here true rest = omega (arith, rest)
    here false rest = omega (arith, rest)
