-- The members of a group among all members.
use Rattle.std.proofs.Common.{ℕ, zero, suc, ◌+◌, ◌<◌, ◌≤◌, ◌≡◌, ◌==◌, Bool, true, false, List, [], ◌∷◌, length, get_or, drop, map, refl, sym, ap, ◌∙◌, inl, inr, ltb, arith}
use Rattle.std.specs.List.{All, filter, prefix_len, take_while}
use Rattle.std.specs.List.Sorted.{IsPartitionedBy, IsStrictlyIncreasing}
use Rattle.std.specs.Ordering.{MatchOrdering, nat_cmp, ordering_then}
use Rattle.std.specs.declared.cmp.Ordering.{Ordering}
use Rattle.std.specs.declared.cmp.Ordering.TheVariants.{Less, Equal, Greater}
use Rattle.std.proofs.lemmas.Bool.{cases_lt, eqb-false, eqb-true, lt-ltb, ltb-true}
use Rattle.std.proofs.lemmas.Cmp.{ranked}
use Rattle.std.proofs.Math.ListN
use Rattle.std.proofs.lemmas.List.{get_or_default, length-map}
use Rattle.std.proofs.lemmas.List.Elements.{filter_passes}
use Rattle.std.proofs.lemmas.List.Kept.{AllPairs-filter}
use Rattle.nf_base.specs.declared.rows.MemberRow.{MemberRow}
use Rattle.nf_defs.specs.Prelude.{IsRising, key_cmp, member_key, members_of}
use Rattle.nf_defs.proofs.Puts.{below_rest, tail_rising}

abbrev Below : MemberRow → MemberRow → Type 0
Below a b = key_cmp (member_key a) (member_key b) ≡ Less

-- a member below another is of a smaller group, or of the same with a smaller number
below_is : (a b : MemberRow) → Below a b → (a.group ≤ b.group) × (a.group ≡ b.group → a.user < b.user)
below_is a b less = here (nat_cmp a.group b.group) (nat_cmp a.user b.user) (ranked a.group b.group _ refl) (ranked a.user b.user _ refl) less
  where
    here : (r s : Ordering) → MatchOrdering r (a.group < b.group) (a.group ≡ b.group) (b.group < a.group)
        → MatchOrdering s (a.user < b.user) (a.user ≡ b.user) (b.user < a.user)
        → ordering_then r (ordering_then s Equal) ≡ Less → (a.group ≤ b.group) × (a.group ≡ b.group → a.user < b.user)
    here Less s h k e = (omega arith, λ same. omega arith)
    here Equal Less h k e = (omega arith, λ same. k)
    here Equal Equal h k e = absurd (cc)
    here Equal Greater h k e = absurd (cc)
    here Greater s h k e = absurd (cc)

none_kept : (p : MemberRow → Bool) (rows : List MemberRow) → All (λ row. p row ≡ false) rows → filter p rows ≡ []
none_kept p [] none = refl
none_kept p (x ∷ xs) none = rw (none 0 x (omega arith)) (none_kept p xs (λ k d within. none (suc k) d (omega arith)))

not_same : (a b : ℕ) → (a ≡ b → ⊥) → (a == b) ≡ false
not_same a b differ = here (a == b) refl
  where
    here : (e : Bool) → (a == b) ≡ e → e ≡ false
    here true is = absurd (differ (eqb-true a b is))
    here false is = refl

module _ (group : ℕ) where
  abbrev pub is_of : MemberRow → Bool
  is_of row = row.group == group

  -- once smaller groups are passed, the members stand in front
  pub front_is : (rows : List MemberRow) (from : ℕ) → IsRising member_key rows
      → ((k : ℕ) (d : MemberRow) → k < from → (get_or rows k d).group < group)
      → ((k : ℕ) (d : MemberRow) → from ≤ k → k < length rows → group ≤ (get_or rows k d).group)
      → take_while is_of (drop from rows) ≡ filter is_of rows
  front_is [] zero rising below above = refl
  front_is [] (suc from) rising below above = refl
  front_is (x ∷ xs) zero rising below above =
      here (is_of x) refl (front_is xs zero (tail_rising member_key x xs rising) (λ k d less. absurd (omega arith)) (λ k d le within. above (suc k) d (omega arith) (omega arith)))
    where
      here : (b : Bool) → is_of x ≡ b → take_while is_of xs ≡ filter is_of xs → take_while is_of (x ∷ xs) ≡ filter is_of (x ∷ xs)
      here true e rest =
          let one : 1 + prefix_len is_of xs ≡ suc (prefix_len is_of xs) = omega arith in
          rw e (rw one (ap (λ more. x ∷ more) rest))
      here false e rest =
          let differ = eqb-false x.group group e in
          let least = above 0 x (omega arith) (omega arith) in
          rw e (sym (none_kept is_of xs (λ k d within.
          let over = (below_is x (get_or xs k d) (below_rest member_key x xs rising k d within)).0 in
          not_same (get_or xs k d).group group (λ same. differ (omega arith)))))
  front_is (x ∷ xs) (suc from) rising below above =
      let smaller = below 0 x (omega arith) in
      rw (not_same x.group group (λ same. omega arith))
      (front_is xs from (tail_rising member_key x xs rising) (λ k d less. below (suc k) d (omega arith)) (λ k d le within. above (suc k) d (omega arith) (omega arith)))

abbrev user_of : MemberRow → ℕ
user_of row = row.user

read_user : (x : MemberRow) (rows : List MemberRow) (i : ℕ) → i < length rows → get_or (map user_of rows) i 0 ≡ user_of (get_or rows i x)
read_user x rows i within =
    get_or_default (map user_of rows) i 0 (user_of x) (let n = length-map rows user_of in omega arith) ∙ ListN.get_or-map user_of rows i x

users_rise : (group : ℕ) (x : MemberRow) (rows : List MemberRow) → IsRising member_key rows → All (λ row. (row.group == group) ≡ true) rows
    → IsStrictlyIncreasing (map user_of rows)
users_rise group x rows rising same k within =
    let n = length-map rows user_of in
    let at = eqb-true (get_or rows k x).group group (same k x (omega arith)) in
    let next = eqb-true (get_or rows (k + 1) x).group group (same (k + 1) x (omega arith)) in
    let less = (below_is (get_or rows k x) (get_or rows (k + 1) x) (rising k (k + 1) x (omega arith) (omega arith))).1 (at ∙ sym next) in
    let first = read_user x rows k (omega arith) in
    let second = read_user x rows (k + 1) (omega arith) in
    omega arith

increasing : (group : ℕ) (rows : List MemberRow) → IsRising member_key rows → All (λ row. (row.group == group) ≡ true) rows
    → IsStrictlyIncreasing (map user_of rows)
increasing group [] rising same = λ k within. absurd (omega arith)
increasing group (x ∷ xs) rising same = users_rise group x (x ∷ xs) rising same

pub members_rise : (rows : List MemberRow) (group : ℕ) → IsRising member_key rows → IsStrictlyIncreasing (members_of rows group)
members_rise rows group rising =
    increasing group (filter (is_of group) rows) (AllPairs-filter Below (is_of group) rows rising) (filter_passes (is_of group) rows)

-- the smaller groups stand before the others
pub groups_part : (group : ℕ) (rows : List MemberRow) → IsRising member_key rows → IsPartitionedBy (λ row. ltb row.group group) rows
groups_part group rows rising i j d le within smaller =
    let last = ltb-true (get_or rows j d).group group smaller in
    elim (cases_lt i j) [
      | inl less ↦ let h = (below_is (get_or rows i d) (get_or rows j d) (rising i j d less within)).0 in lt-ltb (get_or rows i d).group group (omega arith)
      | inr not_less ↦ let e : i ≡ j = omega arith in rw e smaller
    ]
