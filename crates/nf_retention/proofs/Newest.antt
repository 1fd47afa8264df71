-- Items of the trash, newest first, and those of them that go.
use Rattle.std.proofs.Common.{◌≡◌, ◌<◌, ◌≤◌, ◌∙◌, ◌⊎◌, ℕ, Bool, true, false, List, [], ◌∷◌, map, refl, ap, subst, arith}
use Rattle.std.specs.Cmp.{IsStrictWeakOrder}
use Rattle.std.specs.List.Sorted.{IsPermutation}
use Rattle.std.specs.Ordering.{is_lt, nat_cmp, ordering_then}
use Rattle.std.specs.Prelude.{if◌then◌else◌, ◌&&◌, ◌||◌, ◌==◌, nat_lt}
use Rattle.nf_base.specs.declared.rows.ItemRow.{ItemRow}
use Rattle.nf_retention.specs.Laws.{NewestIsRight}
use Rattle.nf_retention.specs.Trash.{AreNewestFirst, is_newer, newest_first, put_newest, trashed}
use Rattle.nf_retention.specs.declared.trash.Trashed.{Trashed}
use Rattle.nf_retention.proofs.Puts.{map_puts, put, puts, puts_ascend, puts_same}

-- the same of two moments and numbers
abbrev pub newer : ℕ → ℕ → ℕ → ℕ → Bool
newer at node at' node' = nat_lt at' at || at == at' && nat_lt node' node

pub one_way : (a m b n : ℕ) → newer a m b n ≡ true → newer b n a m ≡ false
one_way a m b n is = grind arith

pub chain : (a m b n c o : ℕ) → newer a m b n ≡ false → newer b n c o ≡ false → newer a m c o ≡ false
chain a m b n c o first second = grind arith

pub not_newer : (a m b n : ℕ) → newer a m b n ≡ false → (a < b) ⊎ ((a ≡ b) × (m ≤ n))
not_newer a m b n is = grind arith

-- a comparison's
pub compared : (a m b n : ℕ) → is_lt (ordering_then (nat_cmp b a) (nat_cmp n m)) ≡ newer a m b n
compared a m b n = grind arith

-- what is carried of an item comes first where the item does
abbrev pub is_first : Trashed → Trashed → Bool
is_first a b = newer a.at a.node b.at b.node

pub firsts_order : IsStrictWeakOrder is_first
firsts_order = record {
  one_way = λ x y. one_way x.at x.node y.at y.node;
  chain = λ x y z. chain x.at x.node y.at y.node z.at z.node;
}

items_order : IsStrictWeakOrder is_newer
items_order = record {
  one_way = λ x y. one_way x.at x.node y.at y.node;
  chain = λ x y z. chain x.at x.node y.at y.node z.at z.node;
}

put_is : (item : ItemRow) (items : List ItemRow) → put is_newer item items ≡ put_newest item items
put_is item [] = refl
put_is item (first ∷ items) = ap (λ rest. if is_newer first item then first ∷ rest else item ∷ first ∷ items) (put_is item items)

puts_is : (items : List ItemRow) → puts is_newer items ≡ newest_first items
puts_is [] = refl
puts_is (item ∷ items) = ap (put is_newer item) (puts_is items) ∙ put_is item (newest_first items)

pub carried_first : (size : ItemRow → ℕ) (items : List ItemRow) → puts is_first (map (trashed size) items) ≡ map (trashed size) (newest_first items)
carried_first size items =
    map_puts is_newer is_first (trashed size) (λ x y. refl) items ∙ ap (map (trashed size)) (puts_is items)

pub newest_right : NewestIsRight
newest_right items =
    let falls : AreNewestFirst (puts is_newer items) = λ i j d before within. not_newer _ _ _ _ (puts_ascend is_newer items_order items i j d before within) in
    (subst AreNewestFirst (puts_is items) falls, subst (IsPermutation items) (puts_is items) (puts_same is_newer items))
