-- The trash of each user stays within its bound by every step.
use Rattle.std.proofs.Common.{◌≡◌, ◌≢◌, ◌≤◌, ◌==◌, ◌/◌, ◌⊎◌, ℕ, zero, suc, inl, inr, not, Bool, false, List, [], ◌∷◌, ◌++◌, ◌∙◌, drop, filter, get_or, map, sum, sum_by, take, bytes_eq, Option, None, Some, refl, sym, ap, subst, arith}
use Rattle.std.specs.List.{All, AllPairs, Contains}
use Rattle.std.specs.Option.{option_and_then, option_map_or}
use Rattle.std.proofs.Math.Nat.{div-mul-le_self}
use Rattle.std.proofs.lemmas.Nat.{le-div}
use Rattle.std.proofs.lemmas.Bool.{both_ways, cases_Bool, cond_both, eq-eqb, eqb-true, ne_eqb}
use Rattle.std.proofs.lemmas.Cmp.{tied_itself}
use Rattle.std.proofs.lemmas.List.{take-map}
use Rattle.std.proofs.lemmas.List.Elements.{All-cons, All-contains, All-contains_itself, All-filter, All-head, All-nil, All-tail, filter_passes}
use Rattle.std.proofs.lemmas.List.Filters.{sum_by-filter_both}
use Rattle.std.proofs.lemmas.List.Kept.{AllPairs-filter}
use Rattle.std.proofs.lemmas.List.Sums.{sum-map, sum_by-cons}
use Rattle.std.proofs.lemmas.Option.{none-some, option_and_then_some}
use Rattle.nf_base.specs.declared.rows.ItemRow.{ItemRow}
use Rattle.nf_base.specs.declared.rows.NodeRow.{NodeRow}
use Rattle.nf_defs.proofs.ByName.{Contains-filter, Contains-map}
use Rattle.nf_defs.proofs.Puts.{key_total}
use Rattle.nf_defs.specs.Prelude.{climb, folder_of, item_key, item_row, key_cmp, node_row, parent_of, Tables, walk_of}
use Rattle.nf_laws.proofs.Gone.{kept_left}
use Rattle.nf_laws.proofs.Purged.{purged_keeps}
use Rattle.nf_laws.proofs.Upwards.{climbed, derived}
use Rattle.nf_laws.proofs.Walked.{walk_distinct, walks_take}
use Rattle.nf_laws.specs.Tree.{Under}
use Rattle.nf_retention.proofs.Fronts.{fitting_right}
use Rattle.nf_retention.proofs.Gone.{going_rest}
use Rattle.nf_retention.proofs.Newest.{newest_right}
use Rattle.nf_retention.specs.Budget.{fitting, trash_bound}
use Rattle.nf_retention.specs.Trash.{going, is_newer, is_young, newest_first, put_newest}
use Rattle.nf_words.specs.Listing.{bytes_of, size_of}
use Rattle.nf_words.specs.Prelude.{AreSound, deeds_done, gone_of, item_size, items_of, purged, purges, quota_of}
use Rattle.nf_rules.specs.Rules.{trash_bytes}

-- ---- what a list has

pub next : {X : Type 0} (first x : X) (xs : List X) → Contains xs x → Contains (first ∷ xs) x
next first x xs (k, within, is) = (suc k, omega (arith, within), is)

pub first_or : {X : Type 0} (first x : X) (xs : List X) → Contains (first ∷ xs) x → (first ≡ x) ⊎ Contains xs x
first_or first x xs (zero, within, is) = inl is
first_or first x xs (suc k, within, is) = inr (k, omega (arith, within), is)

pub none_among : {X : Type 0} (x : X) → Contains [] x → ⊥
none_among x is = omega (arith, is.1)

pub left_among : {X : Type 0} (xs ys : List X) (x : X) → Contains xs x → Contains (xs ++ ys) x
left_among [] ys x is = absurd (none_among x is)
left_among (first ∷ xs) ys x is =
    elim (first_or first x xs is) [
      | inl same ↦ (0, omega arith, same)
      | inr more ↦ next first x (xs ++ ys) (left_among xs ys x more)
    ]

pub right_among : {X : Type 0} (xs ys : List X) (x : X) → Contains ys x → Contains (xs ++ ys) x
right_among [] ys x is = is
right_among (first ∷ xs) ys x is = next first x (xs ++ ys) (right_among xs ys x is)

-- in a front or behind it
split_among : {X : Type 0} (n : ℕ) (xs : List X) (x : X) → Contains xs x → Contains (take n xs) x ⊎ Contains (drop n xs) x
split_among zero xs x is = inr is
split_among (suc n) [] x is = absurd (none_among x is)
split_among (suc n) (first ∷ xs) x is =
    elim (first_or first x xs is) [
      | inl same ↦ inl (0, omega arith, same)
      | inr more ↦
          elim (split_among n xs x more) [
            | inl front ↦ inl (next first x (take n xs) front)
            | inr behind ↦ inr behind
          ]
    ]

put_among : (item x : ItemRow) (items : List ItemRow) → (item ≡ x) ⊎ Contains items x → Contains (put_newest item items) x
put_among item x [] (inl same) = (0, omega arith, same)
put_among item x [] (inr is) = absurd (none_among x is)
put_among item x (first ∷ items) is =
    cond_both (is_newer first item) (first ∷ put_newest item items) (item ∷ first ∷ items) (λ (l : List ItemRow). Contains l x)
    (λ e.
    elim is [
      | inl same ↦ next first x (put_newest item items) (put_among item x items (inl same))
      | inr more ↦
          elim (first_or first x items more) [
            | inl same ↦ (0, omega arith, same)
            | inr rest ↦ next first x (put_newest item items) (put_among item x items (inr rest))
          ]
    ])
    (λ e. elim is [ inl same ↦ (0, omega arith, same) | inr more ↦ next item x (first ∷ items) more ])

newest_among : (x : ItemRow) (items : List ItemRow) → Contains items x → Contains (newest_first items) x
newest_among x [] is = absurd (none_among x is)
newest_among x (first ∷ items) is =
    put_among first x (newest_first items)
    (elim (first_or first x items is) [ inl same ↦ inl same | inr more ↦ inr (newest_among x items more) ])

-- ---- sums over what is among others

one_keyed : {X : Type 0} (key f : X → ℕ) (n most : ℕ) (xs : List X) → AllPairs (λ (a b : X). key a ≢ key b) xs
    → All (λ (x : X). key x ≡ n) xs → All (λ (x : X). f x ≤ most) xs → sum_by f xs ≤ most
one_keyed key f n most [] apart same few = omega arith
one_keyed key f n most (x ∷ []) apart same few = omega (arith, sum_by-cons f x [], All-head (λ x. f x ≤ most) x [] few)
one_keyed key f n most (a ∷ b ∷ xs) apart same few =
    let first = All-head (λ x. key x ≡ n) a (b ∷ xs) same in
    let second = All-head (λ x. key x ≡ n) b xs (All-tail (λ x. key x ≡ n) a (b ∷ xs) same) in
    absurd (apart 0 1 a (omega arith) (omega arith) (first ∙ sym second))

-- one of its key is among those, and it comes to no more than what its key does
abbrev pub IsKeyed : {X : Type 0} → (X → ℕ) → (X → ℕ) → (ℕ → ℕ) → List X → X → Type 0
IsKeyed {X} key f g ys x = ((y : X) × Contains ys y × (key y ≡ key x)) × (f x ≤ g (key x))

pub sum_keyed : {X : Type 0} (key f : X → ℕ) (g : ℕ → ℕ) (ys xs : List X) → AllPairs (λ (a b : X). key a ≢ key b) xs
    → All (IsKeyed key f g ys) xs → sum_by f xs ≤ sum_by (λ (y : X). g (key y)) ys
sum_keyed key f g [] [] apart all = omega arith
sum_keyed key f g [] (x ∷ xs) apart all =
    let it = All-head (IsKeyed key f g []) x xs all in absurd (none_among it.0.0 it.0.1)
sum_keyed {X = X} key f g (y ∷ ys) xs apart all =
    let is : X → Bool = λ x. key y == key x in
    let off : X → Bool = λ x. not (is x) in
    let Apart : X → X → Type 0 = λ a b. key a ≢ key b in
    let first = filter is xs in
    let rest = filter off xs in
    let one = one_keyed key f (key y) (g (key y)) first (AllPairs-filter Apart is xs apart)
    (λ k d less. sym (eqb-true (key y) (key (get_or first k d)) (filter_passes is xs k d less)))
    (λ k d less.
    let x = get_or first k d in
    let same = eqb-true (key y) (key x) (filter_passes is xs k d less) in
    let few = (All-filter is (IsKeyed key f g (y ∷ ys)) xs all k d less).1 in omega (arith, few, ap g same)) in
    let others = sum_keyed key f g ys rest (AllPairs-filter Apart off xs apart)
    (λ k d less.
    let x = get_or rest k d in
    let it = All-filter off (IsKeyed key f g (y ∷ ys)) xs all k d less in
    let differs : (key y ≡ key x) → ⊥ = λ same. both_ways (off x) (ap not (eq-eqb (key y) (key x) same)) (filter_passes off xs k d less) in
    let among : Contains ys it.0.0 = elim (first_or y it.0.0 ys it.0.1) [
      | inl same ↦ absurd (differs (ap key same ∙ it.0.2))
      | inr more ↦ more
    ] in
    ((it.0.0, among, it.0.2), it.1)) in
    omega (arith, one, others, sum_by-filter_both is off (λ x. refl) f xs, sum_by-cons (λ (y : X). g (key y)) y ys)

-- ---- sizes

-- the node's row is as it was, or it is in no folder and has no more bytes
abbrev pub IsAlike : Tables → Tables → ℕ → Type 0
IsAlike t u node = (node_row u.nodes node ≡ node_row t.nodes node) ⊎ ((parent_of u.nodes node ≡ None) × (bytes_of u.nodes node ≤ bytes_of t.nodes node))

module _ (t u : Tables) (top : ℕ) (alike : (node : ℕ) → Under u.nodes top node → IsAlike t u node) where
  under_was : (j node : ℕ) → climb u.nodes j node ≡ Some top → Under t.nodes top node
  under_was zero node is = derived 0 t.nodes top node is
  under_was (suc j) node is =
      option_and_then_some (climb u.nodes j) (parent_of u.nodes node) top is (λ parent above on.
      let up = under_was j parent on in
      let c = climbed t.nodes top parent up in
      elim (alike node (derived (suc j) u.nodes top node is)) [
        | inl same ↦
            (let was : parent_of t.nodes node ≡ Some parent = ap (option_and_then (λ (row : NodeRow). folder_of row.place)) (sym same) ∙ above in
            derived (suc c.0) t.nodes top node (ap (option_and_then (climb t.nodes c.0)) was ∙ c.1))
        | inr other ↦ absurd (none-some parent (sym other.0 ∙ above))
      ])

  bytes_fewer : (node : ℕ) → Under u.nodes top node → bytes_of u.nodes node ≤ bytes_of t.nodes node
  bytes_fewer node under =
      elim (alike node under) [
        | inl same ↦
            omega (arith, ap (λ (o : Option NodeRow). sum_by (λ piece. piece.size) (option_map_or (λ (row : NodeRow). row.content) o [])) same)
        | inr other ↦ other.1
      ]

  -- so it has no more bytes under it
  pub size_fewer : AreSound t → AreSound u → size_of u.nodes top ≤ size_of t.nodes top
  size_fewer before sound =
      let was = walk_of t.nodes top in
      let now = walk_of u.nodes top in
      let few : sum_by (bytes_of u.nodes) now ≤ sum_by (bytes_of t.nodes) was =
      sum_keyed (λ (node : ℕ). node) (bytes_of u.nodes) (bytes_of t.nodes) was now (walk_distinct u top sound)
      (λ k d within.
      let node = get_or now k d in
      let under = (walks_take.those u top node sound).0 (All-contains_itself now k d within) in
      let c = climbed u.nodes top node under in
      ((node, (walks_take.those t top node before).1 (under_was c.0 node c.1), refl), bytes_fewer node under)) in
      omega (arith, few)

-- ---- a user's items

abbrev pub IsBounded : Tables → ℕ → Type 0
IsBounded t user = trash_bytes t user ≤ trash_bound (quota_of t user)

abbrev AreTwo : ItemRow → ItemRow → Type 0
AreTwo a b = a.node ≢ b.node

items_two : (t : Tables) → AreSound t → AllPairs AreTwo t.items
items_two t sound i j d before within = λ same.
    let a = get_or t.items i d in
    let b = get_or t.items j d in
    let equal = tied_itself key_total (item_key b) in
    let less = ap (λ (n : ℕ). key_cmp (n ∷ []) (item_key b)) (sym same) ∙ sound.others.items_rise i j d before within in absurd (cc)

found_each : (items : List ItemRow) → AllPairs AreTwo items → All (λ (item : ItemRow). item_row items item.node ≡ Some item) items
found_each [] pairs = All-nil (λ (item : ItemRow). item_row [] item.node ≡ Some item)
found_each (first ∷ items) pairs =
    All-cons (λ (item : ItemRow). item_row (first ∷ items) item.node ≡ Some item) first items (rw (eq-eqb first.node first.node refl) refl)
    (λ k d within.
    let other = get_or items k d in
    let differs : (first.node == other.node) ≡ false = ne_eqb first.node other.node (pairs 0 (suc k) d (omega arith) (omega (arith, within))) in
    rw differs (found_each items (λ i j d before within. pairs (suc i) (suc j) d (omega (arith, before)) (omega (arith, within))) k d within))

-- an item is found by its node
pub item_found : (t : Tables) (item : ItemRow) → AreSound t → Contains t.items item → item_row t.items item.node ≡ Some item
item_found t item sound is =
    All-contains (λ (item : ItemRow). item_row t.items item.node ≡ Some item) t.items item (found_each t.items (items_two t sound)) is

half_rises : (less more : ℕ) → less ≤ more → trash_bound less ≤ trash_bound more
half_rises less more le = le-div (less / 2) more 2 (omega arith) (omega (arith, le, div-mul-le_self less 2))

module _ (t u : Tables) (sound : AreSound u) (user : ℕ) where
  abbrev own : ItemRow → Bool
  own item = item.owner == user

  -- they come to no more than a list that has them all, where each has no more under it
  bytes_among : (items : List ItemRow)
      → ((item : ItemRow) → Contains u.items item → item.owner ≡ user → Contains items item × (item_size u item ≤ item_size t item))
      → trash_bytes u user ≤ sum_by (item_size t) items
  bytes_among items each =
      sum_keyed (λ (item : ItemRow). item.node) (item_size u) (size_of t.nodes) items (items_of u user)
      (AllPairs-filter AreTwo own u.items (items_two u sound))
      (λ k d less.
      let item = get_or (items_of u user) k d in
      let it = each item (All-filter own (Contains u.items) u.items (All-contains_itself u.items) k d less)
      (eqb-true item.owner user (filter_passes own u.items k d less)) in
      ((item, it.0, refl), it.1))

  -- where each was there before, they are within the bound as before
  pub bounded_fewer : IsBounded t user → quota_of t user ≤ quota_of u user
      → ((item : ItemRow) → Contains u.items item → item.owner ≡ user → Contains t.items item × (item_size u item ≤ item_size t item))
      → IsBounded u user
  bounded_fewer bounded quota each =
      omega (
        arith,
        bytes_among (items_of t user) (λ item is own_is.
            let h = each item is own_is in (Contains-filter own t.items item h.0 (eq-eqb item.owner user own_is), h.1)),
        bounded,
        half_rises (quota_of t user) (quota_of u user) quota,
      )

  -- where each is among some of which it doesn't go, they are within the bound
  pub bounded_reckoned : (now quota : ℕ) (items : List ItemRow) → quota_of u user ≡ quota
      → ((item : ItemRow) → Contains u.items item → item.owner ≡ user
      → Contains items item × ((Contains (gone_of t now quota items) item.node → ⊥) × (item_size u item ≤ item_size t item)))
      → IsBounded u user
  bounded_reckoned now quota items same each =
      let size : ItemRow → ℕ = item_size t in
      let bound = trash_bound quota in
      let sorted = newest_first items in
      let young = filter (is_young now) sorted in
      let old = filter (λ (item : ItemRow). not (is_young now item)) sorted in
      let n = fitting bound (map size young) in
      let longest = fitting_right bound (map size young) in
      let goes : going size now bound sorted ≡ drop n young ++ old = going_rest size now bound n sorted (newest_right items).0 longest in
      let front = take n young in
      let few = bytes_among front (λ item is own_is.
      let h = each item is own_is in
      let stays : Contains (drop n young ++ old) item → ⊥ = λ among.
      h.1.0 (Contains-map (λ (item : ItemRow). item.node) (going size now bound sorted) item (subst (λ (l : List ItemRow). Contains l item) (sym goes) among)) in
      let there = newest_among item items h.0 in
      let fresh : Contains front item = elim (cases_Bool (is_young now item)) [
        | inl is_so ↦
            elim (split_among n young item (Contains-filter (is_young now) sorted item there is_so)) [
              | inl in_front ↦ in_front
              | inr behind ↦ absurd (stays (left_among (drop n young) old item behind))
            ]
        | inr not_so ↦
            absurd (stays (right_among (drop n young) old item
            (Contains-filter (λ (item : ItemRow). not (is_young now item)) sorted item there (ap not not_so))))
      ] in
      (fresh, h.1.1)) in
      omega (
        arith,
        few,
        sum-map size front,
        ap sum (take-map size n young),
        longest.within,
        ap trash_bound same,
      )

-- ---- rows that are gone

-- a row that isn't there is alike
pub gone_alike : (t u : Tables) (node : ℕ) → node_row u.nodes node ≡ None → IsAlike t u node
gone_alike t u node gone = inr (
  ap (option_and_then (λ (row : NodeRow). folder_of row.place)) gone,
  omega (arith, ap (λ (o : Option NodeRow). sum_by (λ piece. piece.size) (option_map_or (λ (row : NodeRow). row.content) o [])) gone),
)

rows_left : (u : Tables) (gone : List ℕ) (node : ℕ) (row : NodeRow) → node_row (deeds_done u (purges gone)).nodes node ≡ Some row
    → node_row u.nodes node ≡ Some row
rows_left u [] node row is = is
rows_left u (top ∷ gone) node row is = (kept_left u.nodes top node row (rows_left (purged u top) gone node row is)).1

-- what goes for good leaves the others alike
pub purged_alike : (u : Tables) (gone : List ℕ) (node : ℕ) → IsAlike u (deeds_done u (purges gone)) node
purged_alike u gone node = here (node_row (deeds_done u (purges gone)).nodes node) refl
  where
    here : (o : Option NodeRow) → node_row (deeds_done u (purges gone)).nodes node ≡ o → IsAlike u (deeds_done u (purges gone)) node
    here None e = gone_alike u (deeds_done u (purges gone)) node e
    here (Some row) e = inl (e ∙ sym (rows_left u gone node row e))

-- and the items that are left were there
pub purged_fewer : (u : Tables) (gone : List ℕ) → All (Contains u.items) (deeds_done u (purges gone)).items
purged_fewer u gone =
    purged_keeps (λ (v : Tables). All (Contains u.items) v.items)
    (λ v node all. All-filter (λ (item : ItemRow). not (bytes_eq (node ∷ []) (item_key item))) (Contains u.items) v.items all) u gone
    (All-contains_itself u.items)

-- where items go for good and nothing comes, each user's are within the bound as before
pub purges_bounded : (t u : Tables) (gone : List ℕ) (user : ℕ) → AreSound u → AreSound (deeds_done u (purges gone)) → IsBounded t user
    → quota_of t user ≤ quota_of (deeds_done u (purges gone)) user
    → ((item : ItemRow) → Contains u.items item → Contains t.items item × (item_size u item ≤ item_size t item))
    → IsBounded (deeds_done u (purges gone)) user
purges_bounded t u gone user between sound bounded quota each =
    let v = deeds_done u (purges gone) in
    bounded_fewer t v sound user bounded quota (λ item is own_is.
    let was = All-contains (Contains u.items) v.items item (purged_fewer u gone) is in
    let it = each item was in
    let less = size_fewer u v item.node (λ node under. purged_alike u gone node) between sound in (it.0, omega (arith, less, it.1)))
