-- The items of a user's trash are as large as all that is the user's and not present: no row is under two of them, and none is left out.
use Rattle.std.proofs.Common.{ℕ, suc, ◌+◌, ◌==◌, ◌&&◌, ◌≡◌, ◌≢◌, ◌≤◌, ◌⊎◌, ◌-◌, Bool, true, false, not, List, [], ◌∷◌, Option, None, Some, filter, if◌then◌else◌, get_or, inl, inr, refl, sym, ap, subst, ◌∙◌, arith}
use Rattle.std.specs.Prelude.{is_some, sum_by}
use Rattle.std.specs.List.{All, AllPairs}
use Rattle.std.specs.Option.{option_map_or}
use Rattle.std.proofs.lemmas.Bool.{both_ways, cases_Bool, eq-eqb, eqb-true, false_from_ne_true, ne_eqb}
use Rattle.std.proofs.lemmas.Cmp.{tied_itself}
use Rattle.std.proofs.lemmas.List.Sums.{sum_by-cons}
use Rattle.std.proofs.lemmas.Option.{same_Some}
use Rattle.nf_base.specs.declared.rows.ItemRow.{ItemRow}
use Rattle.nf_base.specs.declared.rows.NodeRow.{NodeRow}
use Rattle.nf_charge.specs.Totals.{bytes_owned as total_owned}
use Rattle.nf_defs.proofs.Climbs.{under_climb}
use Rattle.nf_defs.proofs.Puts.{key_total}
use Rattle.nf_defs.specs.Prelude.{climb, folder_of, is_present, is_under, IsRising, item_key, item_row, key_cmp, node_row, parent_of, Tables}
use Rattle.nf_laws.proofs.Charging.{alike, charge_beside, sums_agree, sums_below, sums_join}
use Rattle.nf_laws.proofs.Climbs.{climbs_no_further, node_row_each}
use Rattle.nf_laws.proofs.Presence.{leads_present, present_there}
use Rattle.nf_laws.proofs.Present.{never_trash}
use Rattle.nf_laws.proofs.Rows.{row_is}
use Rattle.nf_laws.proofs.Sizes.{few_all, few_each, nothing, weight}
use Rattle.nf_laws.proofs.Upwards.{nodes_present}
use Rattle.nf_laws.proofs.Weighing.{size_under}
use Rattle.nf_laws.specs.Charges.{bytes_owned, bytes_trashed, owned_bytes, trashed_bytes}
use Rattle.nf_laws.specs.Tree.{IsTrashed}
use Rattle.nf_words.specs.Others.{IsItemSound}
use Rattle.nf_words.specs.Prelude.{AreSound, charge_of, IsPlaceSound, item_size, items_of, last_number}

-- ---- sums over some rows

-- two sums may be taken in either order
sums_swap : {X Y : Type 0} (f : X → Y → ℕ) (xs : List X) (ys : List Y)
    → sum_by (λ (x : X). sum_by (f x) ys) xs ≡ sum_by (λ (y : Y). sum_by (λ (x : X). f x y) xs) ys
sums_swap f [] ys = sym (nothing (λ y. 0) ys (λ k d within. refl))
sums_swap {X = X} {Y = Y} f (x ∷ xs) ys =
    omega (
      arith,
      sum_by-cons (λ (x : X). sum_by (f x) ys) x xs,
      sums_swap f xs ys,
      sums_join (f x) (λ (y : Y). sum_by (λ (x : X). f x y) xs) (λ (y : Y). sum_by (λ (x : X). f x y) (x ∷ xs)) ys
          (λ y. sym (sum_by-cons (λ (x : X). f x y) x xs)),
    )

-- what doesn't pass a test may be counted as nothing
sum_passing : {X : Type 0} (f : X → ℕ) (test : X → Bool) (xs : List X)
    → sum_by f (filter test xs) ≡ sum_by (λ (x : X). if test x then f x else 0) xs
sum_passing f test [] = refl
sum_passing {X = X} f test (x ∷ xs) =
    omega (
      arith,
      first (test x) (filter test xs),
      sum_passing f test xs,
      sum_by-cons (λ (x : X). if test x then f x else 0) x xs,
    )
  where
    first : (passes : Bool) (left : List X) → sum_by f (if passes then x ∷ left else left) ≡ (if passes then f x else 0) + sum_by f left
    first true left = sum_by-cons f x left
    first false left = omega arith

-- ---- items

-- no two items are of one node
abbrev pub AreItemsApart : List ItemRow → Type 0
AreItemsApart items = AllPairs (λ (a b : ItemRow). a.node ≢ b.node) items

pub items_apart : (items : List ItemRow) → IsRising item_key items → AreItemsApart items
items_apart items rising i j d before within same =
    let other = get_or items j d in
    let equal = tied_itself key_total (item_key other) in
    let below = ap (λ (n : ℕ). key_cmp (n ∷ []) (item_key other)) (sym same) ∙ rising i j d before within in absurd (cc)

-- a number for the item of that node, and nothing for another
abbrev at_node : ℕ → ℕ → ItemRow → ℕ
at_node n node item = if item.node == node then n else 0

-- so it counts once, where the item is there
item_once : (n node : ℕ) (items : List ItemRow) → AreItemsApart items
    → sum_by (at_node n node) items ≡ (if is_some (item_row items node) then n else 0)
item_once n node [] apart = refl
item_once n node (item ∷ items) apart =
    sum_by-cons (at_node n node) item items
    ∙ here (item.node == node) refl (item_once n node items (λ i j d before within. apart (suc i) (suc j) d (omega arith) (omega arith)))
  where
    here : (is : Bool) → (item.node == node) ≡ is → sum_by (at_node n node) items ≡ (if is_some (item_row items node) then n else 0)
        → (if is then n else 0) + sum_by (at_node n node) items ≡ (if is_some (if is then Some item else item_row items node) then n else 0)
    here true e rest =
        let others = nothing (at_node n node) items (λ k d within.
        rw (ne_eqb (get_or items k d).node node (λ same. apart 0 (suc k) d (omega arith) (omega arith) (eqb-true item.node node e ∙ sym same))) refl) in
        omega (arith, others)
    here false e rest = omega (arith, rest)

-- ---- tops

-- a node climbs to one top in no folder alone
one_top : (j k : ℕ) (rows : List NodeRow) (node a b : ℕ) → parent_of rows a ≡ None → parent_of rows b ≡ None
    → climb rows j node ≡ Some a → climb rows k node ≡ Some b → a ≡ b
one_top j k rows node a b a_ends b_ends first second =
    let less = climbs_no_further j k rows node a b a_ends first second in
    let more = climbs_no_further k j rows node b a b_ends second first in
    let steps : j ≡ k = omega (arith, less, more) in
    same_Some a b (sym first ∙ ap (λ (n : ℕ). climb rows n node) steps ∙ second)

-- ---- one row

-- the bytes of a row, where it is under the top
abbrev weight_below : List NodeRow → ℕ → NodeRow → ℕ
weight_below rows top row = if is_under rows row.id top then weight row else 0

module _ (t : Tables) (user : ℕ) (row : NodeRow) (sound : AreSound t) (there : node_row t.nodes row.id ≡ Some row) where
  -- what the row weighs, where it is the user's
  abbrev whole : ℕ
  whole = if row.owner == user then weight row else 0

  -- and where it is under the item, and that is the user's
  abbrev in_item : ItemRow → ℕ
  in_item item = if item.owner == user then weight_below t.nodes item.node row else 0

  -- what isn't under it weighs nothing there
  not_under : (item : ItemRow) → is_under t.nodes row.id item.node ≡ false → in_item item ≡ 0
  not_under item outside = rw outside (alike (item.owner == user) 0)

  -- what is present is under no item
  present_apart : is_present t.users t.nodes row.id ≡ true → All (λ (item : ItemRow). in_item item ≡ 0) t.items
  present_apart is k d within =
      let item : ItemRow = get_or t.items k d in
      let fine = sound.others.items k d within in
      not_under item (false_from_ne_true (is_under t.nodes row.id item.node) (λ under.
      let c = under_climb t.nodes row.id item.node under in
      never_trash c.0 t.nodes row.id item.node fine.of ((leads_present t row.id sound).1 is) c.2 fine.there fine.place))

  -- what isn't is under that of its top alone, which is its owner's
  trashed_within : (gone : IsTrashed t.nodes row.id)
      → All (λ (item : ItemRow). in_item item ≡ at_node whole gone.top.id item) t.items
  trashed_within gone k d within =
      elim (cases_Bool (item.node == gone.top.id)) [
        | inl same ↦ rw same (itself (eqb-true item.node gone.top.id same))
        | inr differs ↦
            rw differs (not_under item (false_from_ne_true (is_under t.nodes row.id item.node) (λ under.
            both_ways (item.node == gone.top.id) differs (eq-eqb item.node gone.top.id (only under)))))
      ]
    where
      item : ItemRow
      item = get_or t.items k d

      fine : IsItemSound t item
      fine = sound.others.items k d within

      itself : item.node ≡ gone.top.id → in_item item ≡ whole
      itself same =
          let under : is_under t.nodes row.id item.node ≡ true = ap (is_under t.nodes row.id) same ∙ gone.under in
          let of : fine.of ≡ gone.top = same_Some fine.of gone.top (sym fine.there ∙ ap (node_row t.nodes) same ∙ gone.there) in
          let owner : item.owner ≡ row.owner =
          sym fine.owner ∙ ap (λ (r : NodeRow). r.owner) of ∙ gone.owner ∙ ap (λ (o : Option NodeRow). option_map_or (λ row. row.owner) o 0) there in
          rw under (ap (λ (owner : ℕ). if owner == user then weight row else 0) owner)

      only : is_under t.nodes row.id item.node ≡ true → item.node ≡ gone.top.id
      only under =
          let c = under_climb t.nodes row.id item.node under in
          let g = under_climb t.nodes row.id gone.top.id gone.under in
          one_top c.0 g.0 t.nodes row.id item.node gone.top.id (rw fine.there (ap folder_of fine.place)) (rw gone.there (ap folder_of gone.place)) c.2 g.2

  -- so it is in the user's items what of it is the user's and not present
  in_items : (is_present t.users t.nodes row.id ≡ true) ⊎ IsTrashed t.nodes row.id
      → sum_by (λ (item : ItemRow). weight_below t.nodes item.node row) (items_of t user) ≡ trashed_bytes t user row
  in_items (inl present) =
      sum_passing (λ (item : ItemRow). weight_below t.nodes item.node row) (λ item. item.owner == user) t.items
      ∙ nothing in_item t.items (present_apart present) ∙ sym (uncounted (row.owner == user) present)
    where
      uncounted : (own : Bool) → is_present t.users t.nodes row.id ≡ true
          → (if own && not (is_present t.users t.nodes row.id) then weight row else 0) ≡ 0
      uncounted true is = rw is refl
      uncounted false is = refl
  in_items (inr gone) =
      sum_passing (λ (item : ItemRow). weight_below t.nodes item.node row) (λ item. item.owner == user) t.items
      ∙ sums_agree in_item (at_node whole gone.top.id) t.items (trashed_within gone)
      ∙ item_once whole gone.top.id t.items (items_apart t.items sound.others.items_rise)
      ∙ ap (λ (some : Bool). if some then whole else 0) has_item
      ∙ sym (counted (row.owner == user) (present_there.apart t row.id sound gone))
    where
      has_item : is_some (item_row t.items gone.top.id) ≡ true
      has_item = (subst (IsPlaceSound t gone.top) gone.place (row_is t gone.top.id gone.top sound gone.there).1.place).1

      counted : (own : Bool) → is_present t.users t.nodes row.id ≡ false
          → (if own && not (is_present t.users t.nodes row.id) then weight row else 0) ≡ (if own then weight row else 0)
      counted true is = rw is refl
      counted false is = refl

-- ---- the laws

-- the items of a user are as large as what of the user's isn't present
pub items_weigh : (t : Tables) (user : ℕ) → AreSound t → sum_by (item_size t) (items_of t user) ≡ bytes_trashed t user
items_weigh t user sound =
    let items = items_of t user in
    sums_agree (item_size t) (λ (item : ItemRow). sum_by (weight_below t.nodes item.node) t.nodes) items (λ k d within. size_under t (get_or items k d).node sound)
    ∙ sums_swap (λ (item : ItemRow). weight_below t.nodes item.node) items t.nodes
    ∙ sums_agree (λ (row : NodeRow). sum_by (λ (item : ItemRow). weight_below t.nodes item.node row) items) (trashed_bytes t user) t.nodes
    (λ k d within. in_items t user (get_or t.nodes k d) sound (node_row_each t.nodes sound.rising k d within) (nodes_present t sound k d within))

-- so with a user's charge they are all that is the user's
pub items_charge : (t : Tables) (user : ℕ) → AreSound t → sum_by (item_size t) (items_of t user) + charge_of t user ≡ bytes_owned t.nodes user
items_charge t user sound = omega (arith, items_weigh t user sound, charge_beside t user)

-- ---- as the tree tells it

-- the running total of an owner is what all nodes of the owner have
total_is : (t : Tables) (user : ℕ) → total_owned t.nodes user ≡ bytes_owned t.nodes user
unfolding total_owned
total_is t user = refl

pub charge_within : (t : Tables) (user : ℕ) → charge_of t user ≤ total_owned t.nodes user
charge_within t user = omega (arith, total_is t user, charge_beside t user)

-- less what the user is charged for it is what the items have
pub trashed_is : (t : Tables) (user : ℕ) → AreSound t → total_owned t.nodes user - charge_of t user ≡ sum_by (item_size t) (items_of t user)
trashed_is t user sound = omega (arith, total_is t user, items_charge t user sound)

-- whose it is, a row has at most its bytes
owned_below : (user : ℕ) (row : NodeRow) → owned_bytes user row ≤ weight row
owned_below user row = either (row.owner == user)
  where
    either : (own : Bool) → (if own then weight row else 0) ≤ weight row
    either true = omega arith
    either false = omega arith

-- and that can be told
pub trashed_few : (t : Tables) (user : ℕ) → AreSound t → sum_by (item_size t) (items_of t user) ≤ last_number
trashed_few t user sound =
    omega (
      arith,
      items_charge t user sound,
      sums_below (owned_bytes user) weight t.nodes (owned_below user),
      few_all t.nodes (few_each t sound),
      sound.few_pieces,
    )
