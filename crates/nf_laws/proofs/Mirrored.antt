-- A copy mirrors what it is a copy of: the k-th copy is that of the k-th node of the walk.
use Rattle.std.proofs.Common.{ℕ, zero, suc, ◌+◌, ◌-◌, ◌<◌, ◌≡◌, ◌⊎◌, List, [], ◌∷◌, ◌++◌, Some, length, ⊎_elim, inl, inr, refl, ap, subst, ◌∙◌, arith, length-append}
use Rattle.std.specs.Prelude.{slice_get}
use Rattle.std.specs.List.{All, flat_map}
use Rattle.std.proofs.lemmas.List.Elements.{All-head, All-tail}
use Rattle.std.proofs.lemmas.Option.{none-some, same_Some}
use Rattle.nf_base.specs.declared.limits.TheConstants.{MAX_DEPTH}
use Rattle.nf_base.specs.declared.rows.NodeRow.{NodeRow}
use Rattle.nf_base.specs.declared.rows.Place.TheVariants.{Inside}
use Rattle.nf_defs.proofs.Walks.{AreRising, IsChildOf, children_are}
use Rattle.nf_defs.specs.Prelude.{children_of, node_row, owner_of, Tables, walk_of, walk_within}
use Rattle.nf_laws.specs.Transfers.{IsCopyOf, IsPlacedCopy, Mirrors}
use Rattle.nf_words.proofs.Ways.{HasRow}
use Rattle.nf_words.specs.Prelude.{AreSound, copied_row, copies_of_all, copies_to, copies_within, renamed}
use Rattle.nf_words.specs.declared.request.Transfer.{Transfer}

-- ---- places in two lists, one behind the other

get_left : {X : Type 0} (xs ys : List X) (k : ℕ) (x : X) → slice_get xs k ≡ Some x → slice_get (xs ++ ys) k ≡ Some x
get_left [] ys k x is = absurd (none-some x is)
get_left (y ∷ xs) ys zero x is = is
get_left (y ∷ xs) ys (suc k) x is = get_left xs ys k x is

get_right : {X : Type 0} (xs ys : List X) (k : ℕ) (x : X) → slice_get ys k ≡ Some x → slice_get (xs ++ ys) (length xs + k) ≡ Some x
get_right [] ys k x is = let e : 0 + k ≡ k = omega arith in rw e is
get_right (y ∷ xs) ys k x is =
    let e : suc (length xs) + k ≡ suc (length xs + k) = omega arith in
    rw e (get_right xs ys k x is)

get_either : {X : Type 0} (xs ys : List X) (k : ℕ) (x : X) → slice_get (xs ++ ys) k ≡ Some x
    → (slice_get xs k ≡ Some x) ⊎ ((j : ℕ) × (k ≡ length xs + j) × (slice_get ys j ≡ Some x))
get_either [] ys k x is = inr (k, omega arith, is)
get_either (y ∷ xs) ys zero x is = inl is
get_either (y ∷ xs) ys (suc k) x is =
    elim (get_either xs ys k x is) [ inl left ↦ inl left | inr right ↦ inr (right.0, omega (arith, right.1), right.2) ]

-- ---- what the copies of some walk are

-- the copy is in the copy of the folder in which its node is, which comes earlier in the walk
record IsLower (walk : List ℕ) (first k : ℕ) (of copy : NodeRow) : Type 0 where
  folder : ℕ
  at : ℕ
  of_place : of.place ≡ Inside folder
  at_index : slice_get walk at ≡ Some folder
  before : at < k
  place : copy.place ≡ Inside (first + at)
  name : copy.name ≡ of.name

-- or it is directly in the folder of the copies, as its node is in the folder above the walk
abbrev IsDirect : ℕ → ℕ → ℕ → NodeRow → NodeRow → Type 0
IsDirect above folder k of copy = (of.place ≡ Inside above) × (copy.place ≡ Inside folder) × (copy.name ≡ of.name)

-- or as the first of all, under the name
abbrev IsFirst : ℕ → List ℕ → ℕ → NodeRow → NodeRow → Type 0
IsFirst folder name k of copy = (k ≡ 0) × (copy.place ≡ Inside folder) × (copy.name ≡ name)

module _ (rows : List NodeRow) (owner now : ℕ) where
  record IsCopied (Direct : ℕ → NodeRow → NodeRow → Type 0) (first : ℕ) (walk : List ℕ) (k : ℕ) (copy : NodeRow) : Type 0 where
    node : ℕ
    of : NodeRow
    at_index : slice_get walk k ≡ Some node
    there : node_row rows node ≡ Some of
    id : copy.id ≡ first + k
    is : copy ≡ record of { id = copy.id; owner = owner; place = copy.place; name = copy.name; changed = now }
    placed : Direct k of copy ⊎ IsLower walk first k of copy

  record AreCopies (Direct : ℕ → NodeRow → NodeRow → Type 0) (first : ℕ) (walk : List ℕ) (copies : List NodeRow) : Type 0 where
    all : length copies ≡ length walk
    each : (k : ℕ) (copy : NodeRow) → slice_get copies k ≡ Some copy → IsCopied Direct first walk k copy

  -- ---- copies put together

  no_copies : (Direct : ℕ → NodeRow → NodeRow → Type 0) (first : ℕ) → AreCopies Direct first [] []
  no_copies Direct first = record { all = refl; each = λ k copy is. absurd (none-some copy is) }

  -- a copy in a longer walk, where it may stand further on
  further : (Before After : ℕ → NodeRow → NodeRow → Type 0) (start first : ℕ) (walk longer : List ℕ) (on : ℕ → ℕ)
      → ((k : ℕ) → start + k ≡ first + on k)
      → ((k node : ℕ) → slice_get walk k ≡ Some node → slice_get longer (on k) ≡ Some node)
      → ((k : ℕ) (of copy : NodeRow) → Before k of copy → After (on k) of copy ⊎ IsLower longer first (on k) of copy)
      → (k : ℕ) (copy : NodeRow) → IsCopied Before start walk k copy → IsCopied After first longer (on k) copy
  further Before After start first walk longer on counts within direct k copy c = record {
    node = c.node;
    of = c.of;
    at_index = within k c.node c.at_index;
    there = c.there;
    id = c.id ∙ counts k;
    is = c.is;
    placed = ⊎_elim (direct k c.of copy) (λ lower. inr (record {
      folder = lower.folder;
      at = on lower.at;
      of_place = lower.of_place;
      at_index = within lower.at lower.folder lower.at_index;
      before = omega (arith, lower.before, counts lower.at, counts k);
      place = lower.place ∙ ap Inside (counts lower.at);
      name = lower.name;
    })) c.placed;
  }

  -- a folder's copy before those of what is in it
  copies_below : (Direct : ℕ → NodeRow → NodeRow → Type 0) (first node : ℕ) (row top : NodeRow) (walk : List ℕ) (copies : List NodeRow)
      → node_row rows node ≡ Some row → Direct 0 row top → top.id ≡ first
      → top ≡ record row { id = top.id; owner = owner; place = top.place; name = top.name; changed = now }
      → AreCopies (IsDirect node first) (first + 1) walk copies → AreCopies Direct first (node ∷ walk) (top ∷ copies)
  copies_below Direct first node row top walk copies there direct id is below = record { all = omega (arith, below.all); each = each }
    where
      each : (k : ℕ) (copy : NodeRow) → slice_get (top ∷ copies) k ≡ Some copy → IsCopied Direct first (node ∷ walk) k copy
      each zero copy same =
          subst (λ (c : NodeRow). IsCopied Direct first (node ∷ walk) 0 c) (same_Some top copy same) (record {
            node = node;
            of = row;
            at_index = refl;
            there = there;
            id = omega arith;
            is = is;
            placed = inl direct;
          })
      each (suc k) copy same =
          further (IsDirect node first) Direct (first + 1) first walk (node ∷ walk) suc (λ k. omega arith) (λ k node is. is)
          (λ k of copy direct. inr (record {
            folder = node;
            at = 0;
            of_place = direct.0;
            at_index = refl;
            before = omega arith;
            place = direct.1 ∙ ap Inside (omega arith);
            name = direct.2;
          })) k copy (below.each k copy same)

  -- copies behind each other, in one folder
  copies_behind : (above folder first : ℕ) (walk others : List ℕ) (copies more : List NodeRow)
      → AreCopies (IsDirect above folder) first walk copies → AreCopies (IsDirect above folder) (first + length copies) others more
      → AreCopies (IsDirect above folder) first (walk ++ others) (copies ++ more)
  copies_behind above folder first walk others copies more front rest = record {
    all = omega (arith, front.all, rest.all, length-append copies more, length-append walk others);
    each = λ k copy is. each k copy (get_either copies more k copy is);
  }
    where
      Direct : ℕ → NodeRow → NodeRow → Type 0
      Direct = IsDirect above folder

      each : (k : ℕ) (copy : NodeRow) → (slice_get copies k ≡ Some copy) ⊎ ((j : ℕ) × (k ≡ length copies + j) × (slice_get more j ≡ Some copy))
          → IsCopied Direct first (walk ++ others) k copy
      each k copy (inl is) =
          further Direct Direct first first walk (walk ++ others) (λ k. k) (λ k. refl) (get_left walk others)
          (λ k of copy direct. inl direct) k copy (front.each k copy is)
      each k copy (inr (j, at, is)) =
          let e : length walk + j ≡ k = omega (arith, front.all) in
          subst (λ (n : ℕ). IsCopied Direct first (walk ++ others) n copy) e
          (further Direct Direct (first + length copies) first others (walk ++ others) (λ k. length walk + k) (λ k. omega (arith, front.all))
          (get_right walk others) (λ k of copy direct. inl direct) j copy (rest.each j copy is))

  copies_each : (above folder : ℕ) (walk : ℕ → List ℕ) (copies : ℕ → ℕ → ℕ → List NodeRow)
      → ((first node : ℕ) → IsChildOf rows above node → AreCopies (IsDirect above folder) first (walk node) (copies first folder node))
      → (first : ℕ) (nodes : List ℕ) → All (IsChildOf rows above) nodes
      → AreCopies (IsDirect above folder) first (flat_map walk nodes) (copies_of_all copies first folder nodes)
  copies_each above folder walk copies each first [] children = no_copies (IsDirect above folder) first
  copies_each above folder walk copies each first (node ∷ nodes) children =
      copies_behind above folder first (walk node) (flat_map walk nodes) (copies first folder node)
      (copies_of_all copies (first + length (copies first folder node)) folder nodes)
      (each first node (All-head (IsChildOf rows above) node nodes children))
      (copies_each above folder walk copies each (first + length (copies first folder node)) nodes
      (All-tail (IsChildOf rows above) node nodes children))

  module _ (rising : AreRising rows) where
    -- the copies of a folder's child and of what is under it
    copies_are : (k above folder first node : ℕ) → IsChildOf rows above node
        → AreCopies (IsDirect above folder) first (walk_within k rows node) (copies_within k rows owner now first folder node)
    unfolding walk_within copies_within
    copies_are zero above folder first node child =
        rw child.there
        (copies_below (IsDirect above folder) first node child.row (copied_row owner now first folder child.row) [] []
        child.there (child.place, refl, refl) refl refl (no_copies (IsDirect node first) (first + 1)))
    copies_are (suc k) above folder first node child =
        rw child.there
        (copies_below (IsDirect above folder) first node child.row (copied_row owner now first folder child.row) _ _
        child.there (child.place, refl, refl) refl refl
        (copies_each node first (walk_within k rows) (copies_within k rows owner now)
        (λ start lower inside. copies_are k node first start lower inside) (first + 1) (children_of rows node) (children_are rows node rising)))

    -- and those of any node that is there, the first under another name
    renamed_are : (k folder first node : ℕ) (name : List ℕ) (row : NodeRow) → node_row rows node ≡ Some row
        → AreCopies (IsFirst folder name) first (walk_within (suc k) rows node)
        (renamed name (copies_within (suc k) rows owner now first folder node))
    unfolding walk_within copies_within
    renamed_are k folder first node name row there =
        rw there
        (copies_below (IsFirst folder name) first node row (record (copied_row owner now first folder row) { name = name }) _ _
        there (refl, refl, refl) refl refl
        (copies_each node first (walk_within k rows) (copies_within k rows owner now)
        (λ start lower inside. copies_are k node first start lower inside) (first + 1) (children_of rows node) (children_are rows node rising)))

-- ---- the copies of a node that is there

copy_is : (t : Tables) (now : ℕ) (transfer : Transfer) (name : List ℕ) (k : ℕ) (copy : NodeRow)
    → IsCopied t.nodes (owner_of t.nodes transfer.folder) now (IsFirst transfer.folder name) t.meta.next_node (walk_of t.nodes transfer.node) k copy
    → IsCopyOf t now transfer name k copy
copy_is t now transfer name k copy c = record {
  node = c.node;
  of = c.of;
  at_index = c.at_index;
  there = c.there;
  id = c.id;
  owner = ap (λ (r : NodeRow). r.owner) c.is;
  kind = ap (λ (r : NodeRow). r.kind) c.is;
  content = ap (λ (r : NodeRow). r.content) c.is;
  changed = ap (λ (r : NodeRow). r.changed) c.is;
  placed = placed k c.of copy c.placed;
}
  where
    placed : (k : ℕ) (of copy : NodeRow)
        → IsFirst transfer.folder name k of copy ⊎ IsLower (walk_of t.nodes transfer.node) t.meta.next_node k of copy
        → IsPlacedCopy t transfer name k of copy
    placed zero of copy (inl first) = (first.1, first.2)
    placed zero of copy (inr lower) = absurd (omega (arith, lower.before))
    placed (suc k) of copy (inl first) = absurd (omega (arith, first.0))
    placed (suc k) of copy (inr lower) =
        (lower.name, (lower.folder, lower.at, lower.of_place, lower.at_index, lower.before, lower.place))

pub mirrored : (t : Tables) (now : ℕ) (transfer : Transfer) (name : List ℕ) → AreSound t → HasRow t.nodes transfer.node
    → Mirrors t now transfer name (copies_to t now transfer name)
unfolding walk_of
mirrored t now transfer name sound of =
    let copies = renamed_are t.nodes (owner_of t.nodes transfer.folder) now sound.rising (MAX_DEPTH - 1) transfer.folder t.meta.next_node
    transfer.node name of.0 of.1 in
    record { all = copies.all; each = λ k copy is. copy_is t now transfer name k copy (copies.each k copy is) }
