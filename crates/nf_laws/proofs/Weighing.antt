-- What all under a node weighs: the bytes that its owner has less once it is gone, and that the owner of copies of it has more.
use Rattle.std.proofs.Common.{ℕ, suc, ◌+◌, ◌==◌, ◌&&◌, ◌≡◌, ◌<◌, Bool, true, false, not, List, [], ◌∷◌, Option, None, Some, filter, if◌then◌else◌, get_or, inl, inr, refl, sym, ap, subst, ◌∙◌, arith}
use Rattle.std.specs.Prelude.{sum_by}
use Rattle.std.specs.List.{All, list_any}
use Rattle.std.specs.Option.{option_map_or}
use Rattle.std.specs.Cmp.{both_ways}
use Rattle.std.proofs.lemmas.Bool.{and_from, and_parts, cases_Bool, cond_both, eq-eqb, eqb-true, false≢true, ne_eqb}
use Rattle.std.proofs.lemmas.List.Folds.{list_any_at}
use Rattle.std.proofs.lemmas.List.Sums.{sum_by-cons}
use Rattle.std.proofs.lemmas.Option.{get_or_from_slice_get, none-some, same_Some}
use Rattle.nf_base.specs.declared.content.Piece.{Piece}
use Rattle.nf_base.specs.declared.rows.NodeRow.{NodeRow}
use Rattle.nf_base.specs.declared.rows.UserRow.{UserRow}
use Rattle.nf_defs.proofs.Climbs.{climb_under, under_climb, walk_among}
use Rattle.nf_defs.specs.Prelude.{depth, is_present, is_under, node_row, owner_of, Tables, user_row, walk_of, with_node, without_under}
use Rattle.nf_laws.proofs.Charging.{alike, sums_agree}
use Rattle.nf_laws.proofs.Climbs.{node_row_each}
use Rattle.nf_laws.proofs.Copied.{copy_at, same_sum}
use Rattle.nf_laws.proofs.Lists.{Rising}
use Rattle.nf_laws.proofs.Mirrored.{mirrored}
use Rattle.nf_laws.proofs.Paths.{climb_own, IsOf, root_own}
use Rattle.nf_laws.proofs.Presence.{present_there}
use Rattle.nf_laws.proofs.Rows.{found_is, finds_none}
use Rattle.nf_laws.proofs.Sizes.{nothing, sizes_sum, weight, weight_if}
use Rattle.nf_laws.proofs.Upwards.{climbs_own, trashed_by}
use Rattle.nf_laws.proofs.Walked.{AreDistinct, walk_distinct}
use Rattle.nf_laws.specs.Charges.{bytes_owned, ChargeIsSizeOfRoot, owned_bytes}
use Rattle.nf_laws.specs.Transfers.{Mirrors}
use Rattle.nf_words.proofs.Found.{found_passes}
use Rattle.nf_words.proofs.Ways.{HasRow}
use Rattle.nf_words.specs.Listing.{size_of}
use Rattle.nf_words.specs.Prelude.{AreSound, bytes_of, charge_of, copies_to, counted_for, root_of_user}
use Rattle.nf_words.specs.declared.request.Transfer.{Transfer}

-- ---- nodes that are each counted once

-- a row weighs what it does where its node is among them, and nothing elsewhere
weighs_once : (w id : ℕ) (nodes : List ℕ) → AreDistinct nodes → sum_by (weight_if w id) nodes ≡ (if list_any (λ node. node == id) nodes then w else 0)
weighs_once w id [] distinct = refl
weighs_once w id (n ∷ nodes) distinct =
    elim (cases_Bool (n == id)) [
      | inl same ↦
          (let is = eqb-true n id same in
          let others = nothing (weight_if w id) nodes (λ k d within.
          rw (ne_eqb id _ (λ e. distinct 0 (suc k) d (omega arith) (omega arith) (is ∙ e))) refl) in
          let first : weight_if w id n ≡ w = rw (eq-eqb id n (sym is)) refl in
          simp same (omega (arith, sum_by-cons (weight_if w id) n nodes, others, first)))
      | inr differs ↦
          (let rest = weighs_once w id nodes (λ i j d before within. distinct (suc i) (suc j) d (omega arith) (omega arith)) in
          let first : weight_if w id n ≡ 0 = rw (ne_eqb id n (λ e. false≢true (sym differs ∙ eq-eqb n id (sym e)))) refl in
          simp differs (omega (arith, sum_by-cons (weight_if w id) n nodes, rest, first)))
    ]

-- with a row more, of a number that no other has, its node weighs that more
row_adds : (row : NodeRow) (rows : List NodeRow) (node : ℕ) → All (λ (other : NodeRow). row.id < other.id) rows
    → bytes_of (row ∷ rows) node ≡ weight_if (weight row) row.id node + bytes_of rows node
row_adds row rows node above =
    elim (cases_Bool (row.id == node)) [
      | inl same ↦
          (let none : node_row rows node ≡ None =
          finds_none (λ other. other.id == node) rows (λ k d within.
          ne_eqb _ node (λ e. absurd (omega (arith, above k d within, e, eqb-true row.id node same)))) in
          let rest : bytes_of rows node ≡ 0 = rw none refl in
          rw same (omega (arith, rest)))
      | inr differs ↦ rw differs (omega arith)
    ]

rows_add : (row : NodeRow) (rows : List NodeRow) (nodes : List ℕ) → All (λ (other : NodeRow). row.id < other.id) rows
    → sum_by (bytes_of (row ∷ rows)) nodes ≡ sum_by (weight_if (weight row) row.id) nodes + sum_by (bytes_of rows) nodes
rows_add row rows [] above = omega arith
rows_add row rows (n ∷ nodes) above =
    omega (
      arith,
      sum_by-cons (bytes_of (row ∷ rows)) n nodes,
      sum_by-cons (weight_if (weight row) row.id) n nodes,
      sum_by-cons (bytes_of rows) n nodes,
      row_adds row rows n above,
      rows_add row rows nodes above,
    )

-- so the nodes weigh what their rows do
nodes_weigh : (rows : List NodeRow) (nodes : List ℕ) → Rising rows → AreDistinct nodes
    → sum_by (bytes_of rows) nodes ≡ sum_by (λ row. if list_any (λ node. node == row.id) nodes then weight row else 0) rows
nodes_weigh [] nodes rising distinct = nothing (bytes_of []) nodes (λ k d within. refl)
nodes_weigh (row ∷ rows) nodes rising distinct =
    omega (
      arith,
      rows_add row rows nodes (λ k d within. rising 0 (suc k) d (omega arith) (omega arith)),
      weighs_once (weight row) row.id nodes distinct,
      nodes_weigh rows nodes (λ i j d before within. rising (suc i) (suc j) d (omega arith) (omega arith)) distinct,
      sum_by-cons (λ (row : NodeRow). if list_any (λ node. node == row.id) nodes then weight row else 0) row rows,
    )

-- the bytes of a row, where it is under the top
abbrev weight_under : List NodeRow → ℕ → NodeRow → ℕ
weight_under rows top row = if is_under rows row.id top then weight row else 0

-- a node's size is the sum of these
pub size_under : (t : Tables) (top : ℕ) → AreSound t → size_of t.nodes top ≡ sum_by (weight_under t.nodes top) t.nodes
size_under t top sound =
    let walk = walk_of t.nodes top in
    sizes_sum t top sound ∙ nodes_weigh t.nodes walk sound.rising (walk_distinct t top sound)
    ∙ sums_agree (λ (row : NodeRow). if list_any (λ node. node == row.id) walk then weight row else 0) (weight_under t.nodes top) t.nodes
    (λ k d within. ap (λ (among : Bool). if among then weight (get_or t.nodes k d) else 0) (walk_among t.nodes top (get_or t.nodes k d).id sound.rising))

-- ---- what goes

-- what passes a test and what doesn't are all
pub parts_sum : (f : NodeRow → ℕ) (test : NodeRow → Bool) (rows : List NodeRow)
    → sum_by f (filter (λ row. not (test row)) rows) + sum_by (λ row. if test row then f row else 0) rows ≡ sum_by f rows
parts_sum f test [] = omega arith
parts_sum f test (row ∷ rows) =
    omega (
      arith,
      first (test row) (filter (λ row. not (test row)) rows),
      parts_sum f test rows,
      sum_by-cons f row rows,
      sum_by-cons (λ (row : NodeRow). if test row then f row else 0) row rows,
    )
  where
    first : (passes : Bool) (left : List NodeRow)
        → sum_by f (if not passes then row ∷ left else left) + (if passes then f row else 0) ≡ f row + sum_by f left
    first true left = omega arith
    first false left = omega (arith, sum_by-cons f row left)

-- what is counted or not, all of it
sum_if : (counts : Bool) (f : NodeRow → ℕ) (rows : List NodeRow) → sum_by (λ row. if counts then f row else 0) rows ≡ (if counts then sum_by f rows else 0)
sum_if true f rows = refl
sum_if false f rows = nothing (λ (row : NodeRow). 0) rows (λ k d within. refl)

-- all under a node is its owner's
under_owned : (t : Tables) (top user : ℕ) (of : NodeRow) → AreSound t → node_row t.nodes top ≡ Some of
    → All (λ (row : NodeRow). (if is_under t.nodes row.id top then owned_bytes user row else 0)
    ≡ (if of.owner == user then weight_under t.nodes top row else 0)) t.nodes
under_owned t top user of sound there k d within = here (is_under t.nodes row.id top) refl
  where
    row : NodeRow
    row = get_or t.nodes k d

    here : (under : Bool) → is_under t.nodes row.id top ≡ under
        → (if under then owned_bytes user row else 0) ≡ (if of.owner == user then (if under then weight row else 0) else 0)
    here true is =
        let up = under_climb t.nodes row.id top is in
        let of_owner : IsOf t of.owner top = record { row = of; there = there; owner = refl } in
        ap (λ (owner : ℕ). if owner == user then weight row else 0)
        (climb_own up.0 t of.owner row.id top row sound up.2 of_owner (node_row_each t.nodes sound.rising k d within))
    here false is = sym (alike (of.owner == user) 0)

-- so its owner has its size less without it, and no other has less
pub without_owned : (t : Tables) (top user : ℕ) (of : NodeRow) → AreSound t → node_row t.nodes top ≡ Some of
    → bytes_owned (without_under t.nodes top) user + (if of.owner == user then size_of t.nodes top else 0) ≡ bytes_owned t.nodes user
without_owned t top user of sound there =
    ap (λ (less : ℕ). bytes_owned (without_under t.nodes top) user + less)
    (ap (λ (size : ℕ). if of.owner == user then size else 0) (size_under t top sound)
    ∙ sym (sum_if (of.owner == user) (weight_under t.nodes top) t.nodes)
    ∙ sym (sums_agree (λ (row : NodeRow). if is_under t.nodes row.id top then owned_bytes user row else 0)
    (λ (row : NodeRow). if of.owner == user then weight_under t.nodes top row else 0) t.nodes (under_owned t top user of sound there)))
    ∙ parts_sum (owned_bytes user) (λ row. is_under t.nodes row.id top) t.nodes

-- ---- copies

-- of copies that are put in a folder its owner has the size of what they are copies of
pub copies_owned : (t : Tables) (now user : ℕ) (transfer : Transfer) (name : List ℕ) → AreSound t → HasRow t.nodes transfer.node
    → bytes_owned (copies_to t now transfer name) user ≡ (if owner_of t.nodes transfer.folder == user then size_of t.nodes transfer.node else 0)
copies_owned t now user transfer name sound there =
    sums_agree (owned_bytes user) (λ (row : NodeRow). if owner_of t.nodes transfer.folder == user then weight row else 0) rows
    (λ k d within. ap (λ (owner : ℕ). if owner == user then weight (get_or rows k d) else 0) (copy_at t now transfer name rows mirrors k d within).owner)
    ∙ sum_if (owner_of t.nodes transfer.folder == user) weight rows
    ∙ ap (λ (size : ℕ). if owner_of t.nodes transfer.folder == user then size else 0) (same ∙ sym (sizes_sum t transfer.node sound))
  where
    rows : List NodeRow
    rows = copies_to t now transfer name

    walk : List ℕ
    walk = walk_of t.nodes transfer.node

    mirrors : Mirrors t now transfer name rows
    mirrors = mirrored t now transfer name sound there

    same : sum_by weight rows ≡ sum_by (bytes_of t.nodes) walk
    same =
        same_sum weight (bytes_of t.nodes) rows walk mirrors.all (λ k d e within.
        let copy = copy_at t now transfer name rows mirrors k d within in
        ap (sum_by (λ (piece : Piece). piece.size)) (copy.content ∙ sym (ap (λ (o : Option NodeRow). option_map_or (λ row. row.content) o []) copy.there))
        ∙ ap (bytes_of t.nodes) (sym (get_or_from_slice_get walk k copy.node e copy.at_index)))

-- ---- one row

-- where a row becomes another, its bytes go and those of the other come
pub row_owned : (rows : List NodeRow) (node user : ℕ) (change : NodeRow → NodeRow) (old : NodeRow) → node_row rows node ≡ Some old
    → bytes_owned (with_node rows node change) user + owned_bytes user old ≡ bytes_owned rows user + owned_bytes user (change old)
row_owned [] node user change old there = absurd (none-some old there)
row_owned (row ∷ rows) node user change old there =
    cond_both (row.id == node) (change row ∷ rows) (row ∷ with_node rows node change)
    (λ made. bytes_owned made user + owned_bytes user old ≡ bytes_owned (row ∷ rows) user + owned_bytes user (change old))
    (λ e.
    let same : row ≡ old = same_Some row old (rw e at there) in
    omega (
      arith,
      sum_by-cons (owned_bytes user) (change row) rows,
      sum_by-cons (owned_bytes user) row rows,
      ap (owned_bytes user) same,
      ap (λ (r : NodeRow). owned_bytes user (change r)) same,
    ))
    (λ e.
    let rest = row_owned rows node user change old (rw e at there) in
    omega (arith, rest, sum_by-cons (owned_bytes user) row (with_node rows node change), sum_by-cons (owned_bytes user) row rows))

-- ---- a user's root

-- what counts for a user is under the user's root, and nothing else
counted_rooted : (t : Tables) (user : UserRow) → AreSound t → user_row t.users user.id ≡ Some user
    → All (λ (row : NodeRow). counted_for t user.id row ≡ weight_under t.nodes user.root row) t.nodes
counted_rooted t user sound is k d within =
    ap (λ (counts : Bool). if counts then weight row else 0)
    (both_ways (row.owner == user.id && is_present t.users t.nodes row.id) (is_under t.nodes row.id user.root)
    (λ counts. let both = and_parts (row.owner == user.id) (is_present t.users t.nodes row.id) counts in under (eqb-true row.owner user.id both.0) both.1)
    (λ under.
    let up = under_climb t.nodes row.id user.root under in
    and_from (row.owner == user.id) (is_present t.users t.nodes row.id)
    (eq-eqb row.owner user.id (climb_own up.0 t user.id row.id user.root row sound up.2 (root_own t user sound is) there))
    ((found_is (λ (user : UserRow). passes user ≡ true → list_any passes t.users ≡ true) (λ other. other.id == user.id) t.users user
    (λ k d within is. list_any_at passes t.users k d within is) is).1 under)))
  where
    row : NodeRow
    row = get_or t.nodes k d

    passes : UserRow → Bool
    passes user = is_under t.nodes row.id user.root

    there : node_row t.nodes row.id ≡ Some row
    there = node_row_each t.nodes sound.rising k d within

    under : row.owner ≡ user.id → is_present t.users t.nodes row.id ≡ true → is_under t.nodes row.id user.root ≡ true
    under own present =
        let c = climbs_own t row sound there in
        elim c.place [
          | inl root ↦
              (let same : c.top.id ≡ user.root =
              root.1 ∙ ap (root_of_user t) own ∙ ap (λ (o : Option UserRow). option_map_or (λ user. user.root) o 0) is in
              climb_under (depth t.nodes row.id) t.nodes row.id user.root c.shallow (c.climbs ∙ ap Some same))
          | inr trash ↦ absurd (false≢true (sym (present_there.apart t row.id sound (trashed_by t row there c trash)) ∙ present))
        ]

pub charge_rooted : ChargeIsSizeOfRoot
unfolding charge_of
charge_rooted t user row sound is =
    let id : row.id ≡ user = eqb-true row.id user (found_passes (λ (u : UserRow). u.id == user) t.users row is) in
    sums_agree (counted_for t user) (weight_under t.nodes row.root) t.nodes
    (subst (λ (n : ℕ). user_row t.users n ≡ Some row → All (λ (r : NodeRow). counted_for t n r ≡ weight_under t.nodes row.root r) t.nodes) id
    (counted_rooted t row sound) is)
    ∙ sym (size_under t row.root sound)
