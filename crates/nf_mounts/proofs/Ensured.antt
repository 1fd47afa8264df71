-- The mounts that are ensured for a user depend on that user's rows alone.
use Rattle.std.proofs.Common.{ℕ, ◌+◌, ◌<◌, ◌≤◌, ◌≡◌, drop, get_or, length, ◌==◌, ◌&&◌, Bool, true, false, not, cond, List, [], ◌∷◌, ◌++◌, Option, Some, None, map, refl, sym, ap, subst, ◌∙◌, arith}
use Rattle.std.specs.Prelude.{if◌then◌else◌}
use Rattle.std.specs.List.{All, filter, find}
use Rattle.std.specs.List.Sorted.{IsStrictlyIncreasing}
use Rattle.std.specs.Option.{option_map_or}
use Rattle.std.specs.Ordering.{MatchOrdering, nat_cmp, ordering_then}
use Rattle.std.specs.declared.cmp.Ordering.{Ordering}
use Rattle.std.specs.declared.cmp.Ordering.TheVariants.{Less, Equal, Greater}
use Rattle.std.proofs.lemmas.Bool.{eqb-true}
use Rattle.std.proofs.lemmas.Cmp.{ranked}
use Rattle.std.proofs.lemmas.List.Elements.{All-cons, All-head, All-tail, All-weaker}
use Rattle.std.proofs.lemmas.List.{get_or-drop, get_or_default, length-drop}
use Rattle.std.proofs.lemmas.List.Filters.{length-filter_both}
use Rattle.std.proofs.lemmas.List.Kept.{AllPairs-filter, AllPairs-from_increasing}
use Rattle.nf_access.specs.Mounts.{ensured, ensured_all, free_name_of, is_mount_of, is_mounted, is_shown_to, mount_row, name_of, names_in_root, root_folder, then_ensured, with_mount}
use Rattle.nf_base.specs.declared.rows.MountRow.{MountRow}
use Rattle.nf_base.specs.declared.rows.NodeRow.{NodeRow}
use Rattle.nf_base.specs.declared.rows.UserRow.{UserRow}
use Rattle.nf_defs.specs.Prelude.{IsRising, key_cmp, mount_key, put, taken_names}
use Rattle.nf_defs.proofs.Puts.{below_rest, key_total, put_rising, tail_rising}
use Rattle.nf_mounts.specs.Kept.{one_or_none}
use Rattle.nf_mounts.proofs.Found.{find_filter}

-- the rows of a user
abbrev pub own : ℕ → List MountRow → List MountRow
own user rows = filter (λ (row : MountRow). row.user == user) rows

filter_filter : {X : Type 0} (p q : X → Bool) (xs : List X) → filter q (filter p xs) ≡ filter (λ x. p x && q x) xs
filter_filter p q [] = refl
filter_filter p q (x ∷ xs) = let rest = filter_filter p q xs in grind arith

both_same : (a b : Bool) → (a && (a && b)) ≡ (a && b)
both_same true b = refl
both_same false b = refl

twice : (b : Bool) → b && b ≡ b
twice true = refl
twice false = refl

-- ---- what is ensured

mounted_own : (mounts : List MountRow) (user node : ℕ) → mount_row (own user mounts) user node ≡ mount_row mounts user node
mounted_own mounts user node =
    find_filter (λ (row : MountRow). row.user == user) (is_mount_of user node) mounts
    ∙ ap (λ (test : MountRow → Bool). find test mounts) (λ i row. both_same (row.user == user) (row.node == node) i)

shown_own : (mounts : List MountRow) (user : ℕ) → filter (is_shown_to user) (own user mounts) ≡ filter (is_shown_to user) mounts
shown_own mounts user =
    filter_filter (λ (row : MountRow). row.user == user) (is_shown_to user) mounts
    ∙ ap (λ (test : MountRow → Bool). filter test mounts) (λ i row. both_same (row.user == user) (not row.left) i)

-- by what is looked up of the mounts
abbrev ensured_by : List UserRow → List NodeRow → ℕ → ℕ → Option MountRow → List MountRow → Option MountRow
ensured_by users nodes user node there shown =
    if option_map_or (λ row. not row.left) there false then None
    else Some (record {
      user = user;
      node = node;
      name = free_name_of (name_of nodes node) (taken_names nodes (root_folder users user) ++ map (λ (row : MountRow). row.name) shown);
      left = false;
    })

ensured_own : (users : List UserRow) (nodes : List NodeRow) (mounts : List MountRow) (user node : ℕ)
    → ensured users nodes (own user mounts) user node ≡ ensured users nodes mounts user node
ensured_own users nodes mounts user node =
    ap (λ (there : Option MountRow). ensured_by users nodes user node there (filter (is_shown_to user) (own user mounts))) (mounted_own mounts user node)
    ∙ ap (λ (shown : List MountRow). ensured_by users nodes user node (mount_row mounts user node) shown) (shown_own mounts user)

pub ensured_same : (users : List UserRow) (nodes : List NodeRow) (a b : List MountRow) (user node : ℕ) → own user a ≡ own user b
    → ensured users nodes a user node ≡ ensured users nodes b user node
ensured_same users nodes a b user node same =
    sym (ensured_own users nodes a user node)
    ∙ ap (λ (rows : List MountRow). ensured users nodes rows user node) same
    ∙ ensured_own users nodes b user node

-- ---- a row that is put among them

abbrev Below : MountRow → MountRow → Type 0
Below a b = key_cmp (mount_key a) (mount_key b) ≡ Less

-- rows of the same key are of the same user
tied_user : (a b : MountRow) → key_cmp (mount_key a) (mount_key b) ≡ Equal → a.user ≡ b.user
tied_user a b tie = here (nat_cmp a.user b.user) (nat_cmp a.node b.node) (ranked a.user b.user _ refl) tie
  where
    here : (r s : Ordering) → MatchOrdering r (a.user < b.user) (a.user ≡ b.user) (b.user < a.user)
        → ordering_then r (ordering_then s Equal) ≡ Equal → a.user ≡ b.user
    here Less s h e = absurd (cc)
    here Equal s h e = h
    here Greater s h e = absurd (cc)

put_first : (row : MountRow) (rows : List MountRow) → All (Below row) rows → put mount_key row rows ≡ row ∷ rows
put_first row [] above = refl
put_first row (x ∷ xs) above = rw (All-head (Below row) x xs above) refl

all_kept : {X : Type 0} (P : X → Type 0) (p : X → Bool) (xs : List X) → All P xs → All P (filter p xs)
all_kept P p [] all = all
all_kept P p (x ∷ xs) all = here (p x) (all_kept P p xs (All-tail P x xs all))
  where
    here : (b : Bool) → All P (filter p xs) → All P (cond b (x ∷ filter p xs) (filter p xs))
    here true rest = All-cons P x (filter p xs) (All-head P x xs all) rest
    here false rest = rest

-- a row that is put is among those of its user, and of no other
own_put : (user : ℕ) (row : MountRow) (rows : List MountRow) → IsRising mount_key rows
    → own user (put mount_key row rows) ≡ cond (row.user == user) (put mount_key row (own user rows)) (own user rows)
own_put user row [] rising = refl
own_put user row (x ∷ xs) rising =
    here (key_cmp (mount_key row) (mount_key x)) (x.user == user) (row.user == user) refl refl refl (own_put user row xs (tail_rising mount_key x xs rising))
  where
    above : key_cmp (mount_key row) (mount_key x) ≡ Less → All (Below row) xs
    above less =
        All-weaker (Below x) (Below row) (λ y. key_total.trans (mount_key row) (mount_key x) (mount_key y) less) xs (below_rest mount_key x xs rising)

    same_user : key_cmp (mount_key row) (mount_key x) ≡ Equal → (row.user == user) ≡ (x.user == user)
    same_user tie = ap (λ (n : ℕ). n == user) (tied_user row x tie)

    here : (r : Ordering) (of_x of_row : Bool) → key_cmp (mount_key row) (mount_key x) ≡ r → (x.user == user) ≡ of_x → (row.user == user) ≡ of_row
        → own user (put mount_key row xs) ≡ cond (row.user == user) (put mount_key row (own user xs)) (own user xs)
        → own user (put mount_key row (x ∷ xs)) ≡ cond (row.user == user) (put mount_key row (own user (x ∷ xs))) (own user (x ∷ xs))
    here Less true true e f g rest = rw (e, g, f, e) refl
    here Less true false e f g rest = rw (e, g, f) refl
    here Less false true e f g rest =
        rw (e, g, f) (sym (put_first row (own user xs) (all_kept (Below row) (λ (y : MountRow). y.user == user) xs (above e))))
    here Less false false e f g rest = rw (e, g, f) refl
    here Equal true true e f g rest = rw (e, g, f, e) refl
    here Equal true false e f g rest = let s = same_user e in absurd (cc)
    here Equal false true e f g rest = let s = same_user e in absurd (cc)
    here Equal false false e f g rest = rw (e, g, f) refl
    here Greater true true e f g rest = let more = rw g at rest in rw (e, g, f, e) (ap (λ (rows : List MountRow). x ∷ rows) more)
    here Greater true false e f g rest = let more = rw g at rest in rw (e, g, f) (ap (λ (rows : List MountRow). x ∷ rows) more)
    here Greater false true e f g rest = let more = rw g at rest in rw (e, g, f) more
    here Greater false false e f g rest = let more = rw g at rest in rw (e, g, f) more

-- so it leaves the rows of two tables the same for whom they are the same
put_same : (user : ℕ) (row : MountRow) (a b : List MountRow) → IsRising mount_key a → IsRising mount_key b → own user a ≡ own user b
    → own user (put mount_key row a) ≡ own user (put mount_key row b)
put_same user row a b rises others same =
    own_put user row a rises
    ∙ ap (λ (rows : List MountRow). cond (row.user == user) (put mount_key row rows) rows) same
    ∙ sym (own_put user row b others)

-- ---- several

abbrev SameFor : List MountRow → List MountRow → ℕ × ℕ → Type 0
SameFor a b of = own of.0 a ≡ own of.0 b

all_same : (users : List UserRow) (nodes : List NodeRow) (ofs : List (ℕ × ℕ)) (a b : List MountRow) → IsRising mount_key a → IsRising mount_key b
    → All (SameFor a b) ofs → ensured_all users nodes ofs a ≡ ensured_all users nodes ofs b
all_same users nodes [] a b rises others same = refl
all_same users nodes (of ∷ ofs) a b rises others same =
    let rest = All-tail (SameFor a b) of ofs same in
    here (ensured users nodes b of.0 of.1) (ensured_same users nodes a b of.0 of.1 (All-head (SameFor a b) of ofs same))
    (all_same users nodes ofs a b rises others rest)
    (λ row. all_same users nodes ofs (put mount_key row a) (put mount_key row b) (put_rising mount_key row a rises) (put_rising mount_key row b others)
    (All-weaker (SameFor a b) (SameFor (put mount_key row a) (put mount_key row b)) (λ of e. put_same of.0 row a b rises others e) ofs rest))
  where
    here : (row : Option MountRow) → ensured users nodes a of.0 of.1 ≡ row
        → ensured_all users nodes ofs a ≡ ensured_all users nodes ofs b
        → ((row : MountRow) → ensured_all users nodes ofs (put mount_key row a) ≡ ensured_all users nodes ofs (put mount_key row b))
        → then_ensured (ensured users nodes a of.0 of.1) (ensured_all users nodes ofs) a ≡ then_ensured row (ensured_all users nodes ofs) b
    here None is none some = rw is none
    here (Some row) is none some = rw is (ap (λ (rows : List MountRow). row ∷ rows) (some row))

all_map : {X Y : Type 0} (P : Y → Type 0) (f : X → Y) (xs : List X) → All (λ x. P (f x)) xs → All P (map f xs)
all_map P f [] all = λ k d within. absurd (omega arith)
all_map P f (x ∷ xs) all =
    All-cons P (f x) (map f xs) (All-head (λ x. P (f x)) x xs all) (all_map P f xs (All-tail (λ x. P (f x)) x xs all))

own_twice : (user : ℕ) (rows : List MountRow) → own user (own user rows) ≡ own user rows
own_twice user rows =
    filter_filter (λ (row : MountRow). row.user == user) (λ (row : MountRow). row.user == user) rows
    ∙ ap (λ (test : MountRow → Bool). filter test rows) (λ i row. twice (row.user == user) i)

pub own_rising : (user : ℕ) (rows : List MountRow) → IsRising mount_key rows → IsRising mount_key (own user rows)
own_rising user rows rising = AllPairs-filter Below (λ (row : MountRow). row.user == user) rows rising

-- a user's mounts among all and alone
pub all_own : (users : List UserRow) (nodes : List NodeRow) (mounts : List MountRow) (user : ℕ) (of : List ℕ) → IsRising mount_key mounts
    → ensured_all users nodes (map (λ node. (user, node)) of) (own user mounts) ≡ ensured_all users nodes (map (λ node. (user, node)) of) mounts
all_own users nodes mounts user of rising =
    all_same users nodes (map (λ node. (user, node)) of) (own user mounts) mounts (own_rising user mounts rising) rising
    (all_map (SameFor (own user mounts) mounts) (λ node. (user, node)) of (λ k d within. own_twice user mounts))

-- what is ensured for a user leaves what is ensured for others
put_others : (users : List UserRow) (nodes : List NodeRow) (mounts : List MountRow) (row : MountRow) (node : ℕ) (of : List ℕ) → IsRising mount_key mounts
    → All (λ (user : ℕ). row.user < user) of
    → ensured_all users nodes (map (λ user. (user, node)) of) (put mount_key row mounts) ≡ ensured_all users nodes (map (λ user. (user, node)) of) mounts
put_others users nodes mounts row node of rising above =
    all_same users nodes (map (λ user. (user, node)) of) (put mount_key row mounts) mounts (put_rising mount_key row mounts rising) rising
    (all_map (SameFor (put mount_key row mounts) mounts) (λ user. (user, node)) of
    (All-weaker (λ (user : ℕ). row.user < user) (λ (user : ℕ). own user (put mount_key row mounts) ≡ own user mounts)
    (λ user less. own_put user row mounts rising ∙ ap (λ (b : Bool). cond b (put mount_key row (own user mounts)) (own user mounts)) (apart user less)) of above))
  where
    apart : (user : ℕ) → row.user < user → (row.user == user) ≡ false
    apart user less = here (row.user == user) refl
      where
        here : (b : Bool) → (row.user == user) ≡ b → b ≡ false
        here true is = let same = eqb-true row.user user is in absurd (omega arith)
        here false is = refl

-- ---- one step

-- what ensuring writes first, and what it writes behind it
pub first_written : (row : Option MountRow) (rest : List MountRow → List MountRow) (mounts : List MountRow)
    → then_ensured row rest mounts ≡ one_or_none row ++ rest (with_mount mounts row)
first_written None rest mounts = refl
first_written (Some row) rest mounts = refl

-- the same for users, whose rows don't bear on those of the later ones
pub first_of_users : (users : List UserRow) (nodes : List NodeRow) (mounts : List MountRow) (node user : ℕ) (of : List ℕ) → IsRising mount_key mounts
    → All (λ (other : ℕ). user < other) of
    → ensured_all users nodes (map (λ user. (user, node)) (user ∷ of)) mounts
    ≡ one_or_none (ensured users nodes mounts user node) ++ ensured_all users nodes (map (λ user. (user, node)) of) mounts
first_of_users users nodes mounts node user of rising above =
    here (ensured users nodes mounts user node) (λ row is. own_row row is)
  where
    own_row : (row : MountRow) → ensured users nodes mounts user node ≡ Some row → row.user ≡ user
    own_row row is = pick (is_mounted mounts user node) is
      where
        pick : (b : Bool) → (if b then None else Some (record {
          user = user;
          node = node;
          name = free_name_of (name_of nodes node) (names_in_root users nodes mounts user);
          left = false;
        })) ≡ Some row → row.user ≡ user
        pick true is = absurd (cc)
        pick false is = cc

    here : (row : Option MountRow) → ((it : MountRow) → row ≡ Some it → it.user ≡ user)
        → then_ensured row (ensured_all users nodes (map (λ user. (user, node)) of)) mounts
        ≡ one_or_none row ++ ensured_all users nodes (map (λ user. (user, node)) of) mounts
    here None is = refl
    here (Some row) is =
        ap (λ (rows : List MountRow). row ∷ rows)
        (put_others users nodes mounts row node of rising (subst (λ (n : ℕ). All (λ (other : ℕ). n < other) of) (sym (is row refl)) above))

-- those behind a place in a rising list are above the one there
pub behind : (users : List ℕ) (k user : ℕ) → IsStrictlyIncreasing users → k < length users → user ≡ get_or users k user
    → All (λ (other : ℕ). user < other) (drop (k + 1) users)
behind users k user rising within is i d inside =
    let size = length-drop (k + 1) users in
    let above = AllPairs-from_increasing users rising k (k + 1 + i) d (omega arith) (omega arith) in
    let at = get_or-drop (k + 1) users i d in
    let there = get_or_default users k d user within in
    omega arith

-- no more rows are a user's than there are
pub own_few : (user : ℕ) (rows : List MountRow) → length (own user rows) ≤ length rows
own_few user rows =
    let all = length-filter_both (λ (row : MountRow). row.user == user) (λ (row : MountRow). not (row.user == user)) (λ _. refl) rows in
    omega arith
