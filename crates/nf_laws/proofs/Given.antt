-- Mounts that are given: what ensuring them makes of those that are there.
use Rattle.std.proofs.Common.{◌≡◌, ◌≢◌, ◌⊎◌, inl, inr, ℕ, zero, suc, ◌==◌, ◌&&◌, ◌||◌, not, Bool, true, false, List, [], ◌∷◌, ◌++◌, filter, get_or, if◌then◌else◌, map, Option, refl, sym, ap, subst, ◌∙◌, arith}
use Rattle.std.specs.Prelude.{Some}
use Rattle.std.specs.List.{All, Contains, list_any}
use Rattle.std.specs.Option.{option_map_or}
use Rattle.std.specs.declared.cmp.Ordering.{Ordering}
use Rattle.std.specs.declared.cmp.Ordering.TheVariants.{Equal, Greater, Less}
use Rattle.std.proofs.lemmas.Bool.{and_from, and_parts, both_ways, cases_Bool, eq-eqb, eqb-true, false_from_ne_true, or_left, or_right}
use Rattle.std.proofs.lemmas.List.Elements.{All-cons, All-contains, All-contains_itself, All-filter, All-head, All-map, All-nil, All-tail, All-weaker, filter_passes}
use Rattle.std.proofs.lemmas.Slice.Eq.{bytes_eq-Decides}
use Rattle.nf_access.specs.Mounts.{free_name_of, is_mount_of, is_mounted, is_shown_to, mount_row, name_of, names_in_root, root_folder}
use Rattle.nf_base.specs.declared.rows.MemberRow.{MemberRow}
use Rattle.nf_base.specs.declared.rows.MountRow.{MountRow}
use Rattle.nf_base.specs.declared.rows.NodeRow.{NodeRow}
use Rattle.nf_base.specs.declared.rows.UserRow.{UserRow}
use Rattle.nf_defs.proofs.Lookups.{equal_bytes}
use Rattle.nf_defs.proofs.Puts.{all_put}
use Rattle.nf_defs.specs.Prelude.{by_order, is_member_of, IsRising, key_cmp, members_of, mount_key, put, put_all, Tables, taken_names}
use Rattle.nf_laws.specs.Access.{MountsGiven}
use Rattle.nf_words.proofs.Ensured.{by_each, each_apart, each_new, each_of, written}
use Rattle.nf_words.proofs.Mounting.{mount_found, mount_left_so, mounts_differ}
use Rattle.nf_words.specs.Prelude.{put_mounts}

-- ---- rows that are put, one after the other

abbrev pub put_each : List MountRow → List MountRow → List MountRow
put_each [] mounts = mounts
put_each (row ∷ more) mounts = put_each more (put mount_key row mounts)

pub mounts_put : (t : Tables) (more : List MountRow) → put_all t (put_mounts more) ≡ record t { mounts = put_each more t.mounts }
mounts_put t [] = refl
mounts_put t (row ∷ more) = mounts_put (record t { mounts = put mount_key row t.mounts }) more

-- what they have and those that are there, all have
each_put : (P : MountRow → Type 0) (more mounts : List MountRow) → All P more → All P mounts → All P (put_each more mounts)
each_put P [] mounts new all = all
each_put P (row ∷ more) mounts new all =
    each_put P more (put mount_key row mounts) (All-tail P row more new) (all_put mount_key P row mounts (All-head P row more new) all)

-- a row of another key is there still
contains_first : {X : Type 0} (x : X) (xs : List X) → Contains (x ∷ xs) x
contains_first x xs = (0, omega arith, refl)

contains_more : {X : Type 0} (y x : X) (xs : List X) → Contains xs x → Contains (y ∷ xs) x
contains_more y x xs is = (suc is.0, omega (arith, is.1), is.2)

contains_cases : {X : Type 0} (y x : X) (xs : List X) → Contains (y ∷ xs) x → (y ≡ x) ⊎ Contains xs x
contains_cases y x xs (zero, within, same) = inl same
contains_cases y x xs (suc k, within, same) = inr (k, omega (arith, within), same)

pub put_contains : {R : Type 0} (key : R → List ℕ) (row x : R) (rows : List R) → key row ≢ key x → Contains rows x → Contains (put key row rows) x
put_contains key row x [] other is = absurd (omega (arith, is.1))
put_contains {R = R} key row x (y ∷ rows) other is =
    here (key_cmp (key row) (key y)) refl (contains_cases y x rows is) (put_contains key row x rows other)
  where
    here : (o : Ordering) → key_cmp (key row) (key y) ≡ o → (y ≡ x) ⊎ Contains rows x → (Contains rows x → Contains (put key row rows) x)
        → Contains (by_order o (row ∷ y ∷ rows) (row ∷ rows) (y ∷ put key row rows)) x
    here Less e which rest = contains_more row x (y ∷ rows) is
    here Equal e (inl same) rest = absurd (other ((bytes_eq-Decides (key row) (key y)).0 (equal_bytes (key row) (key y) Equal e) ∙ ap key same))
    here Equal e (inr among) rest = contains_more row x rows among
    here Greater e (inl same) rest = subst (λ (z : R). Contains (z ∷ put key row rows) x) (sym same) (contains_first x (put key row rows))
    here Greater e (inr among) rest = contains_more y x (put key row rows) (rest among)

-- mounts of other users or other nodes have other keys
keys_differ : (x row : MountRow) → is_mount_of x.user x.node row ≡ false → mount_key row ≢ mount_key x
keys_differ x row off same =
    both_ways (is_mount_of x.user x.node row) off
    (and_from (row.user == x.user) (row.node == x.node) (eq-eqb row.user x.user (users same)) (eq-eqb row.node x.node (nodes same)))
  where
    users : {a b c d : ℕ} → a ∷ b ∷ [] ≡ c ∷ d ∷ [] → a ≡ c
    users e = cc

    nodes : {a b c d : ℕ} → a ∷ b ∷ [] ≡ c ∷ d ∷ [] → b ≡ d
    nodes e = cc

each_keeps : (x : MountRow) (more mounts : List MountRow) → All (λ (row : MountRow). is_mount_of x.user x.node row ≡ false) more
    → Contains mounts x → Contains (put_each more mounts) x
each_keeps x [] mounts apart is = is
each_keeps x (row ∷ more) mounts apart is =
    let Apart : MountRow → Type 0 = λ (row : MountRow). is_mount_of x.user x.node row ≡ false in
    each_keeps x more (put mount_key row mounts) (All-tail Apart row more apart)
    (put_contains mount_key row x mounts (keys_differ x row (All-head Apart row more apart)) is)

-- ---- what is mounted

-- a mount that is there and wasn't left is found
shown_mounted : (x : MountRow) (mounts : List MountRow) → IsRising mount_key mounts → Contains mounts x → x.left ≡ false
    → is_mounted mounts x.user x.node ≡ true
shown_mounted x mounts rising is shown =
    ap (λ (o : Option MountRow). option_map_or (λ (r : MountRow). not r.left) o false) (found mounts rising is) ∙ ap not shown
  where
    itself : is_mount_of x.user x.node x ≡ true
    itself = and_from (x.user == x.user) (x.node == x.node) (eq-eqb x.user x.user refl) (eq-eqb x.node x.node refl)

    found : (mounts : List MountRow) → IsRising mount_key mounts → Contains mounts x → mount_row mounts x.user x.node ≡ Some x
    found [] rising is = absurd (omega (arith, is.1))
    found (y ∷ mounts) rising is =
        here (is_mount_of x.user x.node y) refl (contains_cases y x mounts is)
        (found mounts (λ i j d before within. rising (suc i) (suc j) d (omega arith) (omega arith)))
      where
        here : (b : Bool) → is_mount_of x.user x.node y ≡ b → (y ≡ x) ⊎ Contains mounts x
            → (Contains mounts x → mount_row mounts x.user x.node ≡ Some x) → (if b then Some y else mount_row mounts x.user x.node) ≡ Some x
        here true e (inl same) rest = ap (λ (r : MountRow). Some r) same
        here true e (inr among) rest =
            absurd (both_ways (is_mount_of x.user x.node x)
            (All-contains (λ (z : MountRow). is_mount_of x.user x.node z ≡ false) mounts x
            (λ k d within. mounts_differ (y ∷ mounts) x.user x.node rising 0 (suc k) d (omega arith) (omega arith) e) among) itself)
        here false e (inl same) rest = absurd (both_ways (is_mount_of x.user x.node x) (ap (is_mount_of x.user x.node) (sym same) ∙ e) itself)
        here false e (inr among) rest = rest among

-- what is put and isn't left is mounted
put_is_mounted : (row : MountRow) (mounts : List MountRow) (user node : ℕ) → row.left ≡ false → is_mount_of user node row ≡ true
    → is_mounted (put mount_key row mounts) user node ≡ true
put_is_mounted row mounts user node stays same =
    let parts = and_parts (row.user == user) (row.node == node) same in
    let found = ap (λ (n : ℕ). mount_row (put mount_key row mounts) n node) (sym (eqb-true row.user user parts.0))
    ∙ ap (mount_row (put mount_key row mounts) row.user) (sym (eqb-true row.node node parts.1)) ∙ mount_found row mounts in
    ap (λ (o : Option MountRow). option_map_or (λ (r : MountRow). not r.left) o false) found ∙ ap not stays

-- what is mounted stays so where rows that aren't left are put
put_stays : (row : MountRow) (mounts : List MountRow) (user node : ℕ) → row.left ≡ false → is_mounted mounts user node ≡ true
    → is_mounted (put mount_key row mounts) user node ≡ true
put_stays row mounts user node stays there =
    elim (cases_Bool (is_mount_of user node row)) [
      | inl same ↦ put_is_mounted row mounts user node stays same
      | inr other ↦
          ap (λ (o : Option MountRow). option_map_or (λ (r : MountRow). not r.left) o false) (mount_left_so row mounts user node other) ∙ there
    ]

each_stays : (more mounts : List MountRow) (user node : ℕ) → All (λ (row : MountRow). row.left ≡ false) more → is_mounted mounts user node ≡ true
    → is_mounted (put_each more mounts) user node ≡ true
each_stays [] mounts user node shown there = there
each_stays (row ∷ more) mounts user node shown there =
    let Shown : MountRow → Type 0 = λ (row : MountRow). row.left ≡ false in
    each_stays more (put mount_key row mounts) user node (All-tail Shown row more shown)
    (put_stays row mounts user node (All-head Shown row more shown) there)

-- a mount stays, or its user has another one of the node
each_left : (x : MountRow) (more mounts : List MountRow) → All (λ (row : MountRow). row.left ≡ false) more → Contains mounts x
    → Contains (put_each more mounts) x ⊎ (is_mounted (put_each more mounts) x.user x.node ≡ true)
each_left x [] mounts shown is = inl is
each_left x (row ∷ more) mounts shown is =
    let Shown : MountRow → Type 0 = λ (row : MountRow). row.left ≡ false in
    elim (cases_Bool (is_mount_of x.user x.node row)) [
      | inl same ↦
          inr
          (each_stays more (put mount_key row mounts) x.user x.node (All-tail Shown row more shown)
          (put_is_mounted row mounts x.user x.node (All-head Shown row more shown) same))
      | inr other ↦
          each_left x more (put mount_key row mounts) (All-tail Shown row more shown)
          (put_contains mount_key row x mounts (keys_differ x row other) is)
    ]

-- ---- those that are ensured

module _ (users : List UserRow) (nodes : List NodeRow) where
  -- the mounts with them
  abbrev pub ensured_with : List (ℕ × ℕ) → List MountRow → List MountRow
  ensured_with pairs mounts = put_each (written users nodes pairs mounts) mounts

  new_shown : (pairs : List (ℕ × ℕ)) (mounts : List MountRow) → All (λ (row : MountRow). row.left ≡ false) (written users nodes pairs mounts)
  new_shown pairs mounts k d within = (each_new users nodes pairs mounts k d within).0

  -- all are there
  pub all_mounted : (pairs : List (ℕ × ℕ)) (mounts : List MountRow)
      → All (λ (of : ℕ × ℕ). is_mounted (ensured_with pairs mounts) of.0 of.1 ≡ true) pairs
  all_mounted =
      by_each users nodes (λ pairs mounts rows. All (λ (of : ℕ × ℕ). is_mounted (put_each rows mounts) of.0 of.1 ≡ true) pairs)
      (λ mounts. All-nil (λ (of : ℕ × ℕ). is_mounted mounts of.0 of.1 ≡ true))
      (λ of others mounts there rest.
      let made = ensured_with others mounts in
      All-cons (λ (of : ℕ × ℕ). is_mounted made of.0 of.1 ≡ true) of others
      (each_stays (written users nodes others mounts) mounts of.0 of.1 (new_shown others mounts) there) rest)
      (λ of others mounts row is rest.
      let after = put mount_key row mounts in
      let made = ensured_with others after in
      let itself : is_mounted after of.0 of.1 ≡ true =
      put_is_mounted row mounts of.0 of.1 is.stays
      (and_from (row.user == of.0) (row.node == of.1) (eq-eqb row.user of.0 is.user) (eq-eqb row.node of.1 is.node)) in
      All-cons (λ (of : ℕ × ℕ). is_mounted made of.0 of.1 ≡ true) of others
      (each_stays (written users nodes others after) after of.0 of.1 (new_shown others after) itself) rest)

  -- each is as it was or one that is given, and each that was there is as it was, or was left and its user has one again
  pub mounts_given : (pairs : List (ℕ × ℕ)) (mounts : List MountRow) (IsGiven : MountRow → Type 0) → IsRising mount_key mounts
      → All IsGiven (written users nodes pairs mounts) → MountsGiven mounts (ensured_with pairs mounts) IsGiven
  mounts_given pairs mounts IsGiven rising given = record {
    each = each_put (λ (row : MountRow). Contains mounts row ⊎ IsGiven row) (written users nodes pairs mounts) mounts
        (All-weaker IsGiven (λ (row : MountRow). Contains mounts row ⊎ IsGiven row) (λ row is. inr is) (written users nodes pairs mounts) given)
        (All-weaker (Contains mounts) (λ (row : MountRow). Contains mounts row ⊎ IsGiven row) (λ row is. inl is) mounts (All-contains_itself mounts));
    kept = λ row among. elim (cases_Bool row.left) [
      | inl left ↦ elim (each_left row (written users nodes pairs mounts) mounts (new_shown pairs mounts) among) [ inl stays ↦ inl stays | inr again ↦ inr (left, again) ]
      | inr shown ↦
          inl
          (each_keeps row (written users nodes pairs mounts) mounts
          (each_apart users nodes pairs mounts row.user row.node (shown_mounted row mounts rising among shown)) among)
    ];
  }

  -- the mounts of another user are listed as before
  shown_left : (row : MountRow) (mounts : List MountRow) (user : ℕ) → row.user ≢ user
      → filter (is_shown_to user) (put mount_key row mounts) ≡ filter (is_shown_to user) mounts
  shown_left row [] user other = rw (off row refl) refl
    where
      off : (x : MountRow) → row.user ≡ x.user → is_shown_to user x ≡ false
      off x same = false_from_ne_true (is_shown_to user x) (λ is. other (same ∙ eqb-true x.user user (and_parts (x.user == user) (not x.left) is).0))
  shown_left row (x ∷ mounts) user other = here (key_cmp (mount_key row) (mount_key x)) refl (shown_left row mounts user other)
    where
      off : (x : MountRow) → row.user ≡ x.user → is_shown_to user x ≡ false
      off x same = false_from_ne_true (is_shown_to user x) (λ is. other (same ∙ eqb-true x.user user (and_parts (x.user == user) (not x.left) is).0))

      first : {a b c d : ℕ} → a ∷ b ∷ [] ≡ c ∷ d ∷ [] → a ≡ c
      first e = cc

      here : (o : Ordering) → key_cmp (mount_key row) (mount_key x) ≡ o
          → filter (is_shown_to user) (put mount_key row mounts) ≡ filter (is_shown_to user) mounts
          → filter (is_shown_to user) (by_order o (row ∷ x ∷ mounts) (row ∷ mounts) (x ∷ put mount_key row mounts)) ≡ filter (is_shown_to user) (x ∷ mounts)
      here Less e rest = simp (off row refl) refl
      here Equal e rest =
          let keyed = (bytes_eq-Decides (mount_key row) (mount_key x)).0 (equal_bytes (mount_key row) (mount_key x) Equal e) in
          simp (off row refl, off x (first keyed)) refl
      here Greater e rest = ap (λ (all : List MountRow). if is_shown_to user x then x ∷ all else all) rest

  -- where all are of one node, each has the name that was free at first
  pub each_named : (node : ℕ) (pairs : List (ℕ × ℕ)) (mounts : List MountRow) → All (λ (of : ℕ × ℕ). of.1 ≡ node) pairs
      → All (λ (row : MountRow). row.name ≡ free_name_of (name_of nodes row.node) (names_in_root users nodes mounts row.user))
      (written users nodes pairs mounts)
  each_named node =
      by_each users nodes (λ pairs mounts rows. All (λ (of : ℕ × ℕ). of.1 ≡ node) pairs → All (Named mounts) rows)
      (λ mounts same. All-nil (Named mounts)) (λ of others mounts there rest same. rest (All-tail (λ (of : ℕ × ℕ). of.1 ≡ node) of others same))
      (λ of others mounts row is rest same.
      let after = put mount_key row mounts in
      let Same : ℕ × ℕ → Type 0 = λ (of : ℕ × ℕ). of.1 ≡ node in
      let there : is_mounted after row.user row.node ≡ true =
      ap (λ (o : Option MountRow). option_map_or (λ (r : MountRow). not r.left) o false) (mount_found row mounts) ∙ ap not is.stays in
      All-cons (Named mounts) row (written users nodes others after) is.name
      (λ k d within.
      let other = get_or (written users nodes others after) k d in
      let off = each_apart users nodes others after row.user row.node there k d within in
      let at : other.node ≡ node = each_of users nodes Same others after (All-tail Same of others same) k d within in
      let differs : row.user ≢ other.user = λ e.
      both_ways (is_mount_of row.user row.node other) off
      (and_from (other.user == row.user) (other.node == row.node) (eq-eqb other.user row.user (sym e))
      (eq-eqb other.node row.node (at ∙ sym (is.node ∙ All-head Same of others same)))) in
      rest (All-tail Same of others same) k d within
      ∙ ap (λ (shown : List MountRow).
      free_name_of (name_of nodes other.node) (taken_names nodes (root_folder users other.user) ++ map (λ (r : MountRow). r.name) shown))
      (shown_left row mounts other.user differs)))
    where
      Named : List MountRow → MountRow → Type 0
      Named mounts row = row.name ≡ free_name_of (name_of nodes row.node) (names_in_root users nodes mounts row.user)

-- ---- lists of pairs

-- what all have of those that pass a test, each that passes has
pub of_passing : {X Y : Type 0} (P : Y → Type 0) (f : X → Y) (test : X → Bool) (xs : List X) → All P (map f (filter test xs))
    → All (λ (x : X). test x ≡ true → P (f x)) xs
of_passing P f test [] all = All-nil (λ x. test x ≡ true → P (f x))
of_passing {X = X} P f test (x ∷ xs) all = here (test x) refl all (of_passing P f test xs)
  where
    Has : X → Type 0
    Has x = test x ≡ true → P (f x)

    here : (b : Bool) → test x ≡ b → All P (map f (if b then x ∷ filter test xs else filter test xs))
        → (All P (map f (filter test xs)) → All Has xs) → All Has (x ∷ xs)
    here true e all rest =
        All-cons Has x xs (λ is. All-head P (f x) (map f (filter test xs)) all) (rest (All-tail P (f x) (map f (filter test xs)) all))
    here false e all rest = All-cons Has x xs (λ is. absurd (both_ways (test x) e is)) (rest all)

-- what all members have that pass a test, a member has that passes it
pub of_member : (P : ℕ → Type 0) (test : ℕ → Bool) (members : List MemberRow) (group user : ℕ)
    → All P (filter test (members_of members group)) → is_member_of members group user ≡ true → test user ≡ true → P user
of_member P test [] group user all is passes = absurd (cc)
of_member P test (row ∷ members) group user all is passes =
    here (row.group == group) (row.user == user) refl refl all is (λ all is. of_member P test members group user all is passes)
  where
    Rest : Type 0
    Rest = All P (filter test (members_of members group)) → is_member_of members group user ≡ true → P user

    among : List ℕ
    among = members_of members group

    tested : (b : Bool) → test row.user ≡ b → All P (if b then row.user ∷ filter test among else filter test among)
        → (test row.user ≡ true → P row.user) × All P (filter test among)
    tested true e all = (λ is. All-head P row.user (filter test among) all, All-tail P row.user (filter test among) all)
    tested false e all = (λ is. absurd (both_ways (test row.user) e is), all)

    here : (a b : Bool) → (row.group == group) ≡ a → (row.user == user) ≡ b
        → All P (filter test (map (λ (r : MemberRow). r.user)
        (if a then row ∷ filter (λ r. r.group == group) members else filter (λ r. r.group == group) members)))
        → ((a && b) || is_member_of members group user) ≡ true → Rest → P user
    here true true g u all is rest =
        let same = eqb-true row.user user u in
        subst P same ((tested (test row.user) refl all).0 (ap test same ∙ passes))
    here true false g u all is rest = rest (tested (test row.user) refl all).1 is
    here false b g u all is rest = rest all is

-- where none is given, all are as they were
pub same_mounts : (mounts : List MountRow) (IsGiven : MountRow → Type 0) → MountsGiven mounts mounts IsGiven
same_mounts mounts IsGiven = record {
  each = All-weaker (Contains mounts) (λ (row : MountRow). Contains mounts row ⊎ IsGiven row) (λ row is. inl is) mounts (All-contains_itself mounts);
  kept = λ row among. inl among;
}

-- what all values have, all that they are of have
pub of_map : {X Y : Type 0} (P : Y → Type 0) (f : X → Y) (xs : List X) → All P (map f xs) → All (λ (x : X). P (f x)) xs
of_map P f [] all = All-nil (λ x. P (f x))
of_map P f (x ∷ xs) all = All-cons (λ x. P (f x)) x xs (All-head P (f x) (map f xs) all) (of_map P f xs (All-tail P (f x) (map f xs) all))

-- each member of a group is one
pub members_are : (members : List MemberRow) (group : ℕ) → All (λ (user : ℕ). is_member_of members group user ≡ true) (members_of members group)
members_are members group =
    All-map (λ (user : ℕ). is_member_of members group user ≡ true) (λ (row : MemberRow). row.user) (filter (λ row. row.group == group) members)
    (λ k d within.
    let row = get_or (filter (λ (row : MemberRow). row.group == group) members) k d in
    let among = All-filter (λ (row : MemberRow). row.group == group) (Contains members) members (All-contains_itself members) k d within in
    let passes = filter_passes (λ (row : MemberRow). row.group == group) members k d within in
    any_has (λ (other : MemberRow). other.group == group && other.user == row.user) members row among
    (and_from (row.group == group) (row.user == row.user) passes (eq-eqb row.user row.user refl)))
  where
    any_has : (test : MemberRow → Bool) (members : List MemberRow) (row : MemberRow) → Contains members row → test row ≡ true → list_any test members ≡ true
    any_has test [] row is passes = absurd (omega (arith, is.1))
    any_has test (other ∷ members) row is passes =
        elim (contains_cases other row members is) [
          | inl same ↦ or_left (test other) (list_any test members) (ap test same ∙ passes)
          | inr among ↦ or_right (test other) (list_any test members) (any_has test members row among passes)
        ]
