-- A mount that is found by its name.
use Rattle.std.proofs.Common.{ℕ, ◌<◌, ◌≡◌, ◌≢◌, ◌==◌, ◌&&◌, Bool, true, false, not, cond, List, [], ◌∷◌, ◌++◌, length, take, Option, Some, None, bytes_eq, option_map, refl, sym, ap, subst, ◌∙◌, inl, inr, arith}
use Rattle.std.specs.Cmp.{nat_cmp_is, nat_cmp_total, tied_itself}
use Rattle.std.specs.List.{All, filter, find}
use Rattle.std.specs.Option.{IfSome, option_map_or}
use Rattle.std.specs.declared.cmp.Ordering.TheVariants.{Less, Equal, Greater}
use Rattle.std.proofs.lemmas.Bool.{cases_lt, cond_both}
use Rattle.std.proofs.lemmas.Bool.Decides.{nat_tests}
use Rattle.std.proofs.lemmas.List.Elements.{All-head, All-tail}
use Rattle.std.proofs.lemmas.Slice.Eq.{bytes_eq-Decides}
use Rattle.sha2.specs.Sha256.{sha256}
use Rattle.nf_access.specs.Mounts.{is_shown_to, mount_at, mount_row}
use Rattle.nf_base.specs.declared.rows.MountRow.{MountRow}
use Rattle.nf_defs.specs.Prelude.{IsRising, key_cmp, mount_key}
use Rattle.nf_defs.proofs.Lookups.{equal_bytes}
use Rattle.nf_defs.proofs.Puts.{below_rest, chunk_cmp, compared, key_total, tail_rising, turned}
use Rattle.nf_mounts.specs.Kept.{IsNameIndex, entry_key, entry_of, has_name, is_listed, is_named, is_other}
use Rattle.nf_mounts.specs.declared.names.NamedMount.{NamedMount}
use Rattle.nf_mounts.proofs.Keys.{by_key, iff_same}
use Rattle.nf_mounts.proofs.Puts.{found_own}
use Rattle.nf_table.specs.Rows.{begins, row_at}
use Rattle.nf_table.proofs.Looked.{same_bytes}

found_has : {X : Type 0} (P : X → Type 0) (test : X → Bool) (xs : List X) → All P xs → IfSome (find test xs) P
found_has P test [] all = tt
found_has P test (x ∷ xs) all =
    cond_both (test x) (Some x) (find test xs) (λ (o : Option _). IfSome o P) (λ _. All-head P x xs all) (λ _. found_has P test xs (All-tail P x xs all))

pub find_filter : {X : Type 0} (p test : X → Bool) (xs : List X) → find test (filter p xs) ≡ find (λ x. p x && test x) xs
find_filter p test [] = refl
find_filter p test (x ∷ xs) = let rest = find_filter p test xs in grind arith

-- ---- the first row that passes a test

module _ {R : Type 0} (key : R → List ℕ) (p : R → Bool) where
  none_passes : (rows : List R) (n : List ℕ) (y : R) → find p rows ≡ None → row_at key n rows ≡ Some y → p y ≡ false
  none_passes [] n y none at = absurd (cc)
  none_passes (x ∷ xs) n y none at = let rest = none_passes xs n y in grind arith

  passes_first : (rows : List R) (x : R) → find p rows ≡ Some x → p x ≡ true
  passes_first [] x found = absurd (cc)
  passes_first (y ∷ ys) x found = let rest = passes_first ys x in grind arith

  abbrev Below : R → R → Type 0
  Below x y = key_cmp (key x) (key y) ≡ Less

  is_below : (n : List ℕ) (rows : List R) (x y : R) → IsRising key (x ∷ rows) → row_at key n rows ≡ Some y → Below x y
  is_below n rows x y rising at =
      subst (λ (o : Option R). IfSome o (Below x)) at (found_has (Below x) (λ row. bytes_eq (key row) n) rows (below_rest key x rows rising))

  first_there : (rows : List R) (x : R) → IsRising key rows → find p rows ≡ Some x → row_at key (key x) rows ≡ Some x
  first_there [] x rising found = absurd (cc)
  first_there (y ∷ ys) x rising found = here (p y) found (first_there ys x (tail_rising key y ys rising))
    where
      here : (b : Bool) → cond b (Some y) (find p ys) ≡ Some x → (find p ys ≡ Some x → row_at key (key x) ys ≡ Some x)
          → row_at key (key x) (y ∷ ys) ≡ Some x
      here true found rest = let same : y ≡ x = cc in rw (same, same_bytes (key x) (key x) refl) refl
      here false found rest =
          let at = rest found in
          let less = is_below (key x) ys y x rising at in
          rw (equal_bytes (key y) (key x) Less less) at

  -- none before it passes
  least : (rows : List R) (n : List ℕ) (x y : R) → IsRising key rows → find p rows ≡ Some x → row_at key n rows ≡ Some y → p y ≡ true
      → key_cmp (key y) (key x) ≢ Less
  least [] n x y rising found at passes = absurd (cc)
  least (z ∷ zs) n x y rising found at passes =
      here (p z) (bytes_eq (key z) n) refl found at (least zs n x y (tail_rising key z zs rising))
    where
      here : (b c : Bool) → p z ≡ b → cond b (Some z) (find p zs) ≡ Some x → cond c (Some z) (row_at key n zs) ≡ Some y
          → (find p zs ≡ Some x → row_at key n zs ≡ Some y → p y ≡ true → key_cmp (key y) (key x) ≢ Less) → key_cmp (key y) (key x) ≢ Less
      here true true e found at rest = λ less.
          let same : y ≡ x = cc in
          let tie : key_cmp (key x) (key x) ≡ Equal = tied_itself key_total (key x) in
          let both : key_cmp (key y) (key x) ≡ Equal = ap (λ (r : R). key_cmp (key r) (key x)) same ∙ tie in
          absurd (cc)
      here true false e found at rest = λ less.
          let same : z ≡ x = cc in
          let above : key_cmp (key y) (key z) ≡ Greater = turned (key z) (key y) Less (is_below n zs z y rising at) in
          let both : key_cmp (key y) (key x) ≡ Greater = ap (λ (r : R). key_cmp (key y) (key r)) (sym same) ∙ above in
          absurd (cc)
      here false true e found at rest = λ less. let same : z ≡ y = cc in let yes : p z ≡ true = ap p same ∙ passes in absurd (cc)
      here false false e found at rest = rest found at passes

-- ---- fronts

take_front : (a b : List ℕ) → take (length a) (a ++ b) ≡ a
take_front [] b = refl
take_front (x ∷ xs) b = ap (λ rest. x ∷ rest) (take_front xs b)

begins_is : (entry : NamedMount) (user : ℕ) (name : List ℕ)
    → begins (entry_key entry) (user ∷ length name ∷ name) ≡ (entry.user == user && bytes_eq entry.name name)
begins_is entry user name = iff_same _ _ there back
  where
    ends : length entry.name ≡ length name → take (length name) (entry.name ++ entry.node ∷ []) ≡ entry.name
    ends same = ap (λ (k : ℕ). take k (entry.name ++ entry.node ∷ [])) (sym same) ∙ take_front entry.name (entry.node ∷ [])

    there : begins (entry_key entry) (user ∷ length name ∷ name) ≡ true → (entry.user == user && bytes_eq entry.name name) ≡ true
    there e =
        let same : length entry.name ≡ length name = grind (arith, nat_tests) in
        let front = ends same in
        grind (arith, nat_tests)

    back : (entry.user == user && bytes_eq entry.name name) ≡ true → begins (entry_key entry) (user ∷ length name ∷ name) ≡ true
    back e =
        let test : bytes_eq entry.name name ≡ true = grind arith in
        let same = (bytes_eq-Decides entry.name name).0 test in
        let front = ends (ap length same) in
        grind (arith, nat_tests)

-- a lower number at the end is below
lower : (user : ℕ) (name : List ℕ) (m n : ℕ) → m < n
    → key_cmp (user ∷ length name ∷ name ++ m ∷ []) (user ∷ length name ∷ name ++ n ∷ []) ≡ Less
lower user name m n less =
    sym (chunk_cmp user user name name m n)
    ∙ rw (tied_itself nat_cmp_total user, tied_itself key_total (length name ∷ name)) (sym (nat_cmp_is m n Less less))

lower_mount : (user m n : ℕ) → m < n → key_cmp (user ∷ m ∷ []) (user ∷ n ∷ []) ≡ Less
lower_mount user m n less = rw (tied_itself nat_cmp_total user) (compared m n Less less)

-- ---- the mount of a name

module _ (index : List NamedMount) (rows : List MountRow) (is : IsNameIndex index rows) (user : ℕ) (name : List ℕ) (but : Option ℕ) where
  abbrev digest : List ℕ
  digest = sha256 name

  abbrev named : MountRow → Bool
  named = is_named user name but

  abbrev sought : NamedMount → Bool
  sought entry = begins (entry_key entry) (user ∷ length digest ∷ digest) && (is_other but entry.node && has_name rows name entry)

  -- the entry of a row that is named so, and the row of such an entry
  record Pairs (entry : NamedMount) (row : MountRow) : Type 0 where
    of_user : (entry.user ≡ user) × (row.user ≡ user)
    of_name : entry.name ≡ digest
    of_node : row.node ≡ entry.node
    row_there : row_at mount_key (mount_key row) rows ≡ Some row
    row_named : named row ≡ true
    entry_there : row_at entry_key (entry_key entry) index ≡ Some entry
    entry_sought : sought entry ≡ true

  of_row : (row : MountRow) → row_at mount_key (mount_key row) rows ≡ Some row → named row ≡ true → Pairs (entry_of row) row
  of_row row there passes =
      let found : mount_row rows row.user row.node ≡ Some row = sym (by_key rows row.user row.node) ∙ there in
      let name_is : row.name ≡ name = (bytes_eq-Decides row.name name).0 (grind arith) in
      let digest_is : sha256 row.name ≡ digest = ap sha256 name_is in
      let user_is : row.user ≡ user = grind (arith, nat_tests) in
      let listed : is_listed rows (entry_of row) ≡ true = rw (found, same_bytes (sha256 row.name) (sha256 row.name) refl) (grind arith) in
      let begin = begins_is (entry_of row) user digest in
      let same = same_bytes (sha256 row.name) digest digest_is in
      let has : has_name rows name (entry_of row) ≡ bytes_eq row.name name = ap (λ (o : Option MountRow). option_map_or (λ row. bytes_eq row.name name) o false) found in
      record {
        of_user = (user_is, user_is);
        of_name = digest_is;
        of_node = refl;
        row_there = there;
        row_named = passes;
        entry_there = is.listed (entry_of row) ∙ ap (λ (b : Bool). cond b (Some (entry_of row)) None) listed;
        entry_sought = rw (begin, has) (grind (arith, nat_tests));
      }

  of_entry : (entry : NamedMount) → row_at entry_key (entry_key entry) index ≡ Some entry → sought entry ≡ true → (row : MountRow) × Pairs entry row
  of_entry entry there passes = cases (mount_row rows entry.user entry.node) refl
    where
      cases : (o : Option MountRow) → mount_row rows entry.user entry.node ≡ o → (row : MountRow) × Pairs entry row
      cases None none =
          let has : has_name rows name entry ≡ false = ap (λ (o : Option MountRow). option_map_or (λ row. bytes_eq row.name name) o false) none in
          absurd (grind arith)
      cases (Some row) e =
          let own = found_own rows entry.user entry.node row e in
          let begin : begins (entry_key entry) (user ∷ length digest ∷ digest) ≡ (entry.user == user && bytes_eq entry.name digest) =
          begins_is entry user digest in
          let has : has_name rows name entry ≡ bytes_eq row.name name = ap (λ (o : Option MountRow). option_map_or (λ row. bytes_eq row.name name) o false) e in
          let is_in : is_listed rows entry ≡ (not row.left && bytes_eq (sha256 row.name) entry.name) =
          ap (λ (o : Option MountRow). option_map_or (λ row. not row.left && bytes_eq (sha256 row.name) entry.name) o false) e in
          let listed : is_listed rows entry ≡ true = let l = is.listed entry in grind arith in
          let user_is : entry.user ≡ user = grind (arith, nat_tests) in
          let test : bytes_eq entry.name digest ≡ true = grind arith in
          let row_user : row.user ≡ user = own.0 ∙ user_is in (
            row,
            record {
              of_user = (user_is, row_user);
              of_name = (bytes_eq-Decides entry.name digest).0 test;
              of_node = own.1;
              row_there =
                  by_key rows row.user row.node ∙ ap (λ (u : ℕ). mount_row rows u row.node) own.0 ∙ ap (mount_row rows entry.user) own.1 ∙ e;
              row_named = rw (row_user, own.1) (grind (arith, nat_tests));
              entry_there = there;
              entry_sought = passes;
            },
          )

  found : option_map (λ (entry : NamedMount). entry.node) (find sought index) ≡ option_map (λ (row : MountRow). row.node) (find named rows)
  found = cases (find sought index) (find named rows) refl refl
    where
      cases : (a : Option NamedMount) (b : Option MountRow) → find sought index ≡ a → find named rows ≡ b
          → option_map (λ (entry : NamedMount). entry.node) a ≡ option_map (λ (row : MountRow). row.node) b
      cases None None no_entry no_row = refl
      cases None (Some row) none found =
          let there = first_there mount_key named rows row is.rows_rise found in
          let pair = of_row row there (passes_first mount_key named rows row found) in
          let fails = none_passes entry_key sought index (entry_key (entry_of row)) (entry_of row) none pair.entry_there in
          let yes = pair.entry_sought in
          absurd (cc)
      cases (Some entry) None found none =
          let there = first_there entry_key sought index entry is.entries_rise found in
          let (row, pair) = of_entry entry there (passes_first entry_key sought index entry found) in
          let fails = none_passes mount_key named rows (mount_key row) row none pair.row_there in
          let yes = pair.row_named in
          absurd (cc)
      cases (Some entry) (Some row) entry_found row_found =
          let row_pair = of_row row (first_there mount_key named rows row is.rows_rise row_found) (passes_first mount_key named rows row row_found) in
          let (other, entry_pair) = of_entry entry (first_there entry_key sought index entry is.entries_rise entry_found) (passes_first entry_key sought index entry entry_found) in
          ap Some (same row other entry_pair row_pair
          (least mount_key named rows (mount_key other) row other is.rows_rise row_found entry_pair.row_there entry_pair.row_named)
          (least entry_key sought index (entry_key (entry_of row)) entry (entry_of row) is.entries_rise entry_found row_pair.entry_there row_pair.entry_sought))
        where
          same : (row other : MountRow) → Pairs entry other → Pairs (entry_of row) row → key_cmp (mount_key other) (mount_key row) ≢ Less
              → key_cmp (entry_key (entry_of row)) (entry_key entry) ≢ Less → entry.node ≡ row.node
          same row other one two not_row not_entry =
              elim (cases_lt entry.node row.node) [
                | inl less ↦
                    let l = lower_mount user entry.node row.node less in
                    let a : mount_key other ≡ user ∷ entry.node ∷ [] = let u = one.of_user.1 in let n = one.of_node in cc in
                    let b : mount_key row ≡ user ∷ row.node ∷ [] = let u = two.of_user.1 in cc in
                    absurd (not_row (ap (λ (k : List ℕ). key_cmp k (mount_key row)) a ∙ ap (key_cmp (user ∷ entry.node ∷ [])) b ∙ l))
                | inr not_less ↦ elim (cases_lt row.node entry.node) [
                  | inl less ↦
                      let l = lower user digest row.node entry.node less in
                      let a : entry_key entry ≡ user ∷ length digest ∷ digest ++ entry.node ∷ [] = let u = one.of_user.0 in let n = one.of_name in cc in
                      let b : entry_key (entry_of row) ≡ user ∷ length digest ∷ digest ++ row.node ∷ [] = let u = two.of_user.0 in let n = two.of_name in cc in
                      absurd (not_entry (ap (λ (k : List ℕ). key_cmp k (entry_key entry)) b ∙ ap (key_cmp (user ∷ length digest ∷ digest ++ row.node ∷ [])) a ∙ l))
                  | inr no_less ↦ omega arith
                ]
              ]

  -- the same among the entries of that front
  pub found_in_front : (d : List ℕ) (front : List NamedMount) → d ≡ digest
      → front ≡ filter (λ entry. begins (entry_key entry) (user ∷ length d ∷ d)) index
      → option_map (λ (entry : NamedMount). entry.node) (find (λ entry. is_other but entry.node && has_name rows name entry) front)
      ≡ option_map (λ (row : MountRow). row.node) (find named rows)
  found_in_front d front digest_is front_is =
      let test : NamedMount → Bool = λ entry. is_other but entry.node && has_name rows name entry in
      ap (option_map (λ (entry : NamedMount). entry.node))
      (ap (find test) front_is
      ∙ ap (λ (d : List ℕ). find test (filter (λ entry. begins (entry_key entry) (user ∷ length d ∷ d)) index)) digest_is
      ∙ find_filter (λ entry. begins (entry_key entry) (user ∷ length digest ∷ digest)) test index)
      ∙ found

-- with no mount left aside
pub found_any : (rows : List MountRow) (user : ℕ) (name : List ℕ)
    → option_map (λ (row : MountRow). row.node) (find (is_named user name None) rows) ≡ mount_at rows user name
found_any rows user name =
    ap (λ (test : MountRow → Bool). option_map (λ (row : MountRow). row.node) (find test rows))
    (λ i row. same row i)
  where
    same : (row : MountRow) → is_named user name None row ≡ (is_shown_to user row && bytes_eq row.name name)
    same row = grind arith
