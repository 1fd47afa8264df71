-- What a look-up by names finds.
use Rattle.std.proofs.Common.{◌≡◌, ℕ, ◌+◌, ◌-◌, ◌<◌, ◌&&◌, inl, inr, bytes_eq, find, slice_get, unwrap_or, sym, Bool, true, false, List, [], ◌∷◌, length, suc, ◌∙◌, Option, option_map, if◌then◌else◌, refl, ap, subst, arith}
use Rattle.std.specs.Prelude.{None, Some}
use Rattle.std.specs.List.{All, AllPairs}
use Rattle.std.specs.Option.{IfSome, option_and_then}
use Rattle.std.proofs.lemmas.Bool.{and_parts, cases_Bool, false_from_ne_true}
use Rattle.std.proofs.lemmas.Cmp.{tied_itself}
use Rattle.std.proofs.lemmas.List.Elements.{All-head, All-tail}
use Rattle.std.proofs.lemmas.Option.{none-some, same_Some}
use Rattle.std.proofs.lemmas.Slice.Eq.{bytes_eq-Decides}
use Rattle.std.specs.declared.cmp.Ordering.{Ordering}
use Rattle.std.specs.declared.cmp.Ordering.TheVariants.{Equal, Greater, Less}
use Rattle.nf_base.specs.declared.rows.NodeRow.{NodeRow}
use Rattle.nf_defs.proofs.Lookups.{equal_bytes}
use Rattle.nf_defs.proofs.Puts.{below_rest, key_total, tail_rising, turned}
use Rattle.nf_defs.specs.Prelude.{by_order, child_of, folder_of, found_from, is_folder, is_in, IsRising, key_cmp, node_row, onward, parent_of, put}
use Rattle.nf_defs.specs.declared.Found.TheVariants.{At, Free, Missing}
use Rattle.nf_defs.proofs.Walks.{inside_of, node_row_each}

-- ---- look-ups

-- what a look-up finds passes its test
pub found_passes : {X : Type 0} (test : X → Bool) (xs : List X) (found : X) → find test xs ≡ Some found → test found ≡ true
found_passes test [] found is = absurd (cc)
found_passes {X = X} test (x ∷ xs) found is = here (test x) refl is (λ is. found_passes test xs found is)
  where
    here : (a : Bool) → test x ≡ a → find test (x ∷ xs) ≡ Some found → (find test xs ≡ Some found → test found ≡ true) → test found ≡ true
    here true e is rest = subst (λ (y : X). test y ≡ true) (same_Some x found (simp e at is)) e
    here false e is rest = rest (simp e at is)

-- what all have, what a look-up finds has
pub found_has : {X : Type 0} (P : X → Type 0) (test : X → Bool) (xs : List X) → All P xs → IfSome (find test xs) P
found_has P test [] all = tt
found_has {X = X} P test (x ∷ xs) all = here (test x) refl (found_has P test xs (All-tail P x xs all))
  where
    here : (a : Bool) → test x ≡ a → IfSome (find test xs) P → IfSome (find test (x ∷ xs)) P
    here true e rest = simp e (All-head P x xs all)
    here false e rest = simp e rest

-- ---- rows that are put

-- a row that is put is what a look-up for its key finds
pub put_is_found : {R : Type 0} (key : R → List ℕ) (test : R → Bool) (row : R) (rows : List R) → test row ≡ true
    → ((x : R) → test x ≡ true → key x ≡ key row) → find test (put key row rows) ≡ Some row
put_is_found key test row [] is keyed = rw is refl
put_is_found {R = R} key test row (x ∷ rows) is keyed = here (key_cmp (key row) (key x)) refl (put_is_found key test row rows is keyed)
  where
    here : (o : Ordering) → key_cmp (key row) (key x) ≡ o → find test (put key row rows) ≡ Some row
        → find test (by_order o (row ∷ x ∷ rows) (row ∷ rows) (x ∷ put key row rows)) ≡ Some row
    here Less e rest = rw is refl
    here Equal e rest = rw is refl
    here Greater e rest =
        elim (cases_Bool (test x)) [
          | inl same ↦
              (let equal = tied_itself key_total (key row) in
              let greater = ap (key_cmp (key row)) (sym (keyed x same)) ∙ e in absurd (cc))
          | inr other ↦ simp other rest
        ]

-- and leaves what is found for other keys
pub put_leaves : {R : Type 0} (key : R → List ℕ) (test : R → Bool) (row : R) (rows : List R) → test row ≡ false
    → ((x : R) → key row ≡ key x → test x ≡ false) → find test (put key row rows) ≡ find test rows
put_leaves key test row [] off keyed = rw off refl
put_leaves {R = R} key test row (x ∷ rows) off keyed = here (key_cmp (key row) (key x)) refl (put_leaves key test row rows off keyed)
  where
    here : (o : Ordering) → key_cmp (key row) (key x) ≡ o → find test (put key row rows) ≡ find test rows
        → find test (by_order o (row ∷ x ∷ rows) (row ∷ rows) (x ∷ put key row rows)) ≡ find test (x ∷ rows)
    here Less e rest = simp off refl
    here Equal e rest = simp (off, keyed x ((bytes_eq-Decides (key row) (key x)).0 (equal_bytes (key row) (key x) Equal e))) refl
    here Greater e rest = ap (λ (o : Option R). if test x then Some x else o) rest

-- a row put over another makes no more of them
pub put_length_over : {R : Type 0} (key : R → List ℕ) (sought : R → Bool) (row old : R) (rows : List R)
    → ((x : R) → sought x ≡ true → key x ≡ key row) → IsRising key rows → find sought rows ≡ Some old
    → length (put key row rows) ≡ length rows
put_length_over key sought row old [] keyed rising is = absurd (none-some old is)
put_length_over {R = R} key sought row old (x ∷ rows) keyed rising is =
    here (key_cmp (key row) (key x)) refl (λ is. put_length_over key sought row old rows keyed (tail_rising key x rows rising) is)
  where
    behind : sought x ≡ false → find sought rows ≡ Some old
    behind other = simp other at is

    not_here : (o : Ordering) → key_cmp (key row) (key x) ≡ o → (o ≡ Equal → ⊥) → sought x ≡ false
    not_here o e other =
        false_from_ne_true (sought x) (λ passes. other (sym e ∙ ap (key_cmp (key row)) (keyed x passes) ∙ tied_itself key_total (key row)))

    here : (o : Ordering) → key_cmp (key row) (key x) ≡ o → (find sought rows ≡ Some old → length (put key row rows) ≡ length rows)
        → length (by_order o (row ∷ x ∷ rows) (row ∷ rows) (x ∷ put key row rows)) ≡ length (x ∷ rows)
    here Less e rest =
        let found = behind (not_here Less e (λ same. absurd (cc))) in
        let after = subst (λ (o : Option R). IfSome o (λ (y : R). key_cmp (key x) (key y) ≡ Less)) found
        (found_has (λ (y : R). key_cmp (key x) (key y) ≡ Less) sought rows (below_rest key x rows rising)) in
        let less = ap (key_cmp (key x)) (sym (keyed old (found_passes sought rows old found))) ∙ after in
        let greater = turned (key row) (key x) Less e in absurd (cc)
    here Equal e rest = refl
    here Greater e rest = ap suc (rest (behind (not_here Greater e (λ same. absurd (cc)))))

-- ---- children

-- a folder's child is in it
pub child_parent : (rows : List NodeRow) (folder : ℕ) (name : List ℕ) (node : ℕ) → AllPairs (λ (a b : NodeRow). a.id < b.id) rows
    → child_of rows folder name ≡ Some node → parent_of rows node ≡ Some folder
child_parent rows folder name node rising is = here (find test rows) refl is
  where
    test : NodeRow → Bool
    test row = is_in folder row && bytes_eq row.name name

    here : (o : Option NodeRow) → find test rows ≡ o → option_map (λ row. row.id) o ≡ Some node → parent_of rows node ≡ Some folder
    here None e is = absurd (none-some node is)
    here (Some row) e is =
        let passes = and_parts (is_in folder row) (bytes_eq row.name name) (found_passes test rows row e) in
        let there = subst (λ (o : Option NodeRow). IfSome o (λ (row : NodeRow). node_row rows row.id ≡ Some row)) e
        (found_has (λ (row : NodeRow). node_row rows row.id ≡ Some row) test rows (node_row_each rows rising)) in
        subst (λ (n : ℕ). parent_of rows n ≡ Some folder) (same_Some row.id node is)
        (ap (λ (o : Option NodeRow). option_and_then (λ row. folder_of row.place) o) there ∙ ap folder_of (inside_of folder row.place passes.0))

-- ---- paths

-- the last of some names
abbrev pub last_of : List (List ℕ) → List ℕ
last_of names = unwrap_or (slice_get names (length names - 1)) []

pub last_more : (a b : List ℕ) (names : List (List ℕ)) → last_of (a ∷ b ∷ names) ≡ last_of (b ∷ names)
last_more a b names =
    let e : length (a ∷ b ∷ names) - 1 ≡ suc (length (b ∷ names) - 1) = omega arith in
    ap (λ (k : ℕ). unwrap_or (slice_get (a ∷ b ∷ names) k) []) e

-- names that lead to a free name lead to a folder that has no such child
pub free_known : (rows : List NodeRow) (before at : ℕ) (names : List (List ℕ)) (folder : ℕ)
    → found_from rows before at names ≡ Free folder → (is_folder rows folder ≡ true) × (child_of rows folder (last_of names) ≡ None)
free_known rows before at [] folder is = absurd (cc)
free_known rows before at (name ∷ names) folder is =
    here (is_folder rows at) (child_of rows at name) names refl refl is (λ child. free_known rows (before + 1) child names folder)
  where
    here : (folds : Bool) (child : Option ℕ) (names : List (List ℕ)) → is_folder rows at ≡ folds → child_of rows at name ≡ child
        → (if folds then onward before at names child (λ child. found_from rows (before + 1) child names) else Missing before) ≡ Free folder
        → ((child : ℕ) → found_from rows (before + 1) child names ≡ Free folder
        → (is_folder rows folder ≡ true) × (child_of rows folder (last_of names) ≡ None))
        → (is_folder rows folder ≡ true) × (child_of rows folder (last_of (name ∷ names)) ≡ None)
    here true None [] folds none is rest = (cc, cc)
    here true (Some child) (n ∷ names) folds none is rest = (
      (rest child is).0,
      ap (λ (last : List ℕ). child_of rows folder last) (last_more name n names) ∙ (rest child is).1,
    )
    here folds child names folded found is rest = absurd (cc)

-- a node is its folder's child of that name
pub record LastStep (rows : List NodeRow) (name : List ℕ) (node : ℕ) : Type 0 where
  pub folder : ℕ
  pub folds : is_folder rows folder ≡ true
  pub child : child_of rows folder name ≡ Some node

-- no name leads anywhere else, and the last one leads from a folder to its child
abbrev pub EndsAt : List NodeRow → ℕ → List (List ℕ) → ℕ → Type 0
EndsAt rows at [] node = at ≡ node
EndsAt rows at (name ∷ names) node = LastStep rows (last_of (name ∷ names)) node

pub last_step : (rows : List NodeRow) (before at : ℕ) (names : List (List ℕ)) (node : ℕ)
    → found_from rows before at names ≡ At node → EndsAt rows at names node
last_step rows before at [] node is = cc
last_step rows before at (name ∷ names) node is =
    here (is_folder rows at) (child_of rows at name) names refl refl is (λ child is. last_step rows (before + 1) child names node is)
  where
    here : (folds : Bool) (child : Option ℕ) (names : List (List ℕ)) → is_folder rows at ≡ folds → child_of rows at name ≡ child
        → (if folds then onward before at names child (λ child. found_from rows (before + 1) child names) else Missing before) ≡ At node
        → ((child : ℕ) → found_from rows (before + 1) child names ≡ At node → EndsAt rows child names node)
        → LastStep rows (last_of (name ∷ names)) node
    here true None [] folds there is rest = absurd (cc)
    here true (Some child) [] folds there is rest = record { folder = at; folds = folds; child = there ∙ ap Some (rest child is) }
    here true (Some child) (n ∷ names) folds there is rest =
        subst (λ (last : List ℕ). LastStep rows last node) (sym (last_more name n names)) (rest child is)
    here folds child names folded there is rest = absurd (cc)

-- names that lead to a node in a folder, from one that is in none, lead to the folder's child of the last name
pub at_known : (rows : List NodeRow) (at : ℕ) (names : List (List ℕ)) (node folder : ℕ) → AllPairs (λ (a b : NodeRow). a.id < b.id) rows
    → parent_of rows at ≡ None → found_from rows 0 at names ≡ At node → parent_of rows node ≡ Some folder
    → (is_folder rows folder ≡ true) × (child_of rows folder (last_of names) ≡ Some node)
at_known rows at [] node folder rising top is above =
    absurd (none-some folder (sym top ∙ ap (parent_of rows) (last_step rows 0 at [] node is) ∙ above))
at_known rows at (name ∷ names) node folder rising top is above =
    let step = last_step rows 0 at (name ∷ names) node is in
    let same : step.folder ≡ folder =
    same_Some step.folder folder (sym (child_parent rows step.folder (last_of (name ∷ names)) node rising step.child) ∙ above) in (
      subst (λ (n : ℕ). is_folder rows n ≡ true) same step.folds,
      subst (λ (n : ℕ). child_of rows n (last_of (name ∷ names)) ≡ Some node) same step.child,
    )
