-- The index after a row is put.
use Rattle.std.proofs.Common.{ℕ, ◌<◌, ◌≤◌, ◌≡◌, ◌==◌, ◌&&◌, ◌+◌, Bool, true, false, not, cond, List, [], ◌∷◌, length, Option, Some, None, bytes_eq, refl, sym, ap, subst, ◌∙◌, arith}
use Rattle.std.specs.List.{filter}
use Rattle.std.specs.Option.{IfSome, option_map_or}
use Rattle.std.proofs.lemmas.Bool.Decides.{nat_tests}
use Rattle.std.proofs.lemmas.List.Filters.{length-filter_both}
use Rattle.std.proofs.lemmas.Slice.Eq.{bytes_eq-Decides}
use Rattle.sha2.specs.Sha256.{sha256}
use Rattle.nf_access.specs.Mounts.{mount_row}
use Rattle.nf_base.specs.declared.rows.MountRow.{MountRow}
use Rattle.nf_defs.specs.Prelude.{dropped, IsRising, mount_key, put}
use Rattle.nf_defs.proofs.Puts.{dropped_rising, put_rising}
use Rattle.nf_mounts.specs.Kept.{AreCleared, IsNameIndex, entry_key, entry_of, is_listed}
use Rattle.nf_mounts.specs.declared.names.NamedMount.{NamedMount}
use Rattle.nf_mounts.proofs.Keys.{at_dropped, at_put, by_key, key_same, one, passes, same_entry, size_dropped, size_put, size_put_all}
use Rattle.nf_table.specs.Rows.{row_at}
use Rattle.nf_table.proofs.Looked.{own_found, same_bytes}

-- what is found is a row of that mount
pub found_own : (rows : List MountRow) (user node : ℕ) (row : MountRow) → mount_row rows user node ≡ Some row → (row.user ≡ user) × (row.node ≡ node)
found_own rows user node row found =
    let own : mount_key row ≡ user ∷ node ∷ [] =
    subst (λ (o : Option MountRow). IfSome o (λ row. mount_key row ≡ user ∷ node ∷ [])) (by_key rows user node ∙ found) (own_found mount_key (user ∷ node ∷ []) rows) in
    (cc, cc)

abbrev listed_in : Option MountRow → NamedMount → Bool
listed_in o entry = option_map_or (λ row. not row.left && bytes_eq (sha256 row.name) entry.name) o false

module _ (index : List NamedMount) (rows : List MountRow) (user node : ℕ) (is : IsNameIndex index rows) where
  abbrev here : NamedMount → Bool
  here entry = user == entry.user && node == entry.node

  at_here : (entry : NamedMount) (o : Option MountRow) → mount_row rows user node ≡ o → here entry ≡ true → mount_row rows entry.user entry.node ≡ o
  at_here entry o found at =
      let same_user : user ≡ entry.user = grind (arith, nat_tests) in
      let same_node : node ≡ entry.node = grind (arith, nat_tests) in
      cc

  pub cleared_none : mount_row rows user node ≡ None → AreCleared index rows user node
  cleared_none none = record {
    entries_rise = is.entries_rise;
    listed = λ entry. is.listed entry ∙ ap (λ (b : Bool). cond b (Some entry) None) (absent entry (here entry) refl);
    count = rw none (let n = is.count in omega arith);
  }
    where
      absent : (entry : NamedMount) (b : Bool) → here entry ≡ b → is_listed rows entry ≡ (is_listed rows entry && not b)
      absent entry true at = let o = at_here entry None none at in rw o refl
      absent entry false at = grind arith

  pub cleared_some : (row : MountRow) → mount_row rows user node ≡ Some row → AreCleared (dropped entry_key (entry_key (entry_of row)) index) rows user node
  cleared_some row found = record {
    entries_rise = dropped_rising entry_key (entry_key (entry_of row)) index is.entries_rise;
    listed = λ entry. at_dropped entry_key (entry_key entry) (entry_key (entry_of row)) index
        ∙ without entry (here entry) refl (is.listed entry);
    count =
        let size = size_dropped entry_key (entry_key (entry_of row)) index is.entries_rise in
        let there = is.listed (entry_of row) in
        let mine : is_listed rows (entry_of row) ≡ not row.left = own_listed in
        let n = is.count in
        rw found (counted row.left mine there size);
  }
    where
      own : (row.user ≡ user) × (row.node ≡ node)
      own = found_own rows user node row found

      own_listed : is_listed rows (entry_of row) ≡ not row.left
      own_listed =
          let o : mount_row rows row.user row.node ≡ Some row = ap (λ (u : ℕ). mount_row rows u row.node) own.0 ∙ ap (mount_row rows user) own.1 ∙ found in
          let same = same_bytes (sha256 row.name) (sha256 row.name) refl in
          rw o (rw same (grind arith))

      counted : (left : Bool) → is_listed rows (entry_of row) ≡ not left
          → row_at entry_key (entry_key (entry_of row)) index ≡ cond (is_listed rows (entry_of row)) (Some (entry_of row)) None
          → length (dropped entry_key (entry_key (entry_of row)) index) + one entry_key (passes entry_key (λ _. true) (row_at entry_key (entry_key (entry_of row)) index)) ≡ length index
          → length (dropped entry_key (entry_key (entry_of row)) index) + cond (not left) 1 0 ≡ length (filter (λ row. not row.left) rows)
      counted true mine there size =
          let none = there ∙ ap (λ (b : Bool). cond b (Some (entry_of row)) None) mine in
          let s = ap (λ (o : Option NamedMount). one entry_key (passes entry_key (λ _. true) o)) none in
          let n = is.count in omega arith
      counted false mine there size =
          let some = there ∙ ap (λ (b : Bool). cond b (Some (entry_of row)) None) mine in
          let s = ap (λ (o : Option NamedMount). one entry_key (passes entry_key (λ _. true) o)) some in
          let n = is.count in omega arith

      without : (entry : NamedMount) (b : Bool) → here entry ≡ b
          → row_at entry_key (entry_key entry) index ≡ cond (is_listed rows entry) (Some entry) None
          → cond (bytes_eq (entry_key (entry_of row)) (entry_key entry)) None (row_at entry_key (entry_key entry) index)
          ≡ cond (is_listed rows entry && not b) (Some entry) None
      without entry true at listed =
          let o = at_here entry (Some row) found at in
          let k = key_same (entry_of row) entry in
          let u : (row.user == entry.user) ≡ (user == entry.user) = ap (λ (u : ℕ). u == entry.user) own.0 in
          let n : (row.node == entry.node) ≡ (node == entry.node) = ap (λ (n : ℕ). n == entry.node) own.1 in
          let l : is_listed rows entry ≡ (not row.left && bytes_eq (sha256 row.name) entry.name) = ap (λ (o : Option MountRow). listed_in o entry) o in
          grind arith
      without entry false at listed =
          let k = key_same (entry_of row) entry in
          let u : (row.user == entry.user) ≡ (user == entry.user) = ap (λ (u : ℕ). u == entry.user) own.0 in
          let n : (row.node == entry.node) ≡ (node == entry.node) = ap (λ (n : ℕ). n == entry.node) own.1 in
          grind arith

module _ (index : List NamedMount) (rows : List MountRow) (row : MountRow) (rising : IsRising mount_key rows) (is : AreCleared index rows row.user row.node) where
  abbrev mine : NamedMount → Bool
  mine entry = row.user == entry.user && row.node == entry.node

  listed_put : (entry : NamedMount)
      → is_listed (put mount_key row rows) entry ≡ cond (mine entry) (not row.left && bytes_eq (sha256 row.name) entry.name) (is_listed rows entry)
  listed_put entry =
      let at : mount_row (put mount_key row rows) entry.user entry.node ≡ cond (mine entry) (Some row) (mount_row rows entry.user entry.node) =
      sym (by_key (put mount_key row rows) entry.user entry.node) ∙ at_put mount_key (entry.user ∷ entry.node ∷ []) row rows
      ∙ onto in
      ap (λ (o : Option MountRow). listed_in o entry) at ∙ cases (mine entry)
    where
      onto : cond (bytes_eq (mount_key row) (entry.user ∷ entry.node ∷ [])) (Some row) (row_at mount_key (entry.user ∷ entry.node ∷ []) rows)
          ≡ cond (mine entry) (Some row) (mount_row rows entry.user entry.node)
      onto = let k = by_key rows entry.user entry.node in rw k (grind arith)

      cases : (b : Bool) → listed_in (cond b (Some row) (mount_row rows entry.user entry.node)) entry
          ≡ cond b (not row.left && bytes_eq (sha256 row.name) entry.name) (is_listed rows entry)
      cases true = refl
      cases false = refl

  -- how many rows aren't left
  shown : length (filter (λ row. not row.left) (put mount_key row rows)) ≡ length index + cond (not row.left) 1 0
  shown =
      let size = size_put mount_key (λ row. not row.left) row rows rising in
      let k = ap (λ (o : Option MountRow). one mount_key (passes mount_key (λ row. not row.left) o)) (by_key rows row.user row.node) in
      let n = is.count in
      omega arith

  shown_if : (b : Bool) → not row.left ≡ b → length index + cond b 1 0 ≡ length (filter (λ row. not row.left) (put mount_key row rows))
  shown_if b left = ap (λ (b : Bool). length index + cond b 1 0) (sym left) ∙ sym shown

  pub kept_left : not row.left ≡ false → IsNameIndex index (put mount_key row rows)
  kept_left left = record {
    entries_rise = is.entries_rise;
    rows_rise = put_rising mount_key row rows rising;
    listed = λ entry.
        let a = is.listed entry in
        let b = listed_put entry in
        grind arith;
    count = let s = shown_if false left in omega arith;
  }

  absent : row_at entry_key (entry_key (entry_of row)) index ≡ None
  absent =
      let a = is.listed (entry_of row) in
      grind (arith, nat_tests)

  pub kept_put : not row.left ≡ true → IsNameIndex (put entry_key (entry_of row) index) (put mount_key row rows)
  kept_put left = record {
    entries_rise = put_rising entry_key (entry_of row) index is.entries_rise;
    rows_rise = put_rising mount_key row rows rising;
    listed = λ entry. at_put entry_key (entry_key entry) (entry_of row) index ∙ with_own entry;
    count =
        let size = size_put_all entry_key (entry_of row) index is.entries_rise in
        let none = ap (λ (o : Option NamedMount). one entry_key (passes entry_key (λ _. true) o)) absent in
        let s = shown_if true left in
        omega arith;
  }
    where
      with_own : (entry : NamedMount)
          → cond (bytes_eq (entry_key (entry_of row)) (entry_key entry)) (Some (entry_of row)) (row_at entry_key (entry_key entry) index)
          ≡ cond (is_listed (put mount_key row rows) entry) (Some entry) None
      with_own entry =
          let a = is.listed entry in
          let b = listed_put entry in
          let k = key_same (entry_of row) entry in
          let same : bytes_eq (entry_key (entry_of row)) (entry_key entry) ≡ true → entry_of row ≡ entry = λ e. same_entry (entry_of row) entry ((bytes_eq-Decides _ _).0 e) in
          grind arith

  -- there is room for the entry where there is for the row
  pub entry_fits : (room : ℕ) → length (put mount_key row rows) ≤ room → not row.left ≡ true → length index < room
  entry_fits room fits new =
      let n = shown_if true new in
      let all = length-filter_both (λ (row : MountRow). not row.left) (λ (row : MountRow). not (not row.left)) (λ _. refl) (put mount_key row rows) in
      omega arith

-- where there is room for each row, and for a new one if this is one, there is for the rows with it
pub put_fits : (rows : List MountRow) (row : MountRow) (room : ℕ) → IsRising mount_key rows → length rows ≤ room
    → (mount_row rows row.user row.node ≡ None → length rows < room) → length (put mount_key row rows) ≤ room
put_fits rows row room rising fits new =
    let size = rw (by_key rows row.user row.node) at (size_put_all mount_key row rows rising) in
    grind arith

-- no more entries than rows
pub few : (index : List NamedMount) (rows : List MountRow) → IsNameIndex index rows → length index ≤ length rows
few index rows is =
    let n = is.count in
    let all = length-filter_both (λ (row : MountRow). not row.left) (λ (row : MountRow). not (not row.left)) (λ _. refl) rows in
    omega arith
