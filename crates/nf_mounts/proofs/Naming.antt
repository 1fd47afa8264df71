-- The names that are taken in a root, and the one that is free.
use Rattle.std.proofs.Common.{ℕ, zero, suc, ◌+◌, ◌<◌, ◌≤◌, ◌≡◌, Bool, true, false, ◌&&◌, ◌||◌, List, Some, option_map, is_some, bytes_eq, map, filter, find, length, refl, sym, ap, ◌∙◌, inl, inr, arith}
use Rattle.std.proofs.lemmas.Bool.{cases_lt}
use Rattle.std.proofs.lemmas.List.Folds.{list_any-append}
use Rattle.nf_access.specs.Mounts.{free_name_of, free_number, is_shown_to, root_folder}
use Rattle.nf_access.proofs.Naming.{taken_by, taken_child}
use Rattle.nf_base.specs.FreeNames.{candidate, is_taken}
use Rattle.nf_base.proofs.FreeNames.{AreTakenBelow}
use Rattle.nf_base.specs.declared.rows.MountRow.{MountRow}
use Rattle.nf_base.specs.declared.rows.NodeRow.{NodeRow}
use Rattle.nf_base.specs.declared.rows.UserRow.{UserRow}
use Rattle.nf_defs.specs.Tree.{child_of, taken_names}
use Rattle.nf_mounts.specs.Kept.{is_named, is_other, names_beside}

-- ---- names that are taken

pub taken_beside : (users : List UserRow) (nodes : List NodeRow) (mounts : List MountRow) (user node : ℕ) (name : List ℕ)
    → is_taken name (names_beside users nodes mounts user node)
    ≡ (is_some (child_of nodes (root_folder users user) name) || is_some (option_map (λ (row : MountRow). row.node) (find (is_named user name (Some node)) mounts)))
taken_beside users nodes mounts user node name =
    list_any-append (λ other. bytes_eq other name) (taken_names nodes (root_folder users user)) (map (λ (row : MountRow). row.name) (filter others mounts))
    ∙ ap (λ (b : Bool). b || is_taken name (map (λ (row : MountRow). row.name) (filter others mounts))) (taken_child nodes (root_folder users user) name)
    ∙ ap (λ (b : Bool). is_some (child_of nodes (root_folder users user) name) || b)
    (taken_by (λ (row : MountRow). row.name) (λ (row : MountRow). row.node) others name mounts
    ∙ ap (λ (test : MountRow → Bool). is_some (option_map (λ (row : MountRow). row.node) (find test mounts))) (λ i row. same row i))
  where
    others : MountRow → Bool
    others row = is_shown_to user row && is_other (Some node) row.node

    same : (row : MountRow) → (others row && bytes_eq row.name name) ≡ is_named user name (Some node) row
    same row = grind arith

-- ---- the free name is the first one that is free

reached : (tries : ℕ) (name : List ℕ) (taken : List (List ℕ)) (m n : ℕ) → m ≤ n → n ≤ m + tries
    → ((j : ℕ) → m ≤ j → j < n → is_taken (candidate name j) taken ≡ true) → is_taken (candidate name n) taken ≡ false
    → free_number tries name taken m ≡ n
unfolding free_number
reached zero name taken m n low high each free = omega arith
reached (suc tries) name taken m n low high each free = elim (cases_lt m n) [
  | inl under ↦ rw (each m (omega arith) under) (reached tries name taken (m + 1) n (omega arith) (omega arith) (λ j past. each j (omega arith)) free)
  | inr over ↦ let same : m ≡ n = omega arith in rw (same, free) refl
]

-- the first candidate that is free, where those before it are taken, as the name itself is
pub first_free : (name : List ℕ) (taken : List (List ℕ)) (n : ℕ) → is_taken name taken ≡ true → AreTakenBelow name taken n
    → is_taken (candidate name n) taken ≡ false → candidate name n ≡ free_name_of name taken
first_free name taken n own below free =
    rw own (ap (candidate name) (sym (reached (length taken) name taken 2 n below.from_two (omega (arith, below.few)) below.each free)))
