-- The names that are taken in a root, and the free name of a name.
use Rattle.std.proofs.Common.{ℕ, zero, suc, ◌+◌, ◌<◌, ◌^◌, ◌≤◌, ◌≡◌, Bool, true, false, ◌&&◌, ◌||◌, List, [], ◌∷◌, option_map, is_some, bytes_eq, map, filter, find, length, length-append, refl, ap, ◌∙◌, inl, inr, arith}
use Rattle.std.specs.Prelude.{if◌then◌else◌}
use Rattle.std.proofs.lemmas.Bool.{cases_Bool}
use Rattle.std.proofs.lemmas.List.Folds.{list_any-append}
use Rattle.nf_access.specs.Mounts.{free_name_of, free_number, is_shown_to, mount_at, names_in_root, root_folder}
use Rattle.nf_base.specs.FreeNames.{candidate, is_taken}
use Rattle.nf_base.proofs.FreeNames.{AreTakenBelow, AreTakenBelow-more, AreTakenBelow-two}
use Rattle.nf_base.specs.declared.rows.MountRow.{MountRow}
use Rattle.nf_base.specs.declared.rows.NodeRow.{NodeRow}
use Rattle.nf_base.specs.declared.rows.UserRow.{UserRow}
use Rattle.nf_defs.specs.Tree.{child_of, is_in, taken_names}

-- ---- names that are taken

-- a name is taken among those of some rows where one of these has it
pub taken_by : {X : Type 0} (name : X → List ℕ) (number : X → ℕ) (p : X → Bool) (wanted : List ℕ) (xs : List X)
    → is_taken wanted (map name (filter p xs)) ≡ is_some (option_map number (find (λ x. p x && bytes_eq (name x) wanted) xs))
taken_by name number p wanted [] = refl
taken_by name number p wanted (x ∷ xs) = let rest = taken_by name number p wanted xs in grind arith

pub taken_child : (nodes : List NodeRow) (folder : ℕ) (name : List ℕ) → is_taken name (taken_names nodes folder) ≡ is_some (child_of nodes folder name)
taken_child nodes folder name = taken_by (λ (row : NodeRow). row.name) (λ (row : NodeRow). row.id) (is_in folder) name nodes

pub taken_mount : (mounts : List MountRow) (user : ℕ) (name : List ℕ)
    → is_taken name (map (λ (row : MountRow). row.name) (filter (is_shown_to user) mounts)) ≡ is_some (mount_at mounts user name)
taken_mount mounts user name = taken_by (λ (row : MountRow). row.name) (λ (row : MountRow). row.node) (is_shown_to user) name mounts

pub taken_in_root : (users : List UserRow) (nodes : List NodeRow) (mounts : List MountRow) (user : ℕ) (name : List ℕ)
    → is_taken name (names_in_root users nodes mounts user)
    ≡ (is_some (child_of nodes (root_folder users user) name) || is_some (mount_at mounts user name))
taken_in_root users nodes mounts user name =
    list_any-append (λ other. bytes_eq other name) (taken_names nodes (root_folder users user)) (map (λ (row : MountRow). row.name) (filter (is_shown_to user) mounts))
    ∙ ap (λ (b : Bool). b || is_taken name (map (λ (row : MountRow). row.name) (filter (is_shown_to user) mounts))) (taken_child nodes (root_folder users user) name)
    ∙ ap (λ (b : Bool). is_some (child_of nodes (root_folder users user) name) || b) (taken_mount mounts user name)

few_names : {X : Type 0} (f : X → List ℕ) (p : X → Bool) (xs : List X) → length (map f (filter p xs)) ≤ length xs
few_names f p [] = omega arith
few_names f p (x ∷ xs) = pick (p x) (few_names f p xs)
  where
    pick : (b : Bool) → length (map f (filter p xs)) ≤ length xs → length (map f (if b then x ∷ filter p xs else filter p xs)) ≤ suc (length xs)
    pick true few = omega arith
    pick false few = omega arith

-- no more names are taken in a root than there are nodes and mounts
pub names_few : (users : List UserRow) (nodes : List NodeRow) (mounts : List MountRow) (user : ℕ)
    → length (names_in_root users nodes mounts user) ≤ length nodes + length mounts
names_few users nodes mounts user =
    let root = root_folder users user in
    let one = few_names (λ (row : NodeRow). row.name) (is_in root) nodes in
    let two = few_names (λ (row : MountRow). row.name) (is_shown_to user) mounts in
    omega (arith, one, two, length-append (taken_names nodes root) (map (λ (row : MountRow). row.name) (filter (is_shown_to user) mounts)))

-- ---- the free name is free

untaken : (tries : ℕ) (name : List ℕ) (taken : List (List ℕ)) (n : ℕ) → n + tries ≡ length taken + 2 → length taken < 2 ^ 32
    → AreTakenBelow name taken n → is_taken (candidate name (free_number tries name taken n)) taken ≡ false
unfolding free_number
untaken zero name taken n last small below = elim (cases_Bool (is_taken (candidate name n) taken)) [
  | inl own ↦ let more = AreTakenBelow-more name taken n small below own in absurd (omega (arith, more.few, last))
  | inr free ↦ free
]
untaken (suc tries) name taken n last small below = elim (cases_Bool (is_taken (candidate name n) taken)) [
  | inl own ↦ rw own (untaken tries name taken (n + 1) (omega arith) small (AreTakenBelow-more name taken n small below own))
  | inr free ↦ rw free free
]

pub free_is_free : (name : List ℕ) (taken : List (List ℕ)) → length taken < 2 ^ 32 → is_taken (free_name_of name taken) taken ≡ false
free_is_free name taken small = elim (cases_Bool (is_taken name taken)) [
  | inl own ↦ rw own (untaken (length taken) name taken 2 (omega arith) small (AreTakenBelow-two name taken))
  | inr free ↦ rw free free
]
