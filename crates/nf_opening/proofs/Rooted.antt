-- The way up from a node to any of the users' roots, step by step.
use Rattle.std.proofs.Common.{◌≡◌, ℕ, ◌+◌, ◌==◌, ◌||◌, Bool, true, false, List, [], ◌∷◌, None, Some, refl}
use Rattle.std.specs.List.{list_any}
use Rattle.std.proofs.lemmas.Bool.{or_parts}
use Rattle.nf_base.specs.declared.rows.NodeRow.{NodeRow}
use Rattle.nf_base.specs.declared.rows.UserRow.{UserRow}
use Rattle.nf_defs.specs.Prelude.{is_under_within, parent_of}
use Rattle.nf_opening.proofs.Chains.{under_zero, under_top, under_none, under_up}

-- a node is a user's root
abbrev pub is_a_root : List UserRow → ℕ → Bool
is_a_root users node = list_any (λ user. node == user.root) users

-- or in a folder under one, at most so many folders up
abbrev pub is_present_within : ℕ → List UserRow → List NodeRow → ℕ → Bool
is_present_within k users rows node = list_any (λ user. is_under_within k rows node user.root) users

pub present_zero : (k : ℕ) (users : List UserRow) (rows : List NodeRow) (at : ℕ) → k ≡ 0 → is_present_within k users rows at ≡ is_a_root users at
present_zero k [] rows at none = refl
present_zero k (user ∷ users) rows at none = rw (under_zero k rows at user.root none, present_zero k users rows at none) refl

pub present_top : (k : ℕ) (users : List UserRow) (rows : List NodeRow) (at : ℕ) → is_a_root users at ≡ true → is_present_within k users rows at ≡ true
present_top k [] rows at is = absurd cc
present_top k (user ∷ users) rows at is = here (at == user.root) refl is (λ is. present_top k users rows at is)
  where
    last : (b : Bool) → (b || true) ≡ true
    last true = refl
    last false = refl

    here : (a : Bool) → (at == user.root) ≡ a → (a || is_a_root users at) ≡ true
        → (is_a_root users at ≡ true → is_present_within k users rows at ≡ true) → is_present_within k (user ∷ users) rows at ≡ true
    here true e is rest = rw (under_top k rows at user.root e) refl
    here false e is rest = rw (rest is) (last (is_under_within k rows at user.root))

pub present_none : (k : ℕ) (users : List UserRow) (rows : List NodeRow) (at : ℕ) → is_a_root users at ≡ false → parent_of rows at ≡ None
    → is_present_within k users rows at ≡ false
present_none k [] rows at not none = refl
present_none k (user ∷ users) rows at not none =
    let both = or_parts (at == user.root) (is_a_root users at) not in
    rw (under_none k rows at user.root both.0 none, present_none k users rows at both.1 none) refl

pub present_up : (k j : ℕ) (users : List UserRow) (rows : List NodeRow) (at parent : ℕ) → j ≡ k + 1 → is_a_root users at ≡ false
    → parent_of rows at ≡ Some parent → is_present_within j users rows at ≡ is_present_within k users rows parent
present_up k j [] rows at parent more not up = refl
present_up k j (user ∷ users) rows at parent more not up =
    let both = or_parts (at == user.root) (is_a_root users at) not in
    rw (under_up k j rows at parent user.root more both.0 up, present_up k j users rows at parent more both.1 up) refl
