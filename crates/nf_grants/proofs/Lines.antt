-- The chain of a share, one share at a time.
use Rattle.std.proofs.Common.{inl, inr, ◌⊎◌, ℕ, ◌+◌, ◌≡◌, ◌==◌, Bool, true, false, List, [], ◌∷◌, Option, None, Some, option_map, refl, sym, subst}
use Rattle.std.specs.Option.{IfSome}
use Rattle.std.specs.Prelude.{if◌then◌else◌}
use Rattle.std.proofs.lemmas.Bool.{eqb-true}
use Rattle.nf_access.proofs.Chains.{line, line_over, within_is, within_lost}
use Rattle.nf_access.proofs.LookUps.{find_among}
use Rattle.nf_access.specs.Shares.{chain_up, chain_within, share_row}
use Rattle.nf_base.specs.declared.rows.ShareRow.{ShareRow}

-- nothing may be above it
pub line_end : (above : ℕ) (shares : List ShareRow) (share : ShareRow) (id : ℕ) → share.parent ≡ Some id → above ≡ 0 → line above shares share ≡ None
unfolding chain_within
line_end above shares share id over none = rw (line_over above shares share (Some id) over, none) refl

-- its parent isn't there
pub line_lost : (above : ℕ) (shares : List ShareRow) (share : ShareRow) (id : ℕ) → share.parent ≡ Some id → share_row shares id ≡ None
    → line above shares share ≡ None
line_lost above shares share id over lost = rw (line_over above shares share (Some id) over, within_lost above shares id lost) refl

pub line_up : (above k : ℕ) (shares : List ShareRow) (share parent : ShareRow) (id : ℕ) → share.parent ≡ Some id → above ≡ k + 1
    → share_row shares id ≡ Some parent → line above shares share ≡ option_map (λ up. share ∷ up) (line k shares parent)
line_up above k shares share parent id over more there =
    rw (line_over above shares share (Some id) over, within_is above k shares parent id more there) refl

-- a chain begins with its share
abbrev pub Begins : ShareRow → Option (List ShareRow) → Type 0
Begins share o = (o ≡ None) ⊎ ((up : List ShareRow) × (o ≡ Some (share ∷ up)))

pub line_is : (above : ℕ) (shares : List ShareRow) (share : ShareRow) → Begins share (line above shares share)
line_is above shares share = at share.parent
  where
    alone : (own : Bool) → Begins share (if own then Some (share ∷ []) else None)
    alone true = inr ([], refl)
    alone false = inl refl

    onto : (o : Option (List ShareRow)) → Begins share (option_map (λ up. share ∷ up) o)
    onto None = inl refl
    onto (Some up) = inr (up, refl)

    at : (o : Option ℕ) → Begins share (chain_up share o (chain_within above shares))
    at None = alone (share.initiator == share.owner)
    at (Some id) = onto (chain_within above shares id)

-- the row that is found is that of its number
pub own_row : (shares : List ShareRow) (id : ℕ) → IfSome (share_row shares id) (λ share. share_row shares share.id ≡ Some share)
own_row shares id = over (share_row shares id) refl
  where
    over : (o : Option ShareRow) → share_row shares id ≡ o → IfSome o (λ share. share_row shares share.id ≡ Some share)
    over None is = tt
    over (Some share) is =
        let number : share.id ≡ id = eqb-true share.id id (find_among (λ row. row.id == id) shares share is).1 in
        subst (λ (id : ℕ). share_row shares id ≡ Some share) (sym number) is
