-- The chain that is found is the chain of the derivation.
use Rattle.std.proofs.Common.{ℕ, zero, suc, ◌≡◌, ◌≤◌, ◌+◌, List, [], ◌∷◌, Option, Some, None, option_map, refl, ap, sym, subst, ◌∙◌, arith, length}
use Rattle.std.specs.Prelude.{◌==◌, unwrap_or}
use Rattle.std.proofs.lemmas.Bool.{eq-eqb, eqb-true}
use Rattle.std.proofs.lemmas.Option.{cond_some, option_and_then_some}
use Rattle.nf_base.specs.declared.rows.ShareRow.{ShareRow}
use Rattle.nf_access.proofs.LookUps.{find_among, map_some}
use Rattle.nf_access.specs.Access.{IsChain}
use Rattle.nf_access.specs.Laws.{IsBounded}
use Rattle.nf_access.specs.Shares.{Ground, chain_of, chain_up, chain_within, share_row}
use Rattle.nf_base.specs.declared.limits.TheConstants.{MAX_CHAIN}

pub own_row : (shares : List ShareRow) (share : ShareRow) (up : List ShareRow) → IsChain shares (share ∷ up) → share_row shares share.id ≡ Some share
own_row shares share [] chain = chain.0
own_row shares share (parent ∷ up) chain = chain.0

-- ---- one share at a time

-- the chain of a share, where at most so many shares are above it
abbrev pub line : ℕ → List ShareRow → ShareRow → Option (List ShareRow)
line above shares share = chain_up share share.parent (chain_within above shares)

pub line_over : (above : ℕ) (shares : List ShareRow) (share : ShareRow) (o : Option ℕ) → share.parent ≡ o
    → line above shares share ≡ chain_up share o (chain_within above shares)
line_over above shares share o over = ap (λ (o : Option ℕ). chain_up share o (chain_within above shares)) over

-- the chain of a number is that of its row
pub within_is : (most above : ℕ) (shares : List ShareRow) (share : ShareRow) (id : ℕ) → most ≡ above + 1 → share_row shares id ≡ Some share
    → chain_within most shares id ≡ line above shares share
unfolding chain_within
within_is zero above shares share id more there = absurd (omega arith)
within_is (suc k) above shares share id more there = let same : k ≡ above = omega arith in rw (there, same) refl

pub within_lost : (k : ℕ) (shares : List ShareRow) (id : ℕ) → share_row shares id ≡ None → chain_within k shares id ≡ None
unfolding chain_within
within_lost zero shares id lost = refl
within_lost (suc k) shares id lost = rw lost refl

-- ---- chains of the derivation

-- a chain is found
pub chain_found : (k : ℕ) (shares : List ShareRow) (share : ShareRow) (up : List ShareRow) → IsChain shares (share ∷ up) → length (share ∷ up) ≤ k
    → chain_within k shares share.id ≡ Some (share ∷ up)
unfolding chain_within
chain_found zero shares share up chain short = absurd (omega arith)
chain_found (suc k) shares share [] chain short = rw (chain.0, chain.1, eq-eqb share.initiator share.owner chain.2) refl
chain_found (suc k) shares share (parent ∷ up) chain short =
    rw chain.0
    (ap (λ (o : Option ℕ). chain_up share o (chain_within k shares)) chain.1
    ∙ ap (option_map (λ up. share ∷ up)) (chain_found k shares parent up chain.2 (omega arith)))

pub chain_is : (g : Ground) (share : ShareRow) (up : List ShareRow) → IsBounded g → IsChain g.shares (share ∷ up) → chain_of g.shares share.id ≡ share ∷ up
unfolding chain_of
chain_is g share up bounded chain =
    ap (λ (o : Option (List ShareRow)). unwrap_or o []) (chain_found MAX_CHAIN g.shares share up chain (bounded.short (share ∷ up) chain))

-- a chain that begins with the share of that number
abbrev pub IsChainOf : List ShareRow → ℕ → List ShareRow → Type 0
IsChainOf shares id chain = (share : ShareRow) × (up : List ShareRow) × (chain ≡ share ∷ up) × (share.id ≡ id) × IsChain shares (share ∷ up)

-- what is found is the chain of the share
pub found_chain : (k : ℕ) (shares : List ShareRow) (id : ℕ) (chain : List ShareRow) → chain_within k shares id ≡ Some chain → IsChainOf shares id chain
unfolding chain_within
found_chain zero shares id chain is = absurd (cc)
found_chain (suc k) shares id chain is =
    option_and_then_some (λ row. chain_up row row.parent (chain_within k shares)) (share_row shares id) chain is
    (λ share here up.
    let number : share.id ≡ id = eqb-true share.id id (find_among (λ row. row.id == id) shares share here).1 in
    on_top (found_chain k shares) share (subst (λ (id : ℕ). share_row shares id ≡ Some share) (sym number) here) number share.parent refl up)
  where
    on_top : ((parent : ℕ) (up : List ShareRow) → chain_within k shares parent ≡ Some up → IsChainOf shares parent up)
        → (share : ShareRow) → share_row shares share.id ≡ Some share → share.id ≡ id
        → (o : Option ℕ) → share.parent ≡ o → chain_up share o (chain_within k shares) ≡ Some chain → IsChainOf shares id chain
    on_top above share here number None parent is =
        let first = cond_some (share.initiator == share.owner) (share ∷ []) chain is in
        (share, [], sym first.1, number, (here, parent, eqb-true share.initiator share.owner first.0))
    on_top above share here number (Some id') parent is =
        let up = map_some (λ up. share ∷ up) (chain_within k shares id') chain is in
        let found = above id' up.0 up.1 in
        (share, found.0 ∷ found.1, sym up.2 ∙ ap (λ up. share ∷ up) found.2, number, (here, parent ∙ ap Some (sym found.3), found.4))
