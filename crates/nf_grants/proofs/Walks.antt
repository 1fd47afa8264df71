-- What a chain gives, and where it is broken, one share at a time.
use Rattle.std.proofs.Common.{ℕ, zero, suc, ◌+◌, ◌≤◌, ◌≡◌, ◌&&◌, Bool, true, false, List, [], ◌∷◌, Option, None, Some, option_map, refl, sym, ap, ◌∙◌, ⊎_elim, arith}
use Rattle.std.specs.Option.{option_or}
use Rattle.std.specs.Prelude.{bit_and, is_some, unwrap_or, if◌then◌else◌}
use Rattle.nf_access.specs.Access.{grant_by}
use Rattle.nf_access.specs.Broken.{broken_in, cause_at}
use Rattle.nf_access.specs.Shares.{Ground, chain_of, earlier, end_of, follows, mask_of, share_row, stands}
use Rattle.nf_access.specs.declared.Cause.{Cause}
use Rattle.nf_base.specs.declared.limits.TheConstants.{MAX_CHAIN}
use Rattle.nf_base.specs.declared.perms.Act.{Act}
use Rattle.nf_base.specs.declared.rows.ShareRow.{ShareRow}
use Rattle.nf_defs.specs.declared.Grant.{Grant}
use Rattle.nf_access.proofs.Chains.{line, within_is}
use Rattle.nf_grants.proofs.Lines.{line_end, line_is, line_lost, line_up}

-- ---- what it gives

-- what a share gives, where at most so many shares are above it
abbrev pub given : Ground → ℕ → ShareRow → Option Grant
given g above share = grant_by g share.id (unwrap_or (line above g.shares share) [])

by_line : (g : Ground) (id : ℕ) (o o' : Option (List ShareRow)) → o ≡ o' → grant_by g id (unwrap_or o []) ≡ grant_by g id (unwrap_or o' [])
by_line g id o o' = ap (λ (o : Option (List ShareRow)). grant_by g id (unwrap_or o []))

pub given_end : (g : Ground) (above : ℕ) (share : ShareRow) (id : ℕ) → share.parent ≡ Some id → above ≡ 0 → given g above share ≡ None
given_end g above share id over none = by_line g share.id _ None (line_end above g.shares share id over none)

pub given_lost : (g : Ground) (above : ℕ) (share : ShareRow) (id : ℕ) → share.parent ≡ Some id → share_row g.shares id ≡ None → given g above share ≡ None
given_lost g above share id over lost = by_line g share.id _ None (line_lost above g.shares share id over lost)

-- a share, and what its parent gives
abbrev pub joined : ShareRow → Grant → Grant
joined share above = record { share = share.id; mask = bit_and share.perms above.mask; until = earlier share.until above.until }

pub given_up : (g : Ground) (above k : ℕ) (share parent : ShareRow) (id : ℕ) (b : Bool) → share.ended ≡ false → share.parent ≡ Some id → above ≡ k + 1
    → share_row g.shares id ≡ Some parent → follows g parent share ≡ b
    → given g above share ≡ (if b then option_map (joined share) (given g k parent) else None)
given_up g above k share parent id b ended over more there is =
    by_line g share.id _ _ (line_up above k g.shares share parent id over more there)
    ∙ ⊎_elim (λ none. rw none (nothing b)) (λ some. rw some.1 (onto some.0)) (line_is k g.shares parent)
  where
    nothing : (b : Bool) → None ≡ (if b then option_map (joined share) None else None)
    nothing true = refl
    nothing false = refl

    chosen : (b stand : Bool) (grant : Grant)
        → (if b && stand then Some (joined share grant) else None) ≡ (if b then option_map (joined share) (if stand then Some grant else None) else None)
    chosen true true grant = refl
    chosen true false grant = refl
    chosen false stand grant = refl

    onto : (up : List ShareRow) → grant_by g share.id (share ∷ parent ∷ up) ≡ (if b then option_map (joined share) (grant_by g parent.id (parent ∷ up)) else None)
    onto up = rw (ended, is) (chosen b (stands g (parent ∷ up)) (record { share = parent.id; mask = mask_of (parent ∷ up); until = end_of (parent ∷ up) }))

-- ---- where it is broken

-- the first broken share of a chain with at most so many shares above its last
abbrev pub broken : Ground → ℕ → Option Act → Option ShareRow → ℕ → ShareRow → Option (ℕ × Cause)
broken g now act next above share = broken_in g now act next (unwrap_or (line above g.shares share) [])

-- what is first wrong with a share, and its number
abbrev pub broken_at : Ground → ℕ → Option Act → Option ShareRow → ShareRow → Option (ℕ × Cause)
broken_at g now act next share = option_map (λ cause. (share.id, cause)) (cause_at g now act share next)

-- there is no chain without the parent's row
pub no_chain : (g : Ground) (above : ℕ) (share : ShareRow) (id : ℕ) → share.parent ≡ Some id → share_row g.shares id ≡ None
    → is_some (line above g.shares share) ≡ true → ⊥
no_chain g above share id over lost has = let none = line_lost above g.shares share id over lost in cc

-- nor with no place for it
pub some_above : (g : Ground) (above : ℕ) (share : ShareRow) (id : ℕ) → share.parent ≡ Some id → is_some (line above g.shares share) ≡ true → 1 ≤ above
some_above g zero share id over has = let ends = line_end zero g.shares share id over refl in absurd (cc)
some_above g (suc k) share id over has = omega arith

module _ (g : Ground) (now : ℕ) (act : Option Act) (next : Option ShareRow) (above k : ℕ) (share parent : ShareRow) (id : ℕ)
    (over : share.parent ≡ Some id) (more : above ≡ k + 1) (there : share_row g.shares id ≡ Some parent) (has_chain : is_some (line above g.shares share) ≡ true) where
  pub parent_has : is_some (line k g.shares parent) ≡ true
  parent_has = onto (line k g.shares parent) (rw (line_up above k g.shares share parent id over more there) at has_chain)
    where
      onto : (o : Option (List ShareRow)) → is_some (option_map (λ up. share ∷ up) o) ≡ true → is_some o ≡ true
      onto None has = has
      onto (Some up) has = refl

  -- and what is wrong above it was found
  pub broken_up : (found : Option (ℕ × Cause)) → found ≡ broken g now act (Some share) k parent
      → broken g now act next above share ≡ option_or found (broken_at g now act next share)
  broken_up found is =
      ap (λ (o : Option (List ShareRow)). broken_in g now act next (unwrap_or o [])) (line_up above k g.shares share parent id over more there)
      ∙ onto (line k g.shares parent) parent_has
      ∙ ap (λ (o : Option (ℕ × Cause)). option_or o (broken_at g now act next share)) (sym is)
    where
      onto : (o : Option (List ShareRow)) → is_some o ≡ true
          → broken_in g now act next (unwrap_or (option_map (λ up. share ∷ up) o) [])
          ≡ option_or (broken_in g now act (Some share) (unwrap_or o [])) (broken_at g now act next share)
      onto None has = absurd (cc)
      onto (Some up) has = refl

-- ---- whole chains

pub given_all : (g : Ground) (above : ℕ) (share : ShareRow) → MAX_CHAIN ≡ above + 1 → share_row g.shares share.id ≡ Some share
    → given g above share ≡ grant_by g share.id (chain_of g.shares share.id)
unfolding chain_of
given_all g above share most own = sym (by_line g share.id _ _ (within_is MAX_CHAIN above g.shares share share.id most own))
