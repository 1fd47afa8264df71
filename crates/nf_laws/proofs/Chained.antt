-- Shares that have a chain have one where the shares are others that stand on the same.
use Rattle.std.proofs.Common.{◌≡◌, ℕ, zero, suc, ◌==◌, Bool, false, List, [], ◌∷◌, Option, None, Some, if◌then◌else◌, option_map, true, refl, sym, ap, subst, ◌∙◌}
use Rattle.std.specs.Prelude.{is_some, option_and_then}
use Rattle.nf_access.specs.Shares.{chain_up, chain_within, share_row}
use Rattle.nf_base.specs.declared.rows.ShareRow.{ShareRow}

-- the share is there, and stands on what the old one stood on
pub record IsLinked (shares : List ShareRow) (id : ℕ) (old : ShareRow) : Type 0 where
  pub row : ShareRow
  pub there : share_row shares id ≡ Some row
  pub parent : row.parent ≡ old.parent
  pub initiator : row.initiator ≡ old.initiator
  pub owner : row.owner ≡ old.owner

abbrev pub AreLinked : List ShareRow → List ShareRow → Type 0
AreLinked shares others = (id : ℕ) (old : ShareRow) → share_row shares id ≡ Some old → IsLinked others id old

pub under_some : (share : ShareRow) (o : Option (List ShareRow)) → is_some (option_map (λ up. share ∷ up) o) ≡ is_some o
under_some share None = refl
under_some share (Some up) = refl

pub still_chained : (k : ℕ) (shares others : List ShareRow) (id : ℕ) → AreLinked shares others → is_some (chain_within k shares id) ≡ true
    → is_some (chain_within k others id) ≡ true
unfolding chain_within
still_chained zero shares others id linked some = absurd (cc)
still_chained (suc k) shares others id linked some = here (λ id some. still_chained k shares others id linked some) (share_row shares id) refl some
  where
    Rest : Type 0
    Rest = (id : ℕ) → is_some (chain_within k shares id) ≡ true → is_some (chain_within k others id) ≡ true

    up : Rest → (o : Option ℕ) (old row : ShareRow) → row.initiator ≡ old.initiator → row.owner ≡ old.owner
        → is_some (chain_up old o (chain_within k shares)) ≡ true → is_some (chain_up row o (chain_within k others)) ≡ true
    up rest None old row initiator owner some =
        own (row.initiator == row.owner) (old.initiator == old.owner)
        (ap (λ (n : ℕ). n == row.owner) initiator ∙ ap (λ (n : ℕ). old.initiator == n) owner) some
      where
        own : (a b : Bool) → a ≡ b → is_some (if b then Some (old ∷ []) else None) ≡ true → is_some (if a then Some (row ∷ []) else None) ≡ true
        own true b same some = refl
        own false true same some = absurd (cc)
        own false false same some = absurd (cc)
    up rest (Some parent) old row initiator owner some =
        under_some row (chain_within k others parent)
        ∙ rest parent (sym (under_some old (chain_within k shares parent)) ∙ some)

    here : Rest → (o : Option ShareRow) → share_row shares id ≡ o
        → is_some (option_and_then (λ row. chain_up row row.parent (chain_within k shares)) o) ≡ true
        → is_some (option_and_then (λ row. chain_up row row.parent (chain_within k others)) (share_row others id)) ≡ true
    here rest None e some = absurd (cc)
    here rest (Some old) e some =
        let is = linked id old e in
        rw is.there
        (subst (λ (o : Option ℕ). is_some (chain_up is.row o (chain_within k others)) ≡ true) (sym is.parent)
        (up rest old.parent old is.row is.initiator is.owner some))
