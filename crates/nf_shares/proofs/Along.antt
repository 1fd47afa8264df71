-- What a chain comes to, one share at a time.
use Rattle.std.proofs.Common.{ℕ, ◌+◌, ◌≡◌, ◌==◌, Bool, true, false, List, [], ◌∷◌, Option, None, Some, refl, ap}
use Rattle.std.specs.Prelude.{option_map, unwrap_or, if◌then◌else◌}
use Rattle.nf_access.proofs.Chains.{found_chain, line_over, within_is, within_lost}
use Rattle.nf_access.specs.Shares.{chain_of, chain_within, share_row}
use Rattle.nf_base.specs.declared.limits.TheConstants.{MAX_CHAIN}
use Rattle.nf_base.specs.declared.rows.ShareRow.{ShareRow}

module _ {X : Type 0} (f : List ShareRow → X) where
  -- what the chain of a share comes to, where it has at most so many
  abbrev pub reach : ℕ → List ShareRow → ℕ → Option X
  reach most rows id = option_map f (chain_within most rows id)

  pub reach_zero : (most : ℕ) (rows : List ShareRow) (id : ℕ) → most ≡ 0 → reach most rows id ≡ None
  unfolding chain_within
  reach_zero most rows id none = rw none refl

  pub reach_none : (most : ℕ) (rows : List ShareRow) (id : ℕ) → share_row rows id ≡ None → reach most rows id ≡ None
  reach_none most rows id none = ap (option_map f) (within_lost most rows id none)

  pub reach_first : (most k : ℕ) (rows : List ShareRow) (id : ℕ) (row : ShareRow) (own : Bool) → most ≡ k + 1 → share_row rows id ≡ Some row
      → row.parent ≡ None → (row.initiator == row.owner) ≡ own → reach most rows id ≡ (if own then Some (f (row ∷ [])) else None)
  reach_first most k rows id row own more here first is =
      rw (within_is most k rows row id more here, line_over k rows row None first, is) (alone own)
    where
      alone : (own : Bool) → option_map f (if own then Some (row ∷ []) else None) ≡ (if own then Some (f (row ∷ [])) else None)
      alone true = refl
      alone false = refl

  -- where the share adds the same to what each chain above it comes to
  pub reach_up : (add : X → X) (most k : ℕ) (rows : List ShareRow) (id parent : ℕ) (row : ShareRow)
      → ((next : ShareRow) (up : List ShareRow) → f (row ∷ next ∷ up) ≡ add (f (next ∷ up)))
      → most ≡ k + 1 → share_row rows id ≡ Some row → row.parent ≡ Some parent → reach most rows id ≡ option_map add (reach k rows parent)
  reach_up add most k rows id parent row adds more here up =
      rw (within_is most k rows row id more here, line_over k rows row (Some parent) up) (onto (chain_within k rows parent) refl)
    where
      onto : (o : Option (List ShareRow)) → chain_within k rows parent ≡ o
          → option_map f (option_map (λ up. row ∷ up) o) ≡ option_map add (option_map f o)
      onto None is = refl
      onto (Some chain) is = let (next, above, same, _, _) = found_chain k rows parent chain is in rw same (ap Some (adds next above))

  pub reach_all : (rows : List ShareRow) (id : ℕ) → unwrap_or (reach MAX_CHAIN rows id) (f []) ≡ f (chain_of rows id)
  unfolding chain_of
  reach_all rows id = over (chain_within MAX_CHAIN rows id)
    where
      over : (o : Option (List ShareRow)) → unwrap_or (option_map f o) (f []) ≡ f (unwrap_or o [])
      over None = refl
      over (Some chain) = refl
