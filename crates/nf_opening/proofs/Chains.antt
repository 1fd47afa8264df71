-- The chain of a share and the way up from a node, step by step.
use Rattle.std.proofs.Common.{ℕ, zero, suc, ◌+◌, ◌≡◌, ◌==◌, Bool, true, false, List, [], ◌∷◌, Option, None, Some, option_map, if◌then◌else◌, refl, ap, ◌∙◌, arith}
use Rattle.std.specs.Prelude.{is_some}
use Rattle.std.specs.Option.{option_and_then}
use Rattle.nf_access.specs.Shares.{chain_up, chain_within, share_row}
use Rattle.nf_base.specs.declared.rows.NodeRow.{NodeRow}
use Rattle.nf_base.specs.declared.rows.ShareRow.{ShareRow}
use Rattle.nf_defs.specs.Prelude.{is_under_within, parent_of}

-- ---- chains

-- a share has a chain of at most so many shares
abbrev pub is_chained : ℕ → List ShareRow → ℕ → Bool
is_chained most rows share = is_some (chain_within most rows share)

pub chained_zero : (k : ℕ) (rows : List ShareRow) (at : ℕ) → k ≡ 0 → is_chained k rows at ≡ false
unfolding chain_within
chained_zero k rows at none = rw none refl

pub chained_missing : (k : ℕ) (rows : List ShareRow) (at : ℕ) → share_row rows at ≡ None → is_chained k rows at ≡ false
unfolding chain_within
chained_missing zero rows at missing = refl
chained_missing (suc k) rows at missing = rw missing refl

-- the chain of a share that is there, by the share that it passes on
above : (k : ℕ) (rows : List ShareRow) (at : ℕ) (row : ShareRow) (parent : Option ℕ) → share_row rows at ≡ Some row → row.parent ≡ parent
    → is_chained (suc k) rows at ≡ is_some (chain_up row parent (chain_within k rows))
unfolding chain_within
above k rows at row parent there passed =
    ap (λ (o : Option ShareRow). is_some (option_and_then (λ row. chain_up row row.parent (chain_within k rows)) o)) there
    ∙ ap (λ (o : Option ℕ). is_some (chain_up row o (chain_within k rows))) passed

pub chained_first : (k j : ℕ) (rows : List ShareRow) (at : ℕ) (row : ShareRow) → j ≡ k + 1 → share_row rows at ≡ Some row → row.parent ≡ None
    → is_chained j rows at ≡ (row.initiator == row.owner)
chained_first k zero rows at row more there first = absurd (omega arith)
chained_first k (suc j) rows at row more there first = above j rows at row None there first ∙ here (row.initiator == row.owner)
  where
    here : (own : Bool) → is_some (if own then Some (row ∷ []) else None) ≡ own
    here true = refl
    here false = refl

pub chained_up : (k j : ℕ) (rows : List ShareRow) (at parent : ℕ) (row : ShareRow) → j ≡ k + 1 → share_row rows at ≡ Some row
    → row.parent ≡ Some parent → is_chained j rows at ≡ is_chained k rows parent
chained_up k zero rows at parent row more there passed = absurd (omega arith)
chained_up k (suc j) rows at parent row more there passed =
    let e : j ≡ k = omega arith in
    above j rows at row (Some parent) there passed
    ∙ here (chain_within j rows parent)
    ∙ ap (λ (n : ℕ). is_chained n rows parent) e
  where
    here : (o : Option (List ShareRow)) → is_some (option_map (λ up. row ∷ up) o) ≡ is_some o
    here None = refl
    here (Some up) = refl

-- ---- folders

pub under_zero : (k : ℕ) (rows : List NodeRow) (at top : ℕ) → k ≡ 0 → is_under_within k rows at top ≡ (at == top)
unfolding is_under_within
under_zero k rows at top none = rw none refl

pub under_top : (k : ℕ) (rows : List NodeRow) (at top : ℕ) → (at == top) ≡ true → is_under_within k rows at top ≡ true
unfolding is_under_within
under_top zero rows at top is = is
under_top (suc k) rows at top is = rw is refl

pub under_none : (k : ℕ) (rows : List NodeRow) (at top : ℕ) → (at == top) ≡ false → parent_of rows at ≡ None → is_under_within k rows at top ≡ false
unfolding is_under_within
under_none zero rows at top differ none = differ
under_none (suc k) rows at top differ none = rw differ (rw none refl)

pub under_up : (k j : ℕ) (rows : List NodeRow) (at parent top : ℕ) → j ≡ k + 1 → (at == top) ≡ false → parent_of rows at ≡ Some parent
    → is_under_within j rows at top ≡ is_under_within k rows parent top
unfolding is_under_within
under_up k zero rows at parent top more differ up = absurd (omega arith)
under_up k (suc j) rows at parent top more differ up = let e : j ≡ k = omega arith in rw differ (rw up (rw e refl))
