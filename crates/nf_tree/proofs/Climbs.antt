-- The way up from a node, folder by folder.
use Rattle.std.proofs.Common.{ℕ, zero, suc, ◌+◌, ◌≡◌, true, false, ◌==◌, List, None, Some, refl, arith}
use Rattle.nf_base.specs.declared.rows.NodeRow.{NodeRow}
use Rattle.nf_defs.specs.Prelude.{depth_within, is_root, is_rooted_within, is_under_within, parent_of}

-- the depth of a node with no folder, and of one in a folder
pub depth_top : (k : ℕ) (rows : List NodeRow) (at : ℕ) → parent_of rows at ≡ None → depth_within k rows at ≡ 0
unfolding depth_within
depth_top zero rows at top = refl
depth_top (suc k) rows at top = rw top refl

pub depth_up : (k j : ℕ) (rows : List NodeRow) (at parent : ℕ) → j ≡ k + 1 → parent_of rows at ≡ Some parent
    → depth_within j rows at ≡ depth_within k rows parent + 1
unfolding depth_within
depth_up k zero rows at parent more up = absurd (omega arith)
depth_up k (suc j) rows at parent more up = let e : j ≡ k = omega arith in rw up (rw e refl)

pub depth_zero : (k : ℕ) (rows : List NodeRow) (at : ℕ) → k ≡ 0 → depth_within k rows at ≡ 0
unfolding depth_within
depth_zero k rows at none = rw none refl

-- whether a node is under a top, from whether its folder is
pub under_zero : (k : ℕ) (rows : List NodeRow) (at top : ℕ) → k ≡ 0 → is_under_within k rows at top ≡ (at == top)
unfolding is_under_within
under_zero k rows at top none = rw none refl

pub under_top : (k : ℕ) (rows : List NodeRow) (at top : ℕ) → (at == top) ≡ true → is_under_within k rows at top ≡ true
unfolding is_under_within
under_top zero rows at top is = is
under_top (suc k) rows at top is = rw is refl

pub under_none : (k : ℕ) (rows : List NodeRow) (at top : ℕ) → (at == top) ≡ false → parent_of rows at ≡ None → is_under_within k rows at top ≡ false
unfolding is_under_within
under_none zero rows at top differ none = differ
under_none (suc k) rows at top differ none = rw differ (rw none refl)

pub under_up : (k j : ℕ) (rows : List NodeRow) (at parent top : ℕ) → j ≡ k + 1 → (at == top) ≡ false → parent_of rows at ≡ Some parent
    → is_under_within j rows at top ≡ is_under_within k rows parent top
unfolding is_under_within
under_up k zero rows at parent top more differ up = absurd (omega arith)
under_up k (suc j) rows at parent top more differ up = let e : j ≡ k = omega arith in rw differ (rw up (rw e refl))

-- whether a node leads to a root, from whether its folder does
pub rooted_zero : (k : ℕ) (rows : List NodeRow) (at : ℕ) → k ≡ 0 → is_rooted_within k rows at ≡ is_root rows at
unfolding is_rooted_within
rooted_zero k rows at none = rw none refl

pub rooted_root : (k : ℕ) (rows : List NodeRow) (at : ℕ) → is_root rows at ≡ true → is_rooted_within k rows at ≡ true
unfolding is_rooted_within
rooted_root zero rows at is = is
rooted_root (suc k) rows at is = rw is refl

pub rooted_none : (k : ℕ) (rows : List NodeRow) (at : ℕ) → is_root rows at ≡ false → parent_of rows at ≡ None → is_rooted_within k rows at ≡ false
unfolding is_rooted_within
rooted_none zero rows at differ none = differ
rooted_none (suc k) rows at differ none = rw differ (rw none refl)

pub rooted_up : (k j : ℕ) (rows : List NodeRow) (at parent : ℕ) → j ≡ k + 1 → is_root rows at ≡ false → parent_of rows at ≡ Some parent
    → is_rooted_within j rows at ≡ is_rooted_within k rows parent
unfolding is_rooted_within
rooted_up k zero rows at parent more differ up = absurd (omega arith)
rooted_up k (suc j) rows at parent more differ up = let e : j ≡ k = omega arith in rw differ (rw up (rw e refl))
