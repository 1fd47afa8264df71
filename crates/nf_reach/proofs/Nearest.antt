-- The nearest of a node and the folders above it that passes a test.
use Rattle.std.proofs.Common.{◌≡◌, ◌<◌, ◌-◌, ℕ, zero, suc, Bool, true, false, List, Option, None, Some, refl, arith}
use Rattle.std.specs.Option.{option_and_then}
use Rattle.nf_base.specs.declared.rows.NodeRow.{NodeRow}
use Rattle.nf_defs.specs.Tree.{parent_of}
use Rattle.nf_words.specs.Needed.{nearest}

pub nearest_here : (up : ℕ) (rows : List NodeRow) (passes : ℕ → Bool) (node : ℕ) → passes node ≡ true → nearest up rows passes node ≡ Some node
nearest_here zero rows passes node is = rw is refl
nearest_here (suc up) rows passes node is = rw is refl

pub nearest_ends : (up : ℕ) (rows : List NodeRow) (passes : ℕ → Bool) (node : ℕ) → up ≡ 0 → passes node ≡ false → nearest up rows passes node ≡ None
nearest_ends zero rows passes node none is = rw is refl
nearest_ends (suc up) rows passes node none is = absurd (omega arith)

pub nearest_up : (up : ℕ) (rows : List NodeRow) (passes : ℕ → Bool) (node : ℕ) → 0 < up → passes node ≡ false
    → nearest up rows passes node ≡ option_and_then (nearest (up - 1) rows passes) (parent_of rows node)
nearest_up zero rows passes node some is = absurd (omega arith)
nearest_up (suc up) rows passes node some is = let e : suc up - 1 ≡ up = omega arith in rw (is, e) refl
