-- A walk of a folder's children, one folder further down.
use Rattle.std.proofs.Common.{ℕ, zero, suc, ◌+◌, ◌≡◌, List, [], ◌∷◌, ◌++◌, refl, ap, ◌∙◌, arith}
use Rattle.std.proofs.lemmas.Grind.{flat_map-append}
use Rattle.std.proofs.lemmas.List.{append-nil}
use Rattle.std.specs.List.{flat_map}
use Rattle.nf_base.specs.declared.limits.TheConstants.{MAX_DEPTH}
use Rattle.nf_base.specs.declared.rows.NodeRow.{NodeRow}
use Rattle.nf_defs.specs.Tree.{walk_within, walk_of, children_of}

pub walk_none : (k : ℕ) (rows : List NodeRow) (node : ℕ) → k ≡ 0 → walk_within k rows node ≡ node ∷ []
unfolding walk_within
walk_none k rows node none = rw none refl

pub walk_down : (k j : ℕ) (rows : List NodeRow) (node : ℕ) → j ≡ k + 1 → walk_within j rows node ≡ node ∷ flat_map (walk_within k rows) (children_of rows node)
unfolding walk_within
walk_down k zero rows node more = absurd (omega arith)
walk_down k (suc j) rows node more = let e : j ≡ k = omega arith in rw e refl

-- one folder more
pub flat_push : {X Y : Type 0} (f : X → List Y) (xs : List X) (x : X) → flat_map f (xs ++ x ∷ []) ≡ flat_map f xs ++ f x
flat_push f xs x = flat_map-append f xs (x ∷ []) ∙ ap (λ last. flat_map f xs ++ last) (append-nil (f x))

pub walk_all : (rows : List NodeRow) (top : ℕ) → [] ++ walk_within MAX_DEPTH rows top ≡ walk_of rows top
unfolding walk_of
walk_all rows top = refl
