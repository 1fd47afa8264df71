use Rattle.std.proofs.Common.{ℕ, ◌≡◌, max, List, [], ◌∷◌, ◌++◌, arith}
use Rattle.std.proofs.lemmas.Grind.{common_steps}
use Rattle.nf_base.specs.declared.rows.NodeRow.{NodeRow}
use Rattle.nf_defs.specs.Tree.{depth}
use Rattle.nf_words.specs.Limits.{deepest}
use Rattle.nf_deeds.proofs.limits.deepest.Goals as goal

-- one more node
deepest_more : (rows : List NodeRow) (nodes : List ℕ) (node : ℕ) → deepest rows (nodes ++ node ∷ []) ≡ max (depth rows node) (deepest rows nodes)
deepest_more rows [] node = omega arith
deepest_more rows (other ∷ nodes) node = omega (arith, deepest_more rows nodes node)

pub loop-node-preserved : goal.loop-node-preserved
loop-node-preserved c = grind (arith, common_steps, deepest_more)
