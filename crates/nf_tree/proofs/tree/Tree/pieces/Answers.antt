use Rattle.nf_tree.proofs.Trees.{pieces_few}
use Rattle.nf_tree.proofs.tree.Tree.pieces.Goals as goal

pub returns-clause-few : goal.returns-clause-few
returns-clause-few c = pieces_few _ _ _ _ c.self.invariant.0
