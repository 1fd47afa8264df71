use Rattle.std.proofs.Common.{◌++◌, ap, ◌∙◌}
use Rattle.nf_base.specs.declared.limits.TheConstants.{MAX_DEPTH}
use Rattle.nf_defs.specs.Tree.{walk_within}
use Rattle.nf_tree.proofs.Walks.{walk_all}
use Rattle.nf_tree.proofs.tree.Tree.subtree.Goals as goal

pub returns : goal.returns
returns c =
    c.in_ok-walk.ensures ∙ ap (λ list. list ++ walk_within MAX_DEPTH c.args.self.now.rows c.args.top) c.new-nodes.ensures.items ∙ walk_all c.args.self.now.rows c.args.top
