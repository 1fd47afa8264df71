use Rattle.std.proofs.Common.{arith}
use Rattle.nf_tree.proofs.Trees.{empty}
use Rattle.nf_tree.proofs.Weights.{no_sums, none_lead}
use Rattle.nf_tree.proofs.tree.Tree.new.Goals as goal

pub invariant_of-result : goal.invariant_of-result
invariant_of-result c =
    rw (c.new.ensures.items, c.new-2.ensures.items, c.new-4.ensures)
    (empty, record { in_rows = omega arith; in_order = omega arith; in_fates = omega arith; in_sums = omega arith }, none_lead, no_sums, c.new-5.ensures)
