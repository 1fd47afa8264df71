use Rattle.std.proofs.Common.{◌≡◌, ◌+◌, ◌-◌, ◌++◌, take}
use Rattle.nf_words.specs.Copies.{copies_of_all, copies_within}
use Rattle.nf_deeds.proofs.copying.Copier.+copy_node.Given as goal

abbrev pub decreases-copy_node : goal.decreases-copy_node
decreases-copy_node l = l.down

-- behind the copy of the node, those of the children so far with what is under them
abbrev pub invariant-loop-child : goal.invariant-loop-child
invariant-loop-child l =
    l.rows.items
    ≡ l.initial.rows.items
    ++ copies_of_all (copies_within (l.down - 1) l.self.tree.now.rows l.self.owner l.self.moment) (l.id + 1) l.id (take l.child-index l.child-items)
