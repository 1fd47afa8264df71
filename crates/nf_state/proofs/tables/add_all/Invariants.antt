use Rattle.std.proofs.Common.{◌≡◌, ◌+◌, ◌<◌, ◌++◌, length}
use Rattle.std.specs.List.{All}
use Rattle.nf_base.specs.declared.rows.NodeRow.{NodeRow}
use Rattle.nf_state.proofs.tables.add_all.Given as goal

-- the rows so far are in, each with the next number, and the others are left
abbrev pub invariant-loop-row : goal.invariant-loop-row
invariant-loop-row l = record {
  tree : l.tree ≡ record l.initial.tree { rows = l.initial.tree.rows ++ l.yielded };
  left : l.yielded ++ l.row-iterator.rest.items ≡ l.fn.rows;
  counted : l.next ≡ l.fn.next + length l.yielded;
  given : All (λ (row : NodeRow). row.id < l.next) l.tree.rows;
}
