use Rattle.std.proofs.Common.{◌≡◌, ◌++◌}
use Rattle.nf_defs.specs.Prelude.{put_all}
use Rattle.nf_laws.proofs.Lists.{Rising}
use Rattle.nf_state.specs.Counts.{FitsRows, IsNoSmaller}
use Rattle.nf_state.specs.Current.{added_of, AreBorne}
use Rattle.nf_state.proofs.tables.Tables.put_all.Given as goal

-- the changes so far are made, and the others can be borne and find room
abbrev pub invariant-loop-change : goal.invariant-loop-change
invariant-loop-change l = record {
  made : l.self.tables ≡ put_all l.initial.self.tables l.yielded;
  left : l.yielded ++ l.change-iterator.rest.items ≡ l.fn.changes;
  next : l.self.tables.meta.next_node ≡ l.initial.self.tables.meta.next_node;
  rising : Rising l.self.tables.nodes;
  borne : AreBorne l.initial.self.tables.meta.next_node l.self.tables l.change-iterator.rest.items;
  room : FitsRows l.self.tables l.self.room (added_of l.initial.self.tables.meta.next_node l.change-iterator.rest.items);
  higher : IsNoSmaller l.initial.self.room l.self.room;
}
