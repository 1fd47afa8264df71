use Rattle.std.proofs.Common.{◌≡◌, ◌++◌}
use Rattle.std.specs.List.{All}
use Rattle.nf_words.specs.Prelude.{deeds_done, purges}
use Rattle.nf_words.proofs.Known.{IsItem}
use Rattle.nf_state.specs.Current.{BearsDeeds}
use Rattle.nf_state.proofs.Deeds.{FitInTurn}
use Rattle.nf_state.proofs.tables.Tables.perform_each.Given as goal

-- the run and the deeds behind it are left to do, can be borne and find room, and the nodes of the run are items
abbrev pub invariant-loop-deed : goal.invariant-loop-deed
invariant-loop-deed l = record {
  done : deeds_done l.self.tables (purges l.run.items ++ l.deed-iterator.rest.items) ≡ deeds_done l.initial.self.tables l.fn.deeds.items;
  items : All (IsItem l.self.tables) l.run.items;
  borne : BearsDeeds l.self.tables (purges l.run.items ++ l.deed-iterator.rest.items);
  room : FitInTurn l.self.tables l.self.room (purges l.run.items ++ l.deed-iterator.rest.items);
}
