use Rattle.std.proofs.Common.{◌≡◌, ◌+◌, ◌≤◌, length, reverse}
use Rattle.std.specs.Prelude.{vec_capacity}
use Rattle.nf_told.specs.Told.{AreRisingRaws}
use Rattle.nf_keeper.specs.Spelled.{after_all}
use Rattle.nf_keeper.proofs.spelled.put_first.Given as goal

-- the changes stand the other way round, and there is room for each row that is left
abbrev pub invariant-loop-row : goal.invariant-loop-row
invariant-loop-row l = record {
  left : after_all l.rows.items (reverse l.changes.items) ≡ after_all l.initial.rows.items (reverse l.initial.changes.items);
  rising : AreRisingRaws l.rows.items;
  count : length l.rows.items + length l.changes.items ≡ length l.initial.rows.items + length l.initial.changes.items;
  room : length l.rows.items + length l.changes.items ≤ vec_capacity l.changes;
  capacity : vec_capacity l.rows ≡ vec_capacity l.initial.rows;
}

abbrev pub decreases-loop-row : goal.decreases-loop-row
decreases-loop-row l = length l.rows.items
