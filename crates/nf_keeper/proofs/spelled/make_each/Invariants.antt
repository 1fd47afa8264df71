use Rattle.std.proofs.Common.{◌≡◌, ◌+◌, ◌≤◌, length}
use Rattle.std.specs.Prelude.{vec_capacity}
use Rattle.std.specs.Vec.Iter.{into_iter_items, into_iter_len}
use Rattle.nf_told.specs.Told.{AreRisingRaws}
use Rattle.nf_keeper.specs.Spelled.{after_all}
use Rattle.nf_keeper.proofs.spelled.make_each.Given as goal

-- the changes that are left complete those that were made, and there is room for each
abbrev pub invariant-loop-change : goal.invariant-loop-change
invariant-loop-change l = record {
  left : after_all l.rows.items (into_iter_items l.change-iterator) ≡ after_all l.initial.rows.items (into_iter_items l.initial.change-iterator);
  count : into_iter_len l.change-iterator ≡ length (into_iter_items l.change-iterator);
  room : length l.rows.items + length (into_iter_items l.change-iterator) ≤ vec_capacity l.rows;
  rising : AreRisingRaws l.rows.items;
}
