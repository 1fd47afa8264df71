use Rattle.std.proofs.Common.{◌≡◌, [], length}
use Rattle.std.specs.Vec.Iter.{into_iter_items, into_iter_len}
use Rattle.nf_told.specs.Told.{AreRisingRaws}
use Rattle.nf_keeper.specs.Memory.{put_raws}
use Rattle.nf_keeper.proofs.spelled.rising_of.Given as goal

-- the rows that are left complete those that are kept
abbrev pub invariant-loop-row : goal.invariant-loop-row
invariant-loop-row l = record {
  left : put_raws l.kept.items (into_iter_items l.row-iterator) ≡ put_raws [] (into_iter_items l.initial.row-iterator);
  count : into_iter_len l.row-iterator ≡ length (into_iter_items l.row-iterator);
  rising : AreRisingRaws l.kept.items;
}
