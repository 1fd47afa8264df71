use Rattle.std.proofs.Common.{◌≡◌, ◌+◌, ◌≤◌, ◌++◌, length, take, drop}
use Rattle.nf_table.specs.Swaps.{AreOwn, taken, tried}
use Rattle.nf_table.proofs.table.Table.make_all.Given as goal

abbrev pub invariant-loop-swap : goal.invariant-loop-swap
invariant-loop-swap g l = record {
  own : AreOwn g.R.Keyed.key g.R.FoundBy.numbers l.swaps;
  rows : tried g.R.Keyed.key g.R.FoundBy.numbers l.self.rows (drop l.swap-index l.swaps)
      ≡ tried g.R.Keyed.key g.R.FoundBy.numbers l.initial.self.rows l.initial.swaps;
  swaps : take l.swap-index l.swaps ++ taken g.R.Keyed.key g.R.FoundBy.numbers l.self.rows (drop l.swap-index l.swaps)
      ≡ taken g.R.Keyed.key g.R.FoundBy.numbers l.initial.self.rows l.initial.swaps;
  room : l.initial.self.room ≤ l.self.room;
  count : length l.self.rows ≤ length l.initial.self.rows + l.swap-index;
}
