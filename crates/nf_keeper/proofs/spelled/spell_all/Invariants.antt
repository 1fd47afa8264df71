use Rattle.std.proofs.Common.{◌≡◌, map, take}
use Rattle.std.specs.List.{All}
use Rattle.nf_told.specs.Told.{FitsChange}
use Rattle.nf_keeper.specs.Spelled.{spelled_change}
use Rattle.nf_keeper.proofs.spelled.spell_all.Given as goal

abbrev pub invariant-loop-change : goal.invariant-loop-change
invariant-loop-change l = record {
  spelled : l.all.items ≡ map spelled_change (take l.change-index l.changes);
  fits : All FitsChange (take l.change-index l.changes);
}
