use Rattle.std.proofs.Common.{◌≡◌, take}
use Rattle.std.specs.List.{flat_map}
use Rattle.nf_state.specs.Gone.{told_first}
use Rattle.nf_state.proofs.telling.told_deeds.Given as goal

-- those of the deeds so far, told of the first tables
abbrev pub invariant-loop-deed : goal.invariant-loop-deed
invariant-loop-deed l = l.changes ≡ flat_map (told_first l.view.tables) (take l.deed-index l.deeds)
