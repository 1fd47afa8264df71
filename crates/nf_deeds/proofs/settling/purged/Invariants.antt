use Rattle.std.proofs.Common.{◌≡◌, take}
use Rattle.std.specs.List.{flat_map}
use Rattle.nf_words.specs.Changes.{purged_by}
use Rattle.nf_deeds.proofs.settling.purged.Given as goal

-- those of the deeds so far
abbrev pub invariant-loop-deed : goal.invariant-loop-deed
invariant-loop-deed l = l.nodes.items ≡ flat_map purged_by (take l.deed-index l.deeds)
