use Rattle.std.proofs.Common.{◌≡◌}
use Rattle.std.specs.List.{flat_map}
use Rattle.nf_words.specs.Prelude.{gone_from, purges}
use Rattle.nf_deeds.proofs.sweeping.swept.Given as goal

-- what goes of the trash of the users so far
abbrev pub invariant-loop-user : goal.invariant-loop-user
invariant-loop-user l = l.deeds.items ≡ purges (flat_map (gone_from l.view.tables l.moment) l.yielded)
