use Rattle.std.proofs.Common.{◌+◌, ◌-◌, length}
use Rattle.nf_base.proofs.FreeNames.{AreTakenBelow}
use Rattle.nf_words.specs.Prelude.{names_taken_in}
use Rattle.nf_view.proofs.homes.free_in.Given as goal

abbrev pub invariant-loop-free : goal.invariant-loop-free
invariant-loop-free l = AreTakenBelow l.name (names_taken_in l.view.tables l.user l.folder) l.number

abbrev pub decreases-loop-free : goal.decreases-loop-free
decreases-loop-free l = length (names_taken_in l.view.tables l.user l.folder) + 3 - l.number
