-- What was matched so far, and the rest, are what was written.
use Rattle.std.proofs.Common.{◌≡◌, ◌++◌, take}
use Rattle.case_files.specs.Answers.{answers}
use Rattle.case_files.proofs.judging.first_difference.Given as goal

abbrev pub invariant-loop-index : goal.invariant-loop-index
invariant-loop-index l = l.written ≡ answers (take l.index l.exchanges) ++ l.rest
