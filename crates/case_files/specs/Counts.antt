-- How many runs came to what.
use Rattle.std.specs.Prelude.{Bool, true, false}
use Rattle.case_files.specs.declared.tally.Judged.{Judged}
use Rattle.case_files.specs.declared.tally.Judged.TheVariants.{Passed, Differs, NotRun}

-- whether a run came to that
abbrev pub is : Judged → Judged → Bool
is Passed Passed = true
is Differs Differs = true
is NotRun NotRun = true
is wanted _ = false
