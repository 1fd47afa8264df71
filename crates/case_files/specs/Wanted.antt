-- What is wanted of a run.
use Rattle.std.specs.Prelude.{◌≡◌, Option, None, Some}
use Rattle.case_files.specs.declared.case.Fault.{Fault}
use Rattle.case_files.specs.declared.case.Outcome.{Outcome}
use Rattle.case_files.specs.declared.case.Run.{Run}
use Rattle.case_files.specs.declared.case.Written.{Written}
use Rattle.case_files.specs.declared.kept.Kept.{Kept}
use Rattle.case_files.specs.Answers.{answers}

-- two keepers have the same rows and the same blobs
pub record IsSame (wanted : Kept) (left : Kept) : Type 0 where
  pub rows : left.rows.items ≡ wanted.rows.items
  pub blobs : left.blobs.items ≡ wanted.blobs.items

-- what is left is what should be, where that is said
abbrev pub Leaves : Option Kept → Kept → Type 0
Leaves None left = Unit {0}
Leaves (Some wanted) left = IsSame wanted left

-- rows were refused for what they should be, where that is said
abbrev pub Tells : Option Fault → Option Fault → Type 0
Tells None told = Unit {0}
Tells (Some wanted) told = told ≡ Some wanted

-- the bytes that are wanted were written, and what is wanted is left
pub record WritesAsWanted (run : Run) (written : Written) : Type 0 where
  pub output : written.output.items ≡ answers run.exchanges.items
  pub left : Leaves run.leaves written.left

-- a run ended with the status that is wanted, and for the reason that is
pub record EndsAsWanted (run : Run) (outcome : Outcome) : Type 0 where
  pub status : outcome.status ≡ run.status
  pub fault : Tells run.fault outcome.fault

-- a run gave what is wanted
pub record IsAsWanted (run : Run) (outcome : Outcome) : Type 0 where
  pub written : WritesAsWanted run outcome.written
  pub ends : EndsAsWanted run outcome
