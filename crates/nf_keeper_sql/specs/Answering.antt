-- What a keeper answers by what the store answered it.
use Rattle.std.specs.Prelude.{Result, Ok, Err}
use Rattle.std.specs.IoError.{error_kind}
use Rattle.std.specs.declared.io.ErrorKind.{ErrorKind}
use Rattle.std.specs.declared.io.ErrorKind.TheVariants as kinds
use Rattle.nf_keeper.specs.declared.keeper.KeepFault.{KeepFault}
use Rattle.nf_keeper.specs.declared.keeper.KeepFault.TheVariants.{Failed, Memory}
use Rattle.nf_keeper_sql.specs.declared.fault.Fault.{Fault}
use Rattle.nf_keeper_sql.specs.declared.fault.Fault.TheVariants.{Rows, Pieces}
use Rattle.sqlite.specs.declared.error.Error.TheVariants.{SqliteFailure}
use Rattle.sqlite.specs.declared.error.ErrorCode.TheVariants.{OutOfMemory}

abbrev pub fault_of_kind : ErrorKind → KeepFault
fault_of_kind kinds.OutOfMemory = Memory
fault_of_kind _ = Failed

-- each refusal but want of memory is a failure
abbrev pub fault_of : Fault → KeepFault
fault_of (Rows (SqliteFailure OutOfMemory)) = Memory
fault_of (Pieces error) = fault_of_kind (error_kind error)
fault_of _ = Failed

abbrev pub answered : {T : Type 0} → Result T Fault → Result T KeepFault
answered (Ok value) = Ok value
answered (Err fault) = Err (fault_of fault)
