-- The statuses of the program.
use Rattle.std.specs.Prelude.{ℕ, List, codes}
use Rattle.filesd.specs.declared.status.Status.{Status}
use Rattle.filesd.specs.declared.status.Status.TheVariants as exit

-- the exit status
abbrev pub code_of : Status → ℕ
code_of exit.Done = 0
code_of exit.ReadFault = 1
code_of exit.WriteFault = 2
code_of exit.StoreFault = 3
code_of (exit.BadRows fault) = 4
code_of exit.Words = 5
code_of exit.BadMessage = 6
code_of exit.Cut = 7
code_of exit.DoorFault = 8
code_of exit.Memory = 9
code_of exit.RunFull = 10
code_of exit.Budget = 11

-- its word
abbrev pub word_of : Status → List ℕ
word_of exit.Done = codes "done"
word_of exit.ReadFault = codes "readfault"
word_of exit.WriteFault = codes "writefault"
word_of exit.StoreFault = codes "storefault"
word_of (exit.BadRows fault) = codes "badrows"
word_of exit.Words = codes "words"
word_of exit.BadMessage = codes "badmessage"
word_of exit.Cut = codes "cut"
word_of exit.DoorFault = codes "doorfault"
word_of exit.Memory = codes "memory"
word_of exit.RunFull = codes "runfull"
word_of exit.Budget = codes "budget"
