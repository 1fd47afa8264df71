-- The bytes so far are the characters so far.
use Rattle.std.proofs.Common.{◌≡◌, take}
use Rattle.case_files.proofs.texts.one_by_one.Given as goal

abbrev pub invariant-loop-c : goal.invariant-loop-c
invariant-loop-c l = l.bytes.items ≡ take l.c-index l.characters
