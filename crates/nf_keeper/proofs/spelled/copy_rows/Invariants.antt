use Rattle.std.proofs.Common.{◌≡◌, take}
use Rattle.nf_keeper.proofs.spelled.copy_rows.Given as goal

abbrev pub invariant-loop-kept : goal.invariant-loop-kept
invariant-loop-kept l = l.raws ≡ take l.kept-index l.rows
