use Rattle.std.proofs.Common.{take}
use Rattle.nf_desk.specs.Opening.{AreSpelled}
use Rattle.nf_desk.proofs.loading.read_rows.Given as goal

abbrev pub invariant-loop-raw : goal.invariant-loop-raw
invariant-loop-raw l = AreSpelled (take l.raw-index l.raws) l.rows
