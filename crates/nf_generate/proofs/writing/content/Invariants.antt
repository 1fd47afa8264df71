use Rattle.std.proofs.Common.{◌≡◌}
use Rattle.nf_generate.specs.Writing.{content}
use Rattle.nf_generate.proofs.writing.content.Given as goal

abbrev pub invariant-loop-at : goal.invariant-loop-at
invariant-loop-at l = l.bytes.items ≡ content l.index l.at
