use Rattle.std.proofs.Common.{arith}
use Rattle.nf_words.specs.State.{opened}
use Rattle.nf_words.proofs.Steps.{differ_replay}
use Rattle.nf_words.proofs.laws.seats_differ.Goals as goal

pub returns : goal.returns
returns c = λ rows es legal. differ_replay 0 (opened rows) es (λ i j d before within. absurd (omega arith)) legal
