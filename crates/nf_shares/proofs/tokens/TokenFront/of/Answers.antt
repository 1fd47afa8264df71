use Rattle.std.proofs.Common.{rules}
use Rattle.nf_shares.specs.Kept.{front_of}
use Rattle.nf_shares.proofs.tokens.TokenFront.of.Goals as goal

pub returns : goal.returns
unfolding front_of
returns c = search rules
