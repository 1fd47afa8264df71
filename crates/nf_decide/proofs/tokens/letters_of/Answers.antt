use Rattle.nf_decide.proofs.Letters.{eight_letters}
use Rattle.nf_decide.proofs.tokens.letters_of.Goals as goal

pub returns : goal.returns
returns c = let e = eight_letters c.args.word in cc
