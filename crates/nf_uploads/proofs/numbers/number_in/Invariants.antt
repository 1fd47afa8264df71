use Rattle.std.proofs.Common.{◌≡◌, ◌+◌, min, take}
use Rattle.nf_base.specs.declared.limits.TheConstants.{MAX_PIECES}
use Rattle.nf_words.specs.Uploads.{number_on}
use Rattle.nf_uploads.proofs.numbers.number_in.Given as goal

-- the number that the digits so far tell, or the least that no chunk has
abbrev pub invariant-loop-digit : goal.invariant-loop-digit
invariant-loop-digit l = l.number ≡ min (number_on 0 (take l.digit-index l.digits)) (MAX_PIECES + 1)
