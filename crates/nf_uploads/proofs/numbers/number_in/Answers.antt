use Rattle.std.proofs.Common.{rules, ◌+◌}
use Rattle.nf_base.specs.declared.limits.TheConstants.{MAX_PIECES}
use Rattle.nf_uploads.proofs.Digits.{digit_step}
use Rattle.nf_uploads.proofs.numbers.number_in.Goals as goal

pub loop-digit-preserved : goal.loop-digit-preserved
loop-digit-preserved c =
    digit_step c.args.digits.now c.loop-digit.digit-index 0 c.loop-digit.number c.with_digit-number.result (MAX_PIECES + 1) (search rules)
    c.loop-digit.invariant c.with_digit-number.ensures
