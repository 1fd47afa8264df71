-- A word that is no number is bare of no number; what was parsed is the number of a bare word.
use Rattle.std.proofs.Common.{◌≡◌, ◌∙◌, ℕ, List, arith, subst}
use Rattle.std.proofs.lemmas.Fmt.{parse-decimal}
use Rattle.nf_command.specs.Numbers.{IsBare}
use Rattle.nf_command.proofs.Numbers.{bare_is_decimal, decimal_is_bare}
use Rattle.nf_command.proofs.number.number_of.Goals as goal

pub returns-then-not-is_bare : goal.returns-then-not-is_bare
returns-then-not-is_bare c = λ n some few is.
    absurd (cc (c.is_bare.ensures.1 (decimal_is_bare _ n (omega arith) (c.as_bytes.ensures.value ∙ is))))

pub returns-in-Ok : goal.returns-in-Ok
returns-in-Ok c = (
  bare_is_decimal c.args.word.now c.in-Ok.number c.parse.result
      (subst (λ (w : List ℕ). IsBare w) c.as_bytes.ensures.value (c.is_bare.ensures.0 c.if-not-is_bare.false)) c.parse.ensures.value.0 c.in-Ok.is,
  omega arith,
  omega arith,
)

pub returns-in_default : goal.returns-in_default
returns-in_default c = λ n some few is.
    let parsed = parse-decimal 64 n c.args.word.now c.parse.result (omega arith) (omega arith) is c.parse.ensures.value.0 in
    let same : c.in-Ok.number ≡ n = cc in
    absurd (omega arith)

pub returns-in_default-2 : goal.returns-in_default-2
returns-in_default-2 c = λ n some few is.
    let parsed = parse-decimal 64 n c.args.word.now c.parse.result (omega arith) (omega arith) is c.parse.ensures.value.0 in
    let same : c.in-Ok.number ≡ n = cc in
    absurd (omega arith)

pub returns-in_default-3 : goal.returns-in_default-3
returns-in_default-3 c = λ n some few is.
    let parsed = parse-decimal 64 n c.args.word.now c.parse.result (omega arith) (omega arith) is c.parse.ensures.value.0 in
    absurd cc
