use Rattle.std.proofs.Common.{subst}
use Rattle.std.specs.declared.result.Result.TheVariants.{Err}
use Rattle.nf_http.specs.Parsing.{Parses}
use Rattle.nf_http.proofs.Fronts.{wrong_front}
use Rattle.nf_http.proofs.wire.take_head.Goals as goal

pub returns-in-Err : goal.returns-in-Err
returns-in-Err c =
    wrong_front c.args.buffer.now c.parse.new.spans c.in-Err.fault c.bytes.ensures.short
    (subst (λ b. Parses b c.parse.new.spans (Err c.in-Err.fault)) c.bytes.ensures.value c.in-Err.ensures)
