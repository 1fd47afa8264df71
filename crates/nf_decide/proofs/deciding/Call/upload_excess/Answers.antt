use Rattle.std.proofs.Common.{ℕ, ap, sym, ◌∙◌}
use Rattle.std.specs.Prelude.{option_and_then}
use Rattle.nf_words.specs.Prelude.{Call, content_size, excess_at, whole_of}
use Rattle.nf_decide.proofs.Assembling.{excess_joined}
use Rattle.nf_decide.proofs.deciding.Call.upload_excess.Goals as goal

pub returns-in-Join : goal.returns-in-Join
returns-in-Join c =
    let join = c.in-Join in
    let target = c.args.places.now.target in
    excess_joined c.args.self.now c.in-Upload.ask join.dir join.spot join.total c.args.places.now c.sum.result c.excess_there.result
    (sym (ap (λ (call : Call). call.request.wanted) c.self.view_is) ∙ c.in-Upload.is) join.is c.requires.places
    (c.sum.ensures ∙ ap (λ (user : ℕ). content_size (whole_of c.args.self.now.state.tables.chunks user join.dir)) c.requires.caller)
    (c.excess_there.ensures ∙ ap (λ (call : Call). option_and_then (excess_at call.state.tables c.sum.result) target) c.self.view_is)
