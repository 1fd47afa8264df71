use Rattle.std.proofs.Common.{option_map, ap, sym, ◌∙◌}
use Rattle.nf_words.specs.Prelude.{asked_of, Call, way_of, Ways}
use Rattle.nf_words.specs.declared.request.Wanted.{Wanted}
use Rattle.nf_decide.specs.Deciding.{offer_in}
use Rattle.nf_decide.proofs.deciding.Call.offer.Goals as goal

pub offer_by-requires : goal.offer_by-requires
offer_by-requires c =
    let call = c.args.self.now in
    ap (λ (ways : Ways). ways.source) c.ways.view_is ∙ ap (λ (ways : Ways). ways.source) c.requires
    ∙ ap (λ (wanted : Wanted). option_map (way_of call) (asked_of wanted).source)
    (sym (ap (λ (call : Call). call.request.wanted) c.self.view_is) ∙ c.in-Share.is)

pub returns-in-Share : goal.returns-in-Share
returns-in-Share c =
    let call = c.args.self.now in
    c.offer_by.ensures
    ∙ sym (ap (λ (wanted : Wanted). offer_in call wanted) (sym (ap (λ (call : Call). call.request.wanted) c.self.view_is) ∙ c.in-Share.is))
