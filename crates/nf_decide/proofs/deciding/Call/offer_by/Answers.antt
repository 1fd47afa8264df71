use Rattle.std.proofs.Common.{option_map, option_and_then, Option, ap, sym, ◌∙◌}
use Rattle.nf_words.specs.Prelude.{asked_about, offered_by, receiver_named, Way, way_of}
use Rattle.nf_words.specs.declared.request.ShareAsk.{ShareAsk}
use Rattle.nf_decide.specs.Deciding.{offer_by}
use Rattle.nf_decide.proofs.deciding.Call.offer_by.Goals as goal

pub returns-in-New : goal.returns-in-New
returns-in-New c =
    let call = c.args.self.now in
    c.offered.ensures
    ∙ ap (λ (source : Option Way). option_and_then (λ way. offered_by call way c.in-New.perms c.in-New.until (receiver_named call.state.tables c.in-New.to)) source)
    (c.requires ∙ ap (λ (ask : ShareAsk). option_map (way_of call) (asked_about ask).source) c.in-New.is)
    ∙ sym (ap (λ (ask : ShareAsk). offer_by call ask) c.in-New.is)
