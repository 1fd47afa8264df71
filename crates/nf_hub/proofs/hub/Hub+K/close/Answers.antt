use Rattle.std.proofs.Common.{sym, subst}
use Rattle.nf_desk.specs.Desk.{Served}
use Rattle.nf_turn.specs.Numbers.{IsWhole, Numbers}
use Rattle.nf_hub.specs.Seats.{memory_of}
use Rattle.nf_hub.proofs.Closing.{none_granted}
use Rattle.nf_hub.proofs.Turning.{numbers_are}
use Rattle.nf_hub.proofs.hub.Hub+K.close.Goals as goal

pub returns : goal.returns
returns g c =
    let m = memory_of g.K.Keeper c.args.self c.args.seat in
    let whole = subst (λ (n : Numbers (Served g.row.K.Denot)). IsWhole n) (sym (numbers_are g.K.Keeper c.args.self c.args.seat)) c.requires.whole in
    record {
      closes = record {
        desk = c.close.result;
        site_is = c.into_parts.ensures.site;
        keeper_is = c.into_parts.ensures.keeper;
        history = c.into_parts.ensures.history;
        sound = c.into_parts.ensures.sound;
        ruled = c.into_parts.ensures.ruled;
        idle = none_granted g.K.Keeper c.close.result m c.close.ensures.value c.requires.idle c.requires.seat.joined whole c.into_parts.ensures.history;
        is_desk = c.into_parts.ensures.desk;
        agrees = c.close.ensures.value;
      };
    }
