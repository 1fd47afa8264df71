use Rattle.std.proofs.Common.{arith, ◌≡◌, ◌∙◌, ◌<◌, ◌^◌, w64, pos}
use mir.Val.{hbits}
use Rattle.std.proofs.lemmas.Int.{to_z_pos}
use Rattle.std.proofs.lemmas.Result.{IfOk-weaker}
use Rattle.jiff_core.specs.Date.{epoch_day}
use Rattle.nf_dates.proofs.Days.{only_text}
use Rattle.nf_dates.proofs.text.Goals as goal

pub returns : goal.returns
returns c =
    let date = c.from_plain-date.result in
    let value = rw c.unwrap-plain.ensures at c.from_unix_epoch_day.ensures.value in
    let small : c.args.day < 2 ^ hbits w64 = omega arith in
    let day : epoch_day date ≡ pos c.args.day = rw c.from_plain-date.ensures (value ∙ to_z_pos w64 _ small) in
    IfOk-weaker c.format.result _ _ (λ text e. e ∙ only_text c.args.day date c.requires day) c.format.ensures.ok
