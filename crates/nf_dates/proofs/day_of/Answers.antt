use Rattle.std.proofs.Common.{◌≡◌, ◌∙◌, ◌+◌, ◌*◌, pos, ap, arith, w8, w16, w32, ◌+ℤ◌, ◌*ℤ◌, to_z, of_z}
use Rattle.std.proofs.lemmas.Int.{ints}
use Rattle.jiff_core.specs.Date.{epoch_day}
use Rattle.nf_dates.specs.Dates.{number_to_read}
use Rattle.nf_dates.proofs.Written.{day_read, no_day}
use Rattle.nf_dates.proofs.day_of.Goals as goal

pub returns-in-Ok-clause-value : goal.returns-in-Ok-clause-value
returns-in-Ok-clause-value c =
    let date = c.in-Ok.date in
    let parts = c.in-Ok.ensures.value in
    let year : date.year ≡ pos (c.args.century * 100 + c.args.year) = omega (arith, ints, parts.0) in
    let month : date.month ≡ c.args.month = omega (arith, ints, parts.1) in
    let day : date.day ≡ c.args.day = omega (arith, ints, parts.2) in
    let number : to_z w32 (of_z w32 c.to_unix_epoch_day.result) ≡ epoch_day date = omega (arith, ints, c.to_unix_epoch_day.ensures.value, c.to_unix_epoch_day.ensures.bound) in
    c.number_read.ensures ∙ (ap number_to_read number
    ∙ day_read c.args.century c.args.year c.args.month c.args.day date c.requires.year year month day)

pub returns-in-Err-clause-value : goal.returns-in-Err-clause-value
returns-in-Err-clause-value c =
    let year : pos (c.args.century * 100 + c.args.year)
    ≡ to_z w16 (of_z w16 (to_z w16 (of_z w16 (to_z w16 (of_z w16 c.from.result) *ℤ pos 100)) +ℤ to_z w16 (of_z w16 c.from-2.result))) =
    omega (arith, ints) in
    let month : pos c.args.month ≡ to_z w8 c.args.month = omega (arith, ints) in
    let day : pos c.args.day ≡ to_z w8 c.args.day = omega (arith, ints) in
    no_day c.args.century c.args.year c.args.month c.args.day _ _ _ year month day c.requires.year c.in-Err.ensures.succeeds.1
