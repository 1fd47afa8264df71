use Rattle.std.proofs.Common.{◌∙◌, ap, arith}
use Rattle.nf_dates.specs.Dates.{day_written}
use Rattle.nf_dates.proofs.Written.{in_whole, unlaid}
use Rattle.nf_dates.proofs.day_in.Goals as goal
use Rattle.nf_dates.proofs.day_in.Goals.{then-dash-ne45-via-then-dash-ne45, then-dash-ne45-via-else-dash-ne45+then-other-ne45}

pub returns-in_default-clause-value : goal.returns-in_default-clause-value
returns-in_default-clause-value c = unlaid c.args.text.now (λ x y m d laid. omega (arith, laid.long))

pub returns-in_default-2-clause-value : goal.returns-in_default-2-clause-value
returns-in_default-2-clause-value c = unlaid c.args.text.now (λ x y m d laid. omega (arith, laid.long))

pub returns-then-dash-ne45-clause-value : goal.returns-then-dash-ne45-clause-value
returns-then-dash-ne45-clause-value c = elim c.then-dash-ne45.branch [
  | then-dash-ne45-via-then-dash-ne45 w ↦ unlaid c.args.text.now (λ x y m d laid. w.if-dash-ne45.true laid.dash)
  | then-dash-ne45-via-else-dash-ne45+then-other-ne45 w ↦ unlaid c.args.text.now (λ x y m d laid. w.if-other-ne45.true laid.other)
]

pub returns-in_err-century-clause-value : goal.returns-in_err-century-clause-value
returns-in_err-century-clause-value c =
    c.from_residual.ensures ∙ unlaid c.args.text.now (λ x y m d laid. c.in_err-century.ensures x laid.few_centuries laid.century)

pub returns-in_err-year-clause-value : goal.returns-in_err-year-clause-value
returns-in_err-year-clause-value c =
    c.from_residual-in_err-year.ensures ∙ unlaid c.args.text.now (λ x y m d laid. c.in_err-year.ensures y laid.few_years laid.year)

pub returns-in_err-month-clause-value : goal.returns-in_err-month-clause-value
returns-in_err-month-clause-value c =
    c.from_residual-in_err-month.ensures ∙ unlaid c.args.text.now (λ x y m d laid. c.in_err-month.ensures m laid.few_months laid.month)

pub returns-in_err-day-clause-value : goal.returns-in_err-day-clause-value
returns-in_err-day-clause-value c =
    c.from_residual-in_err-day.ensures ∙ unlaid c.args.text.now (λ x y m d laid. c.in_err-day.ensures d laid.few_days laid.day)

pub returns-clause-value : goal.returns-clause-value
returns-clause-value c =
    c.day_of.ensures.value ∙ ap (day_written 2932532)
    (in_whole c.args.text.now c.in_ok-century.century c.in_ok-year.year c.in_ok-month.month c.in_ok-day.day (omega arith)
    c.if-dash-ne45.false c.if-other-ne45.false c.in_ok-century.ensures.1 c.in_ok-year.ensures.1 c.in_ok-month.ensures.1
    c.in_ok-day.ensures.1)
