use Rattle.std.proofs.Common.{rules, ◌≡◌, ℕ, Some, sym, ap, ◌∙◌}
use Rattle.nf_rules.specs.Rules.{first_broken}
use Rattle.nf_rules.specs.Rules as judged
use Rattle.nf_opening.proofs.Topped.{tops_from}
use Rattle.nf_opening.proofs.judging.judge_rows.Goals as goal

pub first_over-requires-clause-tops : goal.first_over-requires-clause-tops
first_over-requires-clause-tops c =
    tops_from c.args.loaded.now c.args.rows.now c.requires.tables (sym c.first_astray.ensures ∙ c.in_ok-keeps-5.ensures)

pub returns-in_err-keeps-8 : goal.returns-in_err-keeps-8
returns-in_err-keeps-8 c =
    let broken : judged.Broken = c.in_err-keeps-8.field-0.0 in
    let twice = sym c.in_ok-first_twice.ensures ∙ c.in_ok-keeps.ensures in
    let ungiven = sym c.first_ungiven.ensures ∙ c.in_ok-keeps-2.ensures in
    let dangling = sym c.first_dangling.ensures ∙ c.in_ok-keeps-3.ensures in
    let namesake = sym c.in_ok-first_namesake.ensures ∙ c.in_ok-keeps-4.ensures in
    let astray = sym c.first_astray.ensures ∙ c.in_ok-keeps-5.ensures in
    let unkept = sym c.first_unkept.ensures ∙ c.in_ok-keeps-6.ensures in
    let beyond = sym c.in_ok-first_beyond.ensures ∙ c.in_ok-keeps-7.ensures in
    let over = sym c.in_ok-first_over.ensures ∙ c.in_err-keeps-8.ensures.0 in
    let told : first_broken judged.rules c.args.rows.now ≡ Some broken =
    simp (twice, ungiven, dangling, namesake, astray, unkept, beyond, over)
    (ap (λ (n : ℕ). Some (record { rule = n; index = broken.index })) (sym c.in_err-keeps-8.ensures.1)) in
    search (rules, told)

pub returns : goal.returns
returns c =
    let twice = sym c.in_ok-first_twice.ensures ∙ c.in_ok-keeps.ensures in
    let ungiven = sym c.first_ungiven.ensures ∙ c.in_ok-keeps-2.ensures in
    let dangling = sym c.first_dangling.ensures ∙ c.in_ok-keeps-3.ensures in
    let namesake = sym c.in_ok-first_namesake.ensures ∙ c.in_ok-keeps-4.ensures in
    let astray = sym c.first_astray.ensures ∙ c.in_ok-keeps-5.ensures in
    let unkept = sym c.first_unkept.ensures ∙ c.in_ok-keeps-6.ensures in
    let beyond = sym c.in_ok-first_beyond.ensures ∙ c.in_ok-keeps-7.ensures in
    let over = sym c.in_ok-first_over.ensures ∙ c.in_ok-keeps-8.ensures in
    simp (twice, ungiven, dangling, namesake, astray, unkept, beyond, over)
