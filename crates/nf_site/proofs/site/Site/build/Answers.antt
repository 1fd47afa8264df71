use Rattle.std.proofs.Common.{[], sym, subst, ap, ◌∙◌}
use Rattle.nf_defs.specs.Tables.{Tables}
use Rattle.nf_rules.specs.Ruled.{AreRuled}
use Rattle.nf_words.specs.State.{State}
use Rattle.nf_site.proofs.Steps.{kept_ruled, opened_held}
use Rattle.nf_site.proofs.site.Site.build.Goals as goal

pub open-requires : goal.open-requires
open-requires c =
    subst AreRuled (sym c.in_ok-loaded.ensures.tables)
    (kept_ruled c.rows.result.now c.args.opening c.rows.ensures.rows c.rows.ensures.kept c.in_ok-loaded.ensures.judged)

pub invariant_of-result : goal.invariant_of-result
invariant_of-result c =
    let rows = c.rows.result.now in
    let fresh : Tables → State = λ t. record { tables = t; tickets = []; seen = t.meta.last } in
    opened_held _ rows
    (kept_ruled rows c.args.opening c.rows.ensures.rows c.rows.ensures.kept c.in_ok-loaded.ensures.judged)
    (sym c.rows.ensures.rows)
    (c.in_ok-current.ensures ∙ ap fresh c.in_ok-loaded.ensures.tables)
    c.new.ensures.items
