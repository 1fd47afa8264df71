use Rattle.std.proofs.Common.{rules, filter, ap, sym, ◌∙◌}
use Rattle.std.proofs.lemmas.Fn.{filter_same, says_at}
use Rattle.nf_table.specs.Rows.{TableValue}
use Rattle.nf_table.proofs.Kept.{where_table}
use Rattle.nf_table.proofs.table.Table.keep.Goals as goal

pub invariant_of-self : goal.invariant_of-self
invariant_of-self g c =
    let told = c.retain.ensures.filtered in
    let room = c.retain.ensures.capacity in
    rw (told.4, room) (where_table g.R.Keyed.key told.0 c.self.inside.rows.items _ c.self.invariant)

pub returns-clause-rows : goal.returns-clause-rows
returns-clause-rows g c passes tells =
    let kept = filter_same _ passes _ (λ x b f' k. (tells x b (record { shown = k.shown; shows = k.shows; says = record { met = search rules } }), search rules)) _ _ c.retain.ensures.filtered in
    kept ∙ ap (λ (table : TableValue g.row.R.Denot). filter passes table.rows) c.self.view_is
