use Rattle.std.proofs.Common.{rules, map, not, ap, sym, ◌∙◌}
use Rattle.std.proofs.lemmas.Fn.{filter_same}
use Rattle.nf_table.specs.Rows.{all_dropped, TableValue}
use Rattle.nf_table.proofs.Dropped.{dropped_in_turn, has, kept_table}
use Rattle.nf_table.proofs.table.Table.keep_others.Goals as goal

pub invariant_of-self : goal.invariant_of-self
invariant_of-self g c =
    let p = λ (row : g.row.R.Denot). not (has g.R.Keyed.key g.R.FoundBy.numbers c.args.keys.now row) in
    let kept = filter_same _ p _ (λ x b f' k. search rules) _ _ c.retain.ensures.filtered in
    let room = c.retain.ensures.capacity in
    rw (kept, room) (kept_table g.R.Keyed.key p c.self.inside.rows.items _ c.self.invariant)

pub returns-clause-rows : goal.returns-clause-rows
returns-clause-rows g c =
    let key = g.R.Keyed.key in
    let numbers = g.R.FoundBy.numbers in
    let keys = c.args.keys.now in
    let kept = filter_same _ (λ (row : g.row.R.Denot). not (has key numbers keys row)) _ (λ x b f' k. search rules) _ _ c.retain.ensures.filtered in
    kept ∙ sym (dropped_in_turn key numbers keys c.self.inside.rows.items)
    ∙ ap (λ (table : TableValue g.row.R.Denot). all_dropped key (map numbers keys) table.rows) c.self.view_is
