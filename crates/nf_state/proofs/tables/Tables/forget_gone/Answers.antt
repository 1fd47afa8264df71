use Rattle.std.proofs.Common.{Bool, List, is_some, rules, ap, ◌∙◌}
use Rattle.nf_base.specs.declared.rows.VersionRow.{VersionRow}
use Rattle.nf_defs.specs.Prelude.{node_row, Tables}
use Rattle.nf_words.specs.Versions.{versions_there}
use Rattle.nf_view.specs.Rows.{tables_in}
use Rattle.nf_state.specs.Rows.{Rows}
use Rattle.nf_state.proofs.tables.Tables.forget_gone.Goals as goal

pub returns-clause-tables : goal.returns-clause-tables
returns-clause-tables c =
    let inside = c.self.inside in
    let stays : (VersionRow → Bool) = λ row. is_some (node_row inside.tree.rows row.node) in
    let rows = c.keep.ensures.rows stays (λ row told says. search rules) in
    let was = ap (λ (r : Rows). r.tables) c.self.view_is in
    ap (λ (versions : List VersionRow).
    tables_in inside.meta inside.people inside.tree.rows inside.shares.rows inside.mounts.rows versions inside.items.rows inside.uploads.uploads inside.uploads.chunks) rows
    ∙ ap (λ (u : Tables). record u { versions = versions_there u.nodes u.versions }) was
