use Rattle.std.proofs.Common.{ℕ, ◌≡◌, ◌∷◌, [], List, map, ap, sym, inl, ◌∙◌}
use Rattle.nf_base.specs.declared.rows.ItemRow.{ItemRow}
use Rattle.nf_base.specs.declared.rows.NodeRow.{NodeRow}
use Rattle.nf_base.specs.declared.rows.VersionRow.{VersionRow}
use Rattle.nf_defs.specs.Prelude.{item_key, Tables, without_all}
use Rattle.nf_table.specs.Rows.{all_dropped}
use Rattle.nf_tree.specs.Held.{Held}
use Rattle.nf_words.specs.Versions.{versions_there}
use Rattle.nf_view.specs.Rows.{tables_in}
use Rattle.nf_state.specs.Rows.{Rows}
use Rattle.nf_state.proofs.Runs.{any_order, run_gone, run_left, sorted_keys}
use Rattle.nf_state.proofs.tables.Tables.purge_run.Goals as goal

pub drop_all-requires : goal.drop_all-requires
drop_all-requires c = record { sorted = rw c.deref-2.ensures.value (sorted_keys c.sort_unstable.new.self.items c.sort_unstable.ensures.sorted) }

pub returns-clause-tables : goal.returns-clause-tables
returns-clause-tables c =
    let run = c.args.run.now.items in
    let t : Tables = c.args.self.now.tables in
    let inside = c.self.inside in
    let tables : (List NodeRow → List ItemRow → Tables) =
    λ nodes items. tables_in inside.meta inside.people nodes inside.shares.rows inside.mounts.rows inside.versions.rows items inside.uploads.uploads inside.uploads.chunks in
    let there : (Tables → Tables) = λ u. record u { versions = versions_there u.nodes u.versions } in
    let was : tables inside.tree.rows inside.items.rows ≡ t = ap (λ (r : Rows). r.tables) c.self.view_is in
    let nodes : c.purge_all.new.self.rows ≡ without_all inside.tree.rows run =
    ap (λ (h : Held). h.rows) c.purge_all.ensures ∙ ap (without_all inside.tree.rows) c.deref.ensures.value in
    let items : c.drop_all.new.self.rows ≡ all_dropped item_key (map (λ node. node ∷ []) run) inside.items.rows =
    c.drop_all.ensures.rows ∙ ap (λ (sorted : List ℕ). all_dropped item_key (map (λ node. node ∷ []) sorted) inside.items.rows) c.deref-2.ensures.value
    ∙ any_order inside.items.rows run c.sort_unstable.new.self.items c.sort_unstable.ensures.permutation in
    c.forget_gone.ensures.tables
    ∙ ap (λ (nodes : List NodeRow). there (tables nodes c.drop_all.new.self.rows)) nodes
    ∙ ap (λ (items : List ItemRow). there (tables (without_all inside.tree.rows run) items)) items
    ∙ ap (λ (u : Tables). there (record u { nodes = without_all u.nodes run; items = all_dropped item_key (map (λ node. node ∷ []) run) u.items })) was
    ∙ ap (λ (versions : List VersionRow). record t {
      nodes = without_all t.nodes run;
      items = all_dropped item_key (map (λ node. node ∷ []) run) t.items;
      versions = versions;
    }) (run_gone t.nodes run t.versions c.requires.some)
    ∙ sym (run_left t run (λ k d within. inl (c.requires.items k d within)) c.requires.bears)
