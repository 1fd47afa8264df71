use Rattle.std.proofs.Common.{◌≡◌, ℕ, Option, IfOk, subst, ap, ◌∙◌, map}
use Rattle.std.proofs.lemmas.List.{take_all}
use Rattle.nf_defs.specs.Tables.{Tables}
use Rattle.nf_rules.specs.Keys.{is_shared, name_key}
use Rattle.nf_rules.specs.Rules.{first_index}
use Rattle.nf_opening.specs.Names.{name_numbers}
use Rattle.nf_opening.proofs.Firsts.{shared_by}
use Rattle.nf_opening.proofs.NameKeys.{same_names}
use Rattle.nf_opening.proofs.names.first_namesake.Goals as goal

pub returns : goal.returns
returns c =
    let rows = c.args.rows.now in
    let keys = c.loop-row.invariant ∙ ap (map (name_key c.args.loaded.now)) (take_all _ _ c.loop-row-test.false) in
    subst (λ (first : Option ℕ). IfOk c.first_again.result (λ at. at ≡ first))
    (shared_by _ name_numbers same_names (name_key c.args.loaded.now) rows c.loop-row.keys.items keys
    ∙ ap (λ (t : Tables). first_index (λ row. is_shared (map (name_key t) rows) (name_key t row)) rows) c.requires.tables)
    c.first_again.ensures
