use Rattle.std.proofs.Common.{◌≡◌, ℕ, Option, IfOk, subst, ap, ◌∙◌, map}
use Rattle.std.proofs.lemmas.List.{take_all}
use Rattle.std.proofs.lemmas.Map.Text.{is_eq-slice_cmp}
use Rattle.nf_rules.specs.Keys.{spelled_key}
use Rattle.nf_opening.proofs.Firsts.{shared_by}
use Rattle.nf_opening.proofs.keys.first_shared.Goals as goal

pub returns : goal.returns
returns c =
    let keys = c.loop-row.invariant ∙ ap (map spelled_key) (take_all _ _ c.loop-row-test.false) in
    subst (λ (first : Option ℕ). IfOk c.first_again.result (λ at. at ≡ first))
    (shared_by _ (λ key. key.items) (λ a b. is_eq-slice_cmp a.items b.items) spelled_key c.args.rows.now c.loop-row.keys.items keys)
    c.first_again.ensures
