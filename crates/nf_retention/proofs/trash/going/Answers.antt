use Rattle.std.proofs.Common.{◌≡◌, ◌∙◌, ◌-◌, IfOk, ap, arith, drop, length, map, rules, take}
use Rattle.std.proofs.lemmas.List.{length-drop, take_all}
use Rattle.std.proofs.lemmas.Result.{IfOk-weaker}
use Rattle.nf_retention.specs.Budget.{IsLongestWithin}
use Rattle.nf_retention.specs.Trash.{young_sizes}
use Rattle.nf_retention.specs.declared.trash.Trashed.{Trashed}
use Rattle.nf_retention.proofs.Gone.{carried_going}
use Rattle.nf_retention.proofs.trash.going.Goals as goal

pub returns : goal.returns
returns c =
    let carried = c.args.trashed.now in
    let count = c.fitting-staying.result in
    let longest : IsLongestWithin c.args.bound (young_sizes c.args.now carried) count = search rules in
    let behind : IfOk c.collect.result (λ nodes. nodes.items ≡ map (λ (one : Trashed). one.node) (take (length carried - count) (drop count carried))) =
    search rules in
    let all = ap (map (λ (one : Trashed). one.node)) (take_all (length carried - count) (drop count carried) (omega (arith, length-drop count carried))) in
    IfOk-weaker c.collect.result _ _ (λ nodes are. carried_going c.args.now c.args.bound count carried nodes.items longest (are ∙ all)) behind
