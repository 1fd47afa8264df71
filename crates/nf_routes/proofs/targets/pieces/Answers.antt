use Rattle.std.proofs.Common.{◌≡◌, ◌∙◌, ap, rules, tests, List, map, Option, Result, Ok, Err, IfOk, Vec, vec_items}
use Rattle.std.proofs.lemmas.Iterator.{YieldsList, IsCollectResult, items_from_drains}
use Rattle.std.proofs.lemmas.Iterator.Splits.{YieldsList-from_slice_split}
use Rattle.nf_routes.specs.Targets.{is_slash}
use Rattle.nf_routes.proofs.targets.pieces.Goals as goal

-- what is collected is what a chain yields, seen in the same way
collected : {S A B Z E : Type 0} {steps : S → Option A → S → Type 0} {v : A → B} {s : S} {all : List B} (r : Result (Vec A Z) E)
    → IsCollectResult steps s r → YieldsList steps v s all → IfOk r (λ items. map v (vec_items items) ≡ all)
collected {v = v} (Ok items) (xs, drains, same) yields = ap (map v) same.0 ∙ items_from_drains xs drains yields
collected (Err error) ran yields = tt

pub returns : goal.returns
returns c =
    let split = c.split.ensures in
    collected _ c.collect.ensures.ran
    (YieldsList-from_slice_split _ is_slash c.args.bytes.now split.rest split.done split.closure (λ x b q k. search (rules, tests)))
