use Rattle.std.proofs.Common.{◌==◌, not, rules}
use Rattle.std.specs.List.{list_any}
use Rattle.std.proofs.lemmas.Fn.{filter_same}
use Rattle.nf_trash.specs.declared.aged.Aged.{Aged}
use Rattle.nf_trash.proofs.aged.leave_out.Goals as goal

pub returns-clause-items : goal.returns-clause-items
returns-clause-items c =
    filter_same _ (λ (one : Aged). not (list_any (λ node. node == one.node) c.args.nodes.now)) _ (λ x b f' k. search rules) _ _ c.retain.ensures.filtered
