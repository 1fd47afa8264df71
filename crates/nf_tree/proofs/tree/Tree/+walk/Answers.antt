use Rattle.std.proofs.Common.{◌-◌, [], ◌∷◌, ◌++◌, ap, sym, ◌∙◌, arith}
use Rattle.std.specs.List.{flat_map}
use Rattle.std.proofs.lemmas.List.{append_assoc, take_all}
use Rattle.nf_defs.specs.Tree.{walk_within, children_of}
use Rattle.nf_tree.proofs.Walks.{walk_none, walk_down}
use Rattle.nf_tree.proofs.tree.Tree.+walk.Goals as goal

pub returns-after-loop-child : goal.returns-after-loop-child
returns-after-loop-child t c =
    let rows = c.args.self.now.rows in
    let all = take_all c.loop-child.child-index _ c.loop-child-test.false ∙ c.deref-child-items.ensures.value ∙ c.in_ok-children.ensures in
    let e = walk_down (c.args.down - 1) c.args.down rows c.args.node (omega arith) in
    c.loop-child.invariant
    ∙ ap (λ list. (c.args.nodes.now.items ++ c.args.node ∷ []) ++ flat_map (walk_within (c.args.down - 1) rows) list) all
    ∙ append_assoc c.args.nodes.now.items (c.args.node ∷ []) (flat_map (walk_within (c.args.down - 1) rows) (children_of rows c.args.node))
    ∙ ap (λ list. c.args.nodes.now.items ++ list) (sym e)

pub returns-else-down-gt0 : goal.returns-else-down-gt0
returns-else-down-gt0 t c =
    c.in_ok-push.ensures.items ∙ ap (λ list. c.args.nodes.now.items ++ list) (sym (walk_none c.args.down c.args.self.now.rows c.args.node (omega arith)))
