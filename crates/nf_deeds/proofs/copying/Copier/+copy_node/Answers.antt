use Rattle.std.proofs.Common.{ℕ, ◌≡◌, ◌+◌, ◌-◌, List, [], ◌∷◌, ◌++◌, take, length, vec_len, ap, sym, ◌∙◌, arith}
use Rattle.std.specs.List.{flat_map}
use Rattle.std.specs.Option.{option_copied}
use Rattle.std.proofs.lemmas.List.{append_assoc, append-nil, take_all, take_more, length-append}
use Rattle.nf_base.specs.declared.rows.NodeRow.{NodeRow}
use Rattle.nf_defs.specs.Tree.{children_of, walk_within}
use Rattle.nf_words.specs.Copies.{copied_row, copies_of_all, copies_within}
use Rattle.nf_tree.proofs.Walks.{walk_down}
use Rattle.nf_deeds.proofs.Copies.{copies_nowhere, copies_leaf, copies_down, copies_more, copies_leave}
use Rattle.nf_deeds.proofs.copying.Copier.+copy_node.Goals as goal

pub returns-in_default : goal.returns-in_default
returns-in_default t c =
    let copier = c.args.self.now in
    let none = copies_nowhere c.args.down copier.tree.now.rows copier.owner copier.moment (copier.first + vec_len c.args.rows.now) c.args.folder c.args.node
    (sym c.node.ensures ∙ ap option_copied c.in_default.is) in
    sym (append-nil c.args.rows.now.items) ∙ ap (λ (list : List NodeRow). c.args.rows.now.items ++ list) (sym none)

pub returns-else-down-gt0 : goal.returns-else-down-gt0
returns-else-down-gt0 t c =
    let copier = c.args.self.now in
    let row = c.in-Some.row.now in
    let id_is : c.new-id.result ≡ copier.first + vec_len c.args.rows.now = omega arith in
    let leaf = copies_leaf c.args.down copier.tree.now.rows copier.owner copier.moment (copier.first + vec_len c.args.rows.now) c.args.folder c.args.node row
    (omega arith) (sym c.node.ensures ∙ ap option_copied c.in-Some.is) in
    c.in_ok-push.ensures.items
    ∙ ap (λ (copy : NodeRow). c.args.rows.now.items ++ copy ∷ [])
    (c.in_ok-copy_row.ensures ∙ ap (λ (n : ℕ). copied_row copier.owner copier.moment n c.args.folder row) id_is)
    ∙ ap (λ (list : List NodeRow). c.args.rows.now.items ++ list) (sym leaf)

pub returns-after-loop-child : goal.returns-after-loop-child
returns-after-loop-child t c =
    let copier = c.args.self.now in
    let row = c.in-Some.row.now in
    let all : (ℕ → ℕ → ℕ → List NodeRow) = copies_within (c.args.down - 1) copier.tree.now.rows copier.owner copier.moment in
    let children = children_of copier.tree.now.rows c.args.node in
    let id = c.new-id.result in
    let id_is : id ≡ copier.first + vec_len c.args.rows.now = omega arith in
    let listed = take_all c.loop-child.child-index _ c.loop-child-test.false ∙ c.deref-child-items.ensures.value ∙ c.in_ok-children.ensures in
    let pushed = c.in_ok-push.ensures.items ∙ ap (λ (copy : NodeRow). c.args.rows.now.items ++ copy ∷ []) c.in_ok-copy_row.ensures in
    let down = copies_down (c.args.down - 1) c.args.down copier.tree.now.rows copier.owner copier.moment (copier.first + vec_len c.args.rows.now) c.args.folder
    c.args.node row (omega arith) (sym c.node.ensures ∙ ap option_copied c.in-Some.is) in
    c.loop-child.invariant
    ∙ ap (λ (list : List ℕ). c.push.new.self.items ++ copies_of_all all (id + 1) id list) listed
    ∙ ap (λ (list : List NodeRow). list ++ copies_of_all all (id + 1) id children) pushed
    ∙ append_assoc c.args.rows.now.items (copied_row copier.owner copier.moment id c.args.folder row ∷ []) (copies_of_all all (id + 1) id children)
    ∙ ap (λ (list : List NodeRow). c.args.rows.now.items ++ list)
    (ap (λ (n : ℕ). copied_row copier.owner copier.moment n c.args.folder row ∷ copies_of_all all (n + 1) n children) id_is ∙ sym down)

pub copy_node-requires : goal.copy_node-requires
copy_node-requires t c =
    let copier = c.args.self.now in
    let k = c.args.down - 1 in
    let id = c.new-id.result in
    let rows = copier.tree.now.rows in
    let items = c.deref-child-items.result.now in
    let listed = c.deref-child-items.ensures.value ∙ c.in_ok-children.ensures in
    let made = copies_of_all (copies_within k rows copier.owner copier.moment) (id + 1) id (take c.loop-child.child-index items) in
    let leave = copies_leave k rows copier.owner copier.moment (id + 1) id items c.loop-child.child-index c.child-item.result c.loop-child-test.true in
    let child = ap (λ (n : ℕ). length (walk_within k rows n)) c.child-item.is in
    let few = ap (λ (list : List ℕ). length (flat_map (walk_within k rows) list)) listed in
    let walk = ap (λ (list : List ℕ). length list) (walk_down k c.args.down rows c.args.node (omega arith)) in
    let many = ap (λ (list : List NodeRow). length list) c.loop-child.invariant in
    let pushed = ap (λ (list : List NodeRow). length list) c.in_ok-push.ensures.items in (
      omega arith,
      omega (arith, leave, child, few, walk, many, pushed, length-append c.push.new.self.items made, length-append c.args.rows.now.items (c.in_ok-copy_row.field-0 ∷ []), c.requires),
    )

pub loop-child-preserved : goal.loop-child-preserved
loop-child-preserved t c =
    let copier = c.args.self.now in
    let all : (ℕ → ℕ → ℕ → List NodeRow) = copies_within (c.args.down - 1) copier.tree.now.rows copier.owner copier.moment in
    let id = c.new-id.result in
    let items = c.deref-child-items.result.now in
    let so_far = take c.loop-child.child-index items in
    let child = c.child-item.result in
    let made = copies_of_all all (id + 1) id so_far in
    let many = ap (λ (list : List NodeRow). length list) c.loop-child.invariant in
    let pushed = ap (λ (list : List NodeRow). length list) c.in_ok-push.ensures.items in
    let number : copier.first + vec_len c.loop-child.rows ≡ id + 1 + length made =
    omega (arith, many, pushed, length-append c.push.new.self.items made, length-append c.args.rows.now.items (c.in_ok-copy_row.field-0 ∷ [])) in
    let more = take_more items c.loop-child.child-index child c.loop-child-test.true ∙ ap (λ (n : ℕ). so_far ++ n ∷ []) (sym c.child-item.is) in
    c.in_ok-copy_node.ensures
    ∙ ap (λ (list : List NodeRow). list ++ all (copier.first + vec_len c.loop-child.rows) id child) c.loop-child.invariant
    ∙ ap (λ (n : ℕ). (c.push.new.self.items ++ made) ++ all n id child) number
    ∙ append_assoc c.push.new.self.items made (all (id + 1 + length made) id child)
    ∙ ap (λ (list : List NodeRow). c.push.new.self.items ++ list) (sym (copies_more all (id + 1) id so_far child))
    ∙ ap (λ (list : List ℕ). c.push.new.self.items ++ copies_of_all all (id + 1) id list) (sym more)
