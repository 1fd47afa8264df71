use Rattle.std.proofs.Common.{◌+◌, ◌≤◌, ◌≡◌, ◌||◌, Bool, true, false, nat_lt, List, length, Option, None, Some, if◌then◌else◌, refl, ap, arith}
use Rattle.std.proofs.lemmas.Bool.Decides.{nat_tests}
use Rattle.nf_base.specs.declared.limits.TheConstants.{MAX_DEPTH, MAX_NODES}
use Rattle.nf_base.specs.declared.rows.MetaRow.{MetaRow}
use Rattle.nf_base.specs.declared.rows.NodeRow.{NodeRow}
use Rattle.nf_defs.specs.Prelude.{Tables, walk_of, walk_within}
use Rattle.nf_words.specs.Limits.{copy_limit, last_number}
use Rattle.nf_words.specs.declared.answer.Limit.{Limit}
use Rattle.nf_words.specs.declared.answer.Limit.TheVariants.{Nodes}
use Rattle.nf_words.specs.declared.request.Transfer.{Transfer}
use Rattle.nf_deeds.proofs.copying.copies_to.Goals as goal

neither : (a b : Bool) (rest : Option Limit) → (if a || b then Some Nodes else rest) ≡ None → b ≡ false
neither true b rest none = absurd (cc)
neither false true rest none = absurd (cc)
neither false false rest none = refl

-- a copy that passes no limit finds numbers
numbers_for : (t : Tables) (transfer : Transfer) → copy_limit t transfer ≡ None → t.meta.next_node + length (walk_of t.nodes transfer.node) ≤ last_number
numbers_for t transfer none =
    let e = neither (nat_lt MAX_NODES (length t.nodes + length (walk_of t.nodes transfer.node))) (nat_lt last_number (t.meta.next_node + length (walk_of t.nodes transfer.node))) _ none in
    grind (arith, nat_tests)

pub copy_node-requires : goal.copy_node-requires
unfolding walk_of
copy_node-requires c =
    let walk = ap (λ (rows : List NodeRow). length (walk_within MAX_DEPTH rows c.args.transfer.now.node)) c.tree.ensures in
    let next = ap (λ (meta : MetaRow). meta.next_node) c.meta.ensures in
    omega (arith, walk, next, numbers_for c.args.view.now.tables c.args.transfer.now c.requires, c.new-rows.ensures.len)
