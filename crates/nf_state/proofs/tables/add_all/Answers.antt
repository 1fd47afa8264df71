use Rattle.std.proofs.Common.{◌<◌, ◌≡◌, List, [], ◌∷◌, ◌++◌, length, slice_get, take, Some, ap, sym, ◌∙◌, subst, arith}
use Rattle.std.specs.List.{All}
use Rattle.std.proofs.Math.Seq.{take-append_seam}
use Rattle.std.proofs.lemmas.List.{append_assoc, length-append}
use Rattle.std.proofs.lemmas.List.Elements.{All-push}
use Rattle.nf_base.specs.declared.rows.NodeRow.{NodeRow}
use Rattle.nf_charge.specs.Sums.{LeadUp}
use Rattle.nf_tree.specs.Held.{Held}
use Rattle.nf_state.proofs.Numbers.{given_below, row_behind}
use Rattle.nf_state.proofs.tables.add_all.Goals as goal

-- the next row has the next number
pub add-requires-clause-newest : goal.add-requires-clause-newest
add-requires-clause-newest c =
    let front = c.loop-row.yielded in
    let rest = c.next.new.self.rest.items in
    let parts = ap (λ (list : List NodeRow). front ++ list) (sym c.in-Some.ensures.steps.0) ∙ c.loop-row.invariant.left in
    let there = subst (λ (all : List NodeRow). slice_get all (length front) ≡ Some c.in-Some.row) parts (row_behind front c.in-Some.row rest) in
    let id = c.requires.numbered (length front) c.in-Some.row there in
    given_below c.loop-row.tree.rows c.loop-row.next c.in-Some.row.id (omega arith) c.loop-row.invariant.given

-- and with it each node leads up
pub add-requires-clause-leads : goal.add-requires-clause-leads
add-requires-clause-leads c =
    let old = c.args.tree.now.rows in
    let front = c.loop-row.yielded in
    let row = c.in-Some.row in
    let rest = c.next.new.self.rest.items in
    let upto : List NodeRow = front ++ row ∷ [] in
    let whole : upto ++ rest ≡ c.args.rows =
    append_assoc front (row ∷ []) rest ∙ ap (λ (list : List NodeRow). front ++ list) (sym c.in-Some.ensures.steps.0) ∙ c.loop-row.invariant.left in
    let taken : take (length upto) c.args.rows ≡ upto = ap (take (length upto)) (sym whole) ∙ take-append_seam upto rest in
    let rows : old ++ take (length upto) c.args.rows ≡ c.loop-row.tree.rows ++ row ∷ [] =
    ap (λ (list : List NodeRow). old ++ list) taken ∙ sym (append_assoc old front (row ∷ []))
    ∙ ap (λ (tree : Held). tree.rows ++ row ∷ []) (sym c.loop-row.invariant.tree) in
    subst LeadUp rows (c.requires.leads (length upto))

pub loop-row-preserved : goal.loop-row-preserved
loop-row-preserved c =
    let front = c.loop-row.yielded in
    let row = c.in-Some.row in
    let rest = c.next.new.self.rest.items in
    let parts = ap (λ (list : List NodeRow). front ++ list) (sym c.in-Some.ensures.steps.0) ∙ c.loop-row.invariant.left in
    let there = subst (λ (all : List NodeRow). slice_get all (length front) ≡ Some row) parts (row_behind front row rest) in
    let id = c.requires.numbered (length front) row there in
    let below : All (λ (row : NodeRow). row.id < c.new-next.result) (c.loop-row.tree.rows ++ row ∷ []) =
    All-push (λ (row : NodeRow). row.id < c.new-next.result) c.loop-row.tree.rows row
    (given_below c.loop-row.tree.rows c.loop-row.next c.new-next.result (omega arith) c.loop-row.invariant.given) (omega arith) in
    record {
      tree = c.add.ensures
          ∙ ap (λ (tree : Held). record tree { rows = tree.rows ++ row ∷ [] }) c.loop-row.invariant.tree
          ∙ ap (λ (rows : List NodeRow). record c.args.tree.now { rows = rows }) (append_assoc c.args.tree.now.rows front (row ∷ []));
      left = append_assoc front (row ∷ []) rest ∙ parts;
      counted = omega (arith, length-append front (row ∷ []));
      given = rw c.add.ensures below;
    }
