use Rattle.std.proofs.Common.{◌==◌, ◌≡◌, refl, ap, sym, ◌∙◌, arith}
use Rattle.nf_base.specs.Content.{size_of}
use Rattle.nf_base.specs.declared.rows.NodeRow.{NodeRow}
use Rattle.nf_charge.specs.Totals.{bytes_owned, owned_part}
use Rattle.nf_charge.proofs.Totaling.{other_part, own_part, owned_more, owned_more_le, owned_small}
use Rattle.nf_charge.proofs.totals.bytes_owned.Goals as goal
use Rattle.nf_charge.proofs.totals.bytes_owned.Goals.{then-eq, else-eq}

pub loop-row-init : goal.loop-row-init
unfolding bytes_owned
loop-row-init c = refl

pub overflow_add-bytes : goal.overflow_add-bytes
overflow_add-bytes c =
    let owner = c.args.owner in
    let rows = c.args.rows.now in
    let row = c.row-item.result in
    let own = sym (ap (λ (row : NodeRow). row.owner == owner) c.row.view_is) ∙ sym c.eq.ensures ∙ c.if-eq.true in
    let part : owned_part owner row ≡ c.from-bytes.result =
    own_part owner row own ∙ sym (ap (λ (row : NodeRow). size_of row.content) c.row.view_is) ∙ sym (c.from-bytes.ensures ∙ c.size.ensures) in
    let small = owned_small rows owner c.requires.few c.requires.sized in
    let next = owned_more_le rows owner c.loop-row.row-index row c.loop-row-test.true c.row-item.is in
    omega (arith, part, small, next, c.loop-row.invariant)

pub loop-row-preserved : goal.loop-row-preserved
loop-row-preserved c =
    let owner = c.args.owner in
    let row = c.row-item.result in
    let tested = sym (ap (λ (row : NodeRow). row.owner == owner) c.row.view_is) ∙ sym c.eq.ensures in
    let more = owned_more c.args.rows.now owner c.loop-row.row-index row c.loop-row-test.true c.row-item.is in
    elim c.if-eq.branch [
      | then-eq w ↦
          (let part : owned_part owner row ≡ w.from-bytes.result =
          own_part owner row (tested ∙ w.if-eq.true) ∙ sym (ap (λ (row : NodeRow). size_of row.content) c.row.view_is) ∙ sym (w.from-bytes.ensures ∙ w.size.ensures) in
          omega (arith, w.bytes-is, c.loop-row.invariant, part, more))
      | else-eq w ↦
          (let part = other_part owner row (tested ∙ w.if-eq.false) in
          omega (arith, w.bytes-is, c.loop-row.invariant, part, more))
    ]
