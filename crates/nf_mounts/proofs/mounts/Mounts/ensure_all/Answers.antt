use Rattle.std.proofs.Common.{ℕ, ◌+◌, ◌∷◌, ◌++◌, List, map, drop, ap, sym, ◌∙◌, arith}
use Rattle.std.proofs.lemmas.List.{append_assoc, drop_more}
use Rattle.nf_access.specs.Mounts.{ensured, ensured_all}
use Rattle.nf_base.specs.declared.rows.MountRow.{MountRow}
use Rattle.nf_mounts.specs.Kept.{one_or_none}
use Rattle.nf_mounts.proofs.Ensured.{first_written}
use Rattle.nf_mounts.proofs.mounts.Mounts.ensure_all.Goals as goal

pub loop-node-preserved : goal.loop-node-preserved
loop-node-preserved c =
    let people = c.args.people.now.users in
    let nodes = c.args.tree.now.rows in
    let mounts = c.loop-node.self.rows in
    let user = c.args.user in
    let items = c.args.nodes.now in
    let k = c.loop-node.node-index in
    let node = c.node-item.result in
    let so_far = c.loop-node.rows.items in
    let rest : (List ℕ → List MountRow → List MountRow) = λ of mounts. ensured_all people nodes (map (λ node. (user, node)) of) mounts in
    let left = drop (k + 1) items in
    let row = ensured people nodes mounts user node in
    let more = drop_more items k node c.loop-node-test.true ∙ ap (λ (x : ℕ). x ∷ left) (sym c.node-item.is) in (
      ap (λ (rows : List MountRow). rows ++ rest left c.ensure.new.self.rows) c.in_ok-ensure.ensures.rows
          ∙ append_assoc so_far (one_or_none row) (rest left c.ensure.new.self.rows)
          ∙ ap (λ (rows : List MountRow). so_far ++ (one_or_none row ++ rest left rows)) c.in_ok-ensure.ensures.mounts
          ∙ ap (λ (rows : List MountRow). so_far ++ rows) (sym (first_written row (rest left) mounts))
          ∙ ap (λ (of : List ℕ). so_far ++ rest of mounts) (sym more)
          ∙ c.loop-node.invariant.0,
      omega (arith, c.loop-node.invariant.1, c.in_ok-ensure.ensures.count),
    )
