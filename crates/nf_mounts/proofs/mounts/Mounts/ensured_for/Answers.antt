use Rattle.std.proofs.Common.{ℕ, ◌+◌, ◌∷◌, ◌++◌, List, map, drop, ap, sym, ◌∙◌}
use Rattle.std.proofs.lemmas.List.{append_assoc, drop_more}
use Rattle.nf_access.specs.Mounts.{ensured, ensured_all}
use Rattle.nf_base.specs.declared.rows.MountRow.{MountRow}
use Rattle.nf_mounts.specs.Kept.{one_or_none}
use Rattle.nf_mounts.proofs.Ensured.{behind, first_of_users}
use Rattle.nf_mounts.proofs.mounts.Mounts.ensured_for.Goals as goal

pub loop-user-preserved : goal.loop-user-preserved
loop-user-preserved c =
    let people = c.args.people.now.users in
    let nodes = c.args.tree.now.rows in
    let mounts = c.args.self.now.rows in
    let node = c.args.node in
    let users = c.args.users.now in
    let k = c.loop-user.user-index in
    let user = c.user-item.result in
    let so_far = c.loop-user.rows.items in
    let rest : (List ℕ → List MountRow) = λ of. ensured_all people nodes (map (λ user. (user, node)) of) mounts in
    let row = one_or_none (ensured people nodes mounts user node) in
    let more = drop_more users k user c.loop-user-test.true ∙ ap (λ (x : ℕ). x ∷ drop (k + 1) users) (sym c.user-item.is) in
    ap (λ (rows : List MountRow). rows ++ rest (drop (k + 1) users)) c.in_ok-push_ensured.ensures
    ∙ append_assoc so_far row (rest (drop (k + 1) users))
    ∙ ap (λ (rows : List MountRow). so_far ++ rows)
    (sym (first_of_users people nodes mounts node user (drop (k + 1) users) c.rows.ensures.rising
    (behind users k user c.requires.rising c.loop-user-test.true c.user-item.is)))
    ∙ ap (λ (of : List ℕ). so_far ++ rest of) (sym more)
    ∙ c.loop-user.invariant
