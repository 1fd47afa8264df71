use Rattle.std.proofs.Common.{ℕ, IfOk, IsSome, List, length, map, ap, subst, sym, ◌≡◌, ◌≤◌, ◌∙◌}
use Rattle.std.specs.List.{All}
use Rattle.nf_access.specs.Mounts.{ensured_all}
use Rattle.nf_base.specs.declared.limits.TheConstants.{MAX_SHARES}
use Rattle.nf_base.specs.declared.rows.MountRow.{MountRow}
use Rattle.nf_base.specs.declared.rows.NodeRow.{NodeRow}
use Rattle.nf_base.specs.declared.rows.UserRow.{UserRow}
use Rattle.nf_defs.specs.Prelude.{node_row}
use Rattle.nf_deeds.proofs.Joining.{joined_by_nodes, nodes_few, nodes_there}
use Rattle.nf_deeds.proofs.people.mounts_joined.Goals as goal

pub ensured_of-requires-clause-nodes : goal.ensured_of-requires-clause-nodes
ensured_of-requires-clause-nodes c =
    let t = c.args.view.now.tables in
    let row = c.args.row.now in
    subst (λ (nodes : List NodeRow). All (λ (node : ℕ). IsSome (node_row nodes node)) c.deref.result.now) (sym c.tree.ensures)
    (subst (λ (of : List ℕ). All (λ (node : ℕ). IsSome (node_row t.nodes node)) of) (sym (c.deref.ensures.value ∙ c.in_ok-nodes.ensures)) (nodes_there t row c.requires))

pub ensured_of-requires-clause-few_nodes : goal.ensured_of-requires-clause-few_nodes
ensured_of-requires-clause-few_nodes c =
    subst (λ (of : List ℕ). length of ≤ MAX_SHARES) (sym (c.deref.ensures.value ∙ c.in_ok-nodes.ensures))
    (nodes_few c.args.view.now.tables c.args.row.now c.requires)

pub returns : goal.returns
returns c =
    let t = c.args.view.now.tables in
    let row = c.args.row.now in
    let all : (List UserRow → List NodeRow → List MountRow → List ℕ → List MountRow) =
    λ users nodes mounts of. ensured_all users nodes (map (λ node. (row.user, node)) of) mounts in
    let of = c.deref.result.now in
    let nodes = c.tree.result.now.rows in
    let mounts = c.mounts.result.now.rows in
    subst (λ (rows : List MountRow). IfOk c.ensured_of.result (λ made. made.items ≡ rows))
    (ap (λ (users : List UserRow). all users nodes mounts of) c.people.ensures.users
    ∙ ap (λ (nodes : List NodeRow). all t.users nodes mounts of) c.tree.ensures
    ∙ ap (λ (mounts : List MountRow). all t.users t.nodes mounts of) c.mounts.ensures
    ∙ ap (λ (of : List ℕ). all t.users t.nodes t.mounts of) (c.deref.ensures.value ∙ c.in_ok-nodes.ensures)
    ∙ joined_by_nodes t row)
    c.ensured_of.ensures
