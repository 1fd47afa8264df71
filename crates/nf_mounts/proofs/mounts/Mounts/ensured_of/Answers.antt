use Rattle.std.proofs.Common.{List, IfOk, map, length, ap, subst, ◌≡◌, ◌∙◌, arith}
use Rattle.nf_access.specs.Mounts.{ensured_all}
use Rattle.nf_base.specs.declared.rows.MountRow.{MountRow}
use Rattle.nf_mounts.proofs.Ensured.{all_own, own_few}
use Rattle.nf_mounts.proofs.mounts.Mounts.ensured_of.Goals as goal

pub ensure_all-requires-clause-few : goal.ensure_all-requires-clause-few
ensure_all-requires-clause-few c =
    let few = own_few c.args.user c.args.self.now.rows in
    let size = ap (λ (rows : List MountRow). length rows) c.in_ok-own.ensures in
    omega (arith, c.requires.few, c.requires.few_nodes)

pub returns : goal.returns
returns c =
    let people = c.args.people.now.users in
    let nodes = c.args.tree.now.rows in
    let ofs = map (λ node. (c.args.user, node)) c.args.nodes.now in
    subst (λ (rows : List MountRow). IfOk c.ensure_all.result (λ all. all.items ≡ rows))
    (ap (λ (rows : List MountRow). ensured_all people nodes ofs rows) c.in_ok-own.ensures
    ∙ all_own people nodes c.args.self.now.rows c.args.user c.args.nodes.now c.rows.ensures.rising)
    c.ensure_all.ensures
