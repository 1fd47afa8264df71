use Rattle.std.proofs.Common.{rules, tests, ◌&&◌, not}
use Rattle.std.specs.List.{list_any}
use Rattle.std.proofs.lemmas.Iterator.{YieldsList-from_map, YieldsList-from_slice, items_from_collect}
use Rattle.std.proofs.lemmas.Iterator.Consumers.{YieldsList-at, YieldsList-from_filter}
use Rattle.nf_access.specs.Access.{by_chains, is_open}
use Rattle.nf_base.specs.declared.rows.MountRow.{MountRow}
use Rattle.nf_defs.specs.declared.Seeker.TheVariants.{User}
use Rattle.nf_grants.proofs.OfUsers.{of_user}
use Rattle.nf_grants.proofs.ground.Ground.listed.Goals as goal

pub returns : goal.returns
returns c =
    rw (← of_user (by_chains c.args.self.now) c.args.now c.args.user c.args.mounts.now.rows, ← c.of_user.ensures)
    (items_from_collect _ c.collect.ensures.ran
    (YieldsList-from_map _ (λ (row : MountRow). row.node)
    (YieldsList-at c.map.ensures.source
    (YieldsList-from_filter _ (λ (row : MountRow). not row.left && list_any (is_open c.args.now) (by_chains c.args.self.now (User c.args.user) row.node))
    (YieldsList-from_slice c.of_user.result.now cc) c.filter.ensures.closure (λ x b q k. search (rules, tests))))
    c.map.ensures.closure (λ x r q k. search rules)))
