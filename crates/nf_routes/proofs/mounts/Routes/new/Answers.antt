use Rattle.std.proofs.Common.{◌≡◌, refl, ap, ◌∙◌}
use Rattle.matchit.proofs.OnLiterals.{matchit_on_literals}
use Rattle.matchit.specs.Router.{RouteOf, rename}
use Rattle.nf_routes.specs.declared.mounts.Mount.{Mount}
use Rattle.nf_routes.specs.Rows.{table, routes, inserted}
use Rattle.nf_routes.proofs.mounts.Routes.new.Goals as goal

-- the routes are the mounts, in the order that a router keeps
routes_are : rename (λ (x : RouteOf Mount). x.value) routes ≡ table
unfolding matchit_on_literals table inserted
routes_are = refl

pub invariant_of-result : goal.invariant_of-result
invariant_of-result c = ap (rename (λ (x : RouteOf Mount). x.value)) c.in-Ok.ensures ∙ routes_are
