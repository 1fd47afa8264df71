use Rattle.std.proofs.Common.{◌≡◌, ◌∙◌, ap, sym, List, ℕ}
use Rattle.matchit.proofs.RenameLemmas.{first-rename}
use Rattle.matchit.specs.Rows.{RowsOf}
use Rattle.matchit.specs.Router.{RouteOf, rename, map_key}
use Rattle.matchit.specs.Seek.{first}
use Rattle.percent_encoding.specs.Percent.{percent_encode}
use Rattle.percent_encoding.specs.declared.ascii_set.TheConstants.{CONTROLS}
use Rattle.nf_routes.specs.Mounts.{mount_of}
use Rattle.nf_routes.specs.Rows.{table}
use Rattle.nf_routes.specs.declared.mounts.Mount.{Mount}
use Rattle.nf_routes.proofs.MountLemmas.{first_mount}
use Rattle.nf_routes.proofs.mounts.Routes.mount_of.Goals as goal

-- a router with the mounts' rows finds the mount of a path, whose bytes that no text has are escaped
at_table : (r : RowsOf (RouteOf Mount)) (text path : List ℕ) → rename (λ (route : RouteOf Mount). route.value) r ≡ table
    → text ≡ percent_encode CONTROLS path → map_key (λ (route : RouteOf Mount). route.value) (first r text) ≡ mount_of path
at_table r text path e same =
    ap (λ text. map_key (λ (route : RouteOf Mount). route.value) (first r text)) same
    ∙ (sym (first-rename (λ (route : RouteOf Mount). route.value) r (percent_encode CONTROLS path))
    ∙ (ap (λ (rows : RowsOf Mount). first rows (percent_encode CONTROLS path)) e ∙ first_mount path))

pub returns-in-Ok : goal.returns-in-Ok
returns-in-Ok c =
    sym (ap (map_key (λ (route : RouteOf Mount). route.value)) c.in-Ok.ensures.found)
    ∙ at_table _ _ _ c.self.invariant (c.deref.ensures.value ∙ (c.in_ok-text.ensures.value ∙ c.percent_encode.ensures.text))

pub returns : goal.returns
returns c =
    sym (ap (map_key (λ (route : RouteOf Mount). route.value)) c.in-Err.ensures.missing)
    ∙ at_table _ _ _ c.self.invariant (c.deref.ensures.value ∙ (c.in_ok-text.ensures.value ∙ c.percent_encode.ensures.text))
