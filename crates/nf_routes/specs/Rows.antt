-- The mounts as the rows of a router.
use Rattle.std.specs.Prelude.{ℕ, List, [], ◌∷◌, ◌++◌, codes, if◌then◌else◌, Result, Ok, Err}
use Rattle.std.specs.List.{flat_map}
use Rattle.matchit.specs.Order.{placed}
use Rattle.matchit.specs.Route.{Scan, parse_route}
use Rattle.matchit.specs.Router.{RouteOf, route_from}
use Rattle.matchit.specs.Rows.{RowsOf, catch_all_token}
use Rattle.matchit.specs.declared.error.InsertError.{InsertError}
use Rattle.nf_routes.specs.declared.mounts.Mount.{Mount}
use Rattle.nf_routes.specs.declared.mounts.Mount.TheVariants.{Files, Public, Uploads, Trashbin, Versions, Shares, Share, Users, User, Groups}
use Rattle.nf_routes.specs.Mounts.{words, has_more, mounts}

-- the rows of a mount: its words, and where more may stand behind them also these with the token for at least one byte
abbrev pub rows_of : Mount → RowsOf Mount
rows_of mount =
    if has_more mount then (words mount ++ catch_all_token ∷ [], mount) ∷ (words mount, mount) ∷ []
    else (words mount, mount) ∷ []

-- the rows of the router
unfoldable pub table : RowsOf Mount
table = flat_map rows_of mounts

-- a router's rows with one more route
abbrev pub placed_read : Result Scan InsertError → Mount → RowsOf (RouteOf Mount) → RowsOf (RouteOf Mount)
placed_read (Ok scan) mount old = placed (scan.pattern, route_from scan mount) old
placed_read (Err error) mount old = old

unfoldable pub inserted : List ℕ → Mount → RowsOf (RouteOf Mount) → RowsOf (RouteOf Mount)
inserted text mount old = placed_read (parse_route text) mount old

-- with a mount's words alone
abbrev pub with_words : Mount → RowsOf (RouteOf Mount) → RowsOf (RouteOf Mount)
with_words mount old = inserted (words mount) mount old

-- and with what may stand behind them
abbrev pub with_more : Mount → List ℕ → RowsOf (RouteOf Mount) → RowsOf (RouteOf Mount)
with_more mount text old = inserted text mount (with_words mount old)

-- with the mounts of files
abbrev pub with_dav : RowsOf (RouteOf Mount) → RowsOf (RouteOf Mount)
with_dav old =
    with_more Versions (codes "/remote.php/dav/versions/{*rest}")
    (with_more Trashbin (codes "/remote.php/dav/trashbin/{*rest}")
    (with_more Uploads (codes "/remote.php/dav/uploads/{*rest}")
    (with_more Public (codes "/public.php/dav/files/{*rest}")
    (with_more Files (codes "/remote.php/dav/files/{*rest}") old))))

-- and with those of shares and people
abbrev pub with_ocs : RowsOf (RouteOf Mount) → RowsOf (RouteOf Mount)
with_ocs old =
    with_words Groups
    (with_more User (codes "/ocs/v2.php/cloud/users/{*rest}")
    (with_words Users
    (with_more Share (codes "/ocs/v2.php/apps/files_sharing/api/v1/shares/{*rest}")
    (with_words Shares old))))

-- the rows after every route was added
abbrev pub routes : RowsOf (RouteOf Mount)
routes = with_ocs (with_dav [])
