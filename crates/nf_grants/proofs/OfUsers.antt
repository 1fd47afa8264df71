-- The mounts of one user stand for all.
use Rattle.std.proofs.Common.{ℕ, ◌≡◌, ◌==◌, ◌&&◌, not, List, [], ◌∷◌, refl, arith}
use Rattle.std.specs.List.{filter, list_any}
use Rattle.nf_access.specs.Access.{is_open}
use Rattle.nf_access.specs.Mounts.{listed}
use Rattle.nf_base.specs.declared.rows.MountRow.{MountRow}
use Rattle.nf_defs.specs.Access.{Access}
use Rattle.nf_defs.specs.declared.Seeker.TheVariants.{User}

-- those that are listed, among the user's own mounts
pub of_user : (access : Access) (now user : ℕ) (rows : List MountRow)
    → filter (λ row. not row.left && list_any (is_open now) (access (User user) row.node)) (filter (λ row. row.user == user) rows)
    ≡ listed access now rows user
of_user access now user [] = refl
of_user access now user (row ∷ rows) = let rest = of_user access now user rows in grind arith
