use Rattle.std.proofs.Common.{◌≡◌, ◌==◌, ℕ, take}
use Rattle.std.specs.List.{list_any}
use Rattle.std.specs.BTreeSet.{contains}
use Rattle.std.specs.Ordering.{nat_cmp}
use Rattle.nf_opening.proofs.bounds.roots.Given as goal

-- the roots of the users so far
abbrev pub invariant-loop-user : goal.invariant-loop-user
invariant-loop-user l = (node : ℕ) → contains nat_cmp l.roots node ≡ list_any (λ user. node == user.root) (take l.user-index l.users)
