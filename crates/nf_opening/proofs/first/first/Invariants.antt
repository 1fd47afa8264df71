use Rattle.std.proofs.Common.{◌≡◌, ◌+◌, Bool, drop, option_map}
use Rattle.std.specs.Fn.{FnReturnsAt}
use Rattle.nf_base.specs.declared.rows.Row.{Row}
use Rattle.nf_rules.specs.Rules.{first_index}
use Rattle.nf_opening.proofs.first.first.Given as goal

-- no row passed so far
abbrev pub invariant-loop-index : goal.invariant-loop-index
invariant-loop-index g l =
    (passes : Row → Bool) → ((row : Row) (told : Bool) → FnReturnsAt g.F.Fn l.test row told → told ≡ passes row)
    → first_index passes l.rows ≡ option_map (λ k. l.index + k) (first_index passes (drop l.index l.rows))
