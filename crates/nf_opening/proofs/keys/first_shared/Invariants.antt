use Rattle.std.proofs.Common.{◌≡◌, map, take, option_map}
use Rattle.nf_rules.specs.Keys.{spelled_key}
use Rattle.nf_opening.proofs.keys.first_shared.Given as goal

-- the keys of the rows so far
abbrev pub invariant-loop-row : goal.invariant-loop-row
invariant-loop-row l = map (option_map (λ key. key.items)) l.keys.items ≡ map spelled_key (take l.row-index l.rows)
