use Rattle.std.proofs.Common.{◌≡◌, map, take, option_map}
use Rattle.nf_rules.specs.Keys.{name_key}
use Rattle.nf_opening.specs.Names.{name_numbers}
use Rattle.nf_opening.proofs.names.first_namesake.Given as goal

-- the keys of the rows so far
abbrev pub invariant-loop-row : goal.invariant-loop-row
invariant-loop-row l = map (option_map name_numbers) l.keys.items ≡ map (name_key l.loaded) (take l.row-index l.rows)
