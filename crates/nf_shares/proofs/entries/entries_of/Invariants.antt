use Rattle.std.proofs.Common.{◌≡◌, map, take}
use Rattle.nf_shares.specs.Kept.{entry_of}
use Rattle.nf_shares.proofs.entries.entries_of.Given as goal

-- the entries of the rows so far
abbrev pub invariant-loop-row : goal.invariant-loop-row
invariant-loop-row g l = l.entries.items ≡ map (entry_of g.K.IndexKey.of_row) (take l.row-index l.rows)
