use Rattle.std.proofs.Common.{◌≡◌, ◌*◌, ◌≤◌, take}
use Rattle.std.specs.Prelude.{sum_by}
use Rattle.nf_words.specs.Prelude.{last_number}
use Rattle.nf_site.specs.Totals.{held_bytes}
use Rattle.nf_site.proofs.totals.version_bytes.Given as goal

abbrev pub invariant-loop-row : goal.invariant-loop-row
invariant-loop-row l =
    (l.bytes ≡ sum_by (held_bytes l.tree.rows l.user) (take l.row-index l.versions)) × (l.bytes ≤ last_number * l.row-index)
