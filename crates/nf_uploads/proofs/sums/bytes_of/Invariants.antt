use Rattle.std.proofs.Common.{◌≡◌, ◌≤◌, ◌*◌, take}
use Rattle.std.specs.Prelude.{sum_by}
use Rattle.nf_words.specs.Versions.{content_size}
use Rattle.nf_uploads.proofs.sums.bytes_of.Given as goal

-- the bytes of the rows so far, each of less than 2 ^ 64
abbrev pub invariant-loop-row : goal.invariant-loop-row
invariant-loop-row l = (l.sum ≡ sum_by (λ row. content_size row.content) (take l.row-index l.rows)) × (l.sum ≤ 18446744073709551615 * l.row-index)
