-- The contents that rows name: those of nodes, of versions and of chunks.
use Rattle.std.specs.Prelude.{ℕ, ◌+◌, ◌<◌, ◌≤◌, List, [], ◌++◌, length, map, sum_by}
use Rattle.nf_base.specs.declared.content.Piece.{Piece}
use Rattle.nf_base.specs.declared.limits.TheConstants.{MAX_BODY}
use Rattle.nf_base.specs.declared.rows.Row.{Row}
use Rattle.nf_base.specs.declared.rows.Row.TheVariants as rows
use Rattle.nf_defs.specs.Prelude.{piece_count, Tables}

-- the content of a row, where its kind has one
abbrev pub row_content : Row → List Piece
row_content (rows.Node row) = row.content
row_content (rows.Version row) = row.content
row_content (rows.Chunk row) = row.content
row_content other = []

-- those of all rows
abbrev pub contents_of : Tables → List (List Piece)
contents_of t = map (λ row. row.content) t.nodes ++ (map (λ row. row.content) t.versions ++ map (λ row. row.content) t.chunks)

-- how many pieces they have, with repeats
abbrev pub stored_pieces : Tables → ℕ
stored_pieces t = piece_count t.nodes + (sum_by (λ row. length row.content) t.versions + sum_by (λ row. length row.content) t.chunks)

-- a piece has from 1 to `MAX_BODY` bytes, in a blob whose number was given
pub record IsPieceSound (t : Tables) (piece : Piece) : Type 0 where
  pub some : 1 ≤ piece.size
  pub few : piece.size ≤ MAX_BODY
  pub first : 1 ≤ piece.blob
  pub given : piece.blob < t.meta.next_blob
