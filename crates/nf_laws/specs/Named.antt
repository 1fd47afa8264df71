-- The blobs that something names, by their numbers.
use Rattle.std.specs.Prelude.{◌≡◌, ℕ, ◌++◌, List, [], map}
use Rattle.std.specs.List.{flat_map}
use Rattle.nf_base.specs.declared.content.Piece.{Piece}
use Rattle.nf_base.specs.declared.rows.Row.{Row}
use Rattle.nf_defs.specs.Tables.{rows_of}
use Rattle.nf_laws.specs.Wholes.{IsNamed}
use Rattle.nf_words.specs.Prelude.{row_content, State}
use Rattle.nf_words.specs.declared.answer.Goal.{Goal}
use Rattle.nf_words.specs.declared.answer.Goal.TheVariants.{Chunk, Serve, Store}
use Rattle.nf_words.specs.declared.history.Ticket.{Ticket}

-- the number is that of the blob of a piece that one of the rows names
abbrev pub IsNamedBlob : List Row → ℕ → Type 0
IsNamedBlob rows id = (piece : Piece) × (IsNamed rows piece × (piece.blob ≡ id))

-- the numbers of the pieces' blobs
abbrev pub blobs_of : List Piece → List ℕ
blobs_of pieces = map (λ (piece : Piece). piece.blob) pieces

-- those of all pieces, row by row
abbrev pub named_blobs : List Row → List ℕ
named_blobs rows = blobs_of (flat_map row_content rows)

-- those of what is to be sent
abbrev pub goal_blobs : Goal → List ℕ
goal_blobs (Serve content) = blobs_of content
goal_blobs (Store by key length) = []
goal_blobs (Chunk user dir number length) = []

-- those that a row or a granted GET names
abbrev pub blobs_named : State → List ℕ
blobs_named s = named_blobs (rows_of s.tables) ++ flat_map (λ (ticket : Ticket). goal_blobs ticket.goal) s.tickets
