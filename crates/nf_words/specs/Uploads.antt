-- Uploads in chunks: which there are, and what they have.
use Rattle.std.specs.Prelude.{ℕ, ◌+◌, ◌-◌, ◌*◌, ◌==◌, ◌&&◌, nat_le, Bool, List, [], ◌∷◌, bytes_eq, filter, find, sum_by, Option, None, Some, if◌then◌else◌}
use Rattle.std.specs.List.{flat_map, list_all}
use Rattle.nf_base.specs.declared.content.Piece.{Piece}
use Rattle.nf_base.specs.declared.limits.TheConstants.{MAX_PIECES}
use Rattle.nf_base.specs.declared.rows.ChunkRow.{ChunkRow}
use Rattle.nf_base.specs.declared.rows.UploadRow.{UploadRow}
use Rattle.nf_words.specs.Versions.{content_size}

-- ---- which there are

-- the upload of a user under that name
abbrev pub upload_row : List UploadRow → ℕ → List ℕ → Option UploadRow
upload_row rows user dir = find (λ row. row.user == user && bytes_eq row.dir dir) rows

-- the uploads of a user
abbrev pub uploads_of : List UploadRow → ℕ → List UploadRow
uploads_of rows user = filter (λ row. row.user == user) rows

abbrev pub is_chunk_of : ℕ → List ℕ → ChunkRow → Bool
is_chunk_of user dir row = row.user == user && bytes_eq row.dir dir

-- its chunks, by rising number
abbrev pub chunks_of : List ChunkRow → ℕ → List ℕ → List ChunkRow
chunks_of rows user dir = filter (is_chunk_of user dir) rows

-- the one of that number
abbrev pub chunk_row : List ChunkRow → ℕ → List ℕ → ℕ → Option ChunkRow
chunk_row rows user dir number = find (λ row. is_chunk_of user dir row && row.number == number) rows

-- ---- what they have

-- what its chunks have, one after the other
abbrev pub whole_of : List ChunkRow → ℕ → List ℕ → List Piece
whole_of rows user dir = flat_map (λ row. row.content) (chunks_of rows user dir)

-- the bytes of all chunks of a user
abbrev pub pending_of : List ChunkRow → ℕ → ℕ
pending_of rows user = sum_by (λ row. content_size row.content) (filter (λ row. row.user == user) rows)

-- ---- the number that a chunk's name tells

abbrev pub is_digit : ℕ → Bool
is_digit byte = nat_le 48 byte && nat_le byte 57

-- a number and further digits
abbrev pub number_on : ℕ → List ℕ → ℕ
number_on number [] = number
number_on number (byte ∷ bytes) = number_on (number * 10 + (byte - 48)) bytes

-- decimal digits, with or without zeros in front, which tell a number from 1 to `MAX_PIECES`
abbrev pub chunk_number : List ℕ → Option ℕ
chunk_number name =
    let number = number_on 0 name in
    if list_all is_digit name && (nat_le 1 number && nat_le number MAX_PIECES) then Some number else None
