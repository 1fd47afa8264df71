-- The rules of what is asked about uploads.
use Rattle.std.specs.Prelude.{ℕ, ◌+◌, ◌-◌, ◌==◌, not, nat_lt, Bool, List, length, bytes_eq, Option, None, Some, is_some, is_none, option_map, option_and_then, if◌then◌else◌}
use Rattle.std.specs.Cmp.Lexicographic.{pointwise}
use Rattle.std.specs.Option.{option_map_or, option_or}
use Rattle.nf_base.specs.declared.rows.UploadRow.{UploadRow}
use Rattle.nf_defs.specs.Prelude.{Access, Tables}
use Rattle.nf_defs.specs.declared.Found.{Found}
use Rattle.nf_words.specs.Calls.{asker_of, Call, places_of}
use Rattle.nf_words.specs.Limits.{count_of, limit_passed, limit_with, pieces_of}
use Rattle.nf_words.specs.Uploads.{chunk_number, chunk_row, pending_of, upload_row, uploads_of, whole_of}
use Rattle.nf_words.specs.Versions.{content_size}
use Rattle.nf_words.specs.declared.answer.Denial.{Denial}
use Rattle.nf_words.specs.declared.answer.Denial.TheVariants as denial
use Rattle.nf_words.specs.declared.answer.Limit.{Limit}
use Rattle.nf_words.specs.declared.answer.Limit.TheVariants as limit
use Rattle.nf_words.specs.declared.answer.UploadFault.{UploadFault}
use Rattle.nf_words.specs.declared.answer.UploadFault.TheVariants as fault
use Rattle.nf_words.specs.declared.request.UploadAsk.{UploadAsk}
use Rattle.nf_words.specs.declared.request.UploadAsk.TheVariants as upload
use Rattle.nf_words.specs.declared.request.Wanted.{Wanted}
use Rattle.nf_words.specs.declared.request.Wanted.TheVariants as wanted

-- ---- what isn't there

-- the upload that is asked about, where it has to be there
abbrev pub dir_asked : UploadAsk → Option (List ℕ)
dir_asked (upload.New user dir to) = None
dir_asked (upload.Chunk user dir name to length) = Some dir
dir_asked (upload.Drop user dir) = Some dir
dir_asked (upload.Join dir spot total) = Some dir

abbrev pub own_upload : Call → List ℕ → Option UploadRow
own_upload call dir = upload_row call.state.tables.uploads (asker_of call) dir

abbrev pub lacks_upload : Call → List ℕ → Option Denial
lacks_upload call dir = if is_some (own_upload call dir) then None else Some denial.NotFound

-- `not-found`: the caller has no such upload
abbrev pub unopened : Call → Wanted → Option Denial
unopened call (wanted.Upload ask) = option_and_then (lacks_upload call) (dir_asked ask)
unopened call other = None

-- ---- what doesn't fit the upload

-- it isn't the path that the upload is for
abbrev pub is_elsewhere : UploadRow → List (List ℕ) → Bool
is_elsewhere row path = not (pointwise bytes_eq row.to path)

abbrev pub strays : UploadRow → List (List ℕ) → Option UploadFault
strays row path = if is_elsewhere row path then Some fault.Destination else None

-- another number of bytes is declared than the chunks have together
abbrev pub differs : ℕ → ℕ → Option UploadFault
differs sum declared = if declared == sum then None else Some (fault.Total declared sum)

abbrev pub chunk_fault : UploadRow → List ℕ → Option (List (List ℕ)) → Option UploadFault
chunk_fault row name to = if is_none (chunk_number name) then Some fault.Number else option_and_then (strays row) to

abbrev pub join_fault : Tables → UploadRow → List (List ℕ) → Option ℕ → Option UploadFault
join_fault t row path total =
    option_or (strays row path) (option_and_then (differs (content_size (whole_of t.chunks row.user row.dir))) total)

abbrev pub fault_in : Call → UploadAsk → Option UploadFault
fault_in call (upload.New user dir to) = None
fault_in call (upload.Chunk user dir name to length) = option_and_then (λ row. chunk_fault row name to) (own_upload call dir)
fault_in call (upload.Drop user dir) = None
fault_in call (upload.Join dir spot total) = option_and_then (λ row. join_fault call.state.tables row spot.path total) (own_upload call dir)

abbrev pub fault_with : Call → Wanted → Option UploadFault
fault_with call (wanted.Upload ask) = fault_in call ask
fault_with call other = None

-- `upload`: a chunk's name is no number, the path isn't that of the upload, or the chunks have another number of bytes
unfoldable pub upload_rule : Access → Call → Option Denial
upload_rule access call = option_map denial.Upload (fault_with call call.request.wanted)

-- ---- limits

-- the bytes of a user's chunks with so many in the chunk of that number
abbrev pub pending_with : Tables → ℕ → List ℕ → ℕ → ℕ → ℕ
pending_with t user dir number length =
    pending_of t.chunks user - option_map_or (λ row. content_size row.content) (chunk_row t.chunks user dir number) 0 + length

-- the limit that a chunk of so many bytes passes; the one of its number still counts among the pieces
abbrev pub chunk_limit : Tables → ℕ → List ℕ → ℕ → ℕ → Option Limit
chunk_limit t user dir length number =
    option_or (limit_passed t 0 0 0 (pieces_of length) (pieces_of length))
    (if nat_lt (count_of limit.Pending) (pending_with t user dir number length) then Some limit.Pending else None)

-- and a file of all chunks, beside them
abbrev pub assembled_limit : Tables → ℕ → List ℕ → Found → Option Limit
assembled_limit t user dir place = limit_with t (length (whole_of t.chunks user dir)) 0 place

abbrev pub new_limit : Tables → ℕ → Option Limit
new_limit t user = if nat_lt (count_of limit.Uploads) (length (uploads_of t.uploads user) + 1) then Some limit.Uploads else None

abbrev pub upload_limit : Call → UploadAsk → Option Limit
upload_limit call (upload.New user dir to) = new_limit call.state.tables (asker_of call)
upload_limit call (upload.Chunk user dir name to length) =
    option_and_then (chunk_limit call.state.tables (asker_of call) dir length) (chunk_number name)
upload_limit call (upload.Drop user dir) = None
upload_limit call (upload.Join dir spot total) =
    option_and_then (assembled_limit call.state.tables (asker_of call) dir) (places_of call).target
