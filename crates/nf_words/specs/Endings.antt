-- The End of a request in two steps. One with a body is decided by the tables of its own moment, not by those of its Begin.
use Rattle.std.specs.Prelude.{ℕ, ◌==◌, ◌&&◌, is_some, List, [], ◌∷◌, ◌++◌, false, Option, None, Some, option_map, option_and_then, Result, Ok, Err, if◌then◌else◌}
use Rattle.std.specs.Option.{option_map_or, option_or}
use Rattle.nf_access.specs.Mounts.{mount_at}
use Rattle.nf_access.specs.Shares.{ground_of}
use Rattle.nf_base.specs.declared.content.Piece.{Piece}
use Rattle.nf_base.specs.declared.rows.NodeKind.TheVariants.{File}
use Rattle.nf_defs.specs.Prelude.{Access, is_root, node_row, owner_of, Tables}
use Rattle.nf_defs.specs.declared.Found.{Found}
use Rattle.nf_defs.specs.declared.Found.TheVariants.{At, Free}
use Rattle.nf_words.specs.Changes.{new_file, new_node, refilled}
use Rattle.nf_base.specs.declared.rows.NodeRow.{NodeRow}
use Rattle.nf_base.specs.declared.changes.Change.TheVariants.{Put}
use Rattle.nf_base.specs.declared.rows.Row.TheVariants as rows
use Rattle.nf_base.specs.Content.{content_eq}
use Rattle.nf_base.specs.declared.changes.Change.{Change}
use Rattle.nf_base.specs.declared.rows.ChunkRow.{ChunkRow}
use Rattle.nf_base.specs.declared.rows.UploadRow.{UploadRow}
use Rattle.nf_words.specs.Charges.{excess_at}
use Rattle.nf_words.specs.Uploading.{chunk_limit}
use Rattle.nf_words.specs.Uploads.{chunk_row, upload_row}
use Rattle.nf_words.specs.Holds.{node_of_key}
use Rattle.nf_words.specs.Limits.{limit_at, pieces_of}
use Rattle.nf_words.specs.Needed.{is_owner, needed_by}
use Rattle.nf_words.specs.Reached.{first_refused, unreached_by}
use Rattle.nf_words.specs.State.{State, goal_at}
use Rattle.nf_words.specs.declared.answer.Allowed.{Allowed}
use Rattle.nf_words.specs.declared.answer.Allowed.TheVariants as allowed
use Rattle.nf_words.specs.declared.answer.By.{By}
use Rattle.nf_words.specs.declared.answer.Denial.{Denial}
use Rattle.nf_words.specs.declared.answer.Denial.TheVariants as denial
use Rattle.nf_words.specs.declared.answer.Goal.{Goal}
use Rattle.nf_words.specs.declared.answer.Goal.TheVariants.{Chunk, Serve, Store}
use Rattle.nf_words.specs.declared.answer.LockKey.{LockKey}
use Rattle.nf_words.specs.declared.answer.LockKey.TheVariants.{Node, Slot}
use Rattle.nf_words.specs.declared.history.Outcome.{Outcome}
use Rattle.nf_words.specs.declared.history.Outcome.TheVariants.{Sent, Gone, Body}
use Rattle.nf_words.specs.declared.answer.Report.TheVariants.{Done}
use Rattle.nf_words.specs.declared.answer.Report.TheVariants as report

abbrev pub unless_refused : Option Denial → Allowed → Result Allowed Denial
unless_refused None act = Ok act
unless_refused (Some refusal) act = Err refusal

-- the place of what is stored
abbrev pub place_of : LockKey → Found
place_of (Node node) = At node
place_of (Slot folder name) = Free folder

-- `no-share` and `broken-link`: the mount that it was granted by reaches who stores, unless that is the owner
abbrev pub end_unreached : Access → Tables → ℕ → By → ℕ → Option Denial
end_unreached access t now by node =
    if is_owner t.nodes by.seeker node then None else option_and_then (unreached_by access (ground_of t) by.seeker now) by.mount

-- and it may still be done
abbrev pub end_unallowed : Access → Tables → ℕ → By → LockKey → Option Denial
end_unallowed access t now by key = first_refused access (ground_of t) by.seeker now (needed_by by key)

-- `not-found`: a mount took the name in a root meanwhile. Else what is held is still there
abbrev pub end_lost : Tables → LockKey → Option Denial
end_lost t (Node node) = None
end_lost t (Slot folder name) =
    if is_root t.nodes folder && is_some (mount_at t.mounts (owner_of t.nodes folder) name) then Some denial.NotFound else None

-- `limit` and `quota`: the body doesn't fit
abbrev pub end_unfit : Tables → LockKey → ℕ → Option Denial
end_unfit t key length =
    option_or (option_map denial.Limit (limit_at t (pieces_of length) (place_of key)))
    (option_map denial.Quota (excess_at t length (place_of key)))

-- the rules that refuse the End of a PUT, in their order
abbrev pub end_refusal : Access → Tables → ℕ → By → LockKey → ℕ → Option Denial
end_refusal access t now by key length =
    option_or (end_unreached access t now by (node_of_key key))
    (option_or (end_unallowed access t now by key)
    (option_or (end_lost t key) (end_unfit t key length)))

-- the blob of a body: the next one, or none for an empty body
abbrev pub blob_for : ℕ → ℕ → Option ℕ
blob_for next length = if length == 0 then None else Some next

-- the content of a body in its blob
abbrev pub content_in : Option ℕ → List ℕ → ℕ → List Piece
content_in None digest length = []
content_in (Some blob) digest length = record { blob = blob; size = length; digest = digest } ∷ []

-- a new file, whose body is in that blob, and the versions that go for it
abbrev pub stored_new : Tables → NodeRow → Option ℕ → Allowed
stored_new t row blob = allowed.Change (new_file t row) blob report.Made

-- what storing a body does: another content of the file, or a file under the free name. Versions go that are beyond their bound then
abbrev pub stored_at : Tables → ℕ → LockKey → List ℕ → ℕ → Allowed
stored_at t now (Node node) digest length =
    let blob = blob_for t.meta.next_blob length in
    allowed.Change (option_map_or (refilled t now (content_in blob digest length)) (node_row t.nodes node) []) blob Done
stored_at t now (Slot folder name) digest length =
    let blob = blob_for t.meta.next_blob length in stored_new t (new_node t now folder name File (content_in blob digest length)) blob

abbrev pub stores : Access → Tables → ℕ → By → LockKey → List ℕ → ℕ → Result Allowed Denial
stores access t now by key digest length = unless_refused (end_refusal access t now by key length) (stored_at t now key digest length)

-- ---- a chunk

-- `not-found` and `limit`: the upload is gone, or the chunk doesn't fit
abbrev pub chunk_refusal : Tables → ℕ → List ℕ → ℕ → ℕ → Option Denial
chunk_refusal t user dir number length =
    if is_some (upload_row t.uploads user dir) then option_map denial.Limit (chunk_limit t user dir length number) else Some denial.NotFound

-- the row of a chunk, if it is another than the one that is there
abbrev pub chunk_put : Tables → ChunkRow → List Change
chunk_put t row =
    if option_map_or (λ old. content_eq old.content row.content) (chunk_row t.chunks row.user row.dir row.number) false then []
    else Put (rows.Chunk row) ∷ []

-- its upload is touched
abbrev pub touched_row : ℕ → UploadRow → UploadRow
touched_row now row = record row { touched = now }

abbrev pub upload_touched : ℕ → UploadRow → List Change
upload_touched now row = if row.touched == now then [] else Put (rows.Upload (touched_row now row)) ∷ []

abbrev pub chunk_stored : Tables → ℕ → ℕ → List ℕ → ℕ → List ℕ → ℕ → Allowed
chunk_stored t now user dir number digest length =
    let blob = blob_for t.meta.next_blob length in
    let row : ChunkRow = record { user = user; dir = dir; number = number; content = content_in blob digest length } in
    allowed.Change (chunk_put t row ++ option_map_or (upload_touched now) (upload_row t.uploads user dir) []) blob report.Made

abbrev pub stores_chunk : Tables → ℕ → ℕ → List ℕ → ℕ → List ℕ → ℕ → Result Allowed Denial
stores_chunk t now user dir number digest length =
    unless_refused (chunk_refusal t user dir number length) (chunk_stored t now user dir number digest length)

-- what an End may do, by the goal of its seat's ticket and by what shares let their seekers do
abbrev pub ends_goal : Access → Tables → ℕ → Outcome → Goal → Result Allowed Denial
ends_goal access t now Sent goal = Ok allowed.Close
ends_goal access t now Gone goal = Ok allowed.Close
ends_goal access t now (Body digest length) (Serve content) = Ok allowed.Close
ends_goal access t now (Body digest length) (Store by key wanted) = stores access t now by key digest length
ends_goal access t now (Body digest length) (Chunk user dir number wanted) = stores_chunk t now user dir number digest length

-- of a seat that has none, nothing
abbrev pub ends_at : Access → Tables → ℕ → Outcome → Option Goal → Result Allowed Denial
ends_at access t now outcome None = Ok allowed.Close
ends_at access t now outcome (Some goal) = ends_goal access t now outcome goal

abbrev pub end_decision : Access → State → ℕ → ℕ → Outcome → Result Allowed Denial
end_decision access s seat now outcome = ends_at access s.tables now outcome (goal_at s seat)
