-- Where a chunk that is there comes from.
use Rattle.std.specs.Prelude.{◌≡◌, ◌⊎◌, ℕ, List, ◌∷◌, ◌++◌, take, Some, Ok}
use Rattle.nf_base.specs.declared.rows.ChunkRow.{ChunkRow}
use Rattle.nf_words.specs.Prelude.{after, answer_at, blob_for, blob_to, chunk_row, content_in, goal_at, IsLegalFrom, IsSound, replay, State}
use Rattle.nf_words.specs.declared.answer.Goal.TheVariants.{Chunk}
use Rattle.nf_words.specs.declared.answer.Reply.TheVariants.{Made}
use Rattle.nf_words.specs.declared.history.Entry.{Entry}
use Rattle.nf_words.specs.declared.history.Event.TheVariants.{End}
use Rattle.nf_words.specs.declared.history.Outcome.TheVariants.{Body}

-- ---- one entry

-- an entry sends the chunk: the End of a body of the length that its seat was granted to send under that number, answered that it was made.
-- The chunk has the body's content, in the blob that the step stores, which has the next number; an empty body has none
pub record IsSent (s : State) (e : Entry) (row : ChunkRow) : Type 0 where
  pub digest : List ℕ
  pub size : ℕ
  pub granted : goal_at s e.seat ≡ Some (Chunk row.user row.dir row.number size)
  pub brought : e.event ≡ End (Body digest size)
  pub answered : answer_at s e e.mark ≡ Ok Made
  pub blob : blob_to s e.seat e.moment e.event ≡ blob_for s.tables.meta.next_blob size
  pub content : row.content ≡ content_in (blob_for s.tables.meta.next_blob size) digest size

-- ---- a history

-- the chunk of that upload and number has that row
abbrev pub IsThere : State → ChunkRow → Type 0
IsThere s row = chunk_row s.tables.chunks row.user row.dir row.number ≡ Some row

-- so it is from a state on, after each of some entries
abbrev pub Stays : State → List Entry → ChunkRow → Type 0
Stays s es row = (k : ℕ) → IsThere (replay s (take k es)) row

-- one of the entries sent the chunk, and no later one of them replaced or dropped it
pub record WasSent (s : State) (es : List Entry) (row : ChunkRow) : Type 0 where
  pub front : List Entry
  pub entry : Entry
  pub behind : List Entry
  pub parts : es ≡ front ++ entry ∷ behind
  pub sent : IsSent (replay s front) entry row
  pub stays : Stays (after (replay s front) entry) behind row

-- a chunk that is there after a legal history was there from the start on, or was sent since
abbrev pub ChunksWereSent : Type 0
ChunksWereSent =
    (n : ℕ) (s : State) (es : List Entry) (row : ChunkRow) → IsSound s → IsLegalFrom n s es → IsThere (replay s es) row
    → Stays s es row ⊎ WasSent s es row
