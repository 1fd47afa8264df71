-- The bytes that are stored under the numbers of blobs, and what each step keeps of them.
use Rattle.std.specs.Prelude.{◌≡◌, ◌⊎◌, ℕ, ◌<◌, All, Contains, List, length, Option, None, Some}
use Rattle.sha2.specs.Sha256.{sha256}
use Rattle.nf_base.specs.declared.content.Piece.{Piece}
use Rattle.nf_base.specs.declared.rows.Row.{Row}
use Rattle.nf_defs.specs.Blobs.{Blobs, blob_at, with_blob}
use Rattle.nf_words.specs.Prelude.{after, blob_to, contents_of, IsSound, MayCome, opened, row_content, State}
use Rattle.nf_words.specs.declared.answer.Goal.{Goal}
use Rattle.nf_words.specs.declared.answer.Goal.TheVariants.{Chunk, Serve, Store}
use Rattle.nf_words.specs.declared.history.Entry.{Entry}
use Rattle.nf_words.specs.declared.history.Event.{Event}
use Rattle.nf_words.specs.declared.history.Event.TheVariants.{Begin, End, Sweep}
use Rattle.nf_words.specs.declared.history.Mark.{Mark}
use Rattle.nf_words.specs.declared.history.Mark.TheVariants as mark
use Rattle.nf_words.specs.declared.history.Outcome.TheVariants.{Sent, Gone, Body}
use Rattle.nf_words.specs.declared.history.Ticket.{Ticket}

-- ---- whole

-- bytes of the piece's size and SHA-256 digest (FIPS 180-4) are there
pub record IsThere (blobs : Blobs) (piece : Piece) : Type 0 where
  pub bytes : List ℕ
  pub there : blob_at blobs piece.blob ≡ Some bytes
  pub size : length bytes ≡ piece.size
  pub digest : sha256 bytes ≡ piece.digest

-- one of the rows names the piece, of whatever kind it is
pub record IsNamed (rows : List Row) (piece : Piece) : Type 0 where
  pub row : Row
  pub among : Contains rows row
  pub named : Contains (row_content row) piece

-- a piece that the rows of the opening name, and whose bytes the store hadn't then
pub record IsDamaged (opening : List Row) (blobs : Blobs) (piece : Piece) : Type 0 where
  pub named : IsNamed opening piece
  pub broken : IsThere blobs piece → ⊥

-- it is there, but for what was damaged when the store had the blobs of the start
abbrev pub IsHeld : List Row → Blobs → Blobs → Piece → Type 0
IsHeld opening start blobs piece = IsThere blobs piece ⊎ IsDamaged opening start piece

abbrev pub IsGoalHeld : List Row → Blobs → Blobs → Goal → Type 0
IsGoalHeld opening start blobs (Serve content) = All (IsHeld opening start blobs) content
IsGoalHeld opening start blobs (Store by key length) = Unit {0}
IsGoalHeld opening start blobs (Chunk user dir number length) = Unit {0}

-- whole for a state, but for what was damaged at the start: each piece that a row or a granted GET names is there
pub record IsWhole (opening : List Row) (start : Blobs) (s : State) (blobs : Blobs) : Type 0 where
  pub rows : All (All (IsHeld opening start blobs)) (contents_of s.tables)
  pub tickets : All (λ (ticket : Ticket). IsGoalHeld opening start blobs ticket.goal) s.tickets

-- nothing that the rows name is damaged
abbrev pub IsSafe : List Row → Blobs → Type 0
IsSafe opening blobs = (piece : Piece) → IsNamed opening piece → IsThere blobs piece

-- any blobs are whole for the rows that a run is opened with, but for what is damaged then
abbrev pub OpensWhole : Type 0
OpensWhole = (rows : List Row) (blobs : Blobs) → IsWhole rows blobs (opened rows) blobs

-- ---- a step

-- the event brings these bytes, if it brings any
abbrev pub Brings : List ℕ → Event → Type 0
Brings body (Begin words request) = Unit {0}
Brings body (End Sent) = Unit {0}
Brings body (End Gone) = Unit {0}
Brings body (End (Body digest size)) = (digest ≡ sha256 body) × (size ≡ length body)
Brings body Sweep = Unit {0}

-- the blob that an entry stores
abbrev pub blob_under : State → Entry → Mark → Option ℕ
blob_under s e mark.Answered = blob_to s e.seat e.moment e.event
blob_under s e mark.Store = None
blob_under s e mark.Memory = None

abbrev pub blob_in : State → Entry → Option ℕ
blob_in s e = blob_under s e e.mark

-- blobs that are whole are whole after each entry, with the bytes that it brings under the number that it stores them at
abbrev pub StaysWhole : Type 0
StaysWhole =
    (n : ℕ) (s : State) (e : Entry) (body : List ℕ) (opening : List Row) (start blobs : Blobs)
    → IsSound s → MayCome n s e → Brings body e.event → IsWhole opening start s blobs
    → IsWhole opening start (after s e) (with_blob blobs (blob_in s e) body)

-- that number is the next, and every number that is given stays as it was
pub record BlobsAreNew : Type 0 where
  pub next : (n : ℕ) (s : State) (e : Entry) (id : ℕ) → IsSound s → MayCome n s e → blob_in s e ≡ Some id
      → (id ≡ s.tables.meta.next_blob) × (id < (after s e).tables.meta.next_blob)
  pub same : (n : ℕ) (s : State) (e : Entry) (body : List ℕ) (blobs : Blobs) (id : ℕ) → IsSound s → MayCome n s e
      → id < s.tables.meta.next_blob → blob_at (with_blob blobs (blob_in s e) body) id ≡ blob_at blobs id
  pub stored : (s : State) (e : Entry) (body : List ℕ) (blobs : Blobs) (id : ℕ) → blob_in s e ≡ Some id
      → blob_at (with_blob blobs (blob_in s e) body) id ≡ Some body
