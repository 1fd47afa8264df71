-- From the bytes of the PUTs of chunks to the bytes of a later GET.
use Rattle.std.specs.Prelude.{◌≡◌, ℕ, ◌<◌, ◌≤◌, ◌==◌, Bool, not, filter, List, [], ◌∷◌, ◌++◌, length, Option, Ok, IfSome, Vec}
use Rattle.std.specs.List.{AllPairs, concat}
use Rattle.std.specs.Io.KnownBytes.{Appends}
use Rattle.std.specs.declared.alloc.Global.{Global}
use Rattle.sha2.specs.Sha256.{sha256}
use Rattle.nf_base.specs.declared.content.Piece.{Piece}
use Rattle.nf_base.specs.declared.rows.ChunkRow.{ChunkRow}
use Rattle.nf_base.specs.declared.rows.Row.{Row}
use Rattle.nf_dav.specs.Reply.{file_head}
use Rattle.nf_defs.specs.Blobs.{Blobs}
use Rattle.nf_joins.specs.Joined.{content_at, Joins, LeadsTo}
use Rattle.nf_joins.specs.Sent.{IsThere, WasSent}
use Rattle.nf_outside.specs.Lent.{Taken}
use Rattle.nf_session.specs.Prelude.{Bodies, Book, Enters, Lasts, next_blob_of, Scene, state_after, StoresBody, TellsStill, WritesPieces}
use Rattle.nf_session.specs.declared.response.Response.TheVariants as response
use Rattle.nf_words.specs.Prelude.{after, call_of, chunks_of, IsLegal, IsSound, opened, replay}
use Rattle.nf_words.specs.declared.answer.Goal.TheVariants.{Serve}
use Rattle.nf_words.specs.declared.answer.Reply.TheVariants.{Granted}
use Rattle.nf_words.specs.declared.history.Entry.{Entry}
use Rattle.nf_words.specs.declared.history.Event.TheVariants.{Begin}
use Rattle.nf_words.specs.declared.request.Request.{Request}
use Rattle.nf_words.specs.declared.request.Spot.{Spot}
use Rattle.nf_words.specs.declared.request.Wanted.TheVariants as want
use Rattle.nf_words.specs.declared.request.Words.{Words}

-- ---- the PUT of a chunk

-- what the store told by one book it tells by another still: the run has the same opening, and under each number that was given by the first
-- the store tells what it told then, or nothing
pub record TellsOn (a b : Book) : Type 0 where
  pub opening : b.opening ≡ a.opening
  pub next_blob : next_blob_of a ≤ next_blob_of b
  pub told : TellsStill (Unit {0}) (next_blob_of a) a.told b.told

-- so it does by the later books of one seat
abbrev pub OwnTellOn : Type 0
OwnTellOn = (a b : Book) → Lasts a b → TellsOn a b

-- a turn of some seat took the body from the front of its input, brought it to the End of what its seat was granted, and answered that it
-- was made: that is the entry, behind those. What the store tells then it tells by the reader's book still
pub record Brought {C : Type 0} (reads : C → Taken → C → Type 0) (reader : Book) (front : List Entry) (entry : Entry) (body : List ℕ) : Type 0 where
  pub before : Scene C
  pub taken : Scene C
  pub behind : Scene C
  pub size : ℕ
  pub takes : Bodies before taken size body
  pub stores : StoresBody reads body taken behind response.Made
  pub at : taken.book.known ++ stores.3.enters.others ≡ front
  pub entry_is : stores.3.enters.entry ≡ entry
  pub tells : TellsOn behind.book reader

-- an entry sent the chunk, no later one replaced or dropped it, and a turn brought its body
pub record CameWith {C : Type 0} (reads : C → Taken → C → Type 0) (opening : List Row) (reader : Book) (es : List Entry) (row : ChunkRow)
    (body : List ℕ) : Type 0 where
  pub sent : WasSent (opened opening) es row
  pub brought : Brought reads reader sent.front sent.entry body

-- each of the chunks came with the body in its place
abbrev pub Came : {C : Type 0} → (C → Taken → C → Type 0) → List Row → Book → List Entry → List ChunkRow → List (List ℕ) → Type 0
Came reads opening reader es [] [] = Unit {0}
Came reads opening reader es (row ∷ rows) (body ∷ bodies) = CameWith reads opening reader es row body × Came reads opening reader es rows bodies
Came reads opening reader es rows bodies = ⊥

-- ---- the bytes

-- the bytes have the length and SHA-256 digest (FIPS 180-4) of bodies, one by one
abbrev pub AreAlike : List (List ℕ) → List (List ℕ) → Type 0
AreAlike [] [] = Unit {0}
AreAlike (body ∷ bodies) (bytes ∷ given) = (length bytes ≡ length body) × (sha256 bytes ≡ sha256 body) × AreAlike bodies given
AreAlike bodies given = ⊥

-- the bytes of some pieces are those bodies, one after the other: the very bytes, where the store tells them; and whether it does or not each
-- piece is like the body that it is of. An empty body has no piece
pub record AreOfBodies (told : Option Blobs) (bodies given : List (List ℕ)) : Type 0 where
  pub bytes : IfSome told (λ shelf. concat given ≡ concat bodies)
  pub alike : AreAlike (filter (λ body. not (length body == 0)) bodies) given

-- a seat was granted to read a content by its Begin, between two books, and then all pieces of it were given, and written behind their head
pub record ReadsOut {C : Type 0} (a b : Book) (c d : Scene C) (content : List Piece) : Type 0 where
  pub now : ℕ
  pub words : Words
  pub request : Request
  pub enters : Enters a b now (Begin words request) (Ok (Granted (Serve content)))
  pub lasts : Lasts b c.book
  pub close : Bool
  pub first : Option (Vec ℕ Global)
  pub given : List (List ℕ)
  pub writes : WritesPieces close content first c d given
  pub all : length given ≡ length content

-- ---- the run

-- a run in which an upload is joined to a file, and then the file is read
pub record Run {C : Type 0} (reads : C → Taken → C → Type 0) : Type 0 where
  -- the read
  pub a : Book
  pub b : Book
  pub c : Scene C
  pub d : Scene C
  pub content : List Piece
  pub get : ReadsOut a b c d content
  -- the history that the seat knows then is legal, and its opening sound
  pub sound : IsSound (opened a.opening)
  pub legal : IsLegal (opened a.opening) (a.known ++ get.enters.others)
  -- an entry of it joined an upload to a file
  pub front : List Entry
  pub join : Entry
  pub behind : List Entry
  pub parts : a.known ++ get.enters.others ≡ front ++ join ∷ behind
  pub user : ℕ
  pub dir : List ℕ
  pub node : ℕ
  pub joins : Joins (length front) (replay (opened a.opening) front) join user dir node
  -- no chunk of it was there at the opening, and each that was sent since was brought by some seat's turn
  pub fresh : (row : ChunkRow) → row.user ≡ user → row.dir ≡ dir → IsThere (opened a.opening) row → ⊥
  pub brought : (row : ChunkRow) → row.user ≡ user → row.dir ≡ dir → (was : WasSent (opened a.opening) front row)
      → (body : List ℕ) × Brought reads b was.front was.entry body
  -- since the join the content of the file stayed, and the path of the GET leads to it
  pub stays : content_at (state_after a get.enters.others) node ≡ content_at (after (replay (opened a.opening) front) join) node
  pub spot : Spot
  pub wanted : get.request.wanted ≡ want.Get spot
  pub led : LeadsTo (call_of (state_after a get.enters.others) get.enters.entry.seat get.enters.entry.moment get.words get.request) spot node

-- the chunks that the upload had before the join
abbrev pub chunks_joined : {C : Type 0} {reads : C → Taken → C → Type 0} → Run reads → List ChunkRow
chunks_joined run = chunks_of (replay (opened run.a.opening) run.front).tables.chunks run.user run.dir

-- the pieces are the bodies with which the chunks came, by rising number; and where the store tells its bytes, a file of just these was written
pub record IsOfBodies {C : Type 0} (reads : C → Taken → C → Type 0) (run : Run reads) : Type 0 where
  pub rise : AllPairs (λ (a b : ChunkRow). a.number < b.number) (chunks_joined run)
  pub bodies : List (List ℕ)
  pub came : Came reads run.a.opening run.b run.front (chunks_joined run) bodies
  pub pieces : AreOfBodies run.d.book.told bodies run.get.given
  pub written : IfSome run.d.book.told
      (λ shelf. Appends run.c.output run.d.output (file_head run.get.close (length (concat bodies)) ++ concat bodies))

abbrev pub SentIsRead : {C : Type 0} → (C → Taken → C → Type 0) → Type 0
SentIsRead reads = (run : Run reads) → IsOfBodies reads run
