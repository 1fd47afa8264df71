-- What a file that chunks were joined to is read as.
use Rattle.std.specs.Prelude.{◌≡◌, ℕ, ◌+◌, List, Option, option_map, Ok, IsOk}
use Rattle.nf_base.specs.declared.content.Piece.{Piece}
use Rattle.nf_defs.specs.Prelude.{node_row}
use Rattle.nf_laws.specs.Access.{IsReadableFile, LeadsBy}
use Rattle.nf_laws.specs.Uploads.{file_at}
use Rattle.nf_words.specs.Prelude.{after, answer_at, answer_to, asker_of, Call, call_of, found, IsLegalFrom, IsSound, MayCome, MayWant, mount_of, replay, State, whole_of}
use Rattle.nf_words.specs.declared.answer.Goal.TheVariants.{Serve}
use Rattle.nf_words.specs.declared.answer.Reply.TheVariants.{Granted}
use Rattle.nf_words.specs.declared.history.Entry.{Entry}
use Rattle.nf_words.specs.declared.history.Event.TheVariants.{Begin}
use Rattle.nf_words.specs.declared.request.Request.{Request}
use Rattle.nf_words.specs.declared.request.Spot.{Spot}
use Rattle.nf_words.specs.declared.request.UploadAsk.TheVariants as upload
use Rattle.nf_words.specs.declared.request.Wanted.TheVariants as want
use Rattle.nf_words.specs.declared.request.Words.{Words}

-- ---- the join

-- an entry joins the caller's upload of that name to a file, and is answered that it was made or done
pub record Joins (n : ℕ) (s : State) (e : Entry) (user : ℕ) (dir : List ℕ) (node : ℕ) : Type 0 where
  pub sound : IsSound s
  pub may : MayCome n s e
  pub words : Words
  pub request : Request
  pub spot : Spot
  pub total : Option ℕ
  pub begins : e.event ≡ Begin words request
  pub wanted : request.wanted ≡ want.Upload (upload.Join dir spot total)
  pub done : IsOk (answer_at s e e.mark)
  pub by_user : user ≡ asker_of (call_of s e.seat e.moment words request)
  pub to_node : node ≡ file_at s.tables (found (call_of s e.seat e.moment words request) spot)

-- ---- what is read

-- the content of a node, if it is there
abbrev pub content_at : State → ℕ → Option (List Piece)
content_at s node = option_map (λ row. row.content) (node_row s.tables.nodes node)

-- the path leads there, by the mount that it goes by, if it goes by one
abbrev pub LeadsTo : Call → Spot → ℕ → Type 0
LeadsTo call spot node = LeadsBy call spot (mount_of call spot) node

-- each GET of the file is granted that content: of whoever may read it, by whatever path; and no GET whose path leads there is granted another
pub record IsReadAs (s : State) (node : ℕ) (content : List Piece) : Type 0 where
  pub is_granted : (seat now : ℕ) (words : Words) (request : Request) (other : List Piece)
      → (file : IsReadableFile (call_of s seat now words request) other) → file.row.id ≡ node
      → answer_to s seat now (Begin words request) ≡ Ok (Granted (Serve content))
  pub is_all : (seat now : ℕ) (words : Words) (request : Request) (spot : Spot) (other : List Piece) → MayWant request
      → request.wanted ≡ want.Get spot
      → LeadsTo (call_of s seat now words request) spot node
      → answer_to s seat now (Begin words request) ≡ Ok (Granted (Serve other)) → other ≡ content

-- what the chunks had, one after the other by rising number, is what the file is read as after whatever entries that leave its content
abbrev pub JoinedIsRead : Type 0
JoinedIsRead =
    (n : ℕ) (s : State) (e : Entry) (es : List Entry) (user : ℕ) (dir : List ℕ) (node : ℕ) → Joins n s e user dir node
    → IsLegalFrom (n + 1) (after s e) es → content_at (replay (after s e) es) node ≡ content_at (after s e) node
    → IsReadAs (replay (after s e) es) node (whole_of s.tables.chunks user dir)
