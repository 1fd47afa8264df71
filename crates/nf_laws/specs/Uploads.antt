-- The chunks of an upload that are joined are all of them, by rising number, or nothing is changed.
use Rattle.std.specs.Prelude.{◌≡◌, ◌≢◌, ℕ, ◌<◌, List, [], Option, None, Some, Err, IsOk}
use Rattle.std.specs.List.{AllPairs}
use Rattle.nf_base.specs.declared.content.Piece.{Piece}
use Rattle.nf_base.specs.declared.rows.ChunkRow.{ChunkRow}
use Rattle.nf_base.specs.declared.rows.NodeKind.TheVariants.{File}
use Rattle.nf_base.specs.declared.rows.NodeRow.{NodeRow}
use Rattle.nf_base.specs.declared.rows.Place.TheVariants.{Inside}
use Rattle.nf_defs.specs.Prelude.{node_row, owner_of, Tables}
use Rattle.nf_defs.specs.declared.Found.{Found}
use Rattle.nf_defs.specs.declared.Found.TheVariants.{At, Free, Missing}
use Rattle.nf_laws.specs.Access.{IsThatUpload}
use Rattle.nf_words.specs.Prelude.{after, answer_at, asker_of, Call, call_of, chunk_row, chunks_of, found, IsSound, last_name, MayCome, State, upload_row, whole_of}
use Rattle.nf_words.specs.declared.answer.Denial.{Denial}
use Rattle.nf_words.specs.declared.history.Entry.{Entry}
use Rattle.nf_words.specs.declared.history.Event.TheVariants.{Begin}
use Rattle.nf_words.specs.declared.request.Request.{Request}
use Rattle.nf_words.specs.declared.request.Spot.{Spot}
use Rattle.nf_words.specs.declared.request.UploadAsk.TheVariants as upload
use Rattle.nf_words.specs.declared.request.Wanted.TheVariants as want
use Rattle.nf_words.specs.declared.request.Words.{Words}

-- the node that is a file at a place afterwards: the one that is there, or a new one
abbrev pub file_at : Tables → Found → ℕ
file_at before (At node) = node
file_at before (Free folder) = before.meta.next_node
file_at before (Missing depth) = 0

-- it has that content since now: a file that was there keeps all else, and a new one is in the folder under that name, and is its owner's
abbrev pub HasContent : Tables → List NodeRow → ℕ → List ℕ → List Piece → Found → Type 0
HasContent before after now name content (At node) =
    (row : NodeRow) × (node_row before.nodes node ≡ Some row) × (node_row after node ≡ Some (record row { content = content; changed = now }))
HasContent before after now name content (Free folder) =
    node_row after before.meta.next_node ≡ Some (record {
      id = before.meta.next_node;
      owner = owner_of before.nodes folder;
      place = Inside folder;
      name = name;
      kind = File;
      content = content;
      changed = now;
    })
HasContent before after now name content (Missing depth) = ⊥

-- what the chunks of the caller's upload of that name have, one after the other, by rising number, is the content of the file at the end of the
-- path, and the upload is gone with its chunks. No other node, no other upload and no chunk of another upload is another; of the rest only the
-- meta row and versions are
pub record IsJoined (call : Call) (dir : List ℕ) (spot : Spot) (after : Tables) : Type 0 where
  pub rise : AllPairs (λ (a b : ChunkRow). a.number < b.number) (chunks_of call.state.tables.chunks (asker_of call) dir)
  pub content : HasContent call.state.tables after.nodes call.now (last_name spot) (whole_of call.state.tables.chunks (asker_of call) dir) (found call spot)
  pub nodes : (node : ℕ) → node ≢ file_at call.state.tables (found call spot) → node_row after.nodes node ≡ node_row call.state.tables.nodes node
  pub gone : upload_row after.uploads (asker_of call) dir ≡ None
  pub chunks_gone : chunks_of after.chunks (asker_of call) dir ≡ []
  pub uploads : (user : ℕ) (of : List ℕ) → (IsThatUpload (asker_of call) dir user of → ⊥)
      → upload_row after.uploads user of ≡ upload_row call.state.tables.uploads user of
  pub chunks : (user : ℕ) (of : List ℕ) (number : ℕ) → (IsThatUpload (asker_of call) dir user of → ⊥)
      → chunk_row after.chunks user of number ≡ chunk_row call.state.tables.chunks user of number
  pub rest : after ≡ record call.state.tables {
    meta = after.meta;
    nodes = after.nodes;
    versions = after.versions;
    uploads = after.uploads;
    chunks = after.chunks;
  }

-- so it is where a join is answered that it was done
abbrev pub JoinsAreWhole : Type 0
JoinsAreWhole =
    (n : ℕ) (s : State) (e : Entry) (words : Words) (request : Request) (dir : List ℕ) (spot : Spot) (total : Option ℕ) → IsSound s → MayCome n s e
    → e.event ≡ Begin words request → request.wanted ≡ want.Upload (upload.Join dir spot total) → IsOk (answer_at s e e.mark)
    → IsJoined (call_of s e.seat e.moment words request) dir spot (after s e).tables

-- and where it is refused, or failed, every row is as it was
abbrev pub RefusedJoinsKeep : Type 0
RefusedJoinsKeep =
    (s : State) (e : Entry) (words : Words) (request : Request) (dir : List ℕ) (spot : Spot) (total : Option ℕ) (refusal : Denial)
    → e.event ≡ Begin words request → request.wanted ≡ want.Upload (upload.Join dir spot total) → answer_at s e e.mark ≡ Err refusal
    → (after s e).tables ≡ s.tables
