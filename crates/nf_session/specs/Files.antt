-- The sending of a file: its head, and its pieces one after the other, each taken as it is sent.
use Rattle.std.specs.Prelude.{◌≡◌, ◌≢◌, ◌⊎◌, ℕ, ◌<◌, Bool, List, [], ◌∷◌, ◌++◌, length, min, take, Option, None, Some, IsSome, Result, Ok, Err, slice_get, Vec}
use Rattle.std.specs.List.{concat}
use Rattle.std.specs.declared.alloc.Global.{Global}
use Rattle.std.specs.Io.KnownBytes.{Appends}
use Rattle.nf_outside.specs.Causes.{Rose}
use Rattle.nf_base.specs.Content.{size_of}
use Rattle.nf_base.specs.declared.content.Piece.{Piece}
use Rattle.nf_words.specs.declared.answer.Goal.TheVariants as goal
use Rattle.nf_dav.specs.Reply.{file_head}
use Rattle.nf_session.specs.Book.{Book, FailsPiece, GivesPiece, IsPiece, Lasts, Waits, held}
use Rattle.nf_session.specs.Steps.{Scene, Wrote, WrotePart}
use Rattle.nf_session.specs.declared.backend.PieceFault.{PieceFault}
use Rattle.nf_session.specs.declared.backend.PieceFault.TheVariants as fault
use Rattle.nf_session.specs.declared.ended.Ended.{Ended}
use Rattle.nf_session.specs.declared.ended.Ended.TheVariants as ended
use Rattle.nf_session.specs.declared.response.Response.{Response}
use Rattle.nf_session.specs.declared.response.Response.TheVariants as response

-- the first pieces of a content have such bytes
abbrev pub HaveBytes : (Piece → List ℕ → Type 0) → List Piece → List (List ℕ) → Type 0
HaveBytes are content [] = Unit {0}
HaveBytes are [] (bytes ∷ given) = ⊥
HaveBytes are (piece ∷ content) (bytes ∷ given) = are piece bytes × HaveBytes are content given

-- the bytes of a piece at some moment between
abbrev pub IsGiven : Book → Book → Piece → List ℕ → Type 0
IsGiven a b piece bytes = (x : Book) × Lasts a x × Lasts x b × IsPiece x piece bytes

-- the bytes of the first pieces of a content, each at some moment between
abbrev pub AreGiven : Book → Book → List Piece → List (List ℕ) → Type 0
AreGiven a b content given = HaveBytes (IsGiven a b) content given

-- the piece that was taken before the head was written; an empty content has none
abbrev pub taken_first : Option (Vec ℕ Global) → List (List ℕ)
taken_first None = []
taken_first (Some first) = first.items ∷ []

-- it is there, and the first of the content's
pub record IsStarted (b : Book) (content : List Piece) (first : Option (Vec ℕ Global)) : Type 0 where
  pub held_is : held b ≡ Some (goal.Serve content)
  pub given : HaveBytes (IsPiece b) content (taken_first first)
  pub count : length (taken_first first) ≡ min 1 (length content)

-- what is held while a response is written
abbrev pub IsResponding : Book → Response → Type 0
IsResponding b (response.File content first) = IsStarted b content first
IsResponding b (response.Lost fault) = IsSome (held b)
IsResponding b (response.Denied refusal) = held b ≡ None
IsResponding b response.Made = held b ≡ None
IsResponding b response.Done = held b ≡ None
IsResponding b (response.Listing lines) = held b ≡ None
IsResponding b (response.Share line) = held b ≡ None
IsResponding b (response.Shares lines) = held b ≡ None
IsResponding b (response.Items lines) = held b ≡ None
IsResponding b (response.Versions lines) = held b ≡ None
IsResponding b response.Plain = held b ≡ None

-- what is written of a file once some of its pieces were given
abbrev pub file_front : Bool → List Piece → List (List ℕ) → List ℕ
file_front close content given = file_head close (size_of content) ++ concat given

-- ---- one piece

-- the piece at an index was given or not, and nothing else was touched
pub record TakesPiece {C : Type 0} (content : List Piece) (index : ℕ) (a b : Scene C)
    (result : Result (Vec ℕ Global) PieceFault) : Type 0 where
  pub only : b ≡ record a { book = b.book }
  pub gives : GivesPiece a.book b.book content index result

abbrev pub SendsPiece : {C T : Type 0} → List Piece → ℕ → Scene C → Scene C → Result T Ended → Type 0
SendsPiece {C} content index a b (Ok sent) =
    (m : Scene C) × (piece : Vec ℕ Global) × TakesPiece content index a m (Ok piece) × Wrote m b piece.items
SendsPiece {C} content index a b (Err ended.WriteFault) =
    (m : Scene C) × (piece : Vec ℕ Global) × TakesPiece content index a m (Ok piece) × WrotePart m b piece.items
SendsPiece content index a b (Err (ended.Cut why)) = TakesPiece content index a b (Err why) × (why ≢ fault.Memory)
SendsPiece content index a b (Err ended.Memory) = TakesPiece content index a b (Err fault.Memory)
SendsPiece content index a b (Err end) = ⊥

-- ---- the file

-- these pieces of the content were given, the first of them before, and nothing else was touched but the output
pub record SendsPieces {C : Type 0} (content : List Piece) (first : Option (Vec ℕ Global))
    (a b : Scene C) (given : List (List ℕ)) : Type 0 where
  pub only : b ≡ record a { book = b.book; output = b.output; write_faults = b.write_faults }
  pub waits : Waits a.book b.book
  pub are_given : AreGiven a.book b.book content given
  pub first_is : (more : List (List ℕ)) × (given ≡ taken_first first ++ more)

-- and written behind the head
pub record WritesPieces {C : Type 0} (close : Bool) (content : List Piece) (first : Option (Vec ℕ Global))
    (a b : Scene C) (given : List (List ℕ)) : Type 0 where
  pub pieces : SendsPieces content first a b given
  pub bytes_are : Appends a.output b.output (file_front close content given)
  pub no_fault : b.write_faults ≡ a.write_faults

-- or a front of that, at a fault of the output
pub record BreaksOff {C : Type 0} (close : Bool) (content : List Piece) (first : Option (Vec ℕ Global))
    (a b : Scene C) (given : List (List ℕ)) : Type 0 where
  pub pieces : SendsPieces content first a b given
  pub count : ℕ
  pub less : count < length (file_front close content given)
  pub bytes_are : Appends a.output b.output (take count (file_front close content given))
  pub cause : Rose a.write_faults b.write_faults
  pub unstruck : b.book.strikes ≡ a.book.strikes

-- the piece behind the given ones wasn't, and that alone is told by the strikes
pub record Lacks {C : Type 0} (content : List Piece) (a b : Scene C) (given : List (List ℕ))
    (why : PieceFault) : Type 0 where
  pub piece : Piece
  pub at_index : slice_get content (length given) ≡ Some piece
  pub failed : FailsPiece a.book b.book piece why

-- a file was sent; or a piece behind the first wasn't given; or there was no memory, for the head or for a piece; or the
-- output failed
abbrev pub SendsFile : {C T : Type 0} → Bool → List Piece → Option (Vec ℕ Global)
    → Scene C → Scene C → Result T Ended → Type 0
SendsFile close content first a b (Ok sent) =
    (given : List (List ℕ)) × WritesPieces close content first a b given × (length given ≡ length content)
    × (b.book.strikes ≡ a.book.strikes)
SendsFile close content first a b (Err (ended.Cut why)) =
    (given : List (List ℕ)) × WritesPieces close content first a b given
    × Lacks content a b given why × (why ≢ fault.Memory)
SendsFile close content first a b (Err ended.Memory) =
    (b ≡ a)
    ⊎ ((given : List (List ℕ)) × WritesPieces close content first a b given × Lacks content a b given fault.Memory)
SendsFile close content first a b (Err ended.WriteFault) =
    (given : List (List ℕ)) × BreaksOff close content first a b given
SendsFile close content first a b (Err end) = ⊥
