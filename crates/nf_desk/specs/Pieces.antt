-- What a keeper gives of a piece.
use Rattle.std.specs.Prelude.{◌≡◌, ◌⊎◌, ℕ, ◌-◌, ◌<◌, ◌≤◌, List, length, Option, Some, Result, Ok, Err, slice_get, slice_set, Vec}
use Rattle.std.specs.Option.{IfSome}
use Rattle.std.specs.declared.alloc.Global.{Global}
use Rattle.sha2.specs.Sha256.{sha256}
use Rattle.nf_base.specs.declared.content.Piece.{Piece}
use Rattle.nf_defs.specs.Blobs.{Blobs, blob_at}
use Rattle.nf_keeper.specs.Views.{bytes_in}
use Rattle.nf_keeper.specs.declared.keeper.KeepFault.{KeepFault}
use Rattle.nf_keeper.specs.declared.keeper.KeepFault.TheVariants.{Failed, Memory}
use Rattle.nf_laws.specs.Wholes.{IsThere}
use Rattle.nf_session.specs.Book.{Book, IsDamage, Struck, Waits, WasDamaged, next_blob_of}
use Rattle.nf_session.specs.declared.backend.PieceFault.{PieceFault}
use Rattle.nf_session.specs.declared.backend.PieceFault.TheVariants as fault
use Rattle.nf_words.specs.declared.answer.Damage.{Damage}
use Rattle.nf_words.specs.declared.answer.Measure.{Measure}
use Rattle.nf_desk.specs.Desk.{Shown, book_at, strikes_of}

abbrev pub measure_of : List ℕ → Measure
measure_of bytes = record { length = length bytes; digest = sha256 bytes }

-- those bytes, of the piece's size and digest
pub record IsOfPiece (piece : Piece) (found : Option (List ℕ)) (bytes : List ℕ) : Type 0 where
  pub found_are : found ≡ Some bytes
  pub size : length bytes ≡ piece.size
  pub digest : sha256 bytes ≡ piece.digest

abbrev pub IsMeasured : Piece → Option (List ℕ) → Result (Vec ℕ Global) Damage → Type 0
IsMeasured piece found (Ok bytes) = IsOfPiece piece found bytes.items
IsMeasured piece found (Err damage) = IsDamage piece found damage

-- what was found is what the piece says, or isn't; or nothing was read
abbrev pub IsTested : Piece → Result (Option (Vec ℕ Global)) KeepFault → Result (Vec ℕ Global) PieceFault → Type 0
IsTested piece (Ok found) (Ok bytes) = IsOfPiece piece (bytes_in found) bytes.items
IsTested piece (Ok found) (Err (fault.Damaged damage)) = IsDamage piece (bytes_in found) damage
IsTested piece (Ok found) (Err other) = ⊥
IsTested piece (Err Failed) result = result ≡ Err fault.Store
IsTested piece (Err Memory) result = result ≡ Err fault.Memory

-- ---- reading

-- the keeper tells that of the piece, which is there or was damaged when the desk was opened
pub record TellsFound (b : Book) (piece : Piece) (found : Option (List ℕ)) (shelf : Blobs) : Type 0 where
  pub given : piece.blob < next_blob_of b
  pub there : found ≡ blob_at shelf piece.blob
  pub held : IsThere shelf piece ⊎ WasDamaged b piece

abbrev pub IsRead : Book → Book → Piece → Result (Option (Vec ℕ Global)) KeepFault → Type 0
IsRead a b piece (Ok found) = (b.strikes ≡ a.strikes) × IfSome b.told (TellsFound b piece (bytes_in found))
IsRead a b piece (Err Failed) = Struck a.strikes b.strikes
IsRead a b piece (Err Memory) = b.strikes ≡ a.strikes

-- a failure is a strike of the seat
abbrev pub StrikesSeat : ℕ → List ℕ → List ℕ → Result (Option (Vec ℕ Global)) KeepFault → Type 0
StrikesSeat n before now (Ok found) = now ≡ before
StrikesSeat n before now (Err Failed) = Struck (strikes_of before n) (strikes_of now n)
StrikesSeat n before now (Err Memory) = now ≡ before

-- the seat's strikes rose by one, and no other's
pub record StrikesOne (n : ℕ) (before now : List ℕ) : Type 0 where
  pub struck : Struck (strikes_of before n) (strikes_of now n)
  pub rises : strikes_of before n ≤ strikes_of now n
  pub alone : now ≡ slice_set before (n - 1) (strikes_of now n)

-- what counting it does to the strikes
abbrev pub StrikesBy : ℕ → List ℕ → List ℕ → Result (Option (Vec ℕ Global)) KeepFault → Type 0
StrikesBy n before now (Ok found) = now ≡ before
StrikesBy n before now (Err Failed) = StrikesOne n before now
StrikesBy n before now (Err Memory) = now ≡ before

-- a piece of what the seat with the number n was granted was read, or not
pub record Reads (n : ℕ) (a b : Shown) (content : List Piece) (index : ℕ)
    (result : Result (Option (Vec ℕ Global)) KeepFault) : Type 0 where
  pub waits : Waits (book_at n a) (book_at n b)
  pub piece : Piece
  pub at_index : slice_get content index ≡ Some piece
  pub read : IsRead (book_at n a) (book_at n b) piece result
  pub strikes : StrikesSeat n a.strikes b.strikes result
