-- The pieces of what a seat was granted.
use Rattle.std.proofs.Common.{◌≡◌, ◌⊎◌, ⊎_elim, ℕ, ◌<◌, ◌≤◌, ◌==◌, inl, inr, List, length, Result, Ok, Err, refl, sym, ap, subst, ◌∙◌}
use Rattle.std.specs.Prelude.{Option, None, Some, IfOk, option_map, slice_get, Vec}
use Rattle.std.specs.declared.alloc.Global.{Global}
use Rattle.std.specs.List.{All}
use Rattle.std.specs.Option.{IfSome}
use Rattle.std.proofs.lemmas.List.Elements.{All-get_or}
use Rattle.std.proofs.lemmas.Option.{IfSome_then, get_or_from_slice_get, same_Some, slice_get_within}
use Rattle.nf_base.specs.declared.content.Piece.{Piece}
use Rattle.nf_defs.specs.Blobs.{Blobs, blob_at}
use Rattle.nf_keeper.specs.Keeping.{Counts, IsTold}
use Rattle.nf_keeper.specs.Views.{bytes_in}
use Rattle.nf_keeper.specs.declared.keeper.KeepFault.{KeepFault}
use Rattle.nf_keeper.specs.declared.keeper.KeepFault.TheVariants.{Failed, Memory}
use Rattle.nf_laws.specs.Wholes.{IsGoalHeld, IsHeld, IsThere}
use Rattle.nf_session.specs.Book.{Book, Differs, GivesOrFails, GivesPiece, IsDamage, TellsDamage, TellsPiece, WasDamaged, held, measured, next_blob_of}
use Rattle.nf_session.proofs.Lasting.{there_differs}
use Rattle.nf_session.specs.declared.backend.PieceFault.{PieceFault}
use Rattle.nf_session.specs.declared.backend.PieceFault.TheVariants as fault
use Rattle.nf_site.specs.Kept.{IsHistory}
use Rattle.nf_told.specs.Told.{Told}
use Rattle.nf_words.proofs.Ends.{goal_sound}
use Rattle.nf_words.proofs.Found.{found_has}
use Rattle.nf_words.specs.Prelude.{IsGoalSound, IsPieceSound, IsSound, ticket_of}
use Rattle.nf_words.specs.declared.answer.Damage.{Damage}
use Rattle.nf_words.specs.declared.answer.Goal.{Goal}
use Rattle.nf_words.specs.declared.answer.Goal.TheVariants.{Serve}
use Rattle.nf_words.specs.declared.history.Ticket.{Ticket}
use Rattle.nf_desk.specs.Desk.{IsCounted, IsDesk, Shown, TellsSite, blobs_in, book_at, failures, failures_of}
use Rattle.nf_desk.specs.Pieces.{IsRead, IsTested, Reads, StrikesBy, StrikesSeat, TellsFound}
use Rattle.nf_desk.proofs.Counting.{GoesOn, failed, failures_of_struck, failures_struck, risen_struck, strike, unfailed}
use Rattle.nf_desk.proofs.Desks.{held_is}
use Rattle.nf_desk.proofs.Entering.{next_again, waits}

-- ---- what is true of each goal is true of the piece

piece_has : (P : Piece → Type 0) (content : List Piece) (index : ℕ) (piece : Piece) → slice_get content index ≡ Some piece → All P content → P piece
piece_has P content index piece at all =
    subst P (get_or_from_slice_get content index piece piece at)
    (All-get_or P content index piece (slice_get_within content index piece at) all)

goal_has : (seat : ℕ) (a : Shown) (P : Goal → Type 0) (goal : Goal) → IsHistory a.site → held (book_at seat a) ≡ Some goal
    → All (λ (ticket : Ticket). P ticket.goal) a.site.state.tickets → P goal
goal_has seat a P goal h holds all =
    subst (λ (o : Option Goal). IfSome o P) (sym (held_is seat a h) ∙ holds)
    (here (ticket_of a.site.state seat)
    (found_has (λ (ticket : Ticket). P ticket.goal) (λ ticket. ticket.seat == seat) a.site.state.tickets all))
  where
    here : (o : Option Ticket) → IfSome o (λ (ticket : Ticket). P ticket.goal) → IfSome (option_map (λ ticket. ticket.goal) o) P
    here None none = tt
    here (Some ticket) is = is

piece_given : (seat : ℕ) (a : Shown) (content : List Piece) (index : ℕ) (piece : Piece) → IsHistory a.site → IsSound a.site.state
    → held (book_at seat a) ≡ Some (Serve content) → slice_get content index ≡ Some piece → piece.blob < a.site.state.tables.meta.next_blob
piece_given seat a content index piece h sound holds at =
    let t = a.site.state.tables in
    (piece_has (IsPieceSound t) content index piece at
    (subst (λ (o : Option Goal). IfSome o (IsGoalSound t)) (sym (held_is seat a h) ∙ holds) (goal_sound a.site.state seat sound))).given

-- so it is there, or was damaged at the start
piece_held : (seat : ℕ) (a : Shown) (content : List Piece) (index : ℕ) (piece : Piece) (told : Option Told) → IsHistory a.site
    → held (book_at seat a) ≡ Some (Serve content) → slice_get content index ≡ Some piece
    → IfSome told (TellsSite (blobs_in a.start.told) a.site)
    → IfSome told (λ told. IsThere told.blobs piece ⊎ WasDamaged (book_at seat a) piece)
piece_held seat a content index piece None h holds at tells = tt
piece_held seat a content index piece (Some told) h holds at tells =
    ⊎_elim (λ there. inl there) (λ damaged. inr (record { begun = tells.begun; tells = tells.at_start; damaged = damaged }))
    (piece_has (IsHeld a.site.opening tells.begun told.blobs) content index piece at
    (goal_has seat a (IsGoalHeld a.site.opening tells.begun told.blobs) (Serve content) h holds tells.whole.tickets))

-- ---- what is read

found_told : (b : Book) (piece : Piece) (found : Option (List ℕ)) (told : Option Told) → piece.blob < next_blob_of b
    → IsTold told piece.blob found
    → IfSome told (λ told. IsThere told.blobs piece ⊎ WasDamaged b piece) → IfSome (blobs_in told) (TellsFound b piece found)
found_told b piece found None given is holds = tt
found_told b piece found (Some told) given is holds = record { given = given; there = is; held = holds }

-- a seat that has strikes
abbrev pub HasStrikes : ℕ → Shown → Type 0
HasStrikes seat a = (0 < seat) × (seat ≤ length a.strikes)

-- the desk after a call of the keeper
abbrev pub counted_on : Shown → ℕ → List ℕ → Shown
counted_on a faults strikes = record a { faults = faults; strikes = strikes }

same_strikes : (seat : ℕ) (a : Shown) (faults : ℕ) (strikes : List ℕ) → strikes ≡ a.strikes
    → (book_at seat (counted_on a faults strikes)).strikes ≡ (book_at seat a).strikes
same_strikes seat a faults strikes same = ap (λ (z : List ℕ). (book_at seat (counted_on a faults z)).strikes) same

pub read_goes : (seat : ℕ) (a : Shown) (faults : ℕ) (strikes : List ℕ) (result : Result (Option (Vec ℕ Global)) KeepFault)
    → HasStrikes seat a → IsCounted a → Counts a.faults faults result → StrikesBy seat a.strikes strikes result
    → GoesOn seat a (counted_on a faults strikes)
read_goes seat a faults strikes (Err Failed) has counted counts by =
    let one = strike seat a.strikes strikes has.0 has.1 by in
    failed seat a a.site a.told faults strikes counted (failures_struck a faults strikes seat one) (failures_of_struck a faults strikes seat one)
    counts.0 counts.1
read_goes seat a faults strikes other has counted counts by =
    unfailed seat a a.site a.told faults strikes counted (ap (λ (z : List ℕ). failures (counted_on a faults z)) by)
    (ap (λ (z : List ℕ). failures_of seat (counted_on a faults z)) by) counts

-- what the keeper tells of it, where it found that
abbrev pub Tells : ℕ → Shown → ℕ → List ℕ → Piece → Option (List ℕ) → Type 0
Tells seat a faults strikes piece found =
    IfSome (blobs_in a.told) (TellsFound (book_at seat (counted_on a faults strikes)) piece found)

is_read : (seat : ℕ) (a : Shown) (faults : ℕ) (strikes : List ℕ) (piece : Piece) (result : Result (Option (Vec ℕ Global)) KeepFault)
    → HasStrikes seat a → ((found : Option (List ℕ)) → IsTold a.told piece.blob found → Tells seat a faults strikes piece found)
    → IfOk result (λ bytes. IsTold a.told piece.blob (bytes_in bytes)) → StrikesBy seat a.strikes strikes result
    → IsRead (book_at seat a) (book_at seat (counted_on a faults strikes)) piece result
is_read seat a faults strikes piece (Ok found) has tells told by = (same_strikes seat a faults strikes by, tells (bytes_in found) told)
is_read seat a faults strikes piece (Err Failed) has tells told by =
    risen_struck a.start.faults (failures_of seat a) (failures_of seat (counted_on a faults strikes)) (failures_of_struck a faults strikes seat (strike seat a.strikes strikes has.0 has.1 by))
is_read seat a faults strikes piece (Err Memory) has tells told by = same_strikes seat a faults strikes by

strikes_seat : (seat : ℕ) (strikes more : List ℕ) (result : Result (Option (Vec ℕ Global)) KeepFault) → StrikesBy seat strikes more result
    → StrikesSeat seat strikes more result
strikes_seat seat strikes more (Err Failed) by = by.struck
strikes_seat seat strikes more other by = by

pub reads : (seat : ℕ) (a : Shown) (faults : ℕ) (strikes : List ℕ) (content : List Piece) (index : ℕ) (piece : Piece)
    (result : Result (Option (Vec ℕ Global)) KeepFault)
    → HasStrikes seat a → IsHistory a.site → IsSound a.site.state → IsDesk a → held (book_at seat a) ≡ Some (Serve content)
    → slice_get content index ≡ Some piece → IfOk result (λ bytes. IsTold a.told piece.blob (bytes_in bytes)) → Counts a.faults faults result → StrikesBy seat a.strikes strikes result
    → Reads seat a (counted_on a faults strikes) content index result
reads seat a faults strikes content index piece result has h sound desk holds at told counts by = record {
  waits = waits seat a.site a.site (blobs_in a.start.told) a.told a.told
      (book_at seat a).strikes (book_at seat (counted_on a faults strikes)).strikes refl refl
      (read_goes seat a faults strikes result has desk.counted counts by).rises;
  piece = piece;
  at_index = at;
  read = is_read seat a faults strikes piece result has
      (λ found is.
      found_told (book_at seat (counted_on a faults strikes)) piece found a.told
      (subst (λ (n : ℕ). piece.blob < n) (sym (next_again a.site h)) (piece_given seat a content index piece h sound holds at))
      is (piece_held seat (counted_on a faults strikes) content index piece a.told h holds at desk.told))
      told by;
  strikes = strikes_seat seat a.strikes strikes result by;
}

-- ---- what is given of it

held_damaged : (b : Book) (shelf : Blobs) (piece : Piece) (damage : Damage) → damage.found ≡ measured (blob_at shelf piece.blob)
    → Differs piece damage
    → IsThere shelf piece ⊎ WasDamaged b piece → WasDamaged b piece
held_damaged b shelf piece damage found differs (inl there) = absurd (there_differs shelf piece damage found differs there)
held_damaged b shelf piece damage found differs (inr damaged) = damaged

tells_piece : (b : Book) (piece : Piece) (found : Option (List ℕ)) (bytes : List ℕ) → found ≡ Some bytes
    → (shelf : Blobs) → TellsFound b piece found shelf → TellsPiece b piece bytes shelf
tells_piece b piece found bytes same shelf tells = record { given = tells.given; there = sym tells.there ∙ same }

tells_damage : (b : Book) (piece : Piece) (found : Option (List ℕ)) (damage : Damage) → IsDamage piece found damage
    → (shelf : Blobs) → TellsFound b piece found shelf → TellsDamage b piece damage shelf
tells_damage b piece found damage differs shelf tells =
    let is = differs.found_is ∙ ap measured tells.there in
    record { damaged = held_damaged b shelf piece damage is differs.differs tells.held; found = is }

gives_or_fails : (a b : Book) (piece : Piece) (read : Result (Option (Vec ℕ Global)) KeepFault)
    (result : Result (Vec ℕ Global) PieceFault)
    → IsRead a b piece read → IsTested piece read result → GivesOrFails a b piece result
gives_or_fails a b piece (Ok found) (Ok bytes) read tested = (
  record {
    size = tested.size;
    digest = tested.digest;
    told = IfSome_then b.told read.1 (tells_piece b piece (bytes_in found) bytes.items tested.found_are);
  },
  read.0,
)
gives_or_fails a b piece (Ok found) (Err (fault.Damaged damage)) read tested =
    (read.0, (bytes_in found, tested), IfSome_then b.told read.1 (tells_damage b piece (bytes_in found) damage tested))
gives_or_fails a b piece (Ok found) (Err other) read tested = absurd tested
gives_or_fails a b piece (Err Failed) result read tested = subst (GivesOrFails a b piece) (sym tested) read
gives_or_fails a b piece (Err Memory) result read tested = subst (GivesOrFails a b piece) (sym tested) read

-- what was read of a piece and then tested is given
pub gives_piece : (seat : ℕ) (a b : Shown) (content : List Piece) (index : ℕ) (piece : Piece) (read : Result (Option (Vec ℕ Global)) KeepFault)
    (result : Result (Vec ℕ Global) PieceFault)
    → Reads seat a b content index read → slice_get content index ≡ Some piece → IsTested piece read result
    → GivesPiece (book_at seat a) (book_at seat b) content index result
gives_piece seat a b content index piece read result reads at tested = record {
  waits = reads.waits;
  piece = piece;
  at_index = at;
  given = gives_or_fails (book_at seat a) (book_at seat b) piece read result
      (subst (λ (z : Piece). IsRead (book_at seat a) (book_at seat b) z read)
      (same_Some reads.piece piece (sym reads.at_index ∙ at)) reads.read) tested;
}
