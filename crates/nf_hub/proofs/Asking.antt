-- What a call for a piece does beside what it gives.
use Rattle.std.proofs.Common.{◌≡◌, ℕ, List, sym, ap, ◌∙◌, subst, Result, Ok, Err}
use Rattle.std.specs.Prelude.{Option, None, Some, Vec, is_some, slice_get}
use Rattle.std.specs.Option.{IfSome}
use Rattle.std.proofs.lemmas.Option.{IfSome_then, same_Some}
use Rattle.std.specs.declared.alloc.Global.{Global}
use Rattle.std.specs.declared.snapshot.Snapshot.{Snapshot}
use Rattle.nf_base.specs.declared.content.Piece.{Piece}
use Rattle.nf_base.specs.declared.rows.Row.{Row}
use Rattle.nf_defs.specs.Blobs.{Blobs}
use Rattle.nf_desk.specs.Desk.{Served, blobs_in, book_at, meanings, shown, strikes_of}
use Rattle.nf_desk.specs.Pieces.{IsTested, Reads, StrikesSeat}
use Rattle.nf_desk.proofs.Giving.{gives_piece}
use Rattle.nf_keeper.specs.declared.keeper.KeepFault.{KeepFault}
use Rattle.nf_keeper.specs.declared.keeper.KeepFault.TheVariants.{Failed, Memory}
use Rattle.nf_keeper.specs.declared.keeper.Keeper.{Ghosts as KeeperOf}
use Rattle.nf_laws.specs.Wholes.{IsDamaged}
use Rattle.nf_session.specs.Book.{Book, GivesOrFails, GivesPiece, Struck, TellsDamage, TellsPiece, TellsStill}
use Rattle.nf_session.specs.declared.backend.PieceFault.{PieceFault}
use Rattle.nf_session.specs.declared.backend.PieceFault.TheVariants as fault
use Rattle.nf_turn.specs.Prelude.{Agrees, having_passed, seen_shelf}
use Rattle.nf_turn.specs.declared.view.Memory.{Memory as MemoryOf}
use Rattle.nf_words.specs.declared.answer.Damage.{Damage}
use Rattle.nf_hub.specs.Calls.{AsksPiece, Shelves, ShelvesPiece, StrikesPiece, WasDamaged}
use Rattle.nf_hub.specs.Seats.{blobs_at_start, strikes_in}
use Rattle.nf_hub.proofs.Telling.{had_same, seen_now, tells_where, where_told}

-- ---- strikes

strikes_piece : (n before : ℕ) (was now : List ℕ) (piece : Piece) (read : Result (Option (Vec ℕ Global)) KeepFault)
    (result : Result (Vec ℕ Global) PieceFault) → strikes_of was n ≡ before → StrikesSeat n was now read → IsTested piece read result
    → StrikesPiece before (strikes_of now n) result
strikes_piece n before was now piece (Ok found) (Ok bytes) same struck tested = ap (λ (l : List ℕ). strikes_of l n) struck ∙ same
strikes_piece n before was now piece (Ok found) (Err (fault.Damaged damage)) same struck tested = ap (λ (l : List ℕ). strikes_of l n) struck ∙ same
strikes_piece n before was now piece (Ok found) (Err other) same struck tested = absurd tested
strikes_piece n before was now piece (Err Failed) result same struck tested =
    subst (λ (r : Result (Vec ℕ Global) PieceFault). StrikesPiece before (strikes_of now n) r) (sym tested)
    (subst (λ (z : ℕ). Struck z (strikes_of now n)) same struck)
strikes_piece n before was now piece (Err Memory) result same struck tested =
    subst (λ (r : Result (Vec ℕ Global) PieceFault). StrikesPiece before (strikes_of now n) r) (sym tested)
    (ap (λ (l : List ℕ). strikes_of l n) struck ∙ same)

-- ---- what is damaged

-- what is damaged now was so at the start, where the store tells now exactly where it told then
damaged_first : (b : Book) (piece : Piece) (damage : Damage) (now start : Option Blobs) → is_some now ≡ is_some start → b.start ≡ start
    → IfSome now (TellsDamage b piece damage) → IfSome start (λ begun. IsDamaged b.opening begun piece)
damaged_first b piece damage None None same is damaged = tt
damaged_first b piece damage None (Some begun) same is damaged = absurd (cc)
damaged_first b piece damage (Some shelf) None same is damaged = absurd (cc)
damaged_first b piece damage (Some shelf) (Some begun) same is damaged =
    let was = damaged.damaged in
    subst (λ (blobs : Blobs). IsDamaged b.opening blobs piece) (same_Some was.begun begun (sym was.tells ∙ is)) was.damaged

was_damaged : (a b : Book) (start : Option Blobs) (piece : Piece) (result : Result (Vec ℕ Global) PieceFault)
    → is_some b.told ≡ is_some start
    → b.start ≡ start → GivesOrFails a b piece result → WasDamaged b.opening start piece result
was_damaged a b start piece (Err (fault.Damaged damage)) same is given = damaged_first b piece damage b.told start same is given.2
was_damaged a b start piece other same is given = tt

-- ---- a call

module _ {K : Type 0} (k : KeeperOf K) (m : MemoryOf (Served K)) (taken given : Served K) (agrees : Agrees (meanings k) m taken)
    (begun : m.first.start.value ≡ m.first.keeper) where
  start_same : taken.start ≡ m.first.start
  start_same = ap (λ (o : List Row × Snapshot K). o.1) agrees.opening

  -- the store tells exactly where it told at the start
  pub tells_since : (cause : Type 0) (next : ℕ) → TellsStill cause next (blobs_in (k.told taken.keeper)) (blobs_in (k.told given.keeper))
      → is_some (blobs_in (k.told given.keeper)) ≡ is_some (blobs_at_start k m)
  tells_since cause next still =
      tells_where cause (k.told m.first.keeper) (k.told taken.keeper) (k.told given.keeper) m.first.site.kept taken.site.kept next
      agrees.tells still
      ∙ ap (λ (keeper : K). is_some (blobs_in (k.told keeper))) (sym begun)

  module _ (content : List Piece) (index : ℕ) (read : Result (Option (Vec ℕ Global)) KeepFault)
      (reads : Reads m.number (shown k taken) (shown k given) content index read) where
    abbrev before : Book
    before = book_at m.number (shown k taken)

    abbrev after : Book
    after = book_at m.number (shown k given)

    same_telling : is_some (blobs_in (k.told given.keeper)) ≡ is_some (blobs_at_start k m)
    same_telling = tells_since _ _ reads.waits.lasts.told

    shelves_piece : (result : Result (Vec ℕ Global) PieceFault) → GivesOrFails before after reads.piece result
        → ShelvesPiece k m (having_passed given m) reads.piece result
    shelves_piece (Err why) given = tt
    shelves_piece (Ok bytes) gives =
        let x = taken.site.kept in
        let y = given.site.kept in
        let id = reads.piece.blob in
        where_told (blobs_in (k.told given.keeper)) (blobs_at_start k m) (Shelves k m (having_passed given m) id bytes.items) same_telling
        (λ some.
        let shows = IfSome_then (blobs_in (k.told given.keeper)) gives.0.told (λ (shelf : Blobs) (tells : TellsPiece after reads.piece bytes.items shelf). (tells.given, tells.there)) in
        record {
          has = seen_now y (k.told given.keeper) (seen_shelf (meanings k) m id) id bytes.items some shows;
          had = λ old seen. had_same _ x y (k.told taken.keeper) (k.told given.keeper) id old bytes.items some shows reads.waits.lasts.told
              (agrees.shelf id old seen);
        })

    pub asks_piece : (piece : Piece) (result : Result (Vec ℕ Global) PieceFault) → slice_get content index ≡ Some piece → IsTested piece read result
        → AsksPiece k m (having_passed given m) content index result
    asks_piece piece result at tested = record {
      piece = reads.piece;
      at_index = reads.at_index;
      strikes = strikes_piece m.number (strikes_in m) taken.strikes given.strikes reads.piece read result agrees.strikes reads.strikes tested_so;
      damaged =
          subst (λ (l : List Row). WasDamaged l (blobs_at_start k m) reads.piece result) rows
          (was_damaged before after (blobs_at_start k m) reads.piece result same_telling
          (reads.waits.lasts.start ∙ ap (λ (s : Snapshot K). blobs_in (k.told s.value)) start_same) given_so);
      shelved = shelves_piece result given_so;
    }
      where
        tested_so : IsTested reads.piece read result
        tested_so = subst (λ (z : Piece). IsTested z read result) (same_Some piece reads.piece (sym at ∙ reads.at_index)) tested

        gives : GivesPiece before after content index result
        gives = gives_piece m.number (shown k taken) (shown k given) content index piece read result reads at tested

        given_so : GivesOrFails before after reads.piece result
        given_so = subst (λ (z : Piece). GivesOrFails before after z result) (same_Some gives.piece reads.piece (sym gives.at_index ∙ reads.at_index)) gives.given

        rows : after.opening ≡ m.first.site.kept.opening
        rows = reads.waits.lasts.opening ∙ ap (λ (o : List Row × Snapshot K). o.0) agrees.opening
