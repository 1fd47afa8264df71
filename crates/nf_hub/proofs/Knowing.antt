-- What a seat's memory is to be, apart from the lock's table, and that each turn keeps it.
use Rattle.std.proofs.Common.{◌≡◌, ◌≤◌, refl, ◌∙◌}
use Rattle.std.specs.Prelude.{Bool, is_none}
use Rattle.nf_base.specs.declared.limits.TheConstants.{MAX_SEATS}
use Rattle.nf_desk.specs.Desk.{Served, TakesTurn, book_at, meanings, shown}
use Rattle.nf_keeper.specs.declared.keeper.Keeper.{Ghosts as KeeperOf}
use Rattle.nf_session.specs.Book.{IsBook, held}
use Rattle.nf_turn.specs.Prelude.{Agrees, HasHeard, having_passed, Precedes}
use Rattle.nf_turn.specs.declared.view.Memory.{Memory}
use Rattle.nf_turn.proofs.Preceding.{AllPrecede-trans, Precedes-refl, Precedes-trans}
use Rattle.nf_hub.specs.Seats.{AllWereIdle, book_in}

pub record Knows {K : Type 0} (k : KeeperOf K) (idle : Bool) (m : Memory (Served K)) : Type 0 where
  pub few : m.seats ≤ MAX_SEATS
  pub opened : m.first.start.value ≡ m.first.keeper
  pub last : (meanings k).opening m.last ≡ (meanings k).opening m.first
  pub told : HasHeard (meanings k) m
  pub book_is : IsBook (book_in k m)
  pub flag : idle ≡ is_none (held (book_in k m))
  pub joined : AllWereIdle k m.joined

-- the seat took the desk in its turn, and gave it back so
pub record Turns {K : Type 0} (k : KeeperOf K) (m : Memory (Served K)) (taken given : Served K) : Type 0 where
  pub agrees : Agrees (meanings k) m taken
  pub turn : TakesTurn k m.number taken given

module _ {K : Type 0} (k : KeeperOf K) (m : Memory (Served K)) (taken given : Served K) (turns : Turns k m taken given) where
  rows_same : (meanings k).opening given ≡ (meanings k).opening m.first
  rows_same = turns.turn.alone.keeps.opening ∙ turns.agrees.opening

  known_precedes : Precedes (meanings k) m.known given
  known_precedes =
      Precedes-trans (meanings k) m.known taken given (turns.agrees.known.added, turns.agrees.known.entries)
      (turns.turn.alone.added, turns.turn.alone.entries)

  heard_still : HasHeard (meanings k) m → HasHeard (meanings k) (having_passed given m)
  heard_still told = record {
    fresh = told.fresh;
    opening = rows_same;
    last = Precedes-refl (meanings k) given;
    heard = AllPrecede-trans (meanings k) m.heard m.known given told.heard known_precedes;
    own = refl;
  }

  pub knows_after : (before idle : Bool) → Knows k before m → idle ≡ is_none (held (book_at m.number (shown k given)))
      → Knows k idle (having_passed given m)
  knows_after before idle knows flag = record {
    few = knows.few;
    opened = knows.opened;
    last = rows_same;
    told = heard_still knows.told;
    book_is = record { legal = turns.turn.after.legal; own = refl };
    flag = flag;
    joined = knows.joined;
  }
