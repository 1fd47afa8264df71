-- What a session through a visit says of the hub and the seat.
use Rattle.std.proofs.Common.{◌≡◌, ℕ, ◌<◌, List, sym, ap, subst, ◌∙◌}
use Rattle.std.specs.Prelude.{Option, Some}
use Rattle.std.specs.Borrow.{Bor}
use Rattle.std.specs.declared.snapshot.Snapshot.{Snapshot}
use Rattle.nf_base.specs.declared.limits.TheConstants.{MAX_ENTRIES}
use Rattle.nf_base.specs.declared.rows.Row.{Row}
use Rattle.nf_desk.specs.Desk.{Served}
use Rattle.nf_hub.specs.Seats.{book, memory_of, steady}
use Rattle.nf_hub.specs.Visiting.{Visiting}
use Rattle.nf_hub.specs.declared.hub.HubOf.{HubOf}
use Rattle.nf_hub.specs.declared.seat.SeatOf.{SeatOf}
use Rattle.nf_keeper.specs.declared.keeper.Keeper.{Ghosts as KeeperOf}
use Rattle.nf_outside.specs.Lent.{Taken}
use Rattle.nf_promises.proofs.Full.{full_is_seen}
use Rattle.nf_session.specs.Prelude.{entries_wanted, Scene, Session}
use Rattle.nf_session.specs.declared.ended.Ended.{Ended}
use Rattle.nf_session.specs.declared.ended.Ended.TheVariants as ended
use Rattle.nf_turn.specs.declared.view.Memory.{Memory}
use Rattle.nf_words.specs.declared.history.Entry.{Entry}

module _ {K : Type 0} (k : KeeperOf K) where
  abbrev LentHub : Type 0
  LentHub = Bor (HubOf (Served K) Entry (List Row × Snapshot K))

  abbrev ItsSeat : Type 0
  ItsSeat = SeatOf (Served K) Entry (List Row × Snapshot K)

  abbrev pub lent_of : Visiting K → LentHub × Memory (Served K)
  lent_of v = (v.hub, steady (memory_of k v.hub.now v.seat))

  -- what the seat knows is the same of the hub that was lent
  pub book_same : (a b : Visiting K) (hub : LentHub) (seat : ItsSeat) → lent_of b ≡ lent_of a → a.hub ≡ hub → seat ≡ b.seat
      → book k b.hub.now b.seat ≡ book k hub.now seat
  book_same a b hub seat lent its same =
      ap (λ (h : LentHub). book k h.now b.seat) (ap (λ (l : LentHub × Memory (Served K)). l.0) lent ∙ its)
      ∙ ap (λ (s : ItsSeat). book k hub.now s) (sym same)

pub full_seen : {C : Type 0} (reads : C → Taken → C → Type 0) (a b : Scene C) (end : Option Ended) → Session reads a b end
    → end ≡ Some ended.RunFull → MAX_ENTRIES < entries_wanted b.book
full_seen reads a b end session is = full_is_seen reads a b (subst (λ (e : Option Ended). Session reads a b e) is session)
