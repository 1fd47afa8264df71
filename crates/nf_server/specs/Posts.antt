-- A post: a seat, and what a thread needs to work through it.
use Rattle.std.specs.Borrow.{Bor}
use Rattle.std.specs.Prelude.{◌≡◌, ℕ, List, [], ◌∷◌, Option, None, Some}
use Rattle.std.specs.declared.snapshot.Snapshot.{Snapshot}
use Rattle.nf_base.specs.declared.rows.Row.{Row}
use Rattle.nf_desk.specs.Desk.{Served, meanings}
use Rattle.nf_hub.specs.Seats.{IsSeat, book, memory_of}
use Rattle.nf_hub.specs.declared.hub.HubOf.{HubOf}
use Rattle.nf_hub.specs.declared.seat.SeatOf.{SeatOf}
use Rattle.nf_keeper.specs.declared.keeper.Keeper.{Ghosts as KeeperOf}
use Rattle.nf_session.specs.Book.{held}
use Rattle.nf_turn.specs.Prelude.{having_joined, having_split, longer, numbers, split_from}
use Rattle.nf_turn.specs.declared.view.Memory.{Memory}
use Rattle.nf_words.specs.declared.history.Entry.{Entry}
use Rattle.nf_server.specs.Work.{both}
use Rattle.nf_server.specs.declared.workers.Worked.{Worked}
use Rattle.nf_server.specs.declared.workers.Worked.TheVariants as worked

abbrev pub SeatIn : Type 0 → Type 0
SeatIn K = SeatOf (Served K) Entry (List Row × Snapshot K)

-- the hub, how many connections a worker serves at most, and the seat, which is out only while it is worked through
pub record Posted (K : Type 0) : Type 0 where
  pub hub : Bor (HubOf (Served K) Entry (List Row × Snapshot K))
  pub connections : ℕ
  pub seat : Option (SeatIn K)

-- all but the seat is the same
pub record IsBeside {K : Type 0} (p q : Posted K) : Type 0 where
  pub hub : q.hub ≡ p.hub
  pub connections : q.connections ≡ p.connections

module _ {K : Type 0} (k : KeeperOf K) where
  -- there is a seat of the hub, which holds nothing
  abbrev pub IsFilled : HubOf (Served K) Entry (List Row × Snapshot K) → Option (SeatIn K) → Type 0
  IsFilled hub None = ⊥
  IsFilled hub (Some seat) = IsSeat k hub seat × (held (book k hub seat) ≡ None)

  -- the seat knew m
  abbrev pub Knew : Posted K → Memory (Served K) → Type 0
  Knew p m = (seat : SeatIn K) × (p.seat ≡ Some seat) × (memory_of k p.hub.now seat ≡ m)

  -- how many numbers it has left
  abbrev pub left_at : Option (SeatIn K) → ℕ
  left_at None = 0
  left_at (Some seat) = (numbers seat.turns).left

  -- another post was split off
  pub record SplitsOff (p q new : Posted K) : Type 0 where
    pub same : IsBeside p q
    pub its : IsBeside p new
    pub before : Memory (Served K)
    pub knew : Knew p before
    pub kept : Knew q (having_split before)
    pub split : Knew new (split_from before)

  -- another post was joined into it
  pub record JoinsIn (p other q : Posted K) : Type 0 where
    pub same : IsBeside p q
    pub before : Memory (Served K)
    pub joined : Memory (Served K)
    pub knew : Knew p before
    pub other_knew : Knew other joined
    pub knows : Knew q (having_joined (longer (meanings k)) before joined)

  -- something was done through it
  pub record WorksThrough (works : ℕ → Memory (Served K) → Memory (Served K) → Type 0) (p q : Posted K) : Type 0 where
    pub same : IsBeside p q
    pub before : Memory (Served K)
    pub after : Memory (Served K)
    pub knew : Knew p before
    pub knows : Knew q after
    pub done : works p.connections before after

-- each worked through a post of its own, which was split off from this one and joined into it again
module _ {P W : Type 0} (splits : P → P → P → Type 0) (works : P → P → W → W → Worked → Type 0) (joins : P → P → P → Type 0) where
  abbrev pub Beside : P → P → List W → List W → Worked → Type 0
  Beside p q [] [] result = (q ≡ p) × (result ≡ worked.All)
  Beside p q [] (b ∷ after) result = ⊥
  Beside p q (a ∷ before) [] result = ⊥
  Beside p q (a ∷ before) (b ∷ after) result =
      (kept : P) × (new : P) × (mine : P) × (others : P) × (one : Worked) × (rest : Worked) × splits p kept new × works new mine a b one
      × Beside kept others before after rest × joins others mine q × (result ≡ both one rest)
