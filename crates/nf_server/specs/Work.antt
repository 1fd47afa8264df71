-- What workers do: each serves the links of its door, one after the other, through a seat of its own.
use Rattle.std.specs.Prelude.{◌≡◌, ◌⊎◌, ℕ, ◌<◌, ◌≤◌, All, ◌≢◌, List, [], ◌∷◌, ◌++◌, length, map, Option, None, Some, option_map}
use Rattle.nf_base.specs.declared.limits.TheConstants.{MAX_ENTRIES, MAX_HEAD}
use Rattle.nf_desk.specs.Desk.{Served, meanings}
use Rattle.nf_hub.specs.Seats.{book_in, steady}
use Rattle.nf_keeper.specs.declared.keeper.Keeper.{Ghosts as KeeperOf}
use Rattle.nf_outside.specs.Causes.{Rose}
use Rattle.nf_outside.specs.Lent.{Lent, Taken, lent}
use Rattle.nf_outside.specs.declared.traits.Ends.{Ghosts as EndsOf}
use Rattle.nf_session.specs.Prelude.{entries_wanted, Session}
use Rattle.nf_session.specs.declared.ended.Ended.{Ended}
use Rattle.nf_session.specs.declared.ended.Ended.TheVariants.{RunFull as EndedFull}
use Rattle.nf_turn.specs.Prelude.{HasHeard, having_joined, having_split, split_from}
use Rattle.nf_turn.specs.declared.view.Memory.{Memory}
use Rattle.nf_server.specs.Doors.{closed}
use Rattle.nf_server.specs.Links.{scene_at}
use Rattle.nf_server.specs.declared.door.Door.{Ghosts as DoorOf}
use Rattle.nf_server.specs.declared.link.Link.{Link}
use Rattle.nf_server.specs.declared.workers.Worked.{Worked}
use Rattle.nf_server.specs.declared.workers.Worked.TheVariants as worked
use Rattle.nf_server.specs.declared.workers.Worker.{Worker}

-- what a worker's sessions are lent
abbrev pub lent_of : {D C Q : Type 0} → Worker D C Q → Lent C Q
lent_of w = lent w.clock w.dice

-- a link that was served: as it came, and as it was given back; what the seat knew then, and the clock and the dice; and how its session ended
pub record Visited (K S O C Q : Type 0) : Type 0 where
  pub came : Link S O
  pub left : Link S O
  pub memory : Memory (Served K)
  pub lent : Lent C Q
  pub ended : Option Ended

module _ {K S O C Q : Type 0} (k : KeeperOf K) (s : EndsOf S) (o : EndsOf O) (reads : Lent C Q → Taken → Lent C Q → Type 0) where
  -- a session through a seat that knew m, and then n; it ends because the run is full only where the seat has seen that it is
  pub record ServesEnds (m n : Memory (Served K)) (c d : Lent C Q) (before after : Link S O) (ended : Option Ended) : Type 0 where
    pub steady_is : steady n ≡ steady m
    pub kept : List ℕ
    pub few : length kept ≤ MAX_HEAD
    pub session : Session reads (scene_at s o (book_in k m) [] before.source before.sink c) (scene_at s o (book_in k n) kept after.source after.sink d) ended
    pub full : ended ≡ Some EndedFull → MAX_ENTRIES < entries_wanted (book_in k n)
    -- what the seat knows begins with what it passed on last, and has all its entries
    pub told : HasHeard (meanings k) n

  -- these links were served one after the other, each from what the one before it left
  abbrev pub InTurn : Memory (Served K) → Lent C Q → List (Visited K S O C Q) → Memory (Served K) → Lent C Q → Type 0
  InTurn m c [] n d = (n ≡ m) × (d ≡ c)
  InTurn m c (v ∷ visits) n d = ServesEnds m v.memory c v.lent v.came v.left v.ended × InTurn v.memory v.lent visits n d

  -- none of these sessions ended because the run is full
  abbrev pub NoneFull : List (Visited K S O C Q) → Type 0
  NoneFull visits = All (λ (v : Visited K S O C Q). v.ended ≢ Some EndedFull) visits

  module _ {D : Type 0} (door : DoorOf D S O) where
    -- what the door had to give was the links that came, and then the rest; and they were given back to it, in that order
    pub record GaveAndTook (a b : D) (rest : Option (List (Link S O))) (visits : List (Visited K S O C Q)) : Type 0 where
      pub came : door.coming a ≡ option_map (λ (links : List (Link S O)). map (λ (v : Visited K S O C Q). v.came) visits ++ links) rest
      pub left : door.served b ≡ option_map (λ (links : List (Link S O)). links ++ map (λ (v : Visited K S O C Q). v.left) visits) (door.served a)

    -- it has no link left, as far as it tells
    abbrev pub HasNone : Option (List (Link S O)) → Type 0
    HasNone None = Unit {0}
    HasNone (Some links) = links ≡ []

    -- the door has no link left, or so many were served; or it failed, and counted it; or the last session found the run full; or there was no
    -- memory to begin with
    abbrev pub EndsWork : ℕ → D → D → List (Visited K S O C Q) → Worked → Type 0
    EndsWork connections a b visits worked.All =
        NoneFull visits × (door.faults b ≡ door.faults a) × (HasNone (door.coming b) ⊎ (length visits ≡ connections))
    EndsWork connections a b visits worked.DoorFault = NoneFull visits × Rose (door.faults a) (door.faults b) × (length visits < connections)
    EndsWork connections a b visits worked.RunFull =
        (front : List (Visited K S O C Q)) × (last : Visited K S O C Q) × (visits ≡ front ++ last ∷ []) × NoneFull front
        × (last.ended ≡ Some EndedFull) × (door.faults b ≡ door.faults a)
    EndsWork connections a b visits worked.Memory = (visits ≡ []) × (door.faults b ≡ door.faults a)

    -- who finds the run full, or no memory to begin with, closes the door to the rest
    abbrev pub coming_after : Worked → Option (List (Link S O)) → Option (List (Link S O))
    coming_after worked.All rest = rest
    coming_after worked.DoorFault rest = rest
    coming_after worked.RunFull rest = closed rest
    coming_after worked.Memory rest = closed rest

    -- one worker
    pub record Works (connections : ℕ) (m n : Memory (Served K)) (a b : Worker D C Q) (result : Worked) : Type 0 where
      pub visits : List (Visited K S O C Q)
      pub few : length visits ≤ connections
      pub in_turn : InTurn m (lent_of a) visits n (lent_of b)
      pub rest : Option (List (Link S O))
      pub gave : GaveAndTook a.door b.door rest visits
      pub coming : door.coming b.door ≡ coming_after result rest
      pub ends : EndsWork connections a.door b.door visits result

    -- one connection was served and given back
    pub record ServesNext (m n : Memory (Served K)) (a b : Worker D C Q) (link : Link S O) (ended : Option Ended) : Type 0 where
      pub after : Link S O
      pub serves : ServesEnds m n (lent_of a) (lent_of b) link after ended
      pub back : door.served b.door ≡ option_map (λ (links : List (Link S O)). links ++ after ∷ []) (door.served a.door)
      pub coming : door.coming b.door ≡ door.coming a.door
      pub faults : door.faults b.door ≡ door.faults a.door

-- the ends of two: a door that failed comes first, then a full run, and then want of memory
abbrev pub both : Worked → Worked → Worked
both worked.DoorFault other = worked.DoorFault
both worked.RunFull worked.DoorFault = worked.DoorFault
both worked.RunFull other = worked.RunFull
both worked.Memory worked.DoorFault = worked.DoorFault
both worked.Memory worked.RunFull = worked.RunFull
both worked.Memory other = worked.Memory
both worked.All other = other

module _ {V W : Type 0} (pick : V → V → V) (works : Memory V → Memory V → W → W → Worked → Type 0) where
  -- each worked through a seat of its own, which was split off from the one that knew m, and was joined into it again
  abbrev pub WorkBeside : Memory V → Memory V → List W → List W → Worked → Type 0
  WorkBeside m n [] [] result = (n ≡ m) × (result ≡ worked.All)
  WorkBeside m n [] (b ∷ after) result = ⊥
  WorkBeside m n (a ∷ before) [] result = ⊥
  WorkBeside m n (a ∷ before) (b ∷ after) result =
      (mine : Memory V) × (others : Memory V) × (one : Worked) × (rest : Worked) × works (split_from m) mine a b one
      × WorkBeside (having_split m) others before after rest × (n ≡ having_joined pick others mine) × (result ≡ both one rest)
