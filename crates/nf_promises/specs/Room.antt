-- When a session finds the run full.
use Rattle.std.specs.Prelude.{◌≡◌, ◌≢◌, ◌<◌, [], length, Option, Some}
use Rattle.nf_base.specs.declared.limits.TheConstants.{MAX_ENTRIES}
use Rattle.nf_outside.specs.Lent.{Taken}
use Rattle.nf_session.specs.Prelude.{Book, entries_wanted, Scene, Session}
use Rattle.nf_session.specs.declared.ended.Ended.{Ended}
use Rattle.nf_session.specs.declared.ended.Ended.TheVariants as ended

-- nothing has happened yet
pub record IsFresh (b : Book) : Type 0 where
  pub known : b.known ≡ []
  pub own : b.own ≡ []

-- the seat's own entries are as many as all that it has seen: no other made one
abbrev pub IsAlone : Book → Type 0
IsAlone b = length b.known ≡ length b.own

-- a session that finds a fresh run, and whose seat is alone at its end, doesn't end because the run is full
abbrev pub NeverFull : {C : Type 0} → (C → Taken → C → Type 0) → Type 0
NeverFull {C} reads =
    (a b : Scene C) (end : Option Ended) → Session reads a b end → IsFresh a.book → IsAlone b.book
    → end ≢ Some ended.RunFull

-- a session that ends because the run is full has seen that it is: what it knows at its end leaves no room for two entries more
abbrev pub FullIsSeen : {C : Type 0} → (C → Taken → C → Type 0) → Type 0
FullIsSeen {C} reads = (a b : Scene C) → Session reads a b (Some ended.RunFull) → MAX_ENTRIES < entries_wanted b.book
