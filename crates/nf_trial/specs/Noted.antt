-- A backend of which it is noted whether the store failed.
use Rattle.std.specs.Prelude.{◌≡◌, ℕ, ◌≤◌, Bool, true, false, Result, Err, Vec}
use Rattle.std.specs.declared.alloc.Global.{Global}
use Rattle.std.specs.declared.snapshot.Snapshot.{Snapshot}
use Rattle.nf_session.specs.declared.backend.Backend.{Ghosts as BackendOf}
use Rattle.nf_session.specs.declared.backend.PieceFault.{PieceFault}
use Rattle.nf_session.specs.declared.backend.PieceFault.TheVariants as fault
use Rattle.nf_trial.specs.Trials.{Risen}

-- the store failed at a piece
abbrev pub is_lost : Result (Vec ℕ Global) PieceFault → Bool
is_lost (Err fault.Store) = true
is_lost other = false

-- the backend now and at first, and whether the store failed in between
pub record Watched (B : Type 0) : Type 0 where
  pub backend : B
  pub start : Snapshot B
  pub has_failed : Bool

-- where it failed, that is among the strikes of the seat
pub record IsNoted {B L : Type 0} (b : BackendOf B L) (w : Watched B) : Type 0 where
  pub lasts : (b.book w.start.value).strikes ≤ (b.book w.backend).strikes
  pub counted : w.has_failed ≡ true → Risen (b.book w.start.value).strikes (b.book w.backend).strikes
