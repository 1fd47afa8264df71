-- How one message went.
use Rattle.std.specs.Prelude.{◌≡◌, ℕ, Bool, true, false, List, Option, Some}
use Rattle.nf_session.specs.declared.backend.Backend.{Ghosts as BackendOf}
use Rattle.nf_session.specs.declared.ended.Ended.{Ended}
use Rattle.nf_session.specs.declared.ended.Ended.TheVariants as ended
use Rattle.nf_trial.specs.Noted.{Watched}
use Rattle.nf_trial.specs.Trials.{IsBroken, Risen, Serves, is_granted, is_want}
use Rattle.nf_trial.specs.declared.trials.One.{One}
use Rattle.nf_trial.specs.declared.trials.One.TheVariants as one

-- by whether the store failed, by the session's end, and by what was written
abbrev pub Judges : Bool → Option Ended → List ℕ → One → Type 0
Judges failed end output (one.Answered granted) = (end ≡ Some ended.Closed) × (is_want output ≡ false) × (granted ≡ is_granted output)
Judges failed end output one.Store = failed ≡ true
Judges failed end output one.Memory = Unit {0}
Judges failed end output (one.Broken by) = (by ≡ end) × IsBroken end

-- the session of a message, and how it was judged
pub record TriesOne {B L : Type 0} (b : BackendOf B L) (before after : Watched B) (bytes : List ℕ) (moment : ℕ) (result : One) : Type 0 where
  pub output : List ℕ
  pub end : Option Ended
  pub serves : Serves (b.book before.backend) (b.book after.backend) bytes moment output end
  pub judged : Judges after.has_failed end output result
  pub risen : after.has_failed ≡ true → Risen (b.book after.start.value).strikes (b.book after.backend).strikes
