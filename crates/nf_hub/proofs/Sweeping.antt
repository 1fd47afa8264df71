-- A sweep, after others' entries came, and what the seat holds behind it.
use Rattle.std.proofs.Common.{◌≡◌, inl, inr, ℕ, Result, Ok, Err, ap, ◌∙◌, subst}
use Rattle.std.specs.Prelude.{Bool, true, false, None, MatchBool}
use Rattle.nf_desk.specs.Sweeping.{LeavesNamed, StopsSweep, SweepsOn, SweepsSeen}
use Rattle.nf_desk.specs.declared.sweeping.Swept.{Swept}
use Rattle.nf_session.proofs.Helds.{enters_holds, waits_holds}
use Rattle.nf_session.specs.Book.{Answer, Book, Enters, Passes, held, held_after, is_unmade_by, state_after}
use Rattle.nf_words.specs.Prelude.{State}
use Rattle.nf_words.specs.declared.answer.Denial.{Denial}
use Rattle.nf_words.specs.declared.answer.Denial.TheVariants as denial
use Rattle.nf_words.specs.declared.answer.Reply.TheVariants.{Plain}
use Rattle.nf_words.specs.declared.history.Event.TheVariants.{Sweep}
use Rattle.nf_hub.proofs.Following.{enters_after, passes_after, state_same}

-- ---- from what the seat knew before the others

module _ (a m b : Book) (first : Passes a m) (now : ℕ) where
  on_after : (answer : Answer) (result : Result Swept Denial) → SweepsOn m b now answer result → SweepsOn a b now answer result
  unfolding enters_after
  on_after answer result on = record {
    mid = on.mid;
    enters = enters_after a m on.mid first now Sweep answer on.enters;
    leaves = subst (λ (s : State). LeavesNamed s on.mid b result) (state_same a m on.mid first on.enters.others) on.leaves;
  }

  stops_after : (result : Result Swept Denial) → StopsSweep m b now result → StopsSweep a b now result
  stops_after (Ok gone) never = absurd never
  stops_after (Err refusal) stops = here (is_unmade_by refusal) stops
    where
      here : (unmade : Bool) → MatchBool unmade (Passes m b) (Enters m b now Sweep (Err refusal))
          → MatchBool unmade (Passes a b) (Enters a b now Sweep (Err refusal))
      here true passes = passes_after a m b first passes
      here false enters = enters_after a m b first now Sweep (Err refusal) enters

  pub sweeps_after : (result : Result Swept Denial) → SweepsSeen m b now result → SweepsSeen a b now result
  sweeps_after result (inl on) = inl (on_after (Ok Plain) result on)
  sweeps_after result (inr stops) = inr (stops_after result stops)

-- ---- nothing is granted

holds_on : (s : State) (mid b : Book) (result : Result Swept Denial) → LeavesNamed s mid b result → held b ≡ held mid
holds_on s mid b (Ok gone) leaves = ap (λ (x : Book). held_after None x.own) leaves.0
holds_on s mid b (Err denial.Store) leaves = ap (λ (x : Book). held_after None x.own) leaves.0
holds_on s mid b (Err denial.Memory) leaves = ap (λ (x : Book). held_after None x.own) leaves
holds_on s mid b (Err other) leaves = absurd leaves

module _ (a b : Book) (now : ℕ) (idle : held a ≡ None) where
  stays_idle : (result : Result Swept Denial) → StopsSweep a b now result → held b ≡ None
  stays_idle (Ok gone) never = absurd never
  stays_idle (Err refusal) stops = here (is_unmade_by refusal) stops
    where
      here : (unmade : Bool) → MatchBool unmade (Passes a b) (Enters a b now Sweep (Err refusal)) → held b ≡ None
      here true passes = waits_holds a b passes.waits ∙ idle
      here false enters = enters_holds a b now Sweep (Err refusal) enters

  pub sweeps_idle : (result : Result Swept Denial) → SweepsSeen a b now result → held b ≡ None
  sweeps_idle result (inl on) = holds_on (state_after a on.enters.others) on.mid b result on.leaves ∙ enters_holds a on.mid now Sweep (Ok Plain) on.enters
  sweeps_idle result (inr stops) = stays_idle result stops
