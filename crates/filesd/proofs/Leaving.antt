-- What is left when a run ends, and what the keeper counted.
use Rattle.std.proofs.Common.{◌≡◌, ◌⊎◌, ℕ, zero, suc, ◌+◌, ◌-◌, ◌^◌, ◌≤◌, List, [], refl, ◌∙◌, ap, inl, inr, arith}
use mathlib.Core.Logic.{dite}
use native.Mathlib.Decide.{ℕ_discrete}
use Rattle.std.specs.Prelude.{None, Option, Some}
use Rattle.std.specs.Option.{IfSome}
use Rattle.nf_defs.proofs.Tables.{tables_again}
use Rattle.nf_defs.specs.Blobs.{Blobs}
use Rattle.nf_desk.specs.Desk.{TellsSite, blobs_in, risen}
use Rattle.nf_laws.proofs.Opening.{whole_now}
use Rattle.nf_rules.proofs.Ruled.{ruled_are_unbroken}
use Rattle.nf_rules.specs.Ruled.{AreRuled}
use Rattle.nf_site.specs.Kept.{IsHistory, Kept}
use Rattle.nf_told.specs.Told.{AreFit, Told}
use Rattle.nf_words.specs.Prelude.{IsSound, opened, replay, State}
use Rattle.nf_words.specs.declared.history.Entry.{Entry}
use Rattle.filesd.specs.Reopening.{Leaves}

-- what is told of it is whole, but for what is damaged now
tells_now : (start : Option Blobs) (k : Kept) (keeper : Option Told) → IfSome keeper (TellsSite start k)
    → IfSome keeper (TellsSite (blobs_in keeper) k)
tells_now start k None tells = tt
tells_now start k (Some told) tells = record {
  rows = tells.rows;
  begun = told.blobs;
  at_start = refl;
  whole = whole_now k.opening tells.begun k.state told.blobs tells.whole;
}

-- a site at which nothing is granted, and what its desk tells of it
pub leaves : (start : Option Blobs) (k : Kept) (keeper : Option Told) → IsHistory k → IsSound k.state → AreRuled k.state.tables
    → k.state.tickets ≡ []
    → AreFit k.state.tables → IfSome keeper (TellsSite start k) → Leaves k keeper
leaves start k keeper h sound ruled idle fit tells = record {
  history = h;
  sound = sound;
  idle = idle;
  again = record {
    fit = fit;
    unbroken = ruled_are_unbroken k.state.tables fit ruled;
    same = tables_again k.state.tables ruled.ordered.rising;
  };
  told = tells_now start k keeper tells;
}

-- nor is anything where no seat has an entry
pub none_granted : (k : Kept) → IsHistory k → k.history ≡ [] → k.state.tickets ≡ []
none_granted k h none =
    ap (λ (s : State). s.tickets) h.replayed ∙ ap (λ (es : List Entry). (replay (opened k.opening) es).tickets) none

-- each failure of the store is paid for, pieces that weren't given among them
pub paid : (before marks strikes n now : ℕ) → n ≡ marks + strikes → now ≡ risen before n → (marks + before ≤ now) ⊎ (now ≡ 2 ^ 64 - 1)
paid before marks strikes zero now all is = inl (omega (arith, all, is))
paid before marks strikes (suc n) now all is =
    dite (ℕ_discrete now (2 ^ 64 - 1)) (λ full. inr full) (λ other. inl (omega (arith, all, is, other)))
