use Rattle.std.proofs.Common.{sym, ap, subst, arith}
use Rattle.nf_words.specs.Sound.{AreSound}
use Rattle.nf_words.specs.State.{State}
use Rattle.nf_site.specs.Held.{Held}
use Rattle.nf_site.proofs.site.Site.decide.Goals as goal

-- the rows are sound
pub decide-requires-clause-sound : goal.decide-requires-clause-sound
decide-requires-clause-sound c = subst (λ (it : State). AreSound it.tables) (sym c.view.ensures) c.self.invariant.sound.rows

-- and no step was later
pub decide-requires-clause-late : goal.decide-requires-clause-late
decide-requires-clause-late c =
    omega (
      arith,
      ap (λ (it : State). it.tables.meta.last) c.view.ensures,
      c.self.invariant.sound.seen,
      ap (λ (site : Held). site.kept.state.seen) c.self.view_is,
      c.requires.late,
    )
