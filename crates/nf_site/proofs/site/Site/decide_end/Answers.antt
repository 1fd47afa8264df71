use Rattle.std.proofs.Common.{Option, option_map, sym, ap, subst, arith}
use Rattle.std.specs.Option.{IfSome}
use Rattle.nf_words.proofs.Ends.{goal_held, goal_sound}
use Rattle.nf_words.specs.Sound.{AreSound, IsGoalSound, IsStorable}
use Rattle.nf_words.specs.State.{State}
use Rattle.nf_words.specs.declared.history.Ticket.{Ticket}
use Rattle.nf_site.specs.Held.{Held}
use Rattle.nf_site.proofs.site.Site.decide_end.Goals as goal

-- the rows are sound
pub decide_end-requires-clause-rows : goal.decide_end-requires-clause-rows
decide_end-requires-clause-rows c =
    subst (λ (it : State). AreSound it.tables) (sym c.view.ensures) c.self.invariant.sound.rows

-- each ticket of a sound state has a sound goal
pub decide_end-requires-clause-sound : goal.decide_end-requires-clause-sound
decide_end-requires-clause-sound c =
    let s = c.self.inside.current.state in
    subst (λ (it : State). IsGoalSound it.tables c.in-Some.ticket.now.goal) (sym c.view.ensures)
    (subst (λ (o : Option Ticket). IfSome (option_map (λ ticket. ticket.goal) o) (IsGoalSound s.tables)) (sym c.in-Some.ensures)
    (goal_sound s c.args.seat c.self.invariant.sound))

-- and what it is to store over is there
pub decide_end-requires-clause-held : goal.decide_end-requires-clause-held
decide_end-requires-clause-held c =
    let s = c.self.inside.current.state in
    subst (λ (it : State). IsStorable it.tables c.in-Some.ticket.now.goal) (sym c.view.ensures)
    (subst (λ (o : Option Ticket). IfSome (option_map (λ ticket. ticket.goal) o) (IsStorable s.tables)) (sym c.in-Some.ensures)
    (goal_held s c.args.seat c.self.invariant.sound))

-- and no step was later
pub decide_end-requires-clause-late : goal.decide_end-requires-clause-late
decide_end-requires-clause-late c =
    omega (
      arith,
      ap (λ (it : State). it.tables.meta.last) c.view.ensures,
      c.self.invariant.sound.seen,
      ap (λ (site : Held). site.kept.state.seen) c.self.view_is,
      c.requires.late,
    )
