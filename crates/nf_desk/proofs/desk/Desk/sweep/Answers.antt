use Rattle.nf_desk.specs.Desk.{shown, tale}
use Rattle.nf_desk.proofs.Desks.{may_sweep}
use Rattle.nf_desk.proofs.Seen.{sweeps_seen}
use Rattle.nf_desk.proofs.Sweeps.{sweeps_desk, sweeps_turn}
use Rattle.nf_desk.proofs.Turns.{served}
use Rattle.nf_desk.proofs.desk.Desk.sweep.Goals as goal

pub sweep-result-requires-clause-asked : goal.sweep-result-requires-clause-asked
sweep-result-requires-clause-asked g c =
    let old = served c.self.inside.site c.self.inside.keeper c.self.inside.strikes c.self.inside.start in
    may_sweep c.args.seat (shown g.K.Keeper old) c.history.ensures.legal (rw (← c.self.view_is) at c.requires.idle)

pub invariant_of-self : goal.invariant_of-self
invariant_of-self g c =
    let old = served c.self.inside.site c.self.inside.keeper c.self.inside.strikes c.self.inside.start in
    let new = served c.sweep-result.new.site c.sweep-result.new.keeper c.sweep-result.new.strikes c.self.inside.start in
    sweeps_desk c.args.seat (shown g.K.Keeper old) (shown g.K.Keeper new) c.args.now c.sweep-result.result c.requires.seat
    c.history.ensures.legal c.history.ensures.sound c.history.ensures.ruled.ordered.rising
    (c.sweep-result.ensures (tale g.K.Keeper c.self.inside.start.value)) c.self.invariant

pub returns-clause-sweeps : goal.returns-clause-sweeps
returns-clause-sweeps g c = rw (← c.self.view_is) (c.sweep-result.ensures (tale g.K.Keeper c.self.inside.start.value))

pub returns-clause-seen : goal.returns-clause-seen
returns-clause-seen g c =
    let old = served c.self.inside.site c.self.inside.keeper c.self.inside.strikes c.self.inside.start in
    let new = served c.sweep-result.new.site c.sweep-result.new.keeper c.sweep-result.new.strikes c.self.inside.start in
    rw (← c.self.view_is)
    (sweeps_seen c.args.seat (shown g.K.Keeper old) (shown g.K.Keeper new) c.args.now c.sweep-result.result c.requires.seat
    c.history.ensures.legal c.history-2.ensures.legal c.history.ensures.sound c.history.ensures.ruled.ordered.rising c.self.invariant
    (c.sweep-result.ensures (tale g.K.Keeper c.self.inside.start.value)))

pub returns-clause-turn : goal.returns-clause-turn
returns-clause-turn g c =
    let old = served c.self.inside.site c.self.inside.keeper c.self.inside.strikes c.self.inside.start in
    rw (← c.self.view_is)
    (sweeps_turn g.K.Keeper c.args.seat old c.sweep-result.new.site c.sweep-result.new.keeper c.sweep-result.new.strikes c.args.now
    c.sweep-result.result c.requires.seat c.history.ensures.legal c.history-2.ensures.legal c.history.ensures.sound
    c.history.ensures.ruled.ordered.rising c.self.invariant (c.sweep-result.ensures (tale g.K.Keeper c.self.inside.start.value)))
