use Rattle.nf_words.specs.declared.history.Event.TheVariants.{Begin}
use Rattle.nf_desk.specs.Desk.{shown}
use Rattle.nf_desk.specs.Stepping.{standing}
use Rattle.nf_desk.proofs.Desks.{begins, may_ask}
use Rattle.nf_desk.proofs.Turns.{served, starts_desk, starts_turn}
use Rattle.nf_desk.proofs.desk.Desk.begin.Goals as goal

pub begin-answer-requires : goal.begin-answer-requires
begin-answer-requires g c =
    let old = served c.self.inside.site c.self.inside.keeper c.self.inside.strikes c.self.inside.start in
    may_ask c.args.seat (shown g.K.Keeper old) c.args.words c.args.request c.history.ensures.legal
    (rw (← c.self.view_is) at c.requires.idle) c.requires.wants

pub invariant_of-self : goal.invariant_of-self
invariant_of-self g c =
    let old = served c.self.inside.site c.self.inside.keeper c.self.inside.strikes c.self.inside.start in
    let site = c.begin-answer.new.site.kept in
    let b = standing site (g.K.Keeper.told c.begin-answer.new.keeper) (g.K.Keeper.faults c.begin-answer.new.keeper) in
    starts_desk c.args.seat (shown g.K.Keeper old) b c.args.now (Begin c.args.words c.args.request) c.begin-answer.result tt
    c.history.ensures.legal c.history.ensures.sound c.history.ensures.ruled.ordered.rising c.begin-answer.ensures c.self.invariant

pub returns-clause-begins : goal.returns-clause-begins
returns-clause-begins g c =
    let old = served c.self.inside.site c.self.inside.keeper c.self.inside.strikes c.self.inside.start in
    let site = c.begin-answer.new.site.kept in
    let b = standing site (g.K.Keeper.told c.begin-answer.new.keeper) (g.K.Keeper.faults c.begin-answer.new.keeper) in
    rw (← c.self.view_is)
    (begins c.args.seat (shown g.K.Keeper old) b c.args.now c.args.words c.args.request c.begin-answer.result
    c.history.ensures.legal c.history.ensures.sound c.history.ensures.ruled.ordered.rising c.self.invariant c.begin-answer.ensures)

pub returns-clause-turn : goal.returns-clause-turn
returns-clause-turn g c =
    let old = served c.self.inside.site c.self.inside.keeper c.self.inside.strikes c.self.inside.start in
    rw (← c.self.view_is)
    (starts_turn g.K.Keeper c.args.seat old c.begin-answer.new.site c.begin-answer.new.keeper c.args.now (Begin c.args.words c.args.request)
    c.begin-answer.result c.history.ensures.legal c.history-2.ensures.legal c.history.ensures.sound c.self.invariant.counted
    c.begin-answer.ensures)
