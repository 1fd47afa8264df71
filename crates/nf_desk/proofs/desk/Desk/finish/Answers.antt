use Rattle.std.proofs.Common.{[]}
use Rattle.nf_words.specs.declared.history.Event.TheVariants.{End}
use Rattle.nf_desk.specs.Desk.{shown}
use Rattle.nf_desk.specs.Stepping.{standing}
use Rattle.nf_desk.proofs.Desks.{ends_empty, may_end}
use Rattle.nf_desk.proofs.Tellings.{empty_brings, empty_steps}
use Rattle.nf_desk.proofs.Turns.{served, steps_desk, steps_turn}
use Rattle.nf_desk.proofs.desk.Desk.finish.Goals as goal

pub finish-answer-requires-clause-asked : goal.finish-answer-requires-clause-asked
finish-answer-requires-clause-asked g c =
    let old = served c.self.inside.site c.self.inside.keeper c.self.inside.strikes c.self.inside.start in
    may_end c.args.seat (shown g.K.Keeper old) c.args.outcome c.history.ensures.legal (rw (← c.self.view_is) at c.requires.granted)

pub invariant_of-self : goal.invariant_of-self
invariant_of-self g c =
    let old = served c.self.inside.site c.self.inside.keeper c.self.inside.strikes c.self.inside.start in
    let a = shown g.K.Keeper old in
    let site = c.finish-answer.new.site.kept in
    let steps = empty_steps c.args.seat a.site site a.told a.faults c.args.now c.args.outcome c.finish-answer.result c.requires.empty
    c.finish-answer.ensures in
    steps_desk c.args.seat a (standing site a.told a.faults) c.args.now (End c.args.outcome) [] c.finish-answer.result
    c.history.ensures.legal c.history.ensures.sound c.history.ensures.ruled.ordered.rising (empty_brings c.args.outcome c.requires.empty) steps
    c.self.invariant

pub returns-clause-ends : goal.returns-clause-ends
returns-clause-ends g c =
    let old = served c.self.inside.site c.self.inside.keeper c.self.inside.strikes c.self.inside.start in
    rw (← c.self.view_is)
    (ends_empty c.args.seat (shown g.K.Keeper old) c.finish-answer.new.site.kept c.args.now c.args.outcome c.finish-answer.result
    c.history.ensures.legal c.history.ensures.sound c.history.ensures.ruled.ordered.rising c.self.invariant c.requires.empty
    c.finish-answer.ensures)

pub returns-clause-turn : goal.returns-clause-turn
returns-clause-turn g c =
    let old = served c.self.inside.site c.self.inside.keeper c.self.inside.strikes c.self.inside.start in
    let a = shown g.K.Keeper old in
    let site = c.finish-answer.new.site in
    let steps = empty_steps c.args.seat a.site site.kept a.told a.faults c.args.now c.args.outcome c.finish-answer.result c.requires.empty
    c.finish-answer.ensures in
    rw (← c.self.view_is)
    (steps_turn g.K.Keeper c.args.seat old site c.self.inside.keeper c.args.now (End c.args.outcome) [] c.finish-answer.result
    c.history.ensures.legal c.history-2.ensures.legal c.history.ensures.sound c.self.invariant.counted steps)
