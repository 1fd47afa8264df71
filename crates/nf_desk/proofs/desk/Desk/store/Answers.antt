use Rattle.std.proofs.Common.{length, refl, subst, List, ℕ}
use Rattle.nf_session.specs.Book.{event_of_body, held}
use Rattle.nf_words.specs.Prelude.{MayEnd}
use Rattle.nf_words.specs.declared.history.Outcome.TheVariants.{Body}
use Rattle.nf_desk.specs.Desk.{book_at, shown}
use Rattle.nf_desk.specs.Stepping.{standing}
use Rattle.nf_desk.proofs.Desks.{ends_body, may_end}
use Rattle.nf_desk.proofs.Turns.{served, steps_desk, steps_turn}
use Rattle.nf_desk.proofs.desk.Desk.store.Goals as goal

pub store-answer-requires-clause-asked : goal.store-answer-requires-clause-asked
store-answer-requires-clause-asked g c =
    let old = served c.self.inside.site c.self.inside.keeper c.self.inside.strikes c.self.inside.start in
    let a = shown g.K.Keeper old in
    may_end c.args.seat a (Body _ (length c.args.body.now)) c.history.ensures.legal
    (subst (λ (digest : List ℕ). MayEnd (held (book_at c.args.seat a)) (Body digest (length c.args.body.now))) c.requires.digest
    (rw (← c.self.view_is) at c.requires.granted))

pub invariant_of-self : goal.invariant_of-self
invariant_of-self g c =
    let old = served c.self.inside.site c.self.inside.keeper c.self.inside.strikes c.self.inside.start in
    let site = c.store-answer.new.site.kept in
    let b = standing site (g.K.Keeper.told c.store-answer.new.keeper) (g.K.Keeper.faults c.store-answer.new.keeper) in
    steps_desk c.args.seat (shown g.K.Keeper old) b c.args.now (event_of_body c.args.body.now) c.args.body.now c.store-answer.result
    c.history.ensures.legal c.history.ensures.sound c.history.ensures.ruled.ordered.rising (refl, refl) c.store-answer.ensures c.self.invariant

pub returns-clause-ends : goal.returns-clause-ends
returns-clause-ends g c =
    let old = served c.self.inside.site c.self.inside.keeper c.self.inside.strikes c.self.inside.start in
    let site = c.store-answer.new.site.kept in
    let b = standing site (g.K.Keeper.told c.store-answer.new.keeper) (g.K.Keeper.faults c.store-answer.new.keeper) in
    rw (← c.self.view_is)
    (ends_body c.args.seat (shown g.K.Keeper old) b c.args.now c.args.body.now c.store-answer.result
    c.history.ensures.legal c.history.ensures.sound c.history.ensures.ruled.ordered.rising c.self.invariant c.store-answer.ensures)

pub returns-clause-turn : goal.returns-clause-turn
returns-clause-turn g c =
    let old = served c.self.inside.site c.self.inside.keeper c.self.inside.strikes c.self.inside.start in
    rw (← c.self.view_is)
    (steps_turn g.K.Keeper c.args.seat old c.store-answer.new.site c.store-answer.new.keeper c.args.now (event_of_body c.args.body.now)
    c.args.body.now c.store-answer.result c.history.ensures.legal c.history-2.ensures.legal c.history.ensures.sound
    c.self.invariant.counted c.store-answer.ensures)
