use Rattle.std.proofs.Common.{subst, sym}
use Rattle.std.specs.Prelude.{Option}
use Rattle.nf_told.specs.Told.{Told}
use Rattle.nf_desk.specs.Desk.{IsDesk, shown}
use Rattle.nf_desk.proofs.Turns.{read_desk, reads_turn, served}
use Rattle.nf_desk.proofs.desk.Desk.read.Goals as goal

pub invariant_of-self : goal.invariant_of-self
invariant_of-self g c =
    let old = served c.self.inside.site c.self.inside.keeper c.self.inside.strikes c.self.inside.start in
    let a = shown g.K.Keeper old in
    subst (λ (o : Option Told). IsDesk (record a { told = o; faults = g.K.Keeper.faults c.blob-read.new.self; strikes = c.strike.new.strikes }))
    (sym c.blob-read.ensures.same)
    (read_desk c.args.seat a (g.K.Keeper.faults c.blob-read.new.self) c.strike.new.strikes c.blob-read.result c.requires.seat
    c.blob-read.ensures.count c.strike.ensures c.self.invariant)

pub returns-clause-reads : goal.returns-clause-reads
returns-clause-reads g c =
    let old = served c.self.inside.site c.self.inside.keeper c.self.inside.strikes c.self.inside.start in
    rw (← c.self.view_is)
    (reads_turn g.K.Keeper c.args.seat old c.blob-read.new.self c.strike.new.strikes c.args.content.now c.args.index c.piece_at.result.now
    c.blob-read.result c.requires.seat c.history.ensures.legal c.history.ensures.sound c.self.invariant (rw (← c.self.view_is) at c.requires.granted)
    c.piece_at.ensures c.blob-read.ensures.same c.blob-read.ensures.bytes c.blob-read.ensures.count c.strike.ensures).0

pub returns-clause-turn : goal.returns-clause-turn
returns-clause-turn g c =
    let old = served c.self.inside.site c.self.inside.keeper c.self.inside.strikes c.self.inside.start in
    rw (← c.self.view_is)
    (reads_turn g.K.Keeper c.args.seat old c.blob-read.new.self c.strike.new.strikes c.args.content.now c.args.index c.piece_at.result.now
    c.blob-read.result c.requires.seat c.history.ensures.legal c.history.ensures.sound c.self.invariant (rw (← c.self.view_is) at c.requires.granted)
    c.piece_at.ensures c.blob-read.ensures.same c.blob-read.ensures.bytes c.blob-read.ensures.count c.strike.ensures).1
