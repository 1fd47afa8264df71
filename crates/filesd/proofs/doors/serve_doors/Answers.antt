use Rattle.nf_outside.specs.Lent.{takes}
use Rattle.filesd.proofs.Working.{opened_runs}
use Rattle.filesd.proofs.doors.serve_doors.Goals as goal

pub returns-in-Ok-clause-runs : goal.returns-in-Ok-clause-runs
returns-in-Ok-clause-runs g c =
    let opened = c.in-Ok.ensures in
    opened_runs g.K.Keeper g.D.Source.Ends g.D.Sink.Ends (takes g.W.Clock.reads g.V.Dice.draws) g.D.Door c.args.connections c.args.keeper c.serve_over.result.keeper
    _ _ c.serve_over.result.status c.serve_over.result.site c.in-Ok.desk opened.ok opened.rules opened.uncounted opened.fresh opened.start
    c.serve_over.ensures.serves
