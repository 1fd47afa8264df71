use Rattle.std.proofs.Common.{ℕ, ap, subst}
use Rattle.std.specs.Option.{IfSome}
use Rattle.nf_desk.specs.Desk.{shown}
use Rattle.nf_outside.specs.Lent.{lent, takes}
use Rattle.filesd.specs.Outside.{outside}
use Rattle.filesd.specs.Reopening.{Pays}
use Rattle.filesd.proofs.Beginning.{demo_first}
use Rattle.filesd.proofs.Serving.{serves, serving_has_room}
use Rattle.filesd.proofs.running.batch.Goals as goal

pub open-requires : goal.open-requires
open-requires g c = record { first = demo_first c.in-Ok.first.rows c.in-Ok.ensures.rows }

pub returns-in-Ok-open-clause-runs : goal.returns-in-Ok-open-clause-runs
returns-in-Ok-open-clause-runs g c =
    let opened = c.in-Ok-open.ensures in
    serves (takes g.C.Clock.reads g.Q.Dice.draws) _ _ c.serve_desk.result.status (shown g.K.Keeper c.in-Ok-open.desk) c.serve_desk.result.site c.in-Ok.first
    opened.ok c.in-Ok.ensures.rows c.in-Ok.ensures.blob opened.rules opened.uncounted
    (ap g.K.Keeper.told opened.start) c.serve_desk.ensures.session

pub returns-in-Ok-open-clause-paid : goal.returns-in-Ok-open-clause-paid
returns-in-Ok-open-clause-paid g c =
    let opened = c.in-Ok-open.ensures in
    subst (λ (n : ℕ). IfSome c.serve_desk.result.site (λ site. Pays site.kept n (g.K.Keeper.faults c.serve_desk.result.keeper))) opened.uncounted
    c.serve_desk.ensures.paid

pub returns-in-Ok-open-clause-room : goal.returns-in-Ok-open-clause-room
returns-in-Ok-open-clause-room g c =
    serving_has_room (takes g.C.Clock.reads g.Q.Dice.draws) (outside g.S.Ends g.O.Ends g.K.Keeper c.args.input.now c.args.output.now c.args.keeper (lent c.args.clock.now c.args.dice.now)) _ c.serve_desk.result.status (shown g.K.Keeper c.in-Ok-open.desk) c.serve_desk.result.site
    c.in-Ok-open.ensures.fresh.no_entries c.serve_desk.ensures.session c.serve_desk.ensures.alone
