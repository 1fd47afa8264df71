use Rattle.std.proofs.Common.{ℕ, sym, subst}
use Rattle.filesd.proofs.Swept.{swept, swept_leaves, swept_pays}
use Rattle.filesd.proofs.sweeping.sweep.Goals as goal

pub returns-in-Ok-clause-sweeps : goal.returns-in-Ok-clause-sweeps
returns-in-Ok-clause-sweeps g c =
    let opened = c.in-Ok.ensures in
    let said = c.sweep-swept.ensures in
    let parts = c.into_parts-site.ensures in
    swept g.O.Ends g.K.Keeper g.C.Clock.reads c.args.output.now c.tell.new.output c.args.keeper c.into_parts-site.result.1 c.args.clock.now
    c.now.new.self c.in-Ok.desk c.sweep-swept.new.self c.into_parts-site.result.0 c.new.result c.sweep-swept.result c.tell.result
    opened.ok opened.rules opened.uncounted opened.start
    (subst (λ (n : ℕ). g.C.Clock.reads c.args.clock.now n c.now.new.self) (sym c.new.ensures) c.now.ensures)
    said.sweeps said.turn.alone parts.site parts.keeper parts.desk c.tell.ensures.tells c.tell.ensures.begun

pub returns-in-Ok-clause-leaves : goal.returns-in-Ok-clause-leaves
returns-in-Ok-clause-leaves g c =
    let parts = c.into_parts-site.ensures in
    swept_leaves g.K.Keeper c.args.keeper c.in-Ok.desk c.sweep-swept.new.self c.new.result c.sweep-swept.result c.sweep-swept.ensures.sweeps
    parts.desk c.in-Ok.ensures.ok parts.history parts.sound parts.ruled c.into_parts-site.result.0 c.into_parts-site.result.1 parts.site
    parts.keeper

pub returns-in-Ok-clause-paid : goal.returns-in-Ok-clause-paid
returns-in-Ok-clause-paid g c =
    let parts = c.into_parts-site.ensures in
    swept_pays g.K.Keeper c.args.keeper c.in-Ok.desk c.sweep-swept.new.self c.new.result c.sweep-swept.result c.sweep-swept.ensures.sweeps
    parts.desk c.sweep-swept.ensures.turn.alone c.in-Ok.ensures.uncounted c.in-Ok.ensures.start c.into_parts-site.result.0
    c.into_parts-site.result.1 parts.site parts.keeper
