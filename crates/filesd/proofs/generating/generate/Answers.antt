use Rattle.std.proofs.Common.{ℕ, ap, refl, subst}
use Rattle.std.specs.Option.{IfSome}
use Rattle.nf_desk.specs.Desk.{shown}
use Rattle.filesd.specs.Outside.{outlet}
use Rattle.filesd.specs.Reopening.{Pays}
use Rattle.filesd.proofs.Beginning.{demo_first}
use Rattle.filesd.proofs.Generated.{lists_desk, lists_over}
use Rattle.filesd.proofs.generating.generate.Goals as goal

pub open-requires : goal.open-requires
open-requires g c = record { first = demo_first c.in-Ok.first.rows c.in-Ok.ensures.rows }

pub returns-in-Ok-open-clause-generates : goal.returns-in-Ok-open-clause-generates
returns-in-Ok-open-clause-generates g c =
    let opened = c.in-Ok-open.ensures in
    lists_desk c.args.asked.seed c.args.asked.count (outlet g.O.Ends g.K.Keeper c.args.output.now c.args.keeper)
    (outlet g.O.Ends g.K.Keeper c.serve_list.new.output c.serve_list.result.keeper) c.serve_list.result.status
    (shown g.K.Keeper c.in-Ok-open.desk) c.serve_list.result.site c.in-Ok.first
    opened.ok c.in-Ok.ensures.rows c.in-Ok.ensures.blob opened.uncounted (ap g.K.Keeper.told opened.start) refl refl refl
    (lists_over c.args.asked.seed c.args.asked.count (outlet g.O.Ends g.K.Keeper c.args.output.now c.in-Ok-open.desk.keeper)
    (outlet g.O.Ends g.K.Keeper c.serve_list.new.output c.serve_list.result.keeper) (g.K.Keeper.told c.args.keeper) (g.K.Keeper.faults c.args.keeper)
    (shown g.K.Keeper c.in-Ok-open.desk) c.serve_list.result.status c.serve_list.result.site c.serve_list.ensures.lists)

pub returns-in-Ok-open-clause-paid : goal.returns-in-Ok-open-clause-paid
returns-in-Ok-open-clause-paid g c =
    subst (λ (n : ℕ). IfSome c.serve_list.result.site (λ site. Pays site.kept n (g.K.Keeper.faults c.serve_list.result.keeper)))
    c.in-Ok-open.ensures.uncounted c.serve_list.ensures.paid
