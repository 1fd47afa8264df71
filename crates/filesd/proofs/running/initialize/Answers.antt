use Rattle.std.proofs.Common.{refl, subst, List}
use Rattle.nf_base.specs.declared.rows.Row.{Row}
use Rattle.filesd.specs.Init.{Begins}
use Rattle.filesd.specs.Outside.{outlet}
use Rattle.filesd.specs.declared.status.Status.TheVariants as exit
use Rattle.filesd.proofs.Beginning.{init_begins, init_first}
use Rattle.filesd.proofs.running.initialize.Goals as goal

pub open-requires : goal.open-requires
open-requires g c =
    let init = c.args.init.now in
    record { first = init_first c.in-Ok.rows init.name init.token init.quota c.in-Ok.ensures c.requires.name c.requires.quota c.requires.token }

pub returns-in-Ok-send-clause-inits : goal.returns-in-Ok-send-clause-inits
returns-in-Ok-send-clause-inits g c =
    let a = outlet g.O.Ends g.K.Keeper c.args.output.now c.args.keeper in
    let desk = c.in-Ok-open.desk in
    let b = outlet g.O.Ends g.K.Keeper c.send.new.sink desk.keeper in
    let sent = c.in-Ok-send.ensures in
    let out = c.handed_out.ensures in
    rw out.keeper (rw out.site (rw out.status
    (subst (λ (rows : List Row). Begins rows a b exit.Done desk.site) c.in-Ok.ensures
    (init_begins c.in-Ok.rows a b exit.Done desk.site c.in-Ok-open.ensures.ok c.in-Ok-open.ensures.uncounted (sent.cause.same, sent.ok) refl sent.begun refl refl))))

pub returns-in-Err-send-clause-inits : goal.returns-in-Err-send-clause-inits
returns-in-Err-send-clause-inits g c =
    let a = outlet g.O.Ends g.K.Keeper c.args.output.now c.args.keeper in
    let desk = c.in-Ok-open.desk in
    let b = outlet g.O.Ends g.K.Keeper c.send.new.sink desk.keeper in
    let sent = c.in-Err-send.ensures in
    let out = c.handed_out-in-Err-send.ensures in
    rw out.keeper (rw out.site (rw out.status
    (subst (λ (rows : List Row). Begins rows a b exit.WriteFault desk.site) c.in-Ok.ensures
    (init_begins c.in-Ok.rows a b exit.WriteFault desk.site c.in-Ok-open.ensures.ok c.in-Ok-open.ensures.uncounted (sent.cause.failed, sent.err) refl sent.begun refl refl))))
