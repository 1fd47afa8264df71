use Rattle.std.proofs.Common.{List, ℕ, Err, subst}
use Rattle.std.proofs.lemmas.Result.{err_from_is_err_and}
use Rattle.nf_session.specs.Prelude.{scene, Sends, Wrote}
use Rattle.nf_session.proofs.Sendings.{front_is, part_failed, parts_written}
use Rattle.nf_session.proofs.session.Connection.send_front.Goals as goal

pub returns-in_err-write-clause-says : goal.returns-in_err-write-clause-says
returns-in_err-write-clause-says g c =
    let p = err_from_is_err_and c.from_residual.result c.from_residual.ensures.1 in
    let a = scene g.S.Ends g.O.Ends g.B.Backend c.args.self.now in
    let b = scene g.S.Ends g.O.Ends g.B.Backend c.write.new.self in
    rw (p.1, p.2)
    (part_failed (Unit {0}) a b c.append_small-rest.new.head.items c.append_small-rest.result.now _ c.in_err-write.field-0.0
    (front_is c.args.close c.args.content.now c.args.first.now c.size.result c.in-Ok.front.items c.bytes_of.result.now
    c.append_small-rest.new.head.items c.append_small-rest.result.now c.size.ensures c.in-Ok.ensures c.bytes_of.ensures c.append_small-rest.ensures)
    (subst (λ (z : List ℕ). Sends {T = Unit {0}} a b z (Err c.in_err-write.field-0.0)) c.deref.ensures.value c.in_err-write.ensures.sends))

pub returns-clause-says : goal.returns-clause-says
returns-clause-says g c =
    let a = scene g.S.Ends g.O.Ends g.B.Backend c.args.self.now in
    let m = scene g.S.Ends g.O.Ends g.B.Backend c.write.new.self in
    let b = scene g.S.Ends g.O.Ends g.B.Backend c.write-2.new.self in
    parts_written a m b c.append_small-rest.new.head.items c.append_small-rest.result.now _ c.write-2.result
    (front_is c.args.close c.args.content.now c.args.first.now c.size.result c.in-Ok.front.items c.bytes_of.result.now
    c.append_small-rest.new.head.items c.append_small-rest.result.now c.size.ensures c.in-Ok.ensures c.bytes_of.ensures c.append_small-rest.ensures)
    (subst (λ (z : List ℕ). Wrote a m z) c.deref.ensures.value c.in_ok-write.ensures.sends) c.write-2.ensures.sends
