use Rattle.std.proofs.Common.{List, ℕ, subst}
use Rattle.nf_session.specs.Prelude.{scene, Sends}
use Rattle.nf_session.proofs.Sendings.{piece_written}
use Rattle.nf_session.proofs.session.Connection.send_piece.Goals as goal

pub returns-in-Ok-clause-sends : goal.returns-in-Ok-clause-sends
returns-in-Ok-clause-sends g c =
    let m = scene g.S.Ends g.O.Ends g.B.Backend c.take_piece.new.self in
    let b = scene g.S.Ends g.O.Ends g.B.Backend c.write.new.self in
    piece_written c.args.content.now c.args.index (scene g.S.Ends g.O.Ends g.B.Backend c.args.self.now) m b c.in-Ok.piece c.write.result
    c.in-Ok.ensures.takes (subst (λ (z : List ℕ). Sends m b z c.write.result) c.deref.ensures.value c.write.ensures.sends)
