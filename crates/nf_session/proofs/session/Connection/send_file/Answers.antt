use Rattle.std.proofs.Common.{List, length, ap, ◌∙◌, arith}
use Rattle.std.proofs.lemmas.Result.{err_from_is_err_and}
use Rattle.nf_base.specs.declared.content.Piece.{Piece}
use Rattle.nf_session.specs.Connections.{scene}
use Rattle.nf_session.proofs.Same.{same_then}
use Rattle.nf_session.proofs.Sendings.{book_held, front_failed, front_sent, piece_sent, piece_failed, all_sent}
use Rattle.nf_session.proofs.session.Connection.send_file.Goals as goal

pub returns-in_err-send_front-clause-sends : goal.returns-in_err-send_front-clause-sends
returns-in_err-send_front-clause-sends g c =
    let p = err_from_is_err_and c.from_residual.result c.from_residual.ensures.1 in
    rw (p.1, p.2)
    (front_failed c.args.close c.args.content.now c.args.first.now (Unit {0}) (scene g.S.Ends g.O.Ends g.B.Backend c.args.self.now)
    (scene g.S.Ends g.O.Ends g.B.Backend c.send_front.new.self) c.in_err-send_front.field-0.0 c.requires c.in_err-send_front.ensures.says)

pub loop-index-init : goal.loop-index-init
loop-index-init g c =
    let a = scene g.S.Ends g.O.Ends g.B.Backend c.args.self.now in
    let b = scene g.S.Ends g.O.Ends g.B.Backend c.send_front.new.self in
    record {
      so_far = front_sent c.args.close c.args.content.now c.args.first.now a b c.requires c.in_ok-send_front.ensures.says;
      same = c.send_front.ensures.same;
      held_is = book_held a b c.in_ok-send_front.ensures.says.only;
    }

pub returns-in_err-send_piece-clause-sends : goal.returns-in_err-send_piece-clause-sends
returns-in_err-send_piece-clause-sends g c =
    let p = err_from_is_err_and c.from_residual-in_err-send_piece.result c.from_residual-in_err-send_piece.ensures.1 in
    rw (p.1, p.2)
    (piece_failed c.args.close c.args.content.now c.args.first.now (Unit {0}) (scene g.S.Ends g.O.Ends g.B.Backend c.args.self.now)
    (scene g.S.Ends g.O.Ends g.B.Backend c.loop-index.self) (scene g.S.Ends g.O.Ends g.B.Backend c.send_piece.new.self) c.loop-index.index
    c.in_err-send_piece.field-0.0 c.loop-index.invariant.so_far c.in_err-send_piece.ensures.sends)

pub loop-index-preserved : goal.loop-index-preserved
loop-index-preserved g c = record {
  so_far =
      piece_sent c.args.close c.args.content.now c.args.first.now (Unit {0}) tt (scene g.S.Ends g.O.Ends g.B.Backend c.args.self.now)
      (scene g.S.Ends g.O.Ends g.B.Backend c.loop-index.self) (scene g.S.Ends g.O.Ends g.B.Backend c.send_piece.new.self) c.loop-index.index
      c.loop-index.invariant.so_far c.in_ok-send_piece.ensures.sends;
  same = same_then g.B.Backend _ _ _ c.loop-index.invariant.same c.send_piece.ensures.same;
  held_is = c.send_piece.ensures.held ∙ c.loop-index.invariant.held_is;
}

pub returns-clause-sends : goal.returns-clause-sends
returns-clause-sends g c =
    let pieces = ap (λ (z : List Piece). length z) c.pieces-index-end.ensures.pieces in
    all_sent c.args.close c.args.content.now c.args.first.now (scene g.S.Ends g.O.Ends g.B.Backend c.args.self.now)
    (scene g.S.Ends g.O.Ends g.B.Backend c.loop-index.self) c.loop-index.index c.loop-index.invariant.so_far
    (omega (arith, pieces))
