use Rattle.std.proofs.Common.{◌≡◌}
use Rattle.nf_session.specs.Prelude.{held, IsSame, scene}
use Rattle.nf_session.proofs.Sendings.{SentSome}
use Rattle.nf_session.proofs.session.Connection.send_file.Given as goal

abbrev pub invariant-loop-index : goal.invariant-loop-index
invariant-loop-index g l = record {
  so_far : SentSome l.close l.content l.first (scene g.S.Ends g.O.Ends g.B.Backend l.fn.self) (scene g.S.Ends g.O.Ends g.B.Backend l.self) l.index;
  same : IsSame g.B.Backend l.fn.self l.self;
  held_is : held (g.B.Backend.book l.self.backend.now) ≡ held (g.B.Backend.book l.fn.self.backend.now);
}
