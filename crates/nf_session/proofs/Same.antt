-- The same connection, twice.
use Rattle.std.proofs.Common.{◌∙◌}
use Rattle.nf_session.specs.Connections.{IsSame}
use Rattle.nf_session.specs.declared.backend.Backend.{Ghosts as BackendOf}
use Rattle.nf_session.specs.declared.session.Connection.{Connection}

pub same_then : {S O C D B L : Type 0} (k : BackendOf B L) (a m b : Connection S O C D B L) → IsSame k a m → IsSame k m b → IsSame k a b
same_then k a m b p q = record {
  buffer = q.buffer ∙ p.buffer;
  input = q.input ∙ p.input;
  output = q.output ∙ p.output;
  clock = q.clock ∙ p.clock;
  dice = q.dice ∙ p.dice;
  backend = q.backend ∙ p.backend;
  lent = q.lent ∙ p.lent;
}
