-- Connections, and what they touch.
use Rattle.std.specs.Prelude.{◌≡◌, ℕ, List}
use Rattle.nf_http.specs.Told.{stream}
use Rattle.nf_outside.specs.Lent.{Lent}
use Rattle.nf_outside.specs.declared.traits.Ends.{Ghosts as EndsOf}
use Rattle.nf_session.specs.declared.backend.Backend.{Ghosts as BackendOf}
use Rattle.nf_session.specs.declared.session.Connection.{Connection}
use Rattle.nf_session.specs.Steps.{Scene}

-- what is touched between two ends, a clock, dice and a backend, where these bytes were read and not yet taken
abbrev pub between : {S O C D B L : Type 0} → EndsOf S → EndsOf O → BackendOf B L
    → List ℕ → S → O → C → D → B → Scene (Lent C D)
between s o b kept input output clock dice backend = record {
  input = stream kept (s.left input);
  kept = kept;
  output = o.written output;
  answers = o.begun output;
  book = b.book backend;
  lent = record { clock = clock; dice = dice };
  read_faults = s.read_faults input;
  write_faults = o.write_faults output;
}

-- the scene of a connection
abbrev pub scene : {S O C D B L : Type 0} → EndsOf S → EndsOf O → BackendOf B L → Connection S O C D B L → Scene (Lent C D)
scene s o b c = between s o b c.buffer.now c.input.now c.output.now c.clock.now c.dice.now c.backend.now

-- the same buffer, ends, clock, dice and backend are lent, and to that what it was lent
pub record IsSame {S O C D B L : Type 0} (k : BackendOf B L) (a b : Connection S O C D B L) : Type 0 where
  pub buffer : b.buffer.ghost_name ≡ a.buffer.ghost_name
  pub input : b.input.ghost_name ≡ a.input.ghost_name
  pub output : b.output.ghost_name ≡ a.output.ghost_name
  pub clock : b.clock.ghost_name ≡ a.clock.ghost_name
  pub dice : b.dice.ghost_name ≡ a.dice.ghost_name
  pub backend : b.backend.ghost_name ≡ a.backend.ghost_name
  pub lent : k.lent b.backend.now ≡ k.lent a.backend.now
