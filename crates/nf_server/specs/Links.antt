-- What a session through a seat touches.
use Rattle.std.specs.Prelude.{ℕ, List}
use Rattle.nf_http.specs.Told.{stream}
use Rattle.nf_outside.specs.declared.traits.Ends.{Ghosts as EndsOf}
use Rattle.nf_session.specs.Prelude.{Book, Scene}

-- two ends and what is lent, where these bytes were read and not yet taken, and the seat knows that
abbrev pub scene_at : {S O C : Type 0} → EndsOf S → EndsOf O → Book → List ℕ → S → O → C → Scene C
scene_at s o book kept input output lent = record {
  input = stream kept (s.left input);
  kept = kept;
  output = o.written output;
  answers = o.begun output;
  book = book;
  lent = lent;
  read_faults = s.read_faults input;
  write_faults = o.write_faults output;
}
