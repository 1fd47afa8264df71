use Rattle.std.proofs.Common.{ℕ, List, length, ◌+◌, ◌<◌, ◌≡◌}
use Rattle.std.specs.Io.KnownBytes.{Consumes}
use Rattle.nf_http.specs.Told.{stream}
use Rattle.nf_http.proofs.bodies.skip_body.Given as goal

abbrev pub invariant-loop-rest : goal.invariant-loop-rest
invariant-loop-rest g l = record {
  empty : 0 < l.rest → length l.buffer ≡ 0;
  taken : (part : List ℕ) × (length part + l.rest ≡ l.fn.length)
      × Consumes (stream l.fn.buffer (g.S.Ends.left l.fn.source)) (stream l.buffer (g.S.Ends.left l.source)) part;
  same : g.S.Ends.read_faults l.source ≡ g.S.Ends.read_faults l.fn.source;
  other_bytes : g.S.Ends.written l.source ≡ g.S.Ends.written l.fn.source;
  other_faults : g.S.Ends.write_faults l.source ≡ g.S.Ends.write_faults l.fn.source;
}

abbrev pub decreases-loop-rest : goal.decreases-loop-rest
decreases-loop-rest g l = l.rest
