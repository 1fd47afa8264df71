use Rattle.std.proofs.Common.{length, ◌-◌, ◌≤◌, take, ◌≡◌}
use Rattle.std.specs.Io.KnownBytes.{Consumes}
use Rattle.nf_http.proofs.bodies.read_all.Given as goal

abbrev pub invariant-loop-at : goal.invariant-loop-at
invariant-loop-at g l = record {
  inside : l.at ≤ length l.room;
  taken : Consumes (g.S.Ends.left l.fn.source) (g.S.Ends.left l.source) (take l.at l.room);
  same : g.S.Ends.read_faults l.source ≡ g.S.Ends.read_faults l.fn.source;
  other_bytes : g.S.Ends.written l.source ≡ g.S.Ends.written l.fn.source;
  other_faults : g.S.Ends.write_faults l.source ≡ g.S.Ends.write_faults l.fn.source;
}

abbrev pub decreases-loop-at : goal.decreases-loop-at
decreases-loop-at g l = length l.room - l.at
