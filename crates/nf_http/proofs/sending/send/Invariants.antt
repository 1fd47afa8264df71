use Rattle.std.proofs.Common.{◌≡◌, ◌-◌, ◌≤◌, length, take}
use Rattle.std.specs.Io.KnownBytes.{Appends}
use Rattle.nf_http.proofs.sending.send.Given as goal

abbrev pub invariant-loop-at : goal.invariant-loop-at
invariant-loop-at g l = record {
  inside : l.at ≤ length l.bytes;
  sent : Appends (g.O.Ends.written l.fn.sink) (g.O.Ends.written l.sink) (take l.at l.bytes);
  same : g.O.Ends.write_faults l.sink ≡ g.O.Ends.write_faults l.fn.sink;
  other_bytes : g.O.Ends.left l.sink ≡ g.O.Ends.left l.fn.sink;
  other_faults : g.O.Ends.read_faults l.sink ≡ g.O.Ends.read_faults l.fn.sink;
  begun : g.O.Ends.begun l.sink ≡ g.O.Ends.begun l.fn.sink;
}

abbrev pub decreases-loop-at : goal.decreases-loop-at
decreases-loop-at g l = length l.bytes - l.at
