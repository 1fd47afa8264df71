use Rattle.std.proofs.Common.{length, ◌-◌, ◌≡◌}
use Rattle.std.specs.Io.KnownBytes.{Keeps}
use Rattle.nf_base.specs.declared.limits.TheConstants.{MAX_HEAD}
use Rattle.nf_http.specs.Told.{stream}
use Rattle.nf_http.proofs.wire.read_head.Given as goal

abbrev pub invariant-loop-message : goal.invariant-loop-message
invariant-loop-message g l = record {
  keeps : Keeps (stream l.fn.buffer (g.S.Ends.left l.fn.source)) (stream l.buffer (g.S.Ends.left l.source));
  same : g.S.Ends.read_faults l.source ≡ g.S.Ends.read_faults l.fn.source;
  other_bytes : g.S.Ends.written l.source ≡ g.S.Ends.written l.fn.source;
  other_faults : g.S.Ends.write_faults l.source ≡ g.S.Ends.write_faults l.fn.source;
}

abbrev pub decreases-loop-message : goal.decreases-loop-message
decreases-loop-message g l = MAX_HEAD - length l.buffer
