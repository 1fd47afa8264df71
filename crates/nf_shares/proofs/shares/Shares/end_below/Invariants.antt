use Rattle.std.proofs.Common.{◌≡◌}
use Rattle.nf_defs.specs.Prelude.{is_under}
use Rattle.nf_shares.proofs.Ending.{ended_until}
use Rattle.nf_shares.proofs.shares.Shares.end_below.Given as goal

-- the shares so far are ended, where they are to be, and the others stay
abbrev pub invariant-loop-place : goal.invariant-loop-place
invariant-loop-place l = record {
  rows : l.self.rows ≡ ended_until (λ row. is_under l.tree.rows row.node l.top) l.place l.initial.self.rows;
  room : l.self.room ≡ l.initial.self.room;
}
