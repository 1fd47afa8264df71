use Rattle.std.proofs.Common.{ℕ, ◌≡◌, drop}
use Rattle.nf_shares.proofs.Ending.{ended_until, is_on}
use Rattle.nf_shares.specs.Kept.{ids_of}
use Rattle.nf_shares.proofs.shares.Shares.end_on.Given as goal

-- the rows as far as those of the entries so far are ended, where they are the node's
abbrev pub invariant-loop-place : goal.invariant-loop-place
invariant-loop-place l = record {
  rows : (i : ℕ) × (l.self.rows ≡ ended_until (is_on l.node) i l.initial.self.rows)
      × (ids_of (is_on l.node) (drop i l.initial.self.rows) ≡ drop l.place (ids_of (is_on l.node) l.initial.self.rows));
  room : l.self.room ≡ l.initial.self.room;
}
