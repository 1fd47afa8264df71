use Rattle.std.proofs.Common.{◌≡◌, ◌++◌}
use Rattle.nf_words.specs.People.{put_mounts}
use Rattle.nf_deeds.proofs.receiving.push_mounts.Given as goal

-- the rows so far are put, and the others are left
abbrev pub invariant-loop-row : goal.invariant-loop-row
invariant-loop-row l = record {
  put : l.changes ≡ l.initial.changes ++ put_mounts l.yielded;
  left : l.yielded ++ l.row-iterator.rest.items ≡ l.fn.rows.items;
}
