use Rattle.std.proofs.Common.{◌-◌, ◌^◌, ◌<◌, ◌≤◌, ◌↔◌, IsTrue, take, drop}
use Rattle.nf_extents.specs.Room.{AreApart, IsRestOf, is_used, with_bytes}
use Rattle.nf_extents.proofs.gaps.Gaps.around.Given as goal

abbrev pub invariant-loop-extent : goal.invariant-loop-extent
invariant-loop-extent l = record {
  apart : AreApart 0 (with_bytes l.used) (2 ^ 62) ↔ AreApart l.gaps.end (with_bytes (drop l.extent-index l.used)) (2 ^ 62);
  rest : IsRestOf (take l.extent-index l.used) l.gaps;
  end : 0 < l.gaps.end → IsTrue (is_used (take l.extent-index l.used) (l.gaps.end - 1));
  fits : l.gaps.end ≤ 2 ^ 62;
}
