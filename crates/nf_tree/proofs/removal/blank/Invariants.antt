use Rattle.std.proofs.Common.{◌≡◌, All, vec_len, vec_capacity}
use Rattle.nf_tree.proofs.removal.blank.Given as goal

-- the marks so far
abbrev pub invariant-loop-at : goal.invariant-loop-at
invariant-loop-at l = record {
  marks : All (λ mark. mark ≡ 0) l.marks.items;
  long : vec_len l.marks ≡ l.at;
  room : vec_capacity l.marks ≡ vec_capacity l.initial.marks;
}
