use Rattle.std.proofs.Common.{append_assoc, arith, rules}
use Rattle.std.proofs.lemmas.Grind.{common_steps}
use Rattle.std.proofs.lemmas.List.{append-nil}
use Rattle.nf_rows.specs.Spelling.{spelled}
use Rattle.nf_rows.proofs.writing.put_body.Goals as goal

pub returns-in_ok-put_u64-in-Share-2 : goal.returns-in_ok-put_u64-in-Share-2
returns-in_ok-put_u64-in-Share-2 c = rw c.in-Share.is (
  rw (
    c.in_ok-put_u64-in-Share-2.ensures.0,
    c.in_ok-put_flag-in-Share.ensures.0,
    c.in_ok-put_optional-in-Share-2.ensures.0,
    c.in_ok-put_permissions-in-Share.ensures.0,
    c.in_ok-put_optional-in-Share.ensures.0,
    c.in_ok-put_u32-in-Share-2.ensures.0,
    c.in_ok-put_u32-in-Share.ensures.0,
    c.in_ok-put_u64-in-Share.ensures.0,
    c.in_ok-put_share_kind-in-Share.ensures.0,
    c.number-in-Share.ensures,
    c.number-in-Share-2.ensures,
    c.number-in-Share-3.ensures,
    c.share_number.ensures,
    c.seconds-in-Share.ensures,
    c.seconds-in-Share-2.ensures,
  ) (simp (append_assoc, append-nil)),
  search rules,
)

pub returns-in-Chunk : goal.returns-in-Chunk
unfolding spelled
returns-in-Chunk c = grind (arith, common_steps)
