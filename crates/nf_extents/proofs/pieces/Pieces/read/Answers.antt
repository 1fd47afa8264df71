use Rattle.std.proofs.Common.{◌≡◌, ◌<◌, length, arith, ◌∙◌}
use Rattle.nf_extents.proofs.Kept.{body_is, front_is}
use Rattle.nf_extents.proofs.pieces.Pieces.read.Goals as goal

pub returns-clause-body : goal.returns-clause-body
returns-clause-body g c = λ clean.
    let file = g.D.Disk.seen c.self.inside.disk in
    let bytes = c.read_at.new.buf in
    let there = c.in_ok-len.ensures.len (c.read_at.ensures.clean clean) in
    let long : c.in_ok-bytes.bytes.len ≡ length c.read_at.new.buf = omega (arith, c.read_at.auto.buf, c.deref_mut.ensures.len) in
    let some : 0 < length c.deref_mut.result.now = omega (arith, c.read_at.auto.buf, c.in_ok-bytes.ensures.len, c.if-size-eq0.false) in
    let held = rw c.len.ensures.seen at (c.in_ok-read_at.ensures.read clean some) in
    rw (← c.self.view_is) (front_is c.in_ok-bytes.bytes.len bytes _ long
    ∙ body_is file bytes c.args.extent (omega (arith, long, there, c.in_ok-bytes.ensures.len, c.min-size.ensures, c.saturating_sub.ensures)) held.each)
