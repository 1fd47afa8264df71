use Rattle.std.proofs.Common.{inr, length}
use Rattle.nf_extents.specs.Room.{in_sectors}
use Rattle.nf_extents.proofs.Kept.{at_err, same_keeps, some_taken}
use Rattle.nf_extents.proofs.pieces.Pieces.write.Goals as goal

pub returns-in_default-clause-crash : goal.returns-in_default-clause-crash
returns-in_default-clause-crash g c = λ c' left. (c', rw (← c.self.view_is) left, same_keeps c.args.self.now.room c')

pub returns-in_err-write_at-clause-lost : goal.returns-in_err-write_at-clause-lost
returns-in_err-write_at-clause-lost g c =
    at_err c.from_residual.result (inr (rw (← c.self.view_is)
    (some_taken c.in-Some.taken (in_sectors (length c.args.bytes.now)) c.self.inside.gaps c.take_sectors.new.self c.in-Some.ensures.size c.in-Some.ensures.taken)))
