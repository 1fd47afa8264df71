use Rattle.nf_extents.proofs.Kept.{same_keeps}
use Rattle.nf_extents.proofs.pieces.Pieces.free.Goals as goal

pub returns-then-not-may_be_used-clause-crash : goal.returns-then-not-may_be_used-clause-crash
returns-then-not-may_be_used-clause-crash g c = λ c' left. (c', rw (← c.self.view_is) left, same_keeps c.args.gaps c')

pub returns-in_err-len-clause-crash : goal.returns-in_err-len-clause-crash
returns-in_err-len-clause-crash g c = λ c' left. (c', rw (← c.self.view_is) (c.len.ensures.crash c' left), same_keeps c.args.gaps c')

pub returns-else-branch-end-clause-crash : goal.returns-else-branch-end-clause-crash
returns-else-branch-end-clause-crash g c = λ c' left. (c', rw (← c.self.view_is) (c.len.ensures.crash c' left), same_keeps c.args.gaps c')
