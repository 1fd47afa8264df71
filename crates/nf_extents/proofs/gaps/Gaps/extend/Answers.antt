use Rattle.std.proofs.Common.{refl, arith}
use Rattle.nf_extents.proofs.Rooms.{apart_to, moved_takes}
use Rattle.nf_extents.proofs.gaps.Gaps.extend.Goals as goal

pub invariant_of-self : goal.invariant_of-self
invariant_of-self c = (apart_to 0 c.self.inside.end _ c.self.inside.gaps.items (omega arith) c.self.invariant.0, omega arith)

pub returns-clause-taken : goal.returns-clause-taken
returns-clause-taken c =
    rw (← c.self.view_is) (moved_takes c.self.inside.gaps.items c.self.inside.end c.self.invariant.0 c.self.inside.end c.args.size refl)
