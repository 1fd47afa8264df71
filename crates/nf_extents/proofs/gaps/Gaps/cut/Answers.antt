use Rattle.std.proofs.Common.{◌≤◌, arith, rules}
use Rattle.nf_extents.proofs.Rooms.{fits_at, removed_apart, removed_takes_at, shortened_at, shortened_takes_at}
use Rattle.nf_extents.proofs.gaps.Gaps.cut.Goals as goal

pub invariant_of-self : goal.invariant_of-self
invariant_of-self c =
    (rw c.remove.ensures.items (removed_apart c.index-gap.result.now 0 c.self.inside.end c.args.at c.self.inside.gaps.items c.self.invariant.0 (search rules)), c.self.invariant.1)

pub overflow_add-gap : goal.overflow_add-gap
overflow_add-gap c =
    let within = fits_at c.self.inside.gaps.items c.self.inside.end c.args.at c.index-gap.result.now c.self.invariant.0 (search rules) c.index-gap.ensures in
    let room : c.args.size ≤ c.index-gap.result.now.size = search rules in
    omega (arith, within, c.self.invariant.1)

pub invariant_of-self-else-gap-size : goal.invariant_of-self-else-gap-size
invariant_of-self-else-gap-size c =
    let room : c.args.size ≤ c.index-gap.result.now.size = search rules in
    (shortened_at c.self.inside.gaps.items c.self.inside.end c.args.at c.index-gap.result.now c.self.invariant.0 (search rules) c.index-gap.ensures c.args.size (omega arith), c.self.invariant.1)

pub returns-then-gap-size-clause-within : goal.returns-then-gap-size-clause-within
returns-then-gap-size-clause-within c =
    let within = fits_at c.self.inside.gaps.items c.self.inside.end c.args.at c.index-gap.result.now c.self.invariant.0 (search rules) c.index-gap.ensures in
    rw (← c.self.view_is) (omega (arith, within, c.if-gap-size.true))

pub returns-then-gap-size-clause-taken : goal.returns-then-gap-size-clause-taken
returns-then-gap-size-clause-taken c =
    rw (← c.self.view_is, c.remove.ensures.items)
    (removed_takes_at c.self.inside.gaps.items c.self.inside.end c.args.at c.index-gap.result.now c.self.invariant.0 (search rules) c.index-gap.ensures c.args.size c.if-gap-size.true)

pub returns-else-gap-size-clause-within : goal.returns-else-gap-size-clause-within
returns-else-gap-size-clause-within c =
    let within = fits_at c.self.inside.gaps.items c.self.inside.end c.args.at c.index-gap.result.now c.self.invariant.0 (search rules) c.index-gap.ensures in
    let room : c.args.size ≤ c.index-gap.result.now.size = search rules in
    rw (← c.self.view_is) (omega (arith, within))

pub returns-else-gap-size-clause-taken : goal.returns-else-gap-size-clause-taken
returns-else-gap-size-clause-taken c =
    rw (← c.self.view_is)
    (shortened_takes_at c.self.inside.gaps.items c.self.inside.end c.args.at c.index-gap.result.now c.self.invariant.0 (search rules) c.index-gap.ensures c.args.size (search rules))
